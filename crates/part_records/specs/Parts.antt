-- The parts of a snapshot whose subproblems are dealt out by their bounds, and what is known of each part.
use Rattle.std.specs.Prelude.{◌≡◌, ℕ, ◌<◌, ℤ, pos, List, [], ◌∷◌, map, Option, IsTrue}
use Rattle.std.specs.List.{flat_map}
use Rattle.dp_model.specs.Best.{best}
use Rattle.dp_model.specs.Decisions.{below}
use Rattle.dp_model.specs.Dp.{Dp}
use Rattle.dp_model.specs.Lists.{Each}
use Rattle.dp_model.specs.Numbers.{AtMost}
use Rattle.dp_model.specs.Prefixes.{IsSolution, value_of}
use Rattle.board_laws.specs.declared.settings.Settings.{Settings}
use Rattle.board_laws.specs.Board.{AreSettings, BoardState, incumbent_value, is_explored, reach_of}
use Rattle.board_laws.specs.Runs.{Step, IsRun}
use Rattle.frontier_parts.specs.Dealing.{is_dealt}
use Rattle.frontier_parts.specs.Settled.{IsShown, IsSettled, IsSettledWithin, joined}
use Rattle.journal_bytes.specs.Bodies.{ListedView, RecordView, Improve, Finish, Snapshot}
use Rattle.journal_replay.specs.Accepting.{AreAccepted}
use Rattle.journal_replay.specs.Following.{snapshot_record}
use Rattle.journal_replay.specs.Parts.{part_of, starts_of}
use Rattle.journal_replay.specs.Replay.{replay_of, restored_from}
use Rattle.journal_replay.specs.Sound.{AreSoundOf}

-- the bounds of subproblems, in order
abbrev pub bounds_in : List ListedView → List ℤ
bounds_in os = map (λ (o : ListedView). o.bound) os

-- the subproblems that a snapshot lists
abbrev pub listed_by : RecordView → List ListedView
listed_by (Improve value ds) = []
listed_by (Finish ticket cs) = []
listed_by (Snapshot best next os) = os

-- the part with this number, of this many parts, of a record
abbrev pub dealt_record : ℕ → ℕ → RecordView → RecordView
dealt_record of index r = part_of (is_dealt (bounds_in (listed_by r)) of index) r

-- what the parts list, one part after another
abbrev pub listed_by_parts : ℕ → RecordView → List ListedView
listed_by_parts of r = flat_map (λ index. listed_by (dealt_record of index r)) (below of)

-- a part of a board is settled with a value beside the board's incumbent: each prefix with which it begins is
pub record IsPartSettled (dp : Dp) (b : BoardState) (r : RecordView) (value : Option ℤ) : Type 0 where
  pub shown : IsShown dp value
  pub each : Each (λ p. IsSettled dp (incumbent_value b) (record { prefix = p; best = value })) (starts_of r)

-- so within the distance of the board's settings
pub record IsPartSettledWithin (dp : Dp) (b : BoardState) (r : RecordView) (value : Option ℤ) : Type 0 where
  pub shown : IsShown dp value
  pub each : Each (λ p. IsSettledWithin dp b.settings.within (incumbent_value b) (record { prefix = p; best = value })) (starts_of r)

-- the greatest of a board's incumbent and of the values of its parts
abbrev pub joined_value : BoardState → ℕ → (ℕ → Option ℤ) → Option ℤ
joined_value b of found = joined (incumbent_value b) (map found (below of))

-- where each part is settled, the joined value is the best one, or within the distance
pub record PartsJoin (dp : Dp) (b : BoardState) (of : ℕ) (found : ℕ → Option ℤ) : Type 0 where
  pub best : b.settings.within ≡ pos 0 → ((index : ℕ) → index < of → IsPartSettled dp b (dealt_record of index (snapshot_record b)) (found index)) → joined_value b of found ≡ best dp
  pub within : ((index : ℕ) → index < of → IsPartSettledWithin dp b (dealt_record of index (snapshot_record b)) (found index))
      → (x : List ℕ) → IsSolution dp x → AtMost (value_of dp x) (reach_of b.settings.within (joined_value b of found))

-- a search of these settings that began with this record has settled that part, of whichever board, with the last incumbent
pub record HasSettled (dp : Dp) (settings : Settings) (first : RecordView) (last : BoardState) : Type 0 where
  pub exactly : settings.within ≡ pos 0 → (b : BoardState) → IsPartSettled dp b first (incumbent_value last)
  pub nearly : (b : BoardState) → b.settings.within ≡ settings.within → IsPartSettledWithin dp b first (incumbent_value last)

-- so with accepted records that are sound from the prefixes of the first one: a run from the board that they are restored to, at whose end
-- nothing is open or out
abbrev pub PartsSettle : Dp → Type 0
PartsSettle dp = (settings : Settings) (first : RecordView) (more : List RecordView) (steps : List Step) (last : BoardState) → AreSettings settings → AreAccepted dp (first ∷ more)
    → AreSoundOf dp (starts_of first) settings.within (first ∷ more) → IsRun dp (restored_from settings (replay_of dp (first ∷ more))) steps last → IsTrue (is_explored last) → HasSettled dp settings first last
