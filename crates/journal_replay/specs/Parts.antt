-- The parts of a snapshot, and the start prefixes of a search that begins with one.
use Rattle.std.specs.Prelude.{ℕ, ℤ, Bool, List, [], ◌∷◌, map}
use Rattle.dp_model.specs.Dp.{Dp}
use Rattle.board_laws.specs.Board.{BoardState}
use Rattle.board_laws.specs.GoodBoard.{IsBoard, IsGoodFrom}
use Rattle.board_laws.specs.Starts.{chosen, whole_search}
use Rattle.journal_bytes.specs.Bodies.{ListedView, RecordView, Improve, Finish, Snapshot}
use Rattle.journal_replay.specs.Accepting.{AreAccepted}
use Rattle.journal_replay.specs.Following.{snapshot_record}
use Rattle.journal_replay.specs.Sound.{AreSoundOf}

-- a snapshot with those alone whose places pass a test; the incumbent and the next ticket stay
abbrev pub part_of : (ℕ → Bool) → RecordView → RecordView
part_of p (Improve value ds) = Improve value ds
part_of p (Finish ticket cs) = Finish ticket cs
part_of p (Snapshot best next os) = Snapshot best next (chosen p 0 os)

-- the prefixes with which a search begins whose first record is this one: those that a snapshot lists, else that of a whole search
abbrev pub starts_of : RecordView → List (List ℕ)
starts_of (Improve value ds) = whole_search
starts_of (Finish ticket cs) = whole_search
starts_of (Snapshot best next os) = map (λ (o : ListedView). o.decisions) os

-- a search may begin with the record, and is sound from its prefixes where the board is good from any
pub record IsPartRecorded (dp : Dp) (b : BoardState) (r : RecordView) : Type 0 where
  pub accepted : AreAccepted dp (r ∷ [])
  pub sound : {starts : List (List ℕ)} → IsGoodFrom dp starts b → AreSoundOf dp (starts_of r) b.settings.within (r ∷ [])

-- so with each part of a board's snapshot
abbrev pub PartsAreRecorded : Dp → Type 0
PartsAreRecorded dp = (b : BoardState) (p : ℕ → Bool) → IsBoard dp b → IsPartRecorded dp b (part_of p (snapshot_record b))
