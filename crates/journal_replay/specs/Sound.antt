-- What a search may rest on in the records of a journal.
use Rattle.std.specs.Prelude.{ℕ, ◌+◌, ℤ, List, [], ◌∷◌}
use Rattle.dp_model.specs.Dp.{Dp}
use Rattle.board_laws.specs.GoodBoard.{IncumbentHolds}
use Rattle.board_laws.specs.Restoring.{IsListSoundFrom}
use Rattle.board_laws.specs.Starts.{whole_search}
use Rattle.journal_bytes.specs.Bodies.{RecordView, Improve, Finish, Snapshot}
use Rattle.journal_bytes.specs.Base.{from_base}
use Rattle.journal_replay.specs.Replay.{Replayed, after_record, replay_start}

-- of a search from some start prefixes: the incumbent is feasible with its value; what is listed covers from them with the reach, every bound
-- is held, and no prefix begins with another; and this many finished subproblems, and the tickets, are bounded by the number of prefixes that there are
pub record IsSoundStateOf (dp : Dp) (starts : List (List ℕ)) (within : ℤ) (finished : ℕ) (s : Replayed) : Type 0 where
  pub incumbent : IncumbentHolds dp s.incumbent
  pub list : IsListSoundFrom dp starts within finished s.incumbent s.listed s.next_ticket

-- of a whole search
abbrev pub IsSoundState : Dp → ℤ → ℕ → Replayed → Type 0
IsSoundState dp within finished s = IsSoundStateOf dp whole_search within finished s

-- the number of Finish records since the base, with this record
abbrev pub finished_after : ℕ → RecordView → ℕ
finished_after n (Improve value ds) = n
finished_after n (Finish ticket cs) = n + 1
finished_after n (Snapshot best next os) = 0

-- with those of a list
abbrev pub finished_after_all : ℕ → List RecordView → ℕ
finished_after_all n [] = n
finished_after_all n (r ∷ rs) = finished_after_all (finished_after n r) rs

-- the state is sound, and so is that after each of the records
abbrev pub StaySound : Dp → List (List ℕ) → ℤ → ℕ → Replayed → List RecordView → Type 0
StaySound dp starts within n s [] = IsSoundStateOf dp starts within n s
StaySound dp starts within n s (r ∷ rs) = IsSoundStateOf dp starts within n s × StaySound dp starts within (finished_after n r) (after_record dp s r) rs

-- the records are sound from their base on, and so is the start of the search
abbrev pub AreSoundOf : Dp → List (List ℕ) → ℤ → List RecordView → Type 0
AreSoundOf dp starts within rs = StaySound dp starts within 0 (replay_start dp) (from_base rs)

-- the records are sound, of a whole search
abbrev pub AreSound : Dp → ℤ → List RecordView → Type 0
AreSound dp within rs = AreSoundOf dp whole_search within rs
