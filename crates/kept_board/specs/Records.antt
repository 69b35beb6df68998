-- The records of a kept board: those from before, and new ones after them.
use Rattle.std.specs.Prelude.{◌≡◌, ℕ, ℤ, List, [], ◌++◌, ◌⊎◌, sum_by}
use Rattle.dp_model.specs.Dp.{Dp}
use Rattle.dp_model.specs.Numbers.{OptionAtMost}
use Rattle.board_laws.specs.Board.{BoardState, value_held}
use Rattle.board_laws.specs.GoodBoard.{IsBoard, IsGoodFrom}
use Rattle.board_laws.specs.Steps.{first_board}
use Rattle.journal_bytes.specs.Bodies.{RecordView, Improve, Finish, Snapshot}
use Rattle.journal_replay.specs.Accepting.{AreAccepted}
use Rattle.journal_replay.specs.Following.{IsReplayOf, MayGoOnAll}
use Rattle.journal_replay.specs.Replay.{restored_from, replay_of}
use Rattle.journal_replay.specs.Sound.{AreSoundOf, StaySound, finished_after_all}

-- the board at the start of a search, where there are no records, or what accepted records make
abbrev pub IsMadeOf : Dp → List RecordView → BoardState → Type 0
IsMadeOf dp records b = ((records ≡ []) × (b ≡ first_board dp b.settings)) ⊎ (AreAccepted dp records × (b ≡ restored_from b.settings (replay_of dp records)))

-- records that may stand after old ones, which are accepted: a search adds them itself, and where the old ones are sound from some start
-- prefixes, the search is sound from them after each of the new ones
pub record AreAdded (dp : Dp) (within : ℤ) (old new : List RecordView) : Type 0 where
  pub accepted : AreAccepted dp old
  pub goes_on : MayGoOnAll dp (replay_of dp old) new
  pub sound : (starts : List (List ℕ)) → AreSoundOf dp starts within old → StaySound dp starts within (finished_after_all 0 old) (replay_of dp old) new

-- old records and a front of new ones, as a crash leaves them: all are accepted, all are sound from the prefixes from which the old ones are,
-- and no acknowledged incumbent is lost
pub record IsFrontAdded (dp : Dp) (within : ℤ) (old front : List RecordView) : Type 0 where
  pub accepted : AreAccepted dp (old ++ front)
  pub sound : (starts : List (List ℕ)) → AreSoundOf dp starts within old → AreSoundOf dp starts within (old ++ front)
  pub better : OptionAtMost (value_held (replay_of dp old).incumbent) (value_held (replay_of dp (old ++ front)).incumbent)

-- so is each front of records that may stand after old ones
abbrev pub FrontsAreAdded : Dp → Type 0
FrontsAreAdded dp = (within : ℤ) (old front others : List RecordView) → AreAdded dp within old (front ++ others) → IsFrontAdded dp within old front

-- how many subproblems a record finishes
abbrev pub finishes : RecordView → ℕ
finishes (Improve value ds) = 0
finishes (Finish ticket cs) = 1
finishes (Snapshot best next os) = 0

-- how many Finish records there are
abbrev pub finish_records : List RecordView → ℕ
finish_records rs = sum_by finishes rs

-- new records that keep up with a board: replay makes of all of them what the board has, each subproblem that it finished has its
-- record, and it is a good board from the prefixes from which the old records are sound
pub record KeepUp (dp : Dp) (old new : List RecordView) (b : BoardState) : Type 0 where
  pub added : AreAdded dp b.settings.within old new
  pub replay : IsReplayOf dp (replay_of dp (old ++ new)) b
  pub finished : finish_records new ≡ b.finished
  pub board : IsBoard dp b
  pub good : {starts : List (List ℕ)} → AreSoundOf dp starts b.settings.within old → IsGoodFrom dp starts b
