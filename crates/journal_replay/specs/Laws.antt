-- What replay keeps, and how a board keeps up with its records.
use Rattle.std.specs.Prelude.{◌≡◌, ℕ, ℤ, false, List, ◌++◌, IfSome}
use Rattle.dp_model.specs.Dp.{Dp}
use Rattle.dp_model.specs.Numbers.{OptionAtMost}
use Rattle.board_laws.specs.declared.settings.Settings.{Settings}
use Rattle.board_laws.specs.Board.{AreSettings, BoardState, value_held}
use Rattle.board_laws.specs.GoodBoard.{IsBoard, IsGoodFrom}
use Rattle.board_laws.specs.Runs.{Step, May, after}
use Rattle.board_laws.specs.Steps.{first_board}
use Rattle.journal_bytes.specs.Base.{is_snapshot}
use Rattle.journal_bytes.specs.Bodies.{RecordView}
use Rattle.journal_replay.specs.Replay.{Replayed, replay_start, after_record, after_records, replay_of, MayRestoreFrom, restored_from}
use Rattle.journal_replay.specs.Accepting.{MayFollow, MayFollowAll, AreAccepted}
use Rattle.journal_replay.specs.Sound.{IsSoundState, IsSoundStateOf, StaySound, AreSoundOf, finished_after, finished_after_all}
use Rattle.journal_replay.specs.Following.{IsReplayOf, TellsState, MayGoOnAll, record_of_step, after_recorded, snapshot_record}

-- a search may be restored from accepted records
abbrev pub AcceptedRestore : Dp → Type 0
AcceptedRestore dp = (rs : List RecordView) → AreAccepted dp rs → MayRestoreFrom dp (replay_of dp rs)

-- accepted and sound records are restored to a good board, from the same start prefixes
abbrev pub SoundRestoreGood : Dp → Type 0
SoundRestoreGood dp = (starts : List (List ℕ)) (settings : Settings) (rs : List RecordView) → AreSettings settings → AreAccepted dp rs → AreSoundOf dp starts settings.within rs → IsGoodFrom dp starts (restored_from settings (replay_of dp rs))

-- the first board stands beside no records, which are sound
pub record FirstBoardFollows (dp : Dp) (settings : Settings) : Type 0 where
  pub beside : IsReplayOf dp (replay_start dp) (first_board dp settings)
  pub sound : IsSoundState dp settings.within 0 (replay_start dp)

-- a first board stands beside no records
abbrev pub FirstBoardsFollow : Dp → Type 0
FirstBoardsFollow dp = (settings : Settings) → AreSettings settings → FirstBoardFollows dp settings

-- a restored board stands beside what it was restored from
abbrev pub RestoredBoardsFollow : Dp → Type 0
RestoredBoardsFollow dp = (settings : Settings) (s : Replayed) → MayRestoreFrom dp s → IsReplayOf dp s (restored_from settings s)

-- the record of a step, where it has one, may follow and is no snapshot, and the board after the step stands beside it; on a good
-- board what is sound stays so
pub record StepIsRecorded (dp : Dp) (s : Replayed) (b : BoardState) (step : Step) : Type 0 where
  pub may : IfSome (record_of_step dp b step) (MayFollow dp s)
  pub plain : IfSome (record_of_step dp b step) (λ r. is_snapshot r ≡ false)
  pub beside : IsReplayOf dp (after_recorded dp s (record_of_step dp b step)) (after dp b step)
  pub sound : {starts : List (List ℕ)} → (n : ℕ) → IsGoodFrom dp starts b → IsSoundStateOf dp starts b.settings.within n s →
      IfSome (record_of_step dp b step) (λ r. IsSoundStateOf dp starts b.settings.within (finished_after n r) (after_record dp s r))

-- after an allowed step and its record a board stands beside its records again
abbrev pub StepsAreRecorded : Dp → Type 0
StepsAreRecorded dp = (s : Replayed) (b : BoardState) (step : Step) → IsBoard dp b → IsReplayOf dp s b → May dp b step → StepIsRecorded dp s b step

-- the snapshot of a board may follow, tells what is there, and the board stands beside it; on a good board it is sound, whatever was
-- before it
pub record SnapshotIsRecorded (dp : Dp) (s : Replayed) (b : BoardState) : Type 0 where
  pub may : MayFollow dp s (snapshot_record b)
  pub tells : TellsState dp s (snapshot_record b)
  pub beside : IsReplayOf dp (after_record dp s (snapshot_record b)) b
  pub sound : {starts : List (List ℕ)} → IsGoodFrom dp starts b → IsSoundStateOf dp starts b.settings.within 0 (after_record dp s (snapshot_record b))

-- after its snapshot a board stands beside its records as before
abbrev pub SnapshotsAreRecorded : Dp → Type 0
SnapshotsAreRecorded dp = (s : Replayed) (b : BoardState) → IsBoard dp b → IsReplayOf dp s b → SnapshotIsRecorded dp s b

-- the incumbent after records that a search adds itself is no worse
abbrev pub RecordsDoNotWorsen : Dp → Type 0
RecordsDoNotWorsen dp = (s : Replayed) (rs : List RecordView) → MayGoOnAll dp s rs → OptionAtMost (value_held s.incumbent) (value_held (after_records dp s rs).incumbent)

-- records after records: what is made of them, and that both are accepted and sound exactly where each part is
pub record AreJoined (dp : Dp) (s : Replayed) (rs more : List RecordView) : Type 0 where
  pub after : after_records dp s (rs ++ more) ≡ after_records dp (after_records dp s rs) more
  pub finished : (n : ℕ) → finished_after_all n (rs ++ more) ≡ finished_after_all (finished_after_all n rs) more
  pub accepted : MayFollowAll dp s rs → MayFollowAll dp (after_records dp s rs) more → MayFollowAll dp s (rs ++ more)
  pub accepted_front : MayFollowAll dp s (rs ++ more) → MayFollowAll dp s rs
  pub accepted_back : MayFollowAll dp s (rs ++ more) → MayFollowAll dp (after_records dp s rs) more
  pub last : (starts : List (List ℕ)) (within : ℤ) (n : ℕ) → StaySound dp starts within n s rs → IsSoundStateOf dp starts within (finished_after_all n rs) (after_records dp s rs)
  pub sound : (starts : List (List ℕ)) (within : ℤ) (n : ℕ) → StaySound dp starts within n s rs → StaySound dp starts within (finished_after_all n rs) (after_records dp s rs) more
      → StaySound dp starts within n s (rs ++ more)
  pub sound_front : (starts : List (List ℕ)) (within : ℤ) (n : ℕ) → StaySound dp starts within n s (rs ++ more) → StaySound dp starts within n s rs

-- records after records are replayed one after the other
abbrev pub RecordsJoin : Dp → Type 0
RecordsJoin dp = (s : Replayed) (rs more : List RecordView) → AreJoined dp s rs more

-- records after those of a journal: what is made of all, and that all are accepted and sound where each of the new ones may follow and
-- is sound, whether or not there are snapshots among the old ones and the new ones
pub record AreAfter (dp : Dp) (old new : List RecordView) : Type 0 where
  pub after : replay_of dp (old ++ new) ≡ after_records dp (replay_of dp old) new
  pub since : finished_after_all 0 (old ++ new) ≡ finished_after_all (finished_after_all 0 old) new
  pub accepted : AreAccepted dp old → MayFollowAll dp (replay_of dp old) new → AreAccepted dp (old ++ new)
  pub last : (starts : List (List ℕ)) (within : ℤ) → AreSoundOf dp starts within old → IsSoundStateOf dp starts within (finished_after_all 0 old) (replay_of dp old)
  pub sound : (starts : List (List ℕ)) (within : ℤ) → AreSoundOf dp starts within old → StaySound dp starts within (finished_after_all 0 old) (replay_of dp old) new → AreSoundOf dp starts within (old ++ new)

-- a journal to which records are added is replayed on
abbrev pub JournalsGrow : Dp → Type 0
JournalsGrow dp = (old new : List RecordView) → AreAfter dp old new
