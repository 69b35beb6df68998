-- Children and records that a loop goes through.
use Rattle.std.proofs.Common.{◌≡◌, ℕ, List}
use Rattle.dp_model.specs.Dp.{Dp}
use Rattle.journal_bytes.specs.Bodies.{ChildView, RecordView}
use Rattle.journal_file.specs.declared.error.JournalError.{JournalError}
use Rattle.journal_replay.specs.Replay.{Replayed, with_children, after_records}
use Rattle.journal_replay.specs.Accepting.{MayAddAll, MayFollowAll, IsFirstWrong}

-- from this state on the rest leads where all children lead from the first state
pub record AddsOn (dp : Dp) (p : List ℕ) (now : Replayed) (rest : List ChildView) (start : Replayed) (all : List ChildView) : Type 0 where
  pub may : MayAddAll dp p now rest → MayAddAll dp p start all
  pub back : MayAddAll dp p start all → MayAddAll dp p now rest
  pub same : with_children dp now rest ≡ with_children dp start all

-- from this state and this offset on the rest leads where all records lead from the first ones
pub record FollowsOn (dp : Dp) (now : Replayed) (at : ℕ) (rest : List RecordView) (start : Replayed) (first : ℕ) (all : List RecordView) : Type 0 where
  pub may : MayFollowAll dp now rest → MayFollowAll dp start all
  pub same : after_records dp now rest ≡ after_records dp start all
  pub wrong : (e : JournalError) → IsFirstWrong dp now at rest e → IsFirstWrong dp start first all e
