-- Which records may follow one another, and for which of them a journal is refused.
use Rattle.std.specs.Prelude.{◌≡◌, ◌⊎◌, ℕ, ◌+◌, ◌-◌, ◌^◌, ◌≤◌, ℤ, Bool, true, false, List, [], ◌∷◌, length, Option, Some, None, IfSome, IsTrue}
use Rattle.dp_model.specs.Dp.{Dp}
use Rattle.dp_model.specs.Numbers.{IsFar, is_above}
use Rattle.dp_model.specs.Prefixes.{IsSolution}
use Rattle.dp_model.specs.Solution.{IsSolutionWith}
use Rattle.dp_model.specs.Subproblem.{Subproblem, IsChild}
use Rattle.fringe.specs.Fringe.{is_same}
use Rattle.fringe.specs.Tickets.{Ticketed}
use Rattle.board_laws.specs.Board.{value_held}
use Rattle.journal_bytes.specs.Bodies.{ChildView, RecordView, Improve, Finish, Snapshot}
use Rattle.journal_bytes.specs.Base.{from_base, base_offset, following_record}
use Rattle.journal_file.specs.declared.error.JournalError.{JournalError}
use Rattle.journal_file.specs.declared.error.JournalError.TheVariants as errors
use Rattle.journal_replay.specs.Replay.{Replayed, MayRestoreFrom, listed_at, child_of, with_child, taken_off, restarted, after_record, replay_start}

-- a better feasible solution, with its value
pub record MayImprove (dp : Dp) (s : Replayed) (worth : ℤ) (ds : List ℕ) : Type 0 where
  pub solution : IsSolutionWith dp ds worth
  pub better : IsTrue (is_above (value_held s.incumbent) worth)

-- whether there is one of the subproblem's depth and state
abbrev pub is_like : Subproblem → Option Ticketed → Bool
is_like c None = false
is_like c (Some o) = is_same (length c.decisions) c.row o

-- whether what a child replaces, where it replaces one, is listed with its depth and state
abbrev pub may_replace : Option ℕ → Subproblem → List Ticketed → Bool
may_replace None c os = true
may_replace (Some ticket) c os = is_like c (listed_at ticket os)

-- a prefix that properly extends p and is shorter than a solution, with a bound of at most 2^62 in size
pub record MayAdd (dp : Dp) (p : List ℕ) (s : Replayed) (c : ChildView) : Type 0 where
  pub child : IsChild dp p (child_of dp c)
  pub far : IsFar c.bound
  pub replaced : IsTrue (may_replace c.replaced (child_of dp c) s.listed)

-- each of the children may be added where it stands
abbrev pub MayAddAll : Dp → List ℕ → Replayed → List ChildView → Type 0
MayAddAll dp p s [] = Unit {0}
MayAddAll dp p s (c ∷ cs) = MayAdd dp p s c × MayAddAll dp p (with_child dp s c) cs

-- the subproblem is listed, and these may be its children
abbrev pub MayBranch : Dp → Option Ticketed → Replayed → List ChildView → Type 0
MayBranch dp None s cs = ⊥
MayBranch dp (Some parent) s cs = MayAddAll dp parent.subproblem.decisions s cs

-- the record may follow on what was made of the search before it: after a Snapshot a search may be restored, and a Finish leaves
-- tickets for its children
abbrev pub MayFollow : Dp → Replayed → RecordView → Type 0
MayFollow dp s (Improve value ds) = MayImprove dp s value ds
MayFollow dp s (Finish ticket cs) = (s.next_ticket + length cs ≤ 2 ^ 64 - 1) × MayBranch dp (listed_at ticket s.listed) (taken_off ticket s) cs
MayFollow dp s (Snapshot best next os) = MayRestoreFrom dp (restarted dp best next os)

-- each of the records may follow where it stands
abbrev pub MayFollowAll : Dp → Replayed → List RecordView → Type 0
MayFollowAll dp s [] = Unit {0}
MayFollowAll dp s (r ∷ rs) = MayFollow dp s r × MayFollowAll dp (after_record dp s r) rs

-- from their base on the records are those of a search
abbrev pub AreAccepted : Dp → List RecordView → Type 0
AreAccepted dp rs = MayFollowAll dp (replay_start dp) (from_base rs)

-- the decisions of an Improve, and of the incumbent of a Snapshot, are a feasible solution
abbrev pub HasSolution : Dp → RecordView → Type 0
HasSolution dp (Improve value ds) = IsSolution dp ds
HasSolution dp (Finish ticket cs) = Unit {0}
HasSolution dp (Snapshot best next os) = IfSome best (λ b. IsSolution dp b.decisions)

-- the error for a record at this offset that may not follow
abbrev pub IsWrong : Dp → Replayed → ℕ → RecordView → JournalError → Type 0
IsWrong dp s at r errors.Disk = ⊥
IsWrong dp s at r errors.NotBegun = ⊥
IsWrong dp s at r errors.Exists = ⊥
IsWrong dp s at r (errors.Damaged offset) = ⊥
IsWrong dp s at r (errors.Malformed offset) = (offset ≡ at) × HasSolution dp r × (MayFollow dp s r → ⊥)
IsWrong dp s at r (errors.Version found) = ⊥
IsWrong dp s at r (errors.NoSolution offset) = (offset ≡ at) × (HasSolution dp r → ⊥)
IsWrong dp s at r errors.OutOfMemory = ⊥

-- the error is for the first of the records from this offset on that may not follow where it stands
abbrev pub IsFirstWrong : Dp → Replayed → ℕ → List RecordView → JournalError → Type 0
IsFirstWrong dp s at [] e = ⊥
IsFirstWrong dp s at (r ∷ rs) e = IsWrong dp s at r e ⊎ (MayFollow dp s r × IsFirstWrong dp (after_record dp s r) (following_record at r) rs e)

-- so records are refused where they stand, unless memory ran out
abbrev pub AreRefusedFrom : Dp → Replayed → ℕ → List RecordView → JournalError → Type 0
AreRefusedFrom dp s at rs e = (e ≡ errors.OutOfMemory) ⊎ IsFirstWrong dp s at rs e

-- the records of a journal, the first of which stands at this offset, are refused for one from their base on
abbrev pub AreRefused : Dp → ℕ → List RecordView → JournalError → Type 0
AreRefused dp first rs e = AreRefusedFrom dp (replay_start dp) (base_offset first rs) (from_base rs) e
