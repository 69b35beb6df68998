-- What replay keeps in memory, and what its parts find.
use lib.IntN.{neg_ℤ}
use Rattle.std.specs.Prelude.{◌≡◌, ◌≢◌, ℕ, ◌+◌, ◌<◌, ◌≤◌, ◌^◌, ℤ, pos, int_le, ◌&&◌, List, [], ◌∷◌, length, map, slice_index_or, Option, Some, None, option_map, Bool, true, false, Result, Ok, Err, IfSome, IsOk}
use Rattle.dp_model.specs.Dp.{Dp}
use Rattle.dp_model.specs.Lists.{Each}
use Rattle.dp_model.specs.Numbers.{IsFar}
use Rattle.dp_model.specs.Prefixes.{IsSolution}
use Rattle.dp_model.specs.Solution.{Solution}
use Rattle.dp_model.specs.Subproblem.{SubView, Subproblem, IsChild, IsOwn}
use Rattle.dp_laws.specs.Pairs.{EachTwo}
use Rattle.fringe.specs.Tickets.{Ticketed}
use Rattle.board_laws.specs.GoodBoard.{IncumbentHolds}
use Rattle.journal_bytes.specs.Bodies.{ChildView, IncumbentView, ListedView, RecordView}
use Rattle.journal_file.specs.declared.error.JournalError.{JournalError}
use Rattle.journal_file.specs.declared.error.JournalError.TheVariants as errors
use Rattle.journal_replay.specs.declared.state.Place.{Place}
use Rattle.journal_replay.specs.declared.verdict.Verdict.{Verdict}
use Rattle.journal_replay.specs.declared.verdict.Verdict.TheVariants.{Accepted, NoSolution, Malformed}
use Rattle.journal_replay.specs.Replay.{Replayed, MayRestoreFrom, best_of, child_of, listed_at, listed_of, sub_of, restarted, taken_off, after_record, with_children}
use Rattle.journal_replay.specs.Accepting.{MayAddAll, MayBranch, MayFollow, HasSolution}

-- in front of others the subproblem at a place, where one is listed there
abbrev pub listed_beside : ℕ → Option SubView → List Ticketed → List Ticketed
listed_beside ticket None os = os
listed_beside ticket (Some held) os = record { ticket = ticket; subproblem = held.subproblem } ∷ os

-- the subproblems at places, each under its place's ticket
abbrev pub listed_in : List Place → List Ticketed
listed_in [] = []
listed_in (p ∷ ps) = listed_beside p.ticket p.sub (listed_in ps)

-- the tickets rise, and are less than the next one
pub record AreInOrder (next : ℕ) (ps : List Place) : Type 0 where
  pub rise : EachTwo (λ a b. a.ticket < b.ticket) ps
  pub given : Each (λ p. p.ticket < next) ps

-- no place
abbrev pub no_place : Place
no_place = record { ticket = 0; sub = None }

-- the place with the ticket is there
pub record IsPlaceOf (ticket : ℕ) (ps : List Place) (at : ℕ) : Type 0 where
  pub there : at < length ps
  pub has : (slice_index_or ps at no_place).ticket ≡ ticket

-- where the place with the ticket is; none exactly where there is none
abbrev pub PlaceIs : ℕ → List Place → Option ℕ → Type 0
PlaceIs ticket ps None = Each (λ p. p.ticket ≢ ticket) ps
PlaceIs ticket ps (Some at) = IsPlaceOf ticket ps at

-- whether the size of a bound is at most 2^62
abbrev pub is_far : ℤ → Bool
is_far bound = int_le (neg_ℤ (pos (2 ^ 62))) bound && int_le bound (pos (2 ^ 62))

-- a prefix shorter than a solution, with a bound of a bounded size
pub record IsBounded (dp : Dp) (p : List ℕ) (bound : ℤ) (sub : Subproblem) : Type 0 where
  pub is : sub ≡ sub_of dp p bound
  pub own : IsOwn dp sub
  pub far : IsFar bound

-- the subproblem of a prefix; none exactly where it is no prefix shorter than a solution, or its bound is too great in size
abbrev pub PrefixGives : Dp → List ℕ → ℤ → Option Subproblem → Type 0
PrefixGives dp p bound None = IsOwn dp (sub_of dp p bound) → IsFar bound → ⊥
PrefixGives dp p bound (Some sub) = IsBounded dp p bound sub

-- a child of the prefix, with a bound of a bounded size
pub record IsRecorded (dp : Dp) (p : List ℕ) (c : ChildView) (sub : Subproblem) : Type 0 where
  pub is : sub ≡ child_of dp c
  pub child : IsChild dp p sub
  pub far : IsFar c.bound

-- the child of a record as a subproblem; none exactly where it is no child of the prefix, or its bound is too great in size
abbrev pub ChildGives : Dp → List ℕ → ChildView → Option Subproblem → Type 0
ChildGives dp p c None = IsChild dp p (child_of dp c) → IsFar c.bound → ⊥
ChildGives dp p c (Some sub) = IsRecorded dp p c sub

-- whether children may be added, and what is then made of the search
abbrev pub AddGives : Dp → List ℕ → Replayed → List ChildView → Replayed → Bool → Type 0
AddGives dp p s cs later true = MayAddAll dp p s cs × (later ≡ with_children dp s cs)
AddGives dp p s cs later false = MayAddAll dp p s cs → ⊥

-- whether the subproblem with the ticket is listed and these may be its children, and what is then made of the search
abbrev pub BranchGives : Dp → Replayed → ℕ → List ChildView → Replayed → Bool → Type 0
BranchGives dp s ticket cs later true = MayBranch dp (listed_at ticket s.listed) (taken_off ticket s) cs × (later ≡ with_children dp (taken_off ticket s) cs)
BranchGives dp s ticket cs later false = MayBranch dp (listed_at ticket s.listed) (taken_off ticket s) cs → ⊥

-- a snapshot may list the subproblem, where tickets from the least one on and below the next one may follow
pub record MayList (dp : Dp) (least next : ℕ) (o : ListedView) : Type 0 where
  pub own : IsOwn dp (listed_of dp o).subproblem
  pub far : IsFar o.bound
  pub above : least ≤ o.ticket
  pub given : o.ticket < next

-- the place of a subproblem that a snapshot may list
pub record IsPlaced (dp : Dp) (least next : ℕ) (o : ListedView) (p : Place) : Type 0 where
  pub may : MayList dp least next o
  pub ticket : p.ticket ≡ o.ticket
  pub listed : listed_in (p ∷ []) ≡ listed_of dp o ∷ []

-- none exactly where it may not
abbrev pub PlaceGives : Dp → ℕ → ℕ → ListedView → Option Place → Type 0
PlaceGives dp least next o None = MayList dp least next o → ⊥
PlaceGives dp least next o (Some p) = IsPlaced dp least next o p

-- a snapshot may list each of them
abbrev pub MayListAll : Dp → ℕ → ℕ → List ListedView → Type 0
MayListAll dp least next [] = Unit {0}
MayListAll dp least next (o ∷ os) = MayList dp least next o × MayListAll dp (o.ticket + 1) next os

-- the places of subproblems that a snapshot may list
pub record ArePlaced (dp : Dp) (next : ℕ) (os : List ListedView) (ps : List Place) : Type 0 where
  pub may : MayListAll dp 0 next os
  pub listed : listed_in ps ≡ map (listed_of dp) os
  pub ordered : AreInOrder next ps

-- none exactly where it may not list them
abbrev pub ListedGives : Dp → ℕ → List ListedView → Option (List Place) → Type 0
ListedGives dp next os None = MayListAll dp 0 next os → ⊥
ListedGives dp next os (Some ps) = ArePlaced dp next os ps

-- the best solution of a snapshot, or what is wrong with it
abbrev pub BestGives : Dp → Option IncumbentView → Result (Option Solution) Verdict → Type 0
BestGives dp best (Ok held) = (held ≡ option_map best_of best) × IncumbentHolds dp held
BestGives dp best (Err Accepted) = ⊥
BestGives dp best (Err NoSolution) = IfSome best (λ b. IsSolution dp b.decisions) → ⊥
BestGives dp best (Err Malformed) = IfSome best (λ b. IsSolution dp b.decisions) × (IncumbentHolds dp (option_map best_of best) → ⊥)

-- what a snapshot makes of a search, or what is wrong with it
abbrev pub RestartGives : Dp → Option IncumbentView → ℕ → List ListedView → Result Replayed Verdict → Type 0
RestartGives dp best next os (Ok s) = MayRestoreFrom dp (restarted dp best next os) × (s ≡ restarted dp best next os)
RestartGives dp best next os (Err Accepted) = ⊥
RestartGives dp best next os (Err NoSolution) = IfSome best (λ b. IsSolution dp b.decisions) → ⊥
RestartGives dp best next os (Err Malformed) = IfSome best (λ b. IsSolution dp b.decisions) × (MayRestoreFrom dp (restarted dp best next os) → ⊥)

-- two rows with this many cells have the cells of a state
pub record AreCells (dp : Dp) (row spare : ℕ) : Type 0 where
  pub row_is : row ≡ dp.words
  pub spare_is : spare ≡ dp.words

-- whether the record may follow, and what is then made of the search
abbrev pub FollowGives : Dp → Replayed → RecordView → Replayed → Verdict → Type 0
FollowGives dp s r later Accepted = MayFollow dp s r × (later ≡ after_record dp s r)
FollowGives dp s r later NoSolution = HasSolution dp r → ⊥
FollowGives dp s r later Malformed = HasSolution dp r × (MayFollow dp s r → ⊥)

-- the error for a record at this offset of which this was found
abbrev pub VerdictGives : ℕ → Verdict → Result Unit JournalError → Type 0
VerdictGives at Accepted result = IsOk result
VerdictGives at NoSolution result = result ≡ Err (errors.NoSolution at)
VerdictGives at Malformed result = result ≡ Err (errors.Malformed at)
