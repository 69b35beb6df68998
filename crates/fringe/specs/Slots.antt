-- Slots with open subproblems, and what names them.
use Rattle.std.specs.Prelude.{◌≡◌, ◌≢◌, ℕ, ℤ, ◌<◌, Bool, true, false, ◌&&◌, nat_eq, int_le, List, [], ◌∷◌, length, option_map, slice_index_or, Option, Some, None, Contains}
use Rattle.std.specs.Ordering.{int_eq}
use Rattle.fringe.specs.Tickets.{Ticketed, by_ticket}
use Rattle.fringe.specs.Bounds.{raised}
use Rattle.fringe.specs.Firsts.{is_taken_before}
use Rattle.fringe.specs.Fringe.{is_same}
use Rattle.fringe.specs.declared.index.Node.{Node}
use Rattle.fringe.specs.declared.rank.Rank.{Rank}
use Rattle.fringe.specs.Index.{entry_fold, entry_slot}
use Rattle.dp_model.specs.Folds.{fold_of}
use Rattle.std.specs.Int.{w64, cast_signed}

-- what a slot has
abbrev pub in_slot : List (Option Ticketed) → ℕ → Option Ticketed
in_slot slots s = slice_index_or slots s None

-- the open ones, in order of ticket
abbrev pub opened : List (Option Ticketed) → List Ticketed
opened [] = []
opened (None ∷ slots) = opened slots
opened (Some o ∷ slots) = by_ticket o (opened slots)

-- the fold of the depth and state of an open one
abbrev pub own_fold : Ticketed → ℕ
own_fold o = fold_of (length o.subproblem.decisions) o.subproblem.row

-- its key, a row of one cell: the fold
abbrev pub key_row : Ticketed → List ℤ
key_row o = cast_signed w64 (own_fold o) ∷ []

-- the key of the one in a slot
abbrev pub key_of : Option Ticketed → Option (List ℤ)
key_of one = option_map key_row one

-- what the heap compares
abbrev pub rank_of : ℕ → Ticketed → Rank
rank_of s o = record { bound = o.subproblem.bound; value = o.subproblem.value; ticket = o.ticket; slot = s }

-- each open one has its rank among these
abbrev pub AreRanked : List (Option Ticketed) → List Rank → Type 0
AreRanked slots ranks = (s : ℕ) (o : Ticketed) → in_slot slots s ≡ Some o → Contains ranks (rank_of s o)

-- the slot was entered under the fold
pub record IsIndexed (nodes : List Node) (s fold : ℕ) : Type 0 where
  pub place : ℕ
  pub within : place < length nodes
  pub slot_is : entry_slot nodes place ≡ s
  pub fold_is : entry_fold nodes place ≡ fold

-- each open one was entered under the fold of its depth and state
abbrev pub AreIndexed : List (Option Ticketed) → List Node → Type 0
AreIndexed slots nodes = (s : ℕ) (o : Ticketed) → in_slot slots s ≡ Some o → IsIndexed nodes s (own_fold o)

-- whether the slot has the one of a depth and state
abbrev pub is_same_in : ℕ → List ℤ → Option Ticketed → Bool
is_same_in depth row None = false
is_same_in depth row (Some o) = is_same depth row o

-- whether the slot has the one of a rank
abbrev pub has_rank : Rank → Option Ticketed → Bool
has_rank r None = false
has_rank r (Some o) = nat_eq o.ticket r.ticket && (int_eq o.subproblem.value r.value && int_eq o.subproblem.bound r.bound)

-- the slot has one, and no other is taken before it
pub record IsFirstSlot (slots : List (Option Ticketed)) (s : ℕ) : Type 0 where
  pub one : Ticketed
  pub there : in_slot slots s ≡ Some one
  pub first : (t : ℕ) (o : Ticketed) → in_slot slots t ≡ Some o → is_taken_before o one ≡ false

-- no two slots have one ticket
abbrev pub HaveOwnTickets : List (Option Ticketed) → Type 0
HaveOwnTickets slots = (s t : ℕ) (o p : Ticketed) → in_slot slots s ≡ Some o → in_slot slots t ≡ Some p → o.ticket ≡ p.ticket → s ≡ t

-- what the slots of a fringe keep: no two have one ticket, nor one depth and state, and each row has this many cells
pub record IsOpen (words : ℕ) (slots : List (Option Ticketed)) : Type 0 where
  pub apart : HaveOwnTickets slots
  pub different : (s t : ℕ) (o p : Ticketed) → in_slot slots s ≡ Some o → in_slot slots t ≡ Some p → is_same (length o.subproblem.decisions) o.subproblem.row p ≡ true → s ≡ t
  pub cells : (s : ℕ) (o : Ticketed) → in_slot slots s ≡ Some o → length o.subproblem.row ≡ words

-- the slot has this now, and the others what they had
pub record IsSlotSet (old new : List (Option Ticketed)) (s : ℕ) (one : Option Ticketed) : Type 0 where
  pub changed : in_slot new s ≡ one
  pub others : (t : ℕ) → t ≢ s → in_slot new t ≡ in_slot old t

-- whether the slot has one whose bound is at most the value
abbrev pub is_low : ℤ → Option Ticketed → Bool
is_low value None = false
is_low value (Some o) = int_le o.subproblem.bound value

-- the greater of the most so far and the bound of the one in a slot
abbrev pub raised_one : Option ℤ → Option Ticketed → Option ℤ
raised_one most None = most
raised_one most (Some o) = raised most o.subproblem.bound
