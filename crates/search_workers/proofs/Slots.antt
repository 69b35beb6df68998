-- What a worker has out, and its slot.
use Rattle.std.proofs.Common.{◌≡◌, ℕ, zero, suc, ◌<◌, ◌≤◌, List, [], ◌∷◌, ◌++◌, length, slice_get, slice_set, Option, Some, None, option_map, refl, sym, ap, subst, ◌∙◌, IsSome, arith}
use Rattle.dp_model.specs.Dp.{Dp}
use Rattle.dp_model.specs.Lists.{Each}
use Rattle.fringe.specs.Tickets.{Ticketed}
use Rattle.board_laws.specs.Board.{BoardState, slot_content, slot_at, full_slots}
use Rattle.board_laws.specs.GoodBoard.{IsBoard}
use Rattle.board_laws.specs.Steps.{given_back_from, given_back}
use Rattle.board.specs.Moves.{out_at}

empty_of : (s : Option Ticketed) → option_map (λ o. o.subproblem.decisions) s ≡ None → s ≡ None
empty_of None e = refl
empty_of (Some o) e = absurd (cc)

empty_at : (slots : List (Option Ticketed)) (who : ℕ) → who < length slots → option_map (λ o. o.subproblem.decisions) (slot_content (slice_get slots who)) ≡ None → slice_get slots who ≡ Some None
empty_at [] who lt e = absurd (omega arith)
empty_at (s ∷ slots) zero lt e = ap Some (empty_of s e)
empty_at (s ∷ slots) (suc who) lt e = empty_at slots who (omega arith) e

-- the slot of a worker that has nothing out is empty
pub empty_slot : (dp : Dp) (b : BoardState) (who workers : ℕ) → IsBoard dp b → b.settings.workers ≡ workers → who < workers → out_at b who ≡ None → slice_get b.slots who ≡ Some None
empty_slot dp b who workers kept count lt e = empty_at b.slots who (let all = kept.slots in omega arith) e

-- a slot whose decisions are these is full
pub record IsFull (s : Option Ticketed) (decisions : List ℕ) : Type 0 where
  pub parent : Ticketed
  pub full : s ≡ Some parent
  pub decisions_are : parent.subproblem.decisions ≡ decisions

pub full_of : (s : Option Ticketed) (decisions : List ℕ) → option_map (λ o. o.subproblem.decisions) s ≡ Some decisions → IsFull s decisions
full_of None decisions e = absurd (cc)
full_of (Some o) decisions e = record { parent = o; full = refl; decisions_are = cc }

pub some_full : (slots : List (Option Ticketed)) (who : ℕ) (o : Ticketed) → slot_content (slice_get slots who) ≡ Some o → 1 ≤ length (full_slots slots)
some_full [] who o e = absurd (cc)
some_full (None ∷ slots) zero o e = absurd (cc)
some_full (None ∷ slots) (suc who) o e = some_full slots who o e
some_full (Some p ∷ slots) who o e = omega arith

-- what holds of all that is out or open holds of what a slot has
pub of_slot : (P : Ticketed → Type 0) (slots : List (Option Ticketed)) (open_ones : List Ticketed) (who : ℕ) (o : Ticketed) → Each P (full_slots slots ++ open_ones) → slot_content (slice_get slots who) ≡ Some o → P o
of_slot P [] open_ones who o all e = absurd (cc)
of_slot P (None ∷ slots) open_ones zero o all e = absurd (cc)
of_slot P (None ∷ slots) open_ones (suc who) o all e = of_slot P slots open_ones who o all e
of_slot P (Some p ∷ slots) open_ones zero o all e = subst P (let same : p ≡ o = cc in same) all.0
of_slot P (Some p ∷ slots) open_ones (suc who) o all e = of_slot P slots open_ones who o all.1 e

cleared_in : (l : List (Option Ticketed)) (i : ℕ) → option_map (λ o. o.subproblem.decisions) (slot_content (slice_get (slice_set l i None) i)) ≡ None
cleared_in [] i = refl
cleared_in (x ∷ xs) zero = refl
cleared_in (x ∷ xs) (suc i) = cleared_in xs i

-- a slot that was emptied has nothing out
pub out_cleared : (b c : BoardState) (who : ℕ) → c.slots ≡ slice_set b.slots who None → out_at c who ≡ None
out_cleared b c who at = ap (λ s. option_map (λ o. o.subproblem.decisions) (slot_content (slice_get s who))) at ∙ cleared_in b.slots who

full_slot_of : (slot : Option Ticketed) → IsSome (option_map (λ o. o.subproblem.decisions) slot) → IsSome slot
full_slot_of None some = absurd (cc)
full_slot_of (Some o) some = refl

-- where something is out the slot is full
pub full_slot : (b : BoardState) (who : ℕ) (out : Option (List ℕ)) → IsSome out → out_at b who ≡ out → IsSome (slot_at b who)
full_slot b who out some at = full_slot_of (slot_at b who) (subst (λ o. IsSome o) (sym at) some)

given_back_out : (b c : BoardState) (who : ℕ) (slot : Option Ticketed) → IsSome slot → c ≡ given_back_from b who slot → out_at c who ≡ None
given_back_out b c who None some is = absurd (cc)
given_back_out b c who (Some o) some is = out_cleared b c who (ap (λ x. x.slots) is)

-- what was given back is not out
pub out_given_back : (b c : BoardState) (who : ℕ) → IsSome (slot_at b who) → c ≡ given_back b who → out_at c who ≡ None
out_given_back b c who some is = given_back_out b c who (slot_at b who) some is
