-- What a Take hands out.
use Rattle.std.proofs.Common.{◌≡◌, ◌≤◌, List, [], ◌∷◌, ◌++◌, length, slice_get, slice_set, drop, Bool, true, false, cond, Option, Some, None, refl, sym, ◌∙◌, ap, subst, arith}
use Rattle.dp_model.specs.Dp.{Dp}
use Rattle.dp_model.specs.Gaps.{IsStateOf}
use Rattle.dp_model.specs.Laws.{IsLawful}
use Rattle.dp_model.specs.Lists.{Each}
use Rattle.dp_model.specs.Subproblem.{Subproblem, IsOwn}
use Rattle.dp_model.proofs.Paths.{state_of-state}
use Rattle.fringe.specs.Firsts.{first_from, first_taken}
use Rattle.fringe.specs.Tickets.{Ticketed}
use Rattle.board_laws.specs.Board.{BoardState, full_slots, slot_content, is_explored}
use Rattle.board_laws.specs.GoodBoard.{IsBoard}
use Rattle.board_laws.specs.Runs.Step.{Take}
use Rattle.board_laws.specs.Taking.{take_open, take_unless, take_gives, checked_out, after_answer, after_take, copy_of, handed_out}
use Rattle.board_laws.specs.declared.cause.Cause.{Cause}
use Rattle.board_laws.specs.declared.taken.Taken.{Taken}
use Rattle.board_laws.specs.declared.taken.Taken.TheVariants.{Sub, Finished}
use Rattle.board_laws.proofs.Running.{run-one}
use Rattle.search_workers.specs.UnderWay.{IsRoundUnderWay}

-- the state of a subproblem has as many cells as the instance has words
pub own_cells : (dp : Dp) → IsLawful dp → (c : Subproblem) → IsOwn dp c → length c.row ≡ dp.words
own_cells dp laws c own = laws.sizes.cells (length c.decisions) c.row (subst (IsStateOf dp (length c.decisions)) (sym own.row) (state_of-state dp laws.states c.decisions own.prefix))

-- The first slot.

not_empty : (o : Ticketed) (os : List Ticketed) → o ∷ os ≡ [] → ⊥
not_empty o os e = cc

pub first_empty : (slots : List (Option Ticketed)) → full_slots slots ≡ [] → 1 ≤ length slots → slice_get slots 0 ≡ Some None
first_empty [] idle some = absurd (omega arith)
first_empty (None ∷ slots) idle some = refl
first_empty (Some o ∷ slots) idle some = absurd (not_empty o (full_slots slots) idle)

first_set : (slots : List (Option Ticketed)) (o : Ticketed) → 1 ≤ length slots → full_slots (slice_set slots 0 (Some o)) ≡ o ∷ full_slots (drop 1 slots)
first_set [] o some = absurd (omega arith)
first_set (s ∷ slots) o some = refl

pub first_full : (slots : List (Option Ticketed)) (o : Ticketed) → slot_content (slice_get slots 0) ≡ Some o → 1 ≤ length (full_slots slots)
first_full [] o full = absurd (cc)
first_full (None ∷ slots) o full = absurd (cc)
first_full (Some p ∷ slots) o full = omega arith

pub set_back : (slots : List (Option Ticketed)) (o : Option Ticketed) → slice_get slots 0 ≡ Some None → slice_set (slice_set slots 0 o) 0 None ≡ slots
set_back [] o empty = refl
set_back (s ∷ slots) o empty = let same : s ≡ None = cc in ap (λ t. t ∷ slots) (sym same)

pub slot_set : (slots : List (Option Ticketed)) (o : Ticketed) → slice_get slots 0 ≡ Some None → slot_content (slice_get (slice_set slots 0 (Some o)) 0) ≡ Some o
slot_set [] o empty = absurd (cc)
slot_set (s ∷ slots) o empty = refl

-- What the answer says.

from_explored : (e : Bool) (t : Taken) → cond e Finished t ≡ Sub → t ≡ Sub
from_explored true t gives = absurd (cc)
from_explored false t gives = gives

from_cause : (b : BoardState) (cause : Option Cause) → take_unless b cause ≡ Sub → (cause ≡ None) × (take_open b b.open_ones ≡ Sub)
from_cause b (Some cause) gives = absurd (cc)
from_cause b None gives = (refl, gives)

from_open : (b : BoardState) (os : List Ticketed) → take_open b os ≡ Sub → (first : Ticketed) × (first_taken os ≡ Some first)
from_open b [] gives = absurd (cc)
from_open b (o ∷ os) gives = (first_from o os, refl)

own_first : (dp : Dp) (o : Ticketed) (full rest fringe : List Ticketed) → full ≡ o ∷ rest → Each (λ o. IsOwn dp o.subproblem) (full ++ fringe) → IsOwn dp o.subproblem
own_first dp o full rest fringe e own = let all : Each (λ o. IsOwn dp o.subproblem) ((o ∷ rest) ++ fringe) = subst (λ os. Each (λ o. IsOwn dp o.subproblem) (os ++ fringe)) e own in all.0

pub taken_under_way : (dp : Dp) (b now : BoardState) (c before : Subproblem) → take_gives b ≡ Sub → now ≡ after_take b 0 → c ≡ handed_out Sub b before
    → full_slots b.slots ≡ [] → 1 ≤ length b.slots → IsBoard dp now → IsRoundUnderWay dp b now c
taken_under_way dp b now c before gives step copied idle some good =
    let by_cause = from_cause b b.cause (from_explored (is_explored b) (take_unless b b.cause) gives) in
    let by_open = from_open b b.open_ones by_cause.1 in
    let first = by_open.0 in
    let is : now ≡ checked_out b 0 (Some first) = step ∙ (ap (λ t. after_answer b 0 t) gives ∙ ap (checked_out b 0) by_open.1) in
    let same : first.subproblem ≡ c = sym (copied ∙ ap (copy_of before) by_open.1) in
    let slots : now.slots ≡ slice_set b.slots 0 (Some first) = ap (λ n. n.slots) is in
    let full : full_slots now.slots ≡ first ∷ full_slots (drop 1 b.slots) = ap full_slots slots ∙ first_set b.slots first some in
    record {
      steps = Take 0 ∷ [];
      run = run-one dp b (Take 0) now (first_empty b.slots idle some) step;
      out = first;
      same = same;
      own = subst (IsOwn dp) same (own_first dp first (full_slots now.slots) (full_slots (drop 1 b.slots)) now.open_ones full good.own);
      slots = slots;
      taken = ap (λ n. n.taken) is;
      began_without = by_cause.0;
      without_cause = ap (λ n. n.cause) is ∙ by_cause.0;
    }
