-- Take keeps a board, and a good one.
use Rattle.std.proofs.Common.{◌∷◌, [], ◌<◌, ◌≤◌, nat_lt, ◌≡◌, ◌≢◌, ℕ, ◌^◌, ◌-◌, ℤ, nat_eq, Bool, true, false, cond, not, List, ◌++◌, length, set, Option, Some, None, inl, inr, refl, sym, ◌∙◌, subst, IsTrue, length-set, arith, ap}
use Rattle.std.proofs.lemmas.Bool.Decides.{nat_tests}
use Rattle.std.specs.List.{slice_get}
use Rattle.dp_model.specs.Cover.{IsHeld}
use Rattle.dp_model.specs.Dp.{Dp}
use Rattle.dp_model.specs.Lists.{Each, OneOf}
use Rattle.dp_model.specs.Numbers.{is_above, IsFar}
use Rattle.dp_model.specs.Subproblem.{IsOwn}
use Rattle.dp_model.proofs.Members.{Each-then}
use Rattle.dp_laws.specs.Pairs.{EachTwo}
use Rattle.dp_laws.proofs.Lists.{each-filter, two-filter}
use Rattle.fringe.specs.Fringe.{AreDifferent}
use Rattle.fringe.specs.Tickets.{Ticketed, IsEarlier, without}
use Rattle.fringe.proofs.Tickets.{without-later}
use Rattle.board_laws.proofs.Carrying.{Deep, CarriesBy, carries-from, from-carried, option-self}
use Rattle.fringe.proofs.Takings.{first_taken-is}
use Rattle.board_laws.proofs.Frontier.{each-moved, one-moved, two-moved, sum-moved, tickets-flip, apart-flip}
use Rattle.board_laws.proofs.Lists.{one-each, one-out}
use Rattle.board_laws.proofs.Slots.{filled, full-few}
use Rattle.board_laws.proofs.With.{IsWith, with-left, with-right, length-with, with-here, with-there}
use Rattle.board_laws.specs.Board.{reach, full_slots, prefixes, BoardState, frontier, is_explored}
use Rattle.dp_laws.specs.Children.{AreApart}
use Rattle.dp_laws.proofs.Reaches.{floor-carried}
use Rattle.board_laws.specs.GoodBoard.{pot_of, share_of, HasFloor, IsBoard, IsGoodFrom}
use Rattle.board_laws.specs.Laws.{TakeKeeps, KeepsBoard}
use Rattle.board_laws.specs.Taking.{checked_out, is_budget_up, take_gives, take_open, take_unless, after_answer}
use Rattle.board_laws.specs.declared.cause.Cause.{Cause}
use Rattle.board_laws.specs.declared.cause.Cause.TheVariants.{Budget}
use Rattle.board_laws.specs.declared.taken.Taken.{Taken}
use Rattle.board_laws.specs.declared.taken.Taken.TheVariants.{Sub, WaitForOthers, Finished, Halted}
use Rattle.fringe.specs.Firsts.{first_taken}
use Rattle.board_laws.proofs.Differing.{or-parts}

-- Moving one member between slots and open ones.

moved-carries : (dp : Dp) (reach : Option ℤ) (o : Ticketed) (rest xs ys : List Ticketed) → IsWith o rest xs → IsWith o rest ys → CarriesBy dp reach xs ys
moved-carries dp reach o rest xs ys from to k v one = inr (one-moved (Deep dp k v) o rest xs ys from to one)

-- Take, of one that stands somewhere in the open list.

pub take-board : (dp : Dp) (b : BoardState) (who : ℕ) (o : Ticketed) → slice_get b.slots who ≡ Some None → IsWith o (without o.ticket b.open_ones) b.open_ones
    → b.taken < b.settings.budget → b.next_ticket ≤ 2 ^ 64 - 2 ^ 29 → IsBoard dp b → IsBoard dp (checked_out b who (Some o))
take-board dp b who o at from left near g =
    let full = full_slots b.slots in
    let full2 = full_slots (set b.slots who (Some o)) in
    let os = b.open_ones in
    let rest = without o.ticket os in
    let fill = filled b.slots who o at in
    let whole = with-left o full rest os from in
    let to = with-right o full full2 rest fill in
    let base = full ++ rest in
    let more = length-with o full full2 fill in
    let most = full-few (set b.slots who (Some o)) in
    let slots = length-set b.slots who (Some o) in
    let number = g.slots in
    let few = g.settings.few_workers in
    let p : Ticketed → Bool = λ a. not (nat_eq a.ticket o.ticket) in
    record {
      incumbent = g.incumbent;
      own = each-moved (λ o. IsOwn dp o.subproblem) o base (frontier b) (full2 ++ rest) whole to g.own;
      far = each-moved (λ o. IsFar o.subproblem.bound) o base (frontier b) (full2 ++ rest) whole to g.far;
      tickets = record {
        distinct = two-moved (λ (a c : Ticketed). a.ticket ≢ c.ticket) tickets-flip o base (frontier b) (full2 ++ rest) whole to g.tickets.distinct;
        given = each-moved (λ o. o.ticket < b.next_ticket) o base (frontier b) (full2 ++ rest) whole to g.tickets.given;
      };
      above = each-filter (λ o. IsTrue (is_above (reach b) o.subproblem.bound)) p os g.above;
      ordered = two-filter IsEarlier p os g.ordered;
      different = two-filter AreDifferent p os g.different;
      entries = g.entries;
      limited = g.limited;
      out = (let old = g.out in omega arith);
      budget = omega arith;
      room = λ some. omega arith;
      cause = g.cause;
      slots = slots ∙ g.slots;
      settings = g.settings;
    }

pub take-good : (dp : Dp) (starts : List (List ℕ)) (b : BoardState) (who : ℕ) (o : Ticketed) → slice_get b.slots who ≡ Some None → IsWith o (without o.ticket b.open_ones) b.open_ones → IsGoodFrom dp starts b → IsGoodFrom dp starts (checked_out b who (Some o))
take-good dp starts b who o at from h =
    let full = full_slots b.slots in
    let full2 = full_slots (set b.slots who (Some o)) in
    let os = b.open_ones in
    let rest = without o.ticket os in
    let fill = filled b.slots who o at in
    let whole = with-left o full rest os from in
    let to = with-right o full full2 rest fill in
    let base = full ++ rest in
    let after = full2 ++ rest in
    let more = length-with o full full2 fill in
    let carries = carries-from dp (reach b) (frontier b) after (moved-carries dp (reach b) o base (frontier b) after whole to) in
    let ends = sum-moved (pot_of dp) o base (frontier b) after whole to in
    let shares = sum-moved (share_of dp) o base (frontier b) after whole to in
    record {
      covers = from-carried dp starts (reach b) (reach b) (prefixes (frontier b)) (prefixes after) (option-self (reach b)) carries h.covers;
      held = each-moved (λ o. IsHeld dp (reach b) o.subproblem.decisions o.subproblem.bound) o base (frontier b) after whole to h.held;
      floors = Each-then (HasFloor dp (reach b) (frontier b)) (HasFloor dp (reach b) after) b.entries
          (λ e x. floor-carried dp (reach b) (reach b) (prefixes (frontier b)) (prefixes after) (option-self (reach b)) carries e.depth e.row e.value x) h.floors;
      apart = two-moved (λ a c. AreApart a.subproblem c.subproblem) apart-flip o base (frontier b) after whole to h.apart;
      ends = (let old = h.ends in omega arith);
      balanced = λ none. (let old = h.balanced none in omega arith);
      shares = (let old = h.shares in omega arith);
    }

-- Take, by its answer.

-- where Take hands a subproblem out, something is open and the budget is not used up
pub record Hands (b : BoardState) : Type 0 where
  pub some : 0 < length b.open_ones
  pub left : is_budget_up b ≡ false

open-hands : (b : BoardState) (os : List Ticketed) → take_open b os ≡ Sub → (0 < length os) × (is_budget_up b ≡ false)
open-hands b [] h = absurd (cc)
open-hands b (o ∷ os) h =
    let go : (up : Bool) → is_budget_up b ≡ up → cond up (Halted Budget) Sub ≡ Sub → (0 < length (o ∷ os)) × (is_budget_up b ≡ false) =
    λ up. elim up as (λ up. is_budget_up b ≡ up → cond up (Halted Budget) Sub ≡ Sub → (0 < length (o ∷ os)) × (is_budget_up b ≡ false)) [
      | true ↦ λ e k. absurd (cc)
      | false ↦ λ e k. (omega arith, e)
    ] in
    go (is_budget_up b) refl h

cause-hands : (b : BoardState) (cause : Option Cause) → take_unless b cause ≡ Sub → take_open b b.open_ones ≡ Sub
cause-hands b None h = h
cause-hands b (Some cause) h = absurd (cc)

pub hands : (b : BoardState) → take_gives b ≡ Sub → Hands b
hands b h =
    let go : (none : Bool) → cond none Finished (take_unless b b.cause) ≡ Sub → take_unless b b.cause ≡ Sub =
    λ none. elim none as (λ none. cond none Finished (take_unless b b.cause) ≡ Sub → take_unless b b.cause ≡ Sub) [ true ↦ λ k. absurd (cc) | false ↦ λ k. k ] in
    let r = open-hands b b.open_ones (cause-hands b b.cause (go (is_explored b) h)) in
    record { some = r.0; left = r.1 }

-- where tickets rise, the list is any of its members and the others
pub with-without : (os : List Ticketed) (o : Ticketed) → EachTwo IsEarlier os → OneOf (λ a. a ≡ o) os → IsWith o (without o.ticket os) os
with-without [] o rise h = absurd h
with-without (x ∷ os) o rise (inl same) =
    let ticket : x.ticket ≡ o.ticket = ap (λ (y : Ticketed). y.ticket) same in
    let here : nat_eq x.ticket o.ticket ≡ true = grind (arith, nat_tests) in
    let rest : without o.ticket (x ∷ os) ≡ os = ap (λ b. cond (not b) (x ∷ without o.ticket os) (without o.ticket os)) here
    ∙ without-later o.ticket os (subst (λ t. Each (λ (b : Ticketed). t < b.ticket) os) ticket rise.0) in
    subst (λ l. IsWith o l (x ∷ os)) (sym rest) (subst (λ y. IsWith o os (y ∷ os)) (sym same) (with-here o os))
with-without (x ∷ os) o rise (inr h) =
    let less : x.ticket < o.ticket = one-out (λ a. (a ≡ o) × IsEarlier x a) (x.ticket < o.ticket) (λ a k. subst (λ (y : Ticketed). x.ticket < y.ticket) k.0 k.1) os (one-each (λ a. a ≡ o) (IsEarlier x) os h rise.0) in
    let other : nat_eq x.ticket o.ticket ≡ false = grind (arith, nat_tests) in
    let rest : without o.ticket (x ∷ os) ≡ x ∷ without o.ticket os = ap (λ b. cond (not b) (x ∷ without o.ticket os) (without o.ticket os)) other in
    subst (λ l. IsWith o l (x ∷ os)) (sym rest) (with-there o x (without o.ticket os) os (with-without os o rise.1 h))

pub same-kept : (dp : Dp) (b : BoardState) → KeepsBoard dp b b
same-kept dp b = record { board = λ g. g; good = λ {starts} g h. h }

pub first-out : (os : List Ticketed) (o : Ticketed) → first_taken os ≡ Some o → EachTwo IsEarlier os → IsWith o (without o.ticket os) os
first-out os o is rise = with-without os o rise (first_taken-is os o (sym is)).one

out-keeps : (dp : Dp) (b : BoardState) (who : ℕ) → slice_get b.slots who ≡ Some None → is_budget_up b ≡ false → (first : Option Ticketed) → first_taken b.open_ones ≡ first → KeepsBoard dp b (checked_out b who first)
out-keeps dp b who empty left None is = same-kept dp b
out-keeps dp b who empty left (Some o) is =
    let parts = or-parts (nat_eq b.taken b.settings.budget) (nat_lt (2 ^ 64 - 2 ^ 29) b.next_ticket) left in
    let differ : b.taken ≢ b.settings.budget = let no = parts.0 in grind (arith, nat_tests) in
    let near : b.next_ticket ≤ 2 ^ 64 - 2 ^ 29 = let no = parts.1 in grind (arith, nat_tests) in
    record {
      board = λ g. (let most = g.budget in take-board dp b who o empty (first-out b.open_ones o is g.ordered) (omega arith) near g);
      good = λ {starts} g h. take-good dp starts b who o empty (first-out b.open_ones o is g.ordered) h;
    }

answer-keeps : (dp : Dp) (b : BoardState) (who : ℕ) → slice_get b.slots who ≡ Some None → (answer : Taken) → take_gives b ≡ answer → KeepsBoard dp b (after_answer b who answer)
answer-keeps dp b who empty Sub is = (let h = hands b is in out-keeps dp b who empty h.left (first_taken b.open_ones) refl)
answer-keeps dp b who empty WaitForOthers is = same-kept dp b
answer-keeps dp b who empty Finished is = same-kept dp b
answer-keeps dp b who empty (Halted cause) is = same-kept dp b

pub take-keeps : (dp : Dp) → TakeKeeps dp
take-keeps dp b who empty = answer-keeps dp b who empty (take_gives b) refl
