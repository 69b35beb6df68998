-- GiveBack keeps a board, and a good one.
use Rattle.std.proofs.Common.{◌≡◌, ◌≢◌, ℕ, ◌<◌, Bool, true, false, cond, List, ◌++◌, set, Option, Some, None, inl, refl, ◌∙◌, IsTrue, length-set, arith}
use Rattle.std.specs.List.{slice_get}
use Rattle.std.specs.Prelude.{is_some}
use Rattle.dp_model.specs.Cover.{IsHeld}
use Rattle.dp_model.specs.Dp.{Dp}
use Rattle.dp_model.specs.Laws.{IsLawful}
use Rattle.dp_model.specs.Lists.{Each}
use Rattle.dp_model.specs.Numbers.{is_above, IsFar}
use Rattle.dp_model.specs.Subproblem.{IsOwn}
use Rattle.dp_model.proofs.Members.{Each-then}
use Rattle.fringe.specs.Pushing.{after_push}
use Rattle.fringe.specs.Tickets.{Ticketed}
use Rattle.board_laws.proofs.Carrying.{Deep, CarriesBy, carries-from, from-carried, option-self}
use Rattle.board_laws.proofs.Finishing.{reaches-low}
use Rattle.board_laws.proofs.Frontier.{not-above, tickets-flip, apart-flip}
use Rattle.board_laws.proofs.Lists.{each-back}
use Rattle.board_laws.proofs.Pushed.{IsPushed, GoesOn, push-out, out-goes, pushed}
use Rattle.board_laws.proofs.Slots.{emptied, slot-full}
use Rattle.board_laws.proofs.With.{with-right, each-out, two-out, one-out_of, sum-with, length-with}
use Rattle.board_laws.specs.Board.{reach, full_slots, prefixes, BoardState, frontier, slot_at}
use Rattle.dp_laws.specs.Children.{AreApart}
use Rattle.dp_laws.proofs.Reaches.{floor-carried}
use Rattle.board_laws.specs.GoodBoard.{pot_of, share_of, HasFloor, IsBoard, IsGoodFrom}
use Rattle.board_laws.specs.Laws.{GiveBackKeeps}
use Rattle.board_laws.specs.Steps.{given_back_from}

-- GiveBack, with the slot's subproblem and any open ones that it may leave.

back-board : (dp : Dp) (b : BoardState) (who : ℕ) (o : Ticketed) (new : List Ticketed) → slice_get b.slots who ≡ Some (Some o) → IsBoard dp b
    → IsPushed dp (reach b) b.next_ticket o (full_slots (set b.slots who None)) b.open_ones new → IsBoard dp (record b { open_ones = new; slots = set b.slots who None })
back-board dp b who o new at g p =
    let full = full_slots b.slots in
    let rest = full_slots (set b.slots who None) in
    let os = b.open_ones in
    let empty = emptied b.slots who o at in
    let out = with-right o rest full os empty in
    let less = length-with o rest full empty in
    let slots = length-set b.slots who None in
    let each : (P : Ticketed → Type 0) → Each P (frontier b) → Each P (rest ++ new) = λ P h. (let r = each-out P o (rest ++ os) (frontier b) out h in p.each P r.0 r.1) in
    let distinct = two-out (λ (a c : Ticketed). a.ticket ≢ c.ticket) tickets-flip o (rest ++ os) (frontier b) out g.tickets.distinct in
    record {
      incumbent = g.incumbent;
      own = each (λ o. IsOwn dp o.subproblem) g.own;
      far = each (λ o. IsFar o.subproblem.bound) g.far;
      tickets = record {
        distinct = p.two (λ (a c : Ticketed). a.ticket ≢ c.ticket) tickets-flip distinct.0 distinct.1;
        given = each (λ o. o.ticket < b.next_ticket) g.tickets.given;
      };
      above = p.each_open (λ o. IsTrue (is_above (reach b) o.subproblem.bound)) (λ up. up) g.above;
      ordered = p.ordered;
      different = p.different;
      entries = g.entries;
      limited = g.limited;
      out = (let old = g.out in omega arith);
      budget = g.budget;
      room = λ some. (let old = g.room (omega arith) in omega arith);
      cause = g.cause;
      slots = slots ∙ g.slots;
      settings = g.settings;
    }

back-good : (dp : Dp) (starts : List (List ℕ)) (b : BoardState) (who : ℕ) (o : Ticketed) (new : List Ticketed) → slice_get b.slots who ≡ Some (Some o) → IsTrue (is_some b.cause) → IsGoodFrom dp starts b
    → IsPushed dp (reach b) b.next_ticket o (full_slots (set b.slots who None)) b.open_ones new → GoesOn dp (reach b) o (full_slots (set b.slots who None)) b.open_ones new → IsGoodFrom dp starts (record b { open_ones = new; slots = set b.slots who None })
back-good dp starts b who o new at halted h p goes =
    let full = full_slots b.slots in
    let rest = full_slots (set b.slots who None) in
    let os = b.open_ones in
    let empty = emptied b.slots who o at in
    let out = with-right o rest full os empty in
    let held = each-out (λ o. IsHeld dp (reach b) o.subproblem.decisions o.subproblem.bound) o (rest ++ os) (frontier b) out h.held in
    let apart = two-out (λ a c. AreApart a.subproblem c.subproblem) apart-flip o (rest ++ os) (frontier b) out h.apart in
    let by : CarriesBy dp (reach b) (frontier b) (rest ++ new) = λ k v one. goes k v (one-out_of (Deep dp k v) o (rest ++ os) (frontier b) out one) in
    let carries = carries-from dp (reach b) (frontier b) (rest ++ new) by in
    let ends_before = sum-with (pot_of dp) o (rest ++ os) (frontier b) out in
    let shares_before = sum-with (share_of dp) o (rest ++ os) (frontier b) out in
    let ends = p.sum (pot_of dp) in
    let shares = p.sum (share_of dp) in
    record {
      covers = from-carried dp starts (reach b) (reach b) (prefixes (frontier b)) (prefixes (rest ++ new)) (option-self (reach b)) carries h.covers;
      held = p.each (λ o. IsHeld dp (reach b) o.subproblem.decisions o.subproblem.bound) held.0 held.1;
      floors = Each-then (HasFloor dp (reach b) (frontier b)) (HasFloor dp (reach b) (rest ++ new)) b.entries
          (λ e x. floor-carried dp (reach b) (reach b) (prefixes (frontier b)) (prefixes (rest ++ new)) (option-self (reach b)) carries e.depth e.row e.value x) h.floors;
      apart = p.two (λ a c. AreApart a.subproblem c.subproblem) apart-flip apart.0 apart.1;
      ends = (let old = h.ends in omega arith);
      balanced = λ none. absurd (cc);
      shares = (let old = h.shares in omega arith);
    }

-- the push, or the drop where the bound is at most the reach
back-pushed : (dp : Dp) → IsLawful dp → (b : BoardState) (who : ℕ) (o : Ticketed) → slice_get b.slots who ≡ Some (Some o) → IsBoard dp b
    → is_above (reach b) o.subproblem.bound ≡ true → IsPushed dp (reach b) b.next_ticket o (full_slots (set b.slots who None)) b.open_ones (after_push o b.open_ones) × GoesOn dp (reach b) o (full_slots (set b.slots who None)) b.open_ones (after_push o b.open_ones)
back-pushed dp laws b who o at g up =
    let full = full_slots b.slots in
    let rest = full_slots (set b.slots who None) in
    let os = b.open_ones in
    let out = with-right o rest full os (emptied b.slots who o at) in
    let own = each-out (λ o. IsOwn dp o.subproblem) o (rest ++ os) (frontier b) out g.own in
    let distinct = (two-out (λ (a c : Ticketed). a.ticket ≢ c.ticket) tickets-flip o (rest ++ os) (frontier b) out g.tickets.distinct).0 in
    pushed dp laws (reach b) b.next_ticket o rest os own.0 (each-back (λ o. IsOwn dp o.subproblem) rest os own.1) up
    (Each-then (λ (x : Ticketed). o.ticket ≢ x.ticket) (λ x. x.ticket ≢ o.ticket) os (λ x h. tickets-flip o x h) (each-back (λ (x : Ticketed). o.ticket ≢ x.ticket) rest os distinct)) g.ordered g.different

pub give-back-board : (dp : Dp) → IsLawful dp → (b : BoardState) (who : ℕ) (o : Ticketed) → slice_get b.slots who ≡ Some (Some o) → IsBoard dp b → IsBoard dp (given_back_from b who (Some o))
give-back-board dp laws b who o at g =
    let os = b.open_ones in
    let rest = full_slots (set b.slots who None) in
    let Goal : Bool → Type 0 = λ x. IsBoard dp (record b { open_ones = cond x (after_push o os) os; slots = set b.slots who None }) in
    let go : (x : Bool) → is_above (reach b) o.subproblem.bound ≡ x → Goal x = λ x. elim x as (λ x. is_above (reach b) o.subproblem.bound ≡ x → Goal x) [
      | true ↦ λ up. back-board dp b who o (after_push o os) at g (back-pushed dp laws b who o at g up).0
      | false ↦ λ low. back-board dp b who o os at g (push-out dp (reach b) b.next_ticket o rest os g.ordered g.different)
    ] in go (is_above (reach b) o.subproblem.bound) refl

pub give-back-good : (dp : Dp) → IsLawful dp → (starts : List (List ℕ)) (b : BoardState) (who : ℕ) (o : Ticketed) → slice_get b.slots who ≡ Some (Some o) → IsTrue (is_some b.cause) → IsBoard dp b → IsGoodFrom dp starts b → IsGoodFrom dp starts (given_back_from b who (Some o))
give-back-good dp laws starts b who o at halted g h =
    let os = b.open_ones in
    let rest = full_slots (set b.slots who None) in
    let Goal : Bool → Type 0 = λ x. IsGoodFrom dp starts (record b { open_ones = cond x (after_push o os) os; slots = set b.slots who None }) in
    let out = with-right o rest (full_slots b.slots) os (emptied b.slots who o at) in
    let held = (each-out (λ o. IsHeld dp (reach b) o.subproblem.decisions o.subproblem.bound) o (rest ++ os) (frontier b) out h.held).0 in
    let go : (x : Bool) → is_above (reach b) o.subproblem.bound ≡ x → Goal x = λ x. elim x as (λ x. is_above (reach b) o.subproblem.bound ≡ x → Goal x) [
      | true ↦ λ up. (let p = back-pushed dp laws b who o at g up in back-good dp starts b who o (after_push o os) at halted h p.0 p.1)
      | false ↦ λ low. back-good dp starts b who o os at halted h (push-out dp (reach b) b.next_ticket o rest os g.ordered g.different)
          (out-goes dp (reach b) o rest os (λ k v d. inl (reaches-low dp (reach b) v o.subproblem.decisions o.subproblem.bound d.reaches held (not-above (reach b) o.subproblem.bound low))))
    ] in go (is_above (reach b) o.subproblem.bound) refl

back-slot : (dp : Dp) → IsLawful dp → (b : BoardState) (who : ℕ) (slot : Option Ticketed) → slot_at b who ≡ slot → IsBoard dp b → IsBoard dp (given_back_from b who slot)
back-slot dp laws b who None at g = g
back-slot dp laws b who (Some o) at g = give-back-board dp laws b who o (slot-full (slice_get b.slots who) o at) g

back-slot-good : (dp : Dp) → IsLawful dp → (starts : List (List ℕ)) (b : BoardState) (who : ℕ) (slot : Option Ticketed) → slot_at b who ≡ slot → IsTrue (is_some b.cause) → IsBoard dp b → IsGoodFrom dp starts b → IsGoodFrom dp starts (given_back_from b who slot)
back-slot-good dp laws starts b who None at held g h = h
back-slot-good dp laws starts b who (Some o) at held g h = give-back-good dp laws starts b who o (slot-full (slice_get b.slots who) o at) held g h

pub give-back-keeps : (dp : Dp) → IsLawful dp → GiveBackKeeps dp
give-back-keeps dp laws = record {
  board = λ b who g. back-slot dp laws b who (slot_at b who) refl g;
  good = λ b who {starts} held g h. back-slot-good dp laws starts b who (slot_at b who) refl held g h;
}
