-- The record of a Finish can be written.
use Rattle.std.proofs.Common.{◌≡◌, ℕ, ◌+◌, ◌-◌, ◌*◌, ◌^◌, ◌<◌, ◌≤◌, true, List, [], ◌∷◌, length, map, sum_by, Option, Some, None, IsSome, IsTrue, option_map, refl, sym, ◌∙◌, ap, subst, arith}
use Rattle.std.proofs.lemmas.Bool.{leb-true, eqb-true, and_parts}
use Rattle.std.proofs.lemmas.List.Elements.{All-nil, All-cons}
use Rattle.std.proofs.lemmas.List.Sums.{sum_by-cons}
use Rattle.std.proofs.lemmas.List.Sorted.{length_permutation}
use Rattle.std.specs.Prelude.{All, IfSome, OnOk, Result, Ok, Err, nat_eq, nat_le}
use Rattle.dp_laws.specs.Children.{children_size}
use Rattle.dp_model.specs.Dp.{Dp}
use Rattle.dp_model.specs.Laws.{IsLawful}
use Rattle.dp_model.specs.Lists.{Each}
use Rattle.dp_model.specs.Solution.{Solution}
use Rattle.dp_model.specs.Subproblem.{Subproblem, IsOwn}
use Rattle.dp_model.proofs.Members.{Has, each-has, Each-then, Has-append-right}
use Rattle.fringe.specs.Tickets.{Ticketed}
use Rattle.board_laws.specs.declared.fate.Fate.{Fate}
use Rattle.board_laws.specs.declared.fate.Fate.TheVariants.{Below, Kept, Dominated, Replaced, Entered}
use Rattle.board_laws.specs.Board.{BoardState, reach, full_slots, slot_at, frontier}
use Rattle.board_laws.specs.Fates.{fates_on}
use Rattle.board_laws.specs.GoodBoard.{IncumbentHolds, IsBoard}
use Rattle.board_laws.proofs.Fates.{FatesHold, fates-hold, found-one}
use Rattle.board_laws.proofs.Slots.{slot-full, emptied}
use Rattle.board_laws.proofs.With.{length-with}
use Rattle.board.specs.Frontier.{frontier_of}
use Rattle.journal_replay.proofs.Snapshots.{moved-in_order, each-in_order}
use Rattle.journal_bytes.specs.Bodies.{ChildView, RecordView, Finish}
use Rattle.journal_bytes.specs.Spelling.{child_size, listed_size, best_size, IsTicket, HasSpelling}
use Rattle.journal_bytes.specs.declared.head.TheConstants.{VERSION}
use Rattle.journal_bytes.specs.declared.tail.Tail.{Tail}
use Rattle.journal_replay.specs.Following.{child_recorded, recorded_beside, recorded_children, incumbent_recorded, listed_recorded, snapshot_record, finish_record}
use Rattle.kept_board.specs.Due.{has_grown, is_due}
use Rattle.kept_board.specs.View.{KeptView}
use Rattle.kept_board.specs.declared.limits.TheConstants.{MOST_LISTED}

-- a slot is full
pub full-one : (b : BoardState) (who : ℕ) (o : Ticketed) → slot_at b who ≡ Some o → 1 ≤ length (full_slots b.slots)
full-one b who o full = let long = length-with o _ _ (emptied b.slots who o (slot-full _ o full)) in omega (arith, long)

-- the children that enter take no more than all of them
sizes-fewer : (cs : List Subproblem) (fs : List Fate) → sum_by child_size (recorded_children cs fs) ≤ sum_by (λ c. 20 + 4 * length c.decisions) cs
sizes-fewer [] fs = omega arith
sizes-fewer (c ∷ cs) [] = omega arith
sizes-fewer (c ∷ cs) (f ∷ fs) = by-fate (sizes-fewer cs fs) f
  where
    all : sum_by (λ c. 20 + 4 * length c.decisions) (c ∷ cs) ≡ (20 + 4 * length c.decisions) + sum_by (λ c. 20 + 4 * length c.decisions) cs
    all = sum_by-cons (λ c. 20 + 4 * length c.decisions) c cs

    dropped : sum_by child_size (recorded_children cs fs) ≤ sum_by (λ c. 20 + 4 * length c.decisions) cs → sum_by child_size (recorded_children cs fs) ≤ sum_by (λ c. 20 + 4 * length c.decisions) (c ∷ cs)
    dropped less = omega (arith, all, less)

    enters : sum_by child_size (recorded_children cs fs) ≤ sum_by (λ c. 20 + 4 * length c.decisions) cs → (replaced : Option ℕ) → sum_by child_size (child_recorded replaced c ∷ recorded_children cs fs) ≤ sum_by (λ c. 20 + 4 * length c.decisions) (c ∷ cs)
    enters less replaced = let one = sum_by-cons child_size (child_recorded replaced c) (recorded_children cs fs) in omega (arith, all, less, one)

    by-fate : sum_by child_size (recorded_children cs fs) ≤ sum_by (λ c. 20 + 4 * length c.decisions) cs → (f : Fate) → sum_by child_size (recorded_beside c f (recorded_children cs fs)) ≤ sum_by (λ c. 20 + 4 * length c.decisions) (c ∷ cs)
    by-fate less Below = dropped less
    by-fate less (Kept by) = dropped less
    by-fate less (Dominated by) = dropped less
    by-fate less (Replaced own old) = enters less (Some old)
    by-fate less (Entered own) = enters less None

-- what is replaced is open
replaced-tickets : (dp : Dp) (b : BoardState) (ticket : ℕ) (cs : List Subproblem) (fs : List Fate) → ((o : Ticketed) → Has o b.open_ones → o.ticket < 2 ^ 64 - 1) → FatesHold dp (reach b) b.open_ones b.entries ticket cs fs
    → All (λ c. IsTicket c.replaced) (recorded_children cs fs)
replaced-tickets dp b ticket [] fs few hold = All-nil (λ (c : ChildView). IsTicket c.replaced)
replaced-tickets dp b ticket (c ∷ cs) [] few hold = All-nil (λ (c : ChildView). IsTicket c.replaced)
replaced-tickets dp b ticket (c ∷ cs) (Below ∷ fs) few hold = replaced-tickets dp b ticket cs fs few hold.1
replaced-tickets dp b ticket (c ∷ cs) (Kept by ∷ fs) few hold = replaced-tickets dp b ticket cs fs few hold.1
replaced-tickets dp b ticket (c ∷ cs) (Dominated by ∷ fs) few hold = replaced-tickets dp b ticket cs fs few hold.1
replaced-tickets dp b ticket (c ∷ cs) (Replaced own old ∷ fs) few hold =
    let has = (found-one (length c.decisions) c.row b.open_ones hold.0.other hold.0.found).0 in
    All-cons (λ (c : ChildView). IsTicket c.replaced) (child_recorded (Some old) c) (recorded_children cs fs) (subst (λ n. n < 2 ^ 64 - 1) (sym hold.0.old_is) (few hold.0.other has))
    (replaced-tickets dp b (ticket + 1) cs fs few hold.1)
replaced-tickets dp b ticket (c ∷ cs) (Entered own ∷ fs) few hold =
    All-cons (λ (c : ChildView). IsTicket c.replaced) (child_recorded None c) (recorded_children cs fs) tt (replaced-tickets dp b (ticket + 1) cs fs few hold.1)

pub finish-spelled : (dp : Dp) (b : BoardState) (who : ℕ) (o : Ticketed) (cs : List Subproblem) → IsBoard dp b → slot_at b who ≡ Some o → children_size cs < 2 ^ 32 → HasSpelling (Finish o.ticket (recorded_children cs (fates_on dp b cs)))
finish-spelled dp b who o cs board full few =
    let some = full-one b who o full in
    let room = board.room some in
    record {
      size = let less = sizes-fewer cs (fates_on dp b cs) in omega (arith, less, few);
      tickets = replaced-tickets dp b b.next_ticket cs (fates_on dp b cs)
          (λ x has. let given = each-has (λ (x : Ticketed). x.ticket < b.next_ticket) (frontier b) x board.tickets.given (Has-append-right x (full_slots b.slots) b.open_ones has) in omega (arith, given, room, some))
          (fates-hold dp (reach b) b.open_ones b.entries b.next_ticket cs);
    }

-- the ticket of a full slot
pub ticket-is : (later b : BoardState) (who : ℕ) (o : Ticketed) (ticket : ℕ) (result : Option ℕ) → later ≡ b → slot_at b who ≡ Some o → result ≡ option_map (λ o. o.ticket) (slot_at later who) → result ≡ Some ticket → ticket ≡ o.ticket
ticket-is later b who o ticket result same full gives is =
    let both : Some ticket ≡ Some o.ticket = sym is ∙ (gives ∙ (ap (λ x. option_map (λ o. o.ticket) (slot_at x who)) same ∙ ap (option_map (λ o. o.ticket)) full)) in
    let here : ticket ≡ o.ticket = cc in here

-- the record of the Finish, by what was found
pub record-is : (dp : Dp) (b : BoardState) (who : ℕ) (o : Ticketed) (cs : List Subproblem) (fs : List Fate) (ticket : ℕ) (r : RecordView) → slot_at b who ≡ Some o → ticket ≡ o.ticket → fs ≡ fates_on dp b cs → finish_record dp b who cs ≡ Some r
    → Finish ticket (recorded_children cs fs) ≡ r
record-is dp b who o cs fs ticket r full is fates recorded =
    let both : Some (Finish o.ticket (recorded_children cs (fates_on dp b cs))) ≡ Some r = ap (option_map (λ o. Finish o.ticket (recorded_children cs (fates_on dp b cs)))) (sym full) ∙ recorded in
    let here : Finish o.ticket (recorded_children cs (fates_on dp b cs)) ≡ r = cc in
    (λ i. Finish (is i) (recorded_children cs (fates i))) ∙ here

pub on_ok : {T E : Type 0} (result : Result T E) (P Q : Type 0) → OnOk result P → (P → Q) → OnOk result Q
on_ok (Ok x) P Q p then = then p
on_ok (Err e) P Q p then = tt

-- ---- the record of a snapshot

-- what is listed takes no more than for this many of the most decisions that a prefix can have
listed-small : (os : List Ticketed) → Each (λ o. length o.subproblem.decisions ≤ 1023) os → sum_by listed_size (map listed_recorded os) ≤ 4112 * length os
listed-small [] few = omega arith
listed-small (o ∷ os) few =
    let one = sum_by-cons listed_size (listed_recorded o) (map listed_recorded os) in
    let rest = listed-small os few.1 in
    let first : length o.subproblem.decisions ≤ 1023 = few.0 in
    omega (arith, one, rest, first)

best-small : (dp : Dp) → IsLawful dp → (best : Option Solution) → IncumbentHolds dp best → best_size (option_map incumbent_recorded best) ≤ 4109
best-small dp laws None holds = omega arith
best-small dp laws (Some best) holds =
    let whole : length best.decisions ≡ dp.vars = holds.solution.whole in
    let few = laws.sizes.vars in
    omega (arith, whole, few)

pub snapshot-spelled : (dp : Dp) → IsLawful dp → (b : BoardState) → IsBoard dp b → length (frontier b) ≤ MOST_LISTED → HasSpelling (snapshot_record b)
snapshot-spelled dp laws b board few =
    let long : length (frontier_of b) ≡ length (frontier b) = length_permutation (frontier b) (frontier_of b) (moved-in_order (frontier b)) in
    let vars = laws.sizes.vars in
    let short : Each (λ o. length o.subproblem.decisions ≤ 1023) (frontier b) =
    Each-then (λ (o : Ticketed). IsOwn dp o.subproblem) (λ o. length o.subproblem.decisions ≤ 1023) (frontier b) (λ o own. let s : length o.subproblem.decisions < dp.vars = own.shorter in omega (arith, s, vars)) board.own in
    let listed = listed-small (frontier_of b) (each-in_order (λ (o : Ticketed). length o.subproblem.decisions ≤ 1023) (frontier b) short) in
    let best = best-small dp laws b.incumbent board.incumbent in
    record { size = omega (arith, listed, best, long, few); tickets = tt }

-- ---- when it is due

-- there is a journal of the newest version, and not too much is open or out
pub record HasDue {D : Type 0} (k : KeptView D) : Type 0 where
  pub has : IsSome k.tail
  pub version : IfSome k.tail (λ t. t.version ≡ VERSION)
  pub few : length (frontier k.board.board) ≤ MOST_LISTED

grown-has : (every : ℕ) (tail : Option Tail) → has_grown every tail ≡ true → IsSome tail × IfSome tail (λ t. t.version ≡ VERSION)
grown-has every None grown = absurd (cc)
grown-has every (Some tail) grown = (refl, eqb-true tail.version VERSION (and_parts (nat_eq tail.version VERSION) (nat_le every tail.since) grown).0)

pub due-has : {D : Type 0} (k : KeptView D) → IsTrue (is_due k) → HasDue k
due-has k due =
    let parts = and_parts (has_grown k.every k.tail) (nat_le (length (frontier k.board.board)) MOST_LISTED) due in
    let grown = grown-has k.every k.tail parts.0 in
    record { has = grown.0; version = grown.1; few = leb-true (length (frontier k.board.board)) MOST_LISTED parts.1 }
