-- Finish keeps a board, and a good one.
use Rattle.std.proofs.Common.{◌≡◌, ◌≢◌, ℕ, ◌<◌, ◌≤◌, ℤ, nat_eq, Bool, true, false, cond, not, List, [], ◌∷◌, ◌++◌, length, map, set, Option, None, refl, sym, ◌∙◌, ap, subst, IsTrue, append_assoc, length-append, length-set, arith}
use Rattle.std.proofs.lemmas.Bool.Decides.{nat_tests}
use Rattle.std.proofs.lemmas.List.Sums.{sum_by-append}
use Rattle.std.specs.List.{sum_by, slice_get}
use Rattle.dp_model.specs.Cover.{IsHeld}
use Rattle.dp_model.specs.Dp.{Dp}
use Rattle.dp_model.specs.Laws.{IsLawful}
use Rattle.dp_model.specs.Lists.{Each}
use Rattle.dp_model.specs.Numbers.{is_above, IsFar}
use Rattle.dp_model.specs.Subproblem.{Subproblem, IsOwn, IsChild}
use Rattle.dp_model.proofs.Members.{Each-then, Each-append, Each-map}
use Rattle.dp_model.proofs.Paths.{state_of-state}
use Rattle.dp_model.specs.Gaps.{IsStateOf}
use Rattle.dp_laws.specs.Pairs.{EachTwo}
use Rattle.dp_laws.proofs.Lists.{each-filter, two-filter}
use Rattle.fringe.specs.Fringe.{AreDifferent}
use Rattle.fringe.specs.Tickets.{Ticketed, IsEarlier}
use Rattle.dominance_table.specs.Entries.{TableEntry}
use Rattle.board_laws.proofs.Carrying.{carries-from, from-carried, option-self}
use Rattle.board_laws.proofs.Counting.{children-below, pots-split}
use Rattle.board_laws.proofs.Differing.{kids-above, kids-differ}
use Rattle.board_laws.proofs.Fates.{fates-hold, fates-many, kids-each, kids-two, kids-hold}
use Rattle.board_laws.proofs.Finishing.{IsFinish, after, finish-carries, finish-floors, each-put}
use Rattle.board_laws.proofs.Frontier.{tickets-flip, apart-flip, apart-child}
use Rattle.board_laws.proofs.Lists.{each-both, each-back, each-less, two-less, sum-less}
use Rattle.board_laws.proofs.Slots.{emptied, slot-full}
use Rattle.board_laws.proofs.With.{with-right, each-out, two-out, sum-with, length-with}
use Rattle.board_laws.specs.Board.{full_slots, prefixes, BoardState, frontier, reach}
use Rattle.dp_laws.specs.Children.{AreApart, DifferInPlace}
use Rattle.board_laws.specs.Entering.{entering, replaced, is_among, without_all, entry_of, put_all}
use Rattle.board_laws.specs.Fates.{tickets_after, fate_of, fates_on}
use Rattle.board_laws.specs.Finishing.{MayFinish}
use Rattle.board_laws.specs.GoodBoard.{pot_of, share_of, IsEntry, IsBoard, IsGoodFrom}
use Rattle.board_laws.specs.Laws.{FinishKeeps}
use Rattle.board_laws.specs.Steps.{finished_by}
use Rattle.board_laws.specs.declared.fate.Fate.{Fate}
use Rattle.dp_laws.proofs.Restricted.Permutations.{two-append}
use Rattle.dp_laws.proofs.Diagrams.Apart.{two-then}

earlier-differ : (a o : Ticketed) → IsEarlier a o → a.ticket ≢ o.ticket
earlier-differ a o h = let less : a.ticket < o.ticket = h in omega arith

-- the entry of a prefix of its own
own-entry : (dp : Dp) → IsLawful dp → (next : ℕ) (o : Ticketed) → IsOwn dp o.subproblem → o.ticket < next → IsEntry dp next (entry_of dp o)
own-entry dp laws next o own given = record {
  shorter = own.shorter;
  state = subst (λ s. IsStateOf dp (length o.subproblem.decisions) s) (sym own.row) (state_of-state dp laws.states o.subproblem.decisions own.prefix);
  bucket = refl;
  rank = refl;
  given = given;
}

-- an entry is one when more tickets were given out
entry-later : (dp : Dp) (next more : ℕ) → next ≤ more → (e : TableEntry) → IsEntry dp next e → IsEntry dp more e
entry-later dp next more le e h = record { shorter = h.shorter; state = h.state; bucket = h.bucket; rank = h.rank; given = (let less = h.given in omega arith) }

put-few : (limit : ℕ) (es new : List TableEntry) → length es ≤ limit → length (put_all limit es new) ≤ limit
put-few limit es [] h = h
put-few limit es (e ∷ new) h =
    let go : (b : Bool) → nat_eq (length es) limit ≡ b → length (cond b es (es ++ e ∷ [])) ≤ limit = λ b. elim b as (λ b. nat_eq (length es) limit ≡ b → length (cond b es (es ++ e ∷ [])) ≤ limit) [
      | true ↦ λ k. h
      | false ↦ λ k. (let more = length-append es (e ∷ []) in let less : length es ≢ limit = grind (arith, nat_tests) in omega arith)
    ] in put-few limit (cond (nat_eq (length es) limit) es (es ++ e ∷ [])) new (go (nat_eq (length es) limit) refl)

pub finish-board : (dp : Dp) → IsLawful dp → (b : BoardState) (who : ℕ) (threshold : Option ℤ) (cs : List Subproblem) (given_fates : List Fate) → IsBoard dp b → MayFinish dp b who threshold cs given_fates → IsBoard dp (finished_by dp b who cs)
finish-board dp laws b who threshold cs given_fates g m =
    let o = m.parent in
    let os = b.open_ones in
    let full = full_slots b.slots in
    let rest = full_slots (set b.slots who None) in
    let fs = fates_on dp b cs in
    let fates = fates-hold dp (reach b) os b.entries b.next_ticket cs in
    let long = fates-many (fate_of dp (reach b) os b.entries) b.next_ticket cs in
    let kids = kids-hold dp (reach b) os b.entries b.next_ticket cs fs long fates in
    let next = tickets_after b.next_ticket fs in
    let p : Ticketed → Bool = λ o. not (is_among o.ticket (replaced fs)) in
    let stay = without_all (replaced fs) os in
    let new = entering cs fs in
    let same : (rest ++ stay) ++ new ≡ after rest os cs fs = append_assoc rest stay new in
    let empty = emptied b.slots who o (slot-full (slice_get b.slots who) o m.full) in
    let out = with-right o rest full os empty in
    let less = length-with o rest full empty in
    let children = m.children in
    let own_kids = Each-then (IsChild dp o.subproblem.decisions) (IsOwn dp) cs (λ c x. x.own) children.own in
    let own_new = kids-each (IsOwn dp) cs fs own_kids in
    let each : (P : Ticketed → Type 0) → Each P (frontier b) → Each P new → Each P (after rest os cs fs) = λ P h k.
    subst (λ l. Each P l) same (Each-append P (rest ++ stay) new (each-less P p rest os (each-out P o (rest ++ os) (frontier b) out h).1) k) in
    let given = each-less (λ (y : Ticketed). y.ticket < b.next_ticket) p rest os (each-out (λ (y : Ticketed). y.ticket < b.next_ticket) o (rest ++ os) (frontier b) out g.tickets.given).1 in
    let across = Each-then (λ (y : Ticketed). y.ticket < b.next_ticket) (λ y. Each (IsEarlier y) new) (rest ++ stay)
    (λ y h. Each-then (λ (k : Ticketed). b.next_ticket ≤ k.ticket) (IsEarlier y) new (λ k later. let less : y.ticket < k.ticket = omega arith in less) kids.from) given in
    let distinct = two-less (λ (a c : Ticketed). a.ticket ≢ c.ticket) p rest os (two-out (λ (a c : Ticketed). a.ticket ≢ c.ticket) tickets-flip o (rest ++ os) (frontier b) out g.tickets.distinct).1 in
    let slots = length-set b.slots who None in
    let many = kids.many in
    let few = kids.few in
    let limit = children.few in
    record {
      incumbent = g.incumbent;
      own = each (λ o. IsOwn dp o.subproblem) g.own own_new;
      far = each (λ o. IsFar o.subproblem.bound) g.far (kids-each (λ c. IsFar c.bound) cs fs children.far);
      tickets = record {
        distinct = subst (λ l. EachTwo (λ (a c : Ticketed). a.ticket ≢ c.ticket) l) same (two-append (λ (a c : Ticketed). a.ticket ≢ c.ticket) (rest ++ stay) new distinct
            (two-then IsEarlier (λ a c. a.ticket ≢ c.ticket) earlier-differ new kids.ordered)
            (Each-then (λ y. Each (IsEarlier y) new) (λ y. Each (λ k. y.ticket ≢ k.ticket) new) (rest ++ stay) (λ y h. Each-then (IsEarlier y) (λ k. y.ticket ≢ k.ticket) new (earlier-differ y) h) across));
        given = subst (λ l. Each (λ (y : Ticketed). y.ticket < next) l) same (Each-append (λ (y : Ticketed). y.ticket < next) (rest ++ stay) new
            (Each-then (λ (y : Ticketed). y.ticket < b.next_ticket) (λ y. y.ticket < next) (rest ++ stay) (λ y h. omega arith) given) kids.given);
      };
      above = Each-append (λ o. IsTrue (is_above (reach b) o.subproblem.bound)) stay new (each-filter (λ o. IsTrue (is_above (reach b) o.subproblem.bound)) p os g.above) (kids-above dp (reach b) os b.entries b.next_ticket cs fs fates);
      ordered = two-append IsEarlier stay new (two-filter IsEarlier p os g.ordered) kids.ordered (each-back (λ y. Each (IsEarlier y) new) rest stay across);
      different = two-append AreDifferent stay new (two-filter AreDifferent p os g.different) (kids-two DifferInPlace cs fs children.differ)
          (kids-differ dp (reach b) os b.entries b.next_ticket cs fs fates g.ordered g.different);
      entries = each-put (IsEntry dp next) b.settings.table_limit b.entries (map (entry_of dp) new) (Each-then (IsEntry dp b.next_ticket) (IsEntry dp next) b.entries (entry-later dp b.next_ticket next (omega arith)) g.entries)
          (Each-map (entry_of dp) (IsEntry dp next) new (Each-then (λ o. IsOwn dp o.subproblem × (o.ticket < next)) (λ o. IsEntry dp next (entry_of dp o)) new (λ o x. own-entry dp laws next o x.0 x.1)
          (each-both (λ (o : Ticketed). IsOwn dp o.subproblem) (λ o. o.ticket < next) new own_new kids.given)));
      limited = put-few b.settings.table_limit b.entries (map (entry_of dp) new) g.limited;
      out = (let old = g.out in omega arith);
      budget = g.budget;
      room = λ some. (let old = g.room (omega arith) in omega arith);
      cause = g.cause;
      slots = slots ∙ g.slots;
      settings = g.settings;
    }

pub finish-good : (dp : Dp) → IsLawful dp → (starts : List (List ℕ)) (b : BoardState) (who : ℕ) (threshold : Option ℤ) (cs : List Subproblem) (given_fates : List Fate) → IsBoard dp b → IsGoodFrom dp starts b → MayFinish dp b who threshold cs given_fates → IsGoodFrom dp starts (finished_by dp b who cs)
finish-good dp laws starts b who threshold cs given_fates g h m =
    let o = m.parent in
    let os = b.open_ones in
    let full = full_slots b.slots in
    let rest = full_slots (set b.slots who None) in
    let fs = fates_on dp b cs in
    let fates = fates-hold dp (reach b) os b.entries b.next_ticket cs in
    let long = fates-many (fate_of dp (reach b) os b.entries) b.next_ticket cs in
    let kids = kids-hold dp (reach b) os b.entries b.next_ticket cs fs long fates in
    let p : Ticketed → Bool = λ o. not (is_among o.ticket (replaced fs)) in
    let stay = without_all (replaced fs) os in
    let new = entering cs fs in
    let same : (rest ++ stay) ++ new ≡ after rest os cs fs = append_assoc rest stay new in
    let empty = emptied b.slots who o (slot-full (slice_get b.slots who) o m.full) in
    let out = with-right o rest full os empty in
    let less = length-with o rest full empty in
    let children = m.children in
    let f : IsFinish dp (reach b) o full rest os b.entries b.next_ticket cs fs = record {
      out = empty;
      own = g.own;
      rise = g.ordered;
      entries = g.entries;
      floors = h.floors;
      own_kids = children.own;
      held_kids = children.held;
      matched = children.matched;
      long = long;
      fates = fates;
    } in
    let carries = carries-from dp (reach b) (frontier b) (after rest os cs fs) (finish-carries dp laws (reach b) o full rest os b.entries b.next_ticket cs fs f) in
    let own_out = each-out (λ o. IsOwn dp o.subproblem) o (rest ++ os) (frontier b) out g.own in
    let apart_out = two-out (λ a c. AreApart a.subproblem c.subproblem) apart-flip o (rest ++ os) (frontier b) out h.apart in
    let child_new = kids-each (IsChild dp o.subproblem.decisions) cs fs children.own in
    let own_new = Each-then (λ k. IsChild dp o.subproblem.decisions k.subproblem) (λ k. IsOwn dp k.subproblem) new (λ k x. x.own) child_new in
    let apart_new = kids-two AreApart cs fs children.apart in
    let apart_across = Each-then (λ y. AreApart o.subproblem y.subproblem) (λ y. Each (λ k. AreApart y.subproblem k.subproblem) new) (rest ++ stay)
    (λ y x. Each-then (λ k. IsChild dp o.subproblem.decisions k.subproblem) (λ k. AreApart y.subproblem k.subproblem) new (λ k child. apart-child o.subproblem y.subproblem k.subproblem x child.extends) child_new)
    (each-less (λ y. AreApart o.subproblem y.subproblem) p rest os apart_out.0) in
    let fewer = children-below dp o.subproblem.decisions new own_out.0.shorter child_new apart_new in
    let split = pots-split dp new own_new in
    let ends_before = sum-with (pot_of dp) o (rest ++ os) (frontier b) out in
    let shares_before = sum-with (share_of dp) o (rest ++ os) (frontier b) out in
    let ends_less = sum-less (pot_of dp) p rest os in
    let shares_less = sum-less (share_of dp) p rest os in
    let ends_after = ap (sum_by (pot_of dp)) (sym same) ∙ sum_by-append (pot_of dp) (rest ++ stay) new in
    let shares_after = ap (sum_by (share_of dp)) (sym same) ∙ sum_by-append (share_of dp) (rest ++ stay) new in
    let many = kids.many in
    record {
      covers = from-carried dp starts (reach b) (reach b) (prefixes (frontier b)) (prefixes (after rest os cs fs)) (option-self (reach b)) carries h.covers;
      held = subst (λ l. Each (λ o. IsHeld dp (reach b) o.subproblem.decisions o.subproblem.bound) l) same (Each-append (λ o. IsHeld dp (reach b) o.subproblem.decisions o.subproblem.bound) (rest ++ stay) new
          (each-less (λ o. IsHeld dp (reach b) o.subproblem.decisions o.subproblem.bound) p rest os (each-out (λ o. IsHeld dp (reach b) o.subproblem.decisions o.subproblem.bound) o (rest ++ os) (frontier b) out h.held).1)
          (kids-each (λ c. IsHeld dp (reach b) c.decisions c.bound) cs fs children.held));
      floors = finish-floors dp laws (reach b) o full rest os b.entries b.next_ticket b.settings.table_limit cs fs f;
      apart = subst (λ l. EachTwo (λ (a c : Ticketed). AreApart a.subproblem c.subproblem) l) same
          (two-append (λ a c. AreApart a.subproblem c.subproblem) (rest ++ stay) new (two-less (λ a c. AreApart a.subproblem c.subproblem) p rest os apart_out.1) apart_new apart_across);
      ends = (let old = h.ends in omega arith);
      balanced = λ none. (let old = h.balanced none in omega arith);
      shares = (let old = h.shares in omega arith);
    }

pub finish-keeps : (dp : Dp) → IsLawful dp → FinishKeeps dp
finish-keeps dp laws b who threshold cs fs m = record { board = λ g. finish-board dp laws b who threshold cs fs g m; good = λ {starts} g h. finish-good dp laws starts b who threshold cs fs g h m }
