-- The record of a finished subproblem may follow, and the board after it stands beside it.
use Rattle.std.proofs.Common.{◌≡◌, ◌≢◌, ℕ, ◌+◌, ◌-◌, ◌^◌, ◌<◌, ◌≤◌, ℤ, Bool, true, false, not, List, [], ◌∷◌, ◌++◌, length, set, Option, Some, None, refl, sym, ◌∙◌, ap, subst, arith}
use Rattle.std.specs.List.{slice_get}
use Rattle.dp_model.specs.Dp.{Dp}
use Rattle.dp_model.specs.Lists.{Each}
use Rattle.dp_model.specs.Numbers.{IsFar}
use Rattle.dp_model.specs.Subproblem.{Subproblem, IsOwn, IsChild}
use Rattle.dp_model.proofs.Members.{Each-then, Each-append, each-has, each-of-all, Has-filter-from}
use Rattle.dp_laws.specs.Children.{DifferInPlace}
use Rattle.dp_laws.specs.Pairs.{EachTwo}
use Rattle.fringe.specs.Tickets.{Ticketed}
use Rattle.board_laws.specs.Board.{BoardState, full_slots, frontier, reach, slot_at}
use Rattle.board_laws.specs.Entering.{entering, replaced, is_among, without_all}
use Rattle.board_laws.specs.Fates.{fate_of, fates_on, tickets_after}
use Rattle.board_laws.specs.Finishing.{MayFinish}
use Rattle.board_laws.specs.GoodBoard.{IsBoard}
use Rattle.board_laws.specs.Steps.{finished_by}
use Rattle.board_laws.specs.declared.fate.Fate.{Fate}
use Rattle.board_laws.specs.declared.fate.Fate.TheVariants.{Below, Kept, Dominated, Replaced, Entered}
use Rattle.board_laws.proofs.Fates.{fates-hold, fates-many, kids-each, kids-two, kids-hold}
use Rattle.board_laws.proofs.Frontier.{tickets-flip}
use Rattle.board_laws.proofs.Lists.{each-both, each-front, each-back, two-across}
use Rattle.board_laws.proofs.Slots.{emptied, slot-full}
use Rattle.board_laws.proofs.With.{IsWith, with-right, each-out, two-out, length-with}
use Rattle.journal_bytes.specs.Bodies.{ChildView, Finish}
use Rattle.journal_replay.specs.Replay.{Replayed, listed_at, taken_off, with_children}
use Rattle.journal_replay.specs.Accepting.{MayBranch, MayFollow}
use Rattle.journal_replay.specs.Following.{IsReplayOf, recorded_children}
use Rattle.journal_replay.proofs.Added.{kids_listed, added}
use Rattle.journal_replay.proofs.Entered.{ReplacesOpen, Spares, entering-listed, recorded-replace, recorded-spare}
use Rattle.journal_replay.proofs.Kids.{ReplacesBelow, Stand, stays-found, kids-found, may-add-all}
use Rattle.journal_replay.proofs.Restored.{restores-off, restores-children}
use Rattle.journal_replay.proofs.Tickets.{at-without}

-- the parent of a Finish, the record's children, and the list without the parent
pub record FinishParts (dp : Dp) (s : Replayed) (b : BoardState) (who : ℕ) (cs : List Subproblem) (rs : List ChildView) (parent : Ticketed) : Type 0 where
  pub out : IsWith parent (full_slots (set b.slots who None) ++ b.open_ones) (frontier b)
  pub found : listed_at parent.ticket s.listed ≡ Some parent
  pub same : entering cs (fates_on dp b cs) ≡ kids_listed dp s.next_ticket rs
  pub opens : Each (λ r. ReplacesOpen dp b.open_ones r.decisions r.replaced) rs
  pub kids : Each (λ k. IsChild dp parent.subproblem.decisions k.subproblem × IsFar k.subproblem.bound) (kids_listed dp s.next_ticket rs)
  pub others : Each (λ y. listed_at y.ticket (taken_off parent.ticket s).listed ≡ Some y) (full_slots (set b.slots who None) ++ b.open_ones)

pub finish-parts : (dp : Dp) (s : Replayed) (b : BoardState) (who : ℕ) (threshold : Option ℤ) (cs : List Subproblem) (fs : List Fate) → IsBoard dp b → IsReplayOf dp s b
    → (m : MayFinish dp b who threshold cs fs) → FinishParts dp s b who cs (recorded_children cs (fates_on dp b cs)) m.parent
finish-parts dp s b who threshold cs fs g beside m =
    let o = m.parent in
    let os = b.open_ones in
    let full = full_slots b.slots in
    let rest = full_slots (set b.slots who None) in
    let given = fates_on dp b cs in
    let rs = recorded_children cs given in
    let fates = fates-hold dp (reach b) os b.entries b.next_ticket cs in
    let own = Each-then (IsChild dp o.subproblem.decisions) (IsOwn dp) cs (λ c x. x.own) m.children.own in
    let out = with-right o rest full os (emptied b.slots who o (slot-full (slice_get b.slots who) o m.full)) in
    let found = each-out (λ y. listed_at y.ticket s.listed ≡ Some y) o (rest ++ os) (frontier b) out beside.listed in
    let differ = two-out (λ (a c : Ticketed). a.ticket ≢ c.ticket) tickets-flip o (rest ++ os) (frontier b) out g.tickets.distinct in
    let same = entering-listed dp (reach b) os b.entries b.next_ticket cs given fates own ∙ ap (λ n. kids_listed dp n rs) beside.next_ticket in
    record {
      out = out;
      found = found.0;
      same = same;
      opens = recorded-replace dp (reach b) os b.entries b.next_ticket cs given fates own;
      kids = subst (λ l. Each (λ k. IsChild dp o.subproblem.decisions k.subproblem × IsFar k.subproblem.bound) l) same
          (each-both (λ k. IsChild dp o.subproblem.decisions k.subproblem) (λ k. IsFar k.subproblem.bound) (entering cs given) (kids-each (IsChild dp o.subproblem.decisions) cs given m.children.own) (kids-each (λ c. IsFar c.bound) cs given m.children.far));
      others = Each-then (λ y. (listed_at y.ticket s.listed ≡ Some y) × (o.ticket ≢ y.ticket)) (λ y. listed_at y.ticket (taken_off o.ticket s).listed ≡ Some y) (rest ++ os)
          (λ y x. at-without y.ticket o.ticket s.listed (tickets-flip o y x.1) ∙ x.0)
          (each-both (λ y. listed_at y.ticket s.listed ≡ Some y) (λ y. o.ticket ≢ y.ticket) (rest ++ os) found.1 differ.0);
    }

one-out-there : (b : BoardState) (who : ℕ) (o : Ticketed) → slot_at b who ≡ Some o → 1 ≤ length (full_slots b.slots)
one-out-there b who o full =
    let out = emptied b.slots who o (slot-full (slice_get b.slots who) o full) in
    let long = length-with o (full_slots (set b.slots who None)) (full_slots b.slots) out in
    omega arith

recorded-few : (cs : List Subproblem) (fs : List Fate) → length (recorded_children cs fs) ≤ length cs
recorded-few [] fs = omega arith
recorded-few (c ∷ cs) [] = omega arith
recorded-few (c ∷ cs) (Below ∷ fs) = (let less = recorded-few cs fs in omega arith)
recorded-few (c ∷ cs) (Kept by ∷ fs) = (let less = recorded-few cs fs in omega arith)
recorded-few (c ∷ cs) (Dominated by ∷ fs) = (let less = recorded-few cs fs in omega arith)
recorded-few (c ∷ cs) (Replaced ticket old ∷ fs) = (let less = recorded-few cs fs in omega arith)
recorded-few (c ∷ cs) (Entered ticket ∷ fs) = (let less = recorded-few cs fs in omega arith)

-- where one is out, tickets are left for its children
finish-room : (dp : Dp) (s : Replayed) (b : BoardState) (who : ℕ) (threshold : Option ℤ) (cs : List Subproblem) (fs : List Fate) → IsBoard dp b → IsReplayOf dp s b
    → MayFinish dp b who threshold cs fs → s.next_ticket + length (recorded_children cs (fates_on dp b cs)) ≤ 2 ^ 64 - 1
finish-room dp s b who threshold cs fs g beside m =
    let some = one-out-there b who m.parent m.full in
    let room = g.room some in
    let few = recorded-few cs (fates_on dp b cs) in
    let most = m.children.few in
    let next = beside.next_ticket in
    omega arith

-- the record may follow
pub finish-may : (dp : Dp) (s : Replayed) (b : BoardState) (who : ℕ) (threshold : Option ℤ) (cs : List Subproblem) (fs : List Fate) → IsBoard dp b → IsReplayOf dp s b
    → (m : MayFinish dp b who threshold cs fs) → MayFollow dp s (Finish m.parent.ticket (recorded_children cs (fates_on dp b cs)))
finish-may dp s b who threshold cs fs g beside m =
    let o = m.parent in
    let os = b.open_ones in
    let given = fates_on dp b cs in
    let rs = recorded_children cs given in
    let rest = full_slots (set b.slots who None) in
    let off = taken_off o.ticket s in
    let parts = finish-parts dp s b who threshold cs fs g beside m in
    let P : Ticketed → Type 0 = λ y. listed_at y.ticket off.listed ≡ Some y in
    let open_found = each-back P rest os parts.others in
    let differ = subst (λ l. EachTwo (λ (a k : Ticketed). DifferInPlace a.subproblem k.subproblem) l) parts.same (kids-two DifferInPlace cs given m.children.differ) in
    let stand : Stand os (kids_listed dp s.next_ticket rs) off = λ y in_list one. each-has P os y open_found in_list in (
      finish-room dp s b who threshold cs fs g beside m,
      subst (λ parent. MayBranch dp parent off rs) (sym parts.found) (may-add-all dp o.subproblem.decisions os off rs g.ordered parts.opens parts.kids differ stand),
    )

-- the tickets that are given out
next-many : (dp : Dp) (next : ℕ) (b : BoardState) (cs : List Subproblem) (ks : List Ticketed) → entering cs (fates_on dp b cs) ≡ ks → b.next_ticket ≡ next
    → tickets_after b.next_ticket (fates_on dp b cs) ≡ next + length ks
next-many dp next b cs ks same is =
    let given = fates_on dp b cs in
    let long = fates-many (fate_of dp (reach b) b.open_ones b.entries) b.next_ticket cs in
    let many = (kids-hold dp (reach b) b.open_ones b.entries b.next_ticket cs given long (fates-hold dp (reach b) b.open_ones b.entries b.next_ticket cs)).many in
    let as_many = ap length same in
    omega arith

not-true : (x : Bool) → not x ≡ true → x ≡ false
not-true true h = absurd (cc)
not-true false h = refl

-- what is replaced is opens, and has its own ticket
open-spares : (dp : Dp) (os : List Ticketed) (t : ℕ) (decisions : List ℕ) (replaced : Option ℕ) → Each (λ o. t ≢ o.ticket) os → ReplacesOpen dp os decisions replaced → Spares t replaced
open-spares dp os t decisions None differ opens = tt
open-spares dp os t decisions (Some old) differ like =
    let no = each-has (λ o. t ≢ o.ticket) os like.other differ like.in_list in λ same. no (same ∙ like.ticket_is)

open-below : (dp : Dp) (os : List Ticketed) (next : ℕ) (decisions : List ℕ) (replaced : Option ℕ) → Each (λ o. o.ticket < next) os → ReplacesOpen dp os decisions replaced → ReplacesBelow next replaced
open-below dp os next decisions None given opens = tt
open-below dp os next decisions (Some old) given like =
    let less = each-has (λ o. o.ticket < next) os like.other given like.in_list in let is = like.ticket_is in omega arith

-- the board after the Finish stands beside what is made of its record
pub finish-beside : (dp : Dp) (s : Replayed) (b : BoardState) (who : ℕ) (threshold : Option ℤ) (cs : List Subproblem) (fs : List Fate) → IsBoard dp b → IsReplayOf dp s b
    → (m : MayFinish dp b who threshold cs fs) → IsReplayOf dp (with_children dp (taken_off m.parent.ticket s) (recorded_children cs (fates_on dp b cs))) (finished_by dp b who cs)
finish-beside dp s b who threshold cs fs g beside m =
    let o = m.parent in
    let os = b.open_ones in
    let rest = full_slots (set b.slots who None) in
    let given = fates_on dp b cs in
    let rs = recorded_children cs given in
    let off = taken_off o.ticket s in
    let new = with_children dp off rs in
    let parts = finish-parts dp s b who threshold cs fs g beside m in
    let add = added dp off rs in
    let off_restores = restores-off dp o.ticket s beside.restores in
    let P : Ticketed → Type 0 = λ y. listed_at y.ticket off.listed ≡ Some y in
    let Q : Ticketed → Type 0 = λ y. listed_at y.ticket new.listed ≡ Some y in
    let distinct = (two-out (λ (a c : Ticketed). a.ticket ≢ c.ticket) tickets-flip o (rest ++ os) (frontier b) parts.out g.tickets.distinct).1 in
    let across = two-across (λ (a c : Ticketed). a.ticket ≢ c.ticket) rest os distinct in
    let rest_found : Each Q rest = Each-then (λ y. P y × Each (λ c. y.ticket ≢ c.ticket) os) Q rest
    (λ y x. stays-found dp y.ticket y off rs (Each-then (λ (r : ChildView). ReplacesOpen dp os r.decisions r.replaced) (λ r. Spares y.ticket r.replaced) rs (λ r k. open-spares dp os y.ticket r.decisions r.replaced x.1 k) parts.opens) x.0)
    (each-both P (λ y. Each (λ c. y.ticket ≢ c.ticket) os) rest (each-front P rest os parts.others) across) in
    let open_found = each-back P rest os parts.others in
    let stay_found : Each Q (without_all (replaced given) os) = each-of-all Q (without_all (replaced given) os)
    (λ y in_stay.
    let from = Has-filter-from (λ (q : Ticketed). not (is_among q.ticket (replaced given))) os y in_stay in
    stays-found dp y.ticket y off rs (recorded-spare y.ticket cs given (not-true (is_among y.ticket (replaced given)) from.1)) (each-has P os y open_found from.0)) in
    let below = Each-then (λ (r : ChildView). ReplacesOpen dp os r.decisions r.replaced) (λ r. ReplacesBelow s.next_ticket r.replaced) rs
    (λ r k. open-below dp os s.next_ticket r.decisions r.replaced
    (subst (λ n. Each (λ (y : Ticketed). y.ticket < n) os) beside.next_ticket (each-back (λ (y : Ticketed). y.ticket < b.next_ticket) (full_slots b.slots) os g.tickets.given)) k) parts.opens in
    let kids_found : Each Q (entering cs given) = subst (λ l. Each Q l) (sym parts.same) (kids-found dp s.next_ticket off rs (omega arith) off_restores.given below) in
    record {
      incumbent = beside.incumbent ∙ sym add.incumbent;
      next_ticket = next-many dp s.next_ticket b cs (kids_listed dp s.next_ticket rs) parts.same beside.next_ticket ∙ sym add.next;
      listed = Each-append Q rest (without_all (replaced given) os ++ entering cs given) rest_found (Each-append Q (without_all (replaced given) os) (entering cs given) stay_found kids_found);
      restores = restores-children dp o.subproblem.decisions off rs off_restores parts.kids;
    }
