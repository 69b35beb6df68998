-- Children that enter differ from the open ones that stay, and are above the reach.
use Rattle.std.proofs.Common.{◌≡◌, ℕ, ◌+◌, ℤ, nat_eq, Bool, true, false, not, ◌||◌, List, [], ◌∷◌, length, Option, refl, ap, subst, IsTrue}
use Rattle.dp_model.specs.Dp.{Dp}
use Rattle.dp_model.specs.Lists.{Each}
use Rattle.dp_model.specs.Numbers.{is_above}
use Rattle.dp_model.specs.Subproblem.{Subproblem}
use Rattle.dp_model.proofs.Members.{Has, each-has, each-of-all, Has-filter, Has-filter-from}
use Rattle.dp_laws.specs.Pairs.{EachTwo}
use Rattle.fringe.specs.Fringe.{is_same, AreDifferent}
use Rattle.fringe.specs.Tickets.{Ticketed, IsEarlier, without}
use Rattle.fringe.proofs.Rows.{same-none, same-others, different-turned}
use Rattle.dominance_table.specs.Entries.{TableEntry}
use Rattle.board_laws.proofs.Fates.{FatesHold, Replaces}
use Rattle.board_laws.specs.Entering.{entering, replaced, is_among, without_all}
use Rattle.board_laws.specs.declared.fate.Fate.{Fate}
use Rattle.board_laws.specs.declared.fate.Fate.TheVariants.{Below, Kept, Dominated, Replaced, Entered}

pub or-parts : (x y : Bool) → (x || y) ≡ false → (x ≡ false) × (y ≡ false)
or-parts true y h = absurd (cc)
or-parts false y h = (refl, h)

pub kids-above : (dp : Dp) (reach : Option ℤ) (os : List Ticketed) (es : List TableEntry) (ticket : ℕ) (cs : List Subproblem) (fs : List Fate) → FatesHold dp reach os es ticket cs fs
    → Each (λ o. IsTrue (is_above reach o.subproblem.bound)) (entering cs fs)
kids-above dp reach os es ticket [] fs h = tt
kids-above dp reach os es ticket (c ∷ cs) [] h = tt
kids-above dp reach os es ticket (c ∷ cs) (Below ∷ fs) h = kids-above dp reach os es ticket cs fs h.1
kids-above dp reach os es ticket (c ∷ cs) (Kept by ∷ fs) h = kids-above dp reach os es ticket cs fs h.1
kids-above dp reach os es ticket (c ∷ cs) (Dominated by ∷ fs) h = kids-above dp reach os es ticket cs fs h.1
kids-above dp reach os es ticket (c ∷ cs) (Replaced own old ∷ fs) h = (h.0.above, kids-above dp reach os es (ticket + 1) cs fs h.1)
kids-above dp reach os es ticket (c ∷ cs) (Entered own ∷ fs) h = (h.0.above, kids-above dp reach os es (ticket + 1) cs fs h.1)

-- an open one is not that which is replaced
not-replaced : (reach : Option ℤ) (os : List Ticketed) (ticket : ℕ) (c : Subproblem) (own old : ℕ) (o : Ticketed) → Replaces reach os ticket c own old → Has o os → EachTwo IsEarlier os → EachTwo AreDifferent os
    → nat_eq o.ticket old ≡ false → is_same (length c.decisions) c.row o ≡ false
not-replaced reach os ticket c own old o r in_list rise two other =
    let there : nat_eq o.ticket r.other.ticket ≡ false = subst (λ t. nat_eq o.ticket t ≡ false) r.old_is other in
    each-has (λ q. is_same (length c.decisions) c.row q ≡ false) (without r.other.ticket os) o (same-others (length c.decisions) c.row os r.other r.found rise two)
    (Has-filter (λ (q : Ticketed). not (nat_eq q.ticket r.other.ticket)) os o in_list (ap not there))

kids-differ-from : (dp : Dp) (reach : Option ℤ) (os : List Ticketed) (es : List TableEntry) (ticket : ℕ) (cs : List Subproblem) (fs : List Fate) (o : Ticketed) → FatesHold dp reach os es ticket cs fs
    → Has o os → EachTwo IsEarlier os → EachTwo AreDifferent os → is_among o.ticket (replaced fs) ≡ false → Each (λ k. AreDifferent k o) (entering cs fs)
kids-differ-from dp reach os es ticket [] fs o h in_list rise two stays = tt
kids-differ-from dp reach os es ticket (c ∷ cs) [] o h in_list rise two stays = tt
kids-differ-from dp reach os es ticket (c ∷ cs) (Below ∷ fs) o h in_list rise two stays = kids-differ-from dp reach os es ticket cs fs o h.1 in_list rise two stays
kids-differ-from dp reach os es ticket (c ∷ cs) (Kept by ∷ fs) o h in_list rise two stays = kids-differ-from dp reach os es ticket cs fs o h.1 in_list rise two stays
kids-differ-from dp reach os es ticket (c ∷ cs) (Dominated by ∷ fs) o h in_list rise two stays = kids-differ-from dp reach os es ticket cs fs o h.1 in_list rise two stays
kids-differ-from dp reach os es ticket (c ∷ cs) (Replaced own old ∷ fs) o h in_list rise two stays =
    let parts = or-parts (nat_eq o.ticket old) (is_among o.ticket (replaced fs)) stays in
    (not-replaced reach os ticket c own old o h.0 in_list rise two parts.0, kids-differ-from dp reach os es (ticket + 1) cs fs o h.1 in_list rise two parts.1)
kids-differ-from dp reach os es ticket (c ∷ cs) (Entered own ∷ fs) o h in_list rise two stays =
    (each-has (λ q. is_same (length c.decisions) c.row q ≡ false) os o (same-none (length c.decisions) c.row os h.0.none) in_list, kids-differ-from dp reach os es (ticket + 1) cs fs o h.1 in_list rise two stays)

not-true : (b : Bool) → not b ≡ true → b ≡ false
not-true true h = absurd (cc)
not-true false h = refl

pub kids-differ : (dp : Dp) (reach : Option ℤ) (os : List Ticketed) (es : List TableEntry) (ticket : ℕ) (cs : List Subproblem) (fs : List Fate) → FatesHold dp reach os es ticket cs fs
    → EachTwo IsEarlier os → EachTwo AreDifferent os → Each (λ o. Each (AreDifferent o) (entering cs fs)) (without_all (replaced fs) os)
kids-differ dp reach os es ticket cs fs h rise two =
    each-of-all (λ o. Each (AreDifferent o) (entering cs fs)) (without_all (replaced fs) os)
    (λ o in_stay.
    let r = Has-filter-from (λ (q : Ticketed). not (is_among q.ticket (replaced fs))) os o in_stay in
    let from = kids-differ-from dp reach os es ticket cs fs o h r.0 rise two (not-true (is_among o.ticket (replaced fs)) r.1) in
    each-of-all (AreDifferent o) (entering cs fs) (λ k in_new. different-turned k o (each-has (λ k. AreDifferent k o) (entering cs fs) k from in_new)))
