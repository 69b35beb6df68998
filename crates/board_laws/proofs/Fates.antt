-- What the fates of children say.
use Rattle.std.proofs.Common.{◌≡◌, ℕ, suc, ◌+◌, ◌<◌, ◌≤◌, ℤ, ◌≤ℤ◌, int_le, nat_eq, Bool, true, false, cond, ◌||◌, List, [], ◌∷◌, length, map, filter, Option, Some, None, ◌⊎◌, inl, inr, refl, sym, ◌∙◌, ap, subst, arith}
use Rattle.std.proofs.lemmas.Bool.Decides.{nat_tests}
use Rattle.std.proofs.lemmas.Int.{ints}
use Rattle.dp_model.specs.Dp.{Dp}
use Rattle.dp_model.specs.Lists.{Each, OneOf}
use Rattle.dp_model.specs.Numbers.{is_above}
use Rattle.dp_model.specs.Subproblem.{Subproblem}
use Rattle.dp_model.proofs.Members.{Has, Each-then, each-has}
use Rattle.dp_laws.specs.Pairs.{EachTwo}
use Rattle.fringe.specs.Fringe.{is_same, same_at, same_open}
use Rattle.fringe.specs.Tickets.{Ticketed, IsEarlier}
use Rattle.fringe.proofs.Rows.{same-depth, same-row}
use Rattle.dominance_table.specs.Dominator.{entry_dominates, dominator, least}
use Rattle.dominance_table.specs.Entries.{TableEntry}
use Rattle.board_laws.specs.Entering.{let_in, entering, replaced, is_among}
use Rattle.board_laws.specs.Fates.{enters_at, unless_dominated, unless_kept, fate_of, ticket_after, fates_by, tickets_after}
use Rattle.board_laws.specs.declared.fate.Fate.{Fate}
use Rattle.board_laws.specs.declared.fate.Fate.TheVariants.{Below, Kept, Dominated, Replaced, Entered}

-- an open one of the child's depth and state with no less value
pub record KeepsOut (c : Subproblem) (o : Ticketed) : Type 0 where
  pub same : is_same (length c.decisions) c.row o ≡ true
  pub value : c.value ≤ℤ o.subproblem.value

-- the child enters with its ticket, in the place of an open one of its depth and state
pub record Replaces (reach : Option ℤ) (os : List Ticketed) (ticket : ℕ) (c : Subproblem) (own old : ℕ) : Type 0 where
  pub own_is : own ≡ ticket
  pub above : is_above reach c.bound ≡ true
  pub other : Ticketed
  pub found : same_open c os ≡ Some other
  pub old_is : old ≡ other.ticket
  pub less : int_le c.value other.subproblem.value ≡ false

-- the child enters with its ticket, and no open one has its depth and state
pub record Enters (reach : Option ℤ) (os : List Ticketed) (ticket : ℕ) (c : Subproblem) (own : ℕ) : Type 0 where
  pub own_is : own ≡ ticket
  pub above : is_above reach c.bound ≡ true
  pub none : same_open c os ≡ None

abbrev pub FateHolds : Dp → Option ℤ → List Ticketed → List TableEntry → ℕ → Subproblem → Fate → Type 0
FateHolds dp reach os es ticket c Below = is_above reach c.bound ≡ false
FateHolds dp reach os es ticket c (Kept by) = OneOf (KeepsOut c) os
FateHolds dp reach os es ticket c (Dominated by) = OneOf (λ e. entry_dominates dp (length c.decisions) c.row c.value e ≡ true) es
FateHolds dp reach os es ticket c (Replaced own old) = Replaces reach os ticket c own old
FateHolds dp reach os es ticket c (Entered own) = Enters reach os ticket c own

abbrev pub FatesHold : Dp → Option ℤ → List Ticketed → List TableEntry → ℕ → List Subproblem → List Fate → Type 0
FatesHold dp reach os es ticket [] fs = Unit {0}
FatesHold dp reach os es ticket (c ∷ cs) [] = ⊥
FatesHold dp reach os es ticket (c ∷ cs) (f ∷ fs) = FateHolds dp reach os es ticket c f × FatesHold dp reach os es (ticket_after ticket f) cs fs

-- the one that is found is in the list, and is the same
pub found-one : (depth : ℕ) (row : List ℤ) (os : List Ticketed) (other : Ticketed) → same_at depth row os ≡ Some other → Has other os × (is_same depth row other ≡ true)
found-one depth row [] other h = absurd (cc)
found-one depth row (x ∷ os) other h =
    let go : (b : Bool) → is_same depth row x ≡ b → cond b (Some x) (same_at depth row os) ≡ Some other → Has other (x ∷ os) × (is_same depth row other ≡ true) =
    λ b. elim b as (λ b. is_same depth row x ≡ b → cond b (Some x) (same_at depth row os) ≡ Some other → Has other (x ∷ os) × (is_same depth row other ≡ true)) [
      | true ↦ λ e k. (let same : x ≡ other = cc in (inl same, subst (λ y. is_same depth row y ≡ true) same e))
      | false ↦ λ e k. (let r = found-one depth row os other k in (inr r.0, r.1))
    ] in go (is_same depth row x) refl h

keeps-one : (c : Subproblem) (os : List Ticketed) (o : Ticketed) → Has o os → KeepsOut c o → OneOf (KeepsOut c) os
keeps-one c [] o h k = absurd h
keeps-one c (x ∷ os) o (inl same) k = inl (subst (KeepsOut c) (sym same) k)
keeps-one c (x ∷ os) o (inr h) k = inr (keeps-one c os o h k)

-- where there is a least ticket, there is an entry that dominates
pub dominator-one : (p : TableEntry → Bool) (es : List TableEntry) (by : ℕ) → least (map (λ (e : TableEntry). e.ticket) (filter p es)) ≡ Some by → OneOf (λ e. p e ≡ true) es
dominator-one p [] by h = absurd (cc)
dominator-one p (e ∷ es) by h =
    let go : (b : Bool) → p e ≡ b → least (map (λ (e : TableEntry). e.ticket) (cond b (e ∷ filter p es) (filter p es))) ≡ Some by → OneOf (λ e. p e ≡ true) (e ∷ es) =
    λ b. elim b as (λ b. p e ≡ b → least (map (λ (e : TableEntry). e.ticket) (cond b (e ∷ filter p es) (filter p es))) ≡ Some by → OneOf (λ e. p e ≡ true) (e ∷ es)) [
      | true ↦ λ t k. inl t
      | false ↦ λ t k. inr (dominator-one p es by k)
    ] in go (p e) refl h

pub int-more : (a b : ℤ) → int_le a b ≡ false → b ≤ℤ a
int-more a b h = grind (arith, ints)

pub int-less : (a b : ℤ) → int_le a b ≡ true → a ≤ℤ b
int-less a b h = grind (arith, ints)

above-fate : (dp : Dp) (reach : Option ℤ) (os : List Ticketed) (es : List TableEntry) (ticket : ℕ) (c : Subproblem) → is_above reach c.bound ≡ true
    → (s : Option Ticketed) → same_open c os ≡ s → (d : Option ℕ) → dominator dp es (length c.decisions) c.row c.value ≡ d
    → FateHolds dp reach os es ticket c (unless_kept (unless_dominated (enters_at ticket s) d) c s)
above-fate dp reach os es ticket c up None none None free = record { own_is = refl; above = up; none = none }
above-fate dp reach os es ticket c up None none (Some by) dom = dominator-one (entry_dominates dp (length c.decisions) c.row c.value) es by dom
above-fate dp reach os es ticket c up (Some o) found d dom =
    let fate = unless_dominated (Replaced ticket o.ticket) d in
    let Goal : Bool → Type 0 = λ b. FateHolds dp reach os es ticket c (cond b (Kept o.ticket) fate) in
    let one = found-one (length c.decisions) c.row os o found in
    let go : (b : Bool) → int_le c.value o.subproblem.value ≡ b → Goal b = λ b. elim b as (λ b. int_le c.value o.subproblem.value ≡ b → Goal b) [
      | true ↦ λ e. keeps-one c os o one.0 (record { same = one.1; value = int-less c.value o.subproblem.value e })
      | false ↦ λ e. (let both : (d : Option ℕ) → dominator dp es (length c.decisions) c.row c.value ≡ d → FateHolds dp reach os es ticket c (unless_dominated (Replaced ticket o.ticket) d) =
          λ d. elim d as (λ d. dominator dp es (length c.decisions) c.row c.value ≡ d → FateHolds dp reach os es ticket c (unless_dominated (Replaced ticket o.ticket) d)) [
            | None ↦ λ k. record { own_is = refl; above = up; other = o; found = found; old_is = refl; less = e }
            | Some by ↦ λ k. dominator-one (entry_dominates dp (length c.decisions) c.row c.value) es by k
          ] in both d dom)
    ] in go (int_le c.value o.subproblem.value) refl

pub fate-holds : (dp : Dp) (reach : Option ℤ) (os : List Ticketed) (es : List TableEntry) (ticket : ℕ) (c : Subproblem) → FateHolds dp reach os es ticket c (fate_of dp reach os es ticket c)
fate-holds dp reach os es ticket c =
    let fate = unless_kept (unless_dominated (enters_at ticket (same_open c os)) (dominator dp es (length c.decisions) c.row c.value)) c (same_open c os) in
    let go : (b : Bool) → is_above reach c.bound ≡ b → FateHolds dp reach os es ticket c (cond b fate Below) =
    λ b. elim b as (λ b. is_above reach c.bound ≡ b → FateHolds dp reach os es ticket c (cond b fate Below)) [
      | true ↦ λ e. above-fate dp reach os es ticket c e (same_open c os) refl (dominator dp es (length c.decisions) c.row c.value) refl
      | false ↦ λ e. e
    ] in go (is_above reach c.bound) refl

pub fates-hold : (dp : Dp) (reach : Option ℤ) (os : List Ticketed) (es : List TableEntry) (ticket : ℕ) (cs : List Subproblem) → FatesHold dp reach os es ticket cs (fates_by (fate_of dp reach os es) ticket cs)
fates-hold dp reach os es ticket [] = tt
fates-hold dp reach os es ticket (c ∷ cs) = (fate-holds dp reach os es ticket c, fates-hold dp reach os es (ticket_after ticket (fate_of dp reach os es ticket c)) cs)

-- The children that enter.

let-in : (Q : List Ticketed → Type 0) (c : Subproblem) (os : List Ticketed) → Q os → ((t : ℕ) → Q (record { ticket = t; subproblem = c } ∷ os)) → (f : Fate) → Q (let_in c f os)
let-in Q c os stay more Below = stay
let-in Q c os stay more (Kept by) = stay
let-in Q c os stay more (Dominated by) = stay
let-in Q c os stay more (Replaced own old) = more own
let-in Q c os stay more (Entered own) = more own

pub kids-each : (P : Subproblem → Type 0) (cs : List Subproblem) (fs : List Fate) → Each P cs → Each (λ o. P o.subproblem) (entering cs fs)
kids-each P [] fs h = tt
kids-each P (c ∷ cs) [] h = tt
kids-each P (c ∷ cs) (f ∷ fs) h =
    let rest = kids-each P cs fs h.1 in let-in (λ os. Each (λ o. P o.subproblem) os) c (entering cs fs) rest (λ t. (h.0, rest)) f

pub kids-two : (R : Subproblem → Subproblem → Type 0) (cs : List Subproblem) (fs : List Fate) → EachTwo R cs → EachTwo (λ a o. R a.subproblem o.subproblem) (entering cs fs)
kids-two R [] fs h = tt
kids-two R (c ∷ cs) [] h = tt
kids-two R (c ∷ cs) (f ∷ fs) h =
    let rest = kids-two R cs fs h.1 in let-in (λ os. EachTwo (λ a o. R a.subproblem o.subproblem) os) c (entering cs fs) rest (λ t. (kids-each (R c) cs fs h.0, rest)) f

-- tickets are given out from one number to the next
pub record KidsHold (ticket next most : ℕ) (os : List Ticketed) : Type 0 where
  pub from : Each (λ o. ticket ≤ o.ticket) os
  pub given : Each (λ o. o.ticket < next) os
  pub ordered : EachTwo IsEarlier os
  pub many : next ≡ ticket + length os
  pub few : length os ≤ most

kids-stay : (ticket next most : ℕ) (os : List Ticketed) → KidsHold ticket next most os → KidsHold ticket next (suc most) os
kids-stay ticket next most os h = record { from = h.from; given = h.given; ordered = h.ordered; many = h.many; few = (let few = h.few in omega arith) }

kids-more : (ticket next most own : ℕ) (c : Subproblem) (os : List Ticketed) → own ≡ ticket → KidsHold (ticket + 1) next most os → KidsHold ticket next (suc most) (record { ticket = own; subproblem = c } ∷ os)
kids-more ticket next most own c os is h = record {
  from = (omega arith, Each-then (λ (o : Ticketed). ticket + 1 ≤ o.ticket) (λ o. ticket ≤ o.ticket) os (λ o k. omega arith) h.from);
  given = (let many = h.many in omega arith, h.given);
  ordered = (Each-then (λ (o : Ticketed). ticket + 1 ≤ o.ticket) (λ o. own < o.ticket) os (λ o k. omega arith) h.from, h.ordered);
  many = (let many = h.many in omega arith);
  few = (let few = h.few in omega arith);
}

pub kids-hold : (dp : Dp) (reach : Option ℤ) (os : List Ticketed) (es : List TableEntry) (ticket : ℕ) (cs : List Subproblem) (fs : List Fate) → length fs ≡ length cs → FatesHold dp reach os es ticket cs fs
    → KidsHold ticket (tickets_after ticket fs) (length cs) (entering cs fs)
kids-hold dp reach os es ticket [] [] long h = record { from = tt; given = tt; ordered = tt; many = omega arith; few = omega arith }
kids-hold dp reach os es ticket [] (f ∷ fs) long h = absurd (omega arith)
kids-hold dp reach os es ticket (c ∷ cs) [] long h = absurd h
kids-hold dp reach os es ticket (c ∷ cs) (Below ∷ fs) long h = kids-stay ticket (tickets_after ticket fs) (length cs) (entering cs fs) (kids-hold dp reach os es ticket cs fs (omega arith) h.1)
kids-hold dp reach os es ticket (c ∷ cs) (Kept by ∷ fs) long h = kids-stay ticket (tickets_after ticket fs) (length cs) (entering cs fs) (kids-hold dp reach os es ticket cs fs (omega arith) h.1)
kids-hold dp reach os es ticket (c ∷ cs) (Dominated by ∷ fs) long h = kids-stay ticket (tickets_after ticket fs) (length cs) (entering cs fs) (kids-hold dp reach os es ticket cs fs (omega arith) h.1)
kids-hold dp reach os es ticket (c ∷ cs) (Replaced own old ∷ fs) long h =
    kids-more ticket (tickets_after (ticket + 1) fs) (length cs) own c (entering cs fs) h.0.own_is (kids-hold dp reach os es (ticket + 1) cs fs (omega arith) h.1)
kids-hold dp reach os es ticket (c ∷ cs) (Entered own ∷ fs) long h =
    kids-more ticket (tickets_after (ticket + 1) fs) (length cs) own c (entering cs fs) h.0.own_is (kids-hold dp reach os es (ticket + 1) cs fs (omega arith) h.1)

-- what does not enter
abbrev pub IsLeftOut : Dp → Option ℤ → List Ticketed → List TableEntry → Subproblem → Type 0
IsLeftOut dp reach os es c = (is_above reach c.bound ≡ false) ⊎ (OneOf (KeepsOut c) os ⊎ OneOf (λ e. entry_dominates dp (length c.decisions) c.row c.value e ≡ true) es)

-- one of the children enters, or it is left out for a reason
pub kids-one : (P : Subproblem → Type 0) (dp : Dp) (reach : Option ℤ) (os : List Ticketed) (es : List TableEntry) (ticket : ℕ) (cs : List Subproblem) (fs : List Fate) → FatesHold dp reach os es ticket cs fs → OneOf P cs
    → OneOf (λ o. P o.subproblem) (entering cs fs) ⊎ OneOf (λ c. P c × IsLeftOut dp reach os es c) cs
kids-one P dp reach os es ticket [] fs h one = absurd one
kids-one P dp reach os es ticket (c ∷ cs) [] h one = absurd h
kids-one P dp reach os es ticket (c ∷ cs) (Below ∷ fs) h (inl here) = inr (inl (here, inl h.0))
kids-one P dp reach os es ticket (c ∷ cs) (Kept by ∷ fs) h (inl here) = inr (inl (here, inr (inl h.0)))
kids-one P dp reach os es ticket (c ∷ cs) (Dominated by ∷ fs) h (inl here) = inr (inl (here, inr (inr h.0)))
kids-one P dp reach os es ticket (c ∷ cs) (Replaced own old ∷ fs) h (inl here) = inl (inl here)
kids-one P dp reach os es ticket (c ∷ cs) (Entered own ∷ fs) h (inl here) = inl (inl here)
kids-one P dp reach os es ticket (c ∷ cs) (f ∷ fs) h (inr there) =
    elim (kids-one P dp reach os es (ticket_after ticket f) cs fs h.1 there) as (λ _. OneOf (λ o. P o.subproblem) (let_in c f (entering cs fs)) ⊎ OneOf (λ c. P c × IsLeftOut dp reach os es c) (c ∷ cs)) [
      | inl a ↦ inl (let-in (λ l. OneOf (λ o. P o.subproblem) l) c (entering cs fs) a (λ t. inr a) f)
      | inr b ↦ inr (inr b)
    ]

-- What is replaced.

-- a child that entered has the depth and state of an open one, and no less value
pub record Beats (o k : Ticketed) : Type 0 where
  pub depth : length k.subproblem.decisions ≡ length o.subproblem.decisions
  pub row : k.subproblem.row ≡ o.subproblem.row
  pub value : o.subproblem.value ≤ℤ k.subproblem.value

-- where tickets rise, two of one ticket are one
pub same-ticket : (os : List Ticketed) (a b : Ticketed) → EachTwo IsEarlier os → Has a os → Has b os → a.ticket ≡ b.ticket → a ≡ b
same-ticket [] a b rise h k same = absurd h
same-ticket (x ∷ os) a b rise (inl h) (inl k) same = sym h ∙ k
same-ticket (x ∷ os) a b rise (inl h) (inr k) same =
    let less : x.ticket < b.ticket = each-has (IsEarlier x) os b rise.0 k in let here : x.ticket ≡ a.ticket = ap (λ (o : Ticketed). o.ticket) h in absurd (omega arith)
same-ticket (x ∷ os) a b rise (inr h) (inl k) same =
    let less : x.ticket < a.ticket = each-has (IsEarlier x) os a rise.0 h in let here : x.ticket ≡ b.ticket = ap (λ (o : Ticketed). o.ticket) k in absurd (omega arith)
same-ticket (x ∷ os) a b rise (inr h) (inr k) same = same-ticket os a b rise.1 h k same

beats : (reach : Option ℤ) (os : List Ticketed) (ticket : ℕ) (c : Subproblem) (own old : ℕ) (o : Ticketed) → Replaces reach os ticket c own old → Has o os → EachTwo IsEarlier os → o.ticket ≡ old
    → Beats o (record { ticket = own; subproblem = c })
beats reach os ticket c own old o r in_list rise is =
    let one = found-one (length c.decisions) c.row os r.other r.found in
    let same = same-ticket os o r.other rise in_list one.0 (is ∙ r.old_is) in
    subst (λ x. Beats x (record { ticket = own; subproblem = c })) (sym same)
    (record { depth = same-depth (length c.decisions) c.row r.other one.1; row = same-row (length c.decisions) c.row r.other one.1; value = int-more c.value r.other.subproblem.value r.less })

-- an open one stays, or a child beats it
pub stays-or-beaten : (dp : Dp) (reach : Option ℤ) (os : List Ticketed) (es : List TableEntry) (ticket : ℕ) (cs : List Subproblem) (fs : List Fate) (o : Ticketed) → length fs ≡ length cs → FatesHold dp reach os es ticket cs fs
    → Has o os → EachTwo IsEarlier os → (is_among o.ticket (replaced fs) ≡ false) ⊎ OneOf (Beats o) (entering cs fs)
stays-or-beaten dp reach os es ticket [] [] o long h in_list rise = inl refl
stays-or-beaten dp reach os es ticket [] (f ∷ fs) o long h in_list rise = absurd (omega arith)
stays-or-beaten dp reach os es ticket (c ∷ cs) [] o long h in_list rise = absurd h
stays-or-beaten dp reach os es ticket (c ∷ cs) (Below ∷ fs) o long h in_list rise = stays-or-beaten dp reach os es ticket cs fs o (omega arith) h.1 in_list rise
stays-or-beaten dp reach os es ticket (c ∷ cs) (Kept by ∷ fs) o long h in_list rise = stays-or-beaten dp reach os es ticket cs fs o (omega arith) h.1 in_list rise
stays-or-beaten dp reach os es ticket (c ∷ cs) (Dominated by ∷ fs) o long h in_list rise = stays-or-beaten dp reach os es ticket cs fs o (omega arith) h.1 in_list rise
stays-or-beaten dp reach os es ticket (c ∷ cs) (Entered own ∷ fs) o long h in_list rise =
    elim (stays-or-beaten dp reach os es (ticket + 1) cs fs o (omega arith) h.1 in_list rise) as (λ _. (is_among o.ticket (replaced fs) ≡ false) ⊎ OneOf (Beats o) (record { ticket = own; subproblem = c } ∷ entering cs fs)) [ inl a ↦ inl a | inr b ↦ inr (inr b) ]
stays-or-beaten dp reach os es ticket (c ∷ cs) (Replaced own old ∷ fs) o long h in_list rise =
    let kid : Ticketed = record { ticket = own; subproblem = c } in
    let Goal : Bool → Type 0 = λ b. ((b || is_among o.ticket (replaced fs)) ≡ false) ⊎ OneOf (Beats o) (kid ∷ entering cs fs) in
    let go : (b : Bool) → nat_eq o.ticket old ≡ b → Goal b = λ b. elim b as (λ b. nat_eq o.ticket old ≡ b → Goal b) [
      | true ↦ λ e. inr (inl (beats reach os ticket c own old o h.0 in_list rise (let same : o.ticket ≡ old = grind (arith, nat_tests) in same)))
      | false ↦ λ e. elim (stays-or-beaten dp reach os es (ticket + 1) cs fs o (omega arith) h.1 in_list rise) as (λ _. Goal false) [ inl a ↦ inl a | inr b ↦ inr (inr b) ]
    ] in go (nat_eq o.ticket old) refl

pub fates-many : (decide : ℕ → Subproblem → Fate) (ticket : ℕ) (cs : List Subproblem) → length (fates_by decide ticket cs) ≡ length cs
fates-many decide ticket [] = refl
fates-many decide ticket (c ∷ cs) = let rest = fates-many decide (ticket_after ticket (decide ticket c)) cs in omega arith
