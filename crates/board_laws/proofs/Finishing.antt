-- Finish carries what the frontier reaches, though the slot's prefix and replaced ones go.
use Rattle.std.proofs.Common.{◌≡◌, ℕ, ◌≤◌, ℤ, ◌+ℤ◌, ◌≤ℤ◌, nat_eq, true, false, cond, not, ◌&&◌, List, [], ◌∷◌, ◌++◌, length, map, Option, Some, None, ◌⊎◌, inl, inr, refl, sym, ◌∙◌, ap, subst, arith}
use Rattle.std.proofs.lemmas.Bool.{and_parts}
use Rattle.std.proofs.lemmas.Bool.Decides.{nat_tests}
use Rattle.std.proofs.lemmas.Int.{ints}
use Rattle.dp_model.specs.Cover.{IsHeld}
use Rattle.dp_model.specs.Dp.{Dp}
use Rattle.dp_model.specs.Gaps.{IsStateOf, covers_at}
use Rattle.dp_model.specs.Laws.{IsLawful}
use Rattle.dp_model.specs.Lists.{Each, OneOf}
use Rattle.dp_model.specs.Numbers.{AtMost}
use Rattle.dp_model.specs.Prefixes.{IsCompletion, IsMatched, Reaches, value_of, state_of}
use Rattle.dp_model.specs.Subproblem.{Subproblem, IsOwn, IsChild}
use Rattle.dp_model.proofs.Members.{Each-then, Each-append, Each-map, each-has, each-of-all, one-of-has, Has-filter, Has-append-right}
use Rattle.dp_laws.specs.Pairs.{EachTwo}
use Rattle.fringe.specs.Tickets.{Ticketed, IsEarlier}
use Rattle.fringe.proofs.Rows.{same-depth, same-row}
use Rattle.dominance_table.specs.Dominator.{entry_dominates}
use Rattle.dominance_table.specs.Entries.{TableEntry}
use Rattle.board_laws.proofs.Carrying.{Deep, CarriesBy, carries-from, own-floor, option-self}
use Rattle.board_laws.proofs.Fates.{KeepsOut, FatesHold, IsLeftOut, kids-one, kids-each, Beats, stays-or-beaten}
use Rattle.board_laws.proofs.Frontier.{not-above}
use Rattle.board_laws.proofs.Lists.{one-map, one-left, one-right, one-each, one-out, each-back, each-both}
use Rattle.board_laws.proofs.With.{IsWith, with-right, one-out_of}
use Rattle.board_laws.specs.Board.{prefixes}
use Rattle.board_laws.specs.Entering.{entering, replaced, is_among, without_all, entry_of, put_all}
use Rattle.dp_laws.specs.Floors.{ReachesBelow, IsFloor}
use Rattle.dp_laws.proofs.Reaches.{at-most-then, deep-less, floor-carried, floors-match, one-then, same-state-matches}
use Rattle.board_laws.specs.GoodBoard.{IsEntry, HasFloor}
use Rattle.board_laws.specs.declared.fate.Fate.{Fate}
use Rattle.dp_laws.proofs.Restricted.Covering.{one-cases, one-member}

-- what reaches a value goes on to what beats it
pub beats-deep : (dp : Dp) → IsLawful dp → (k : ℕ) (v : ℤ) (o q : Ticketed) → IsOwn dp o.subproblem → IsOwn dp q.subproblem → Beats o q → Deep dp k v o → Deep dp k v q
beats-deep dp laws k v o q own own_q b d =
    let level = b.depth in
    let here = own.value in let there = own_q.value in let less = b.value in
    let state : state_of dp q.subproblem.decisions ≡ state_of dp o.subproblem.decisions = sym own_q.row ∙ (b.row ∙ own.row) in
    let m = same-state-matches dp laws q.subproblem.decisions o.subproblem.decisions own_q.prefix own.prefix level state (omega (arith, ints)) d.reaches.by d.reaches.completion in
    let deep = d.deep in let first = d.reaches.least in let second = m.least in
    record { deep = omega arith; reaches = record { by = m.by; completion = m.completion; least = omega (arith, ints) } }

-- one that keeps a child out beats it
keeps-beats : (c : Subproblem) (q : Ticketed) → KeepsOut c q → Beats (record { ticket = 0; subproblem = c }) q
keeps-beats c q k = record { depth = sym (same-depth (length c.decisions) c.row q k.same); row = sym (same-row (length c.decisions) c.row q k.same); value = k.value }

-- what reaches a value, and whose held bound is at most the reach, reaches no more than it
pub reaches-low : (dp : Dp) (reach : Option ℤ) (v : ℤ) (p : List ℕ) (bound : ℤ) → Reaches dp v p → IsHeld dp reach p bound → AtMost bound reach → AtMost v reach
reaches-low dp reach v p bound r held low =
    elim (held r.by r.completion) as (λ _. AtMost v reach) [
      | inl le ↦ at-most-then v bound reach (let least = r.least in omega (arith, ints)) low
      | inr most ↦ at-most-then v (value_of dp r.by) reach r.least most
    ]

covers-some : (g : Option ℤ) (above number : ℤ) → covers_at g above number ≡ true → (h : ℤ) × (g ≡ Some h) × ((number +ℤ h) ≤ℤ above)
covers-some None above number h = absurd (cc)
covers-some (Some g) above number h = (g, refl, (let le : (number +ℤ g) ≤ℤ above = grind (arith, ints) in le))

same-number : (a b : ℕ) → nat_eq a b ≡ true → a ≡ b
same-number a b h = grind (arith, nat_tests)

-- The frontier before and after, without the slot's prefix before.

-- an open one goes on, or what replaces it
open-carries : (dp : Dp) → IsLawful dp → (reach : Option ℤ) (os : List Ticketed) (es : List TableEntry) (ticket : ℕ) (cs : List Subproblem) (fs : List Fate) → length fs ≡ length cs → FatesHold dp reach os es ticket cs fs
    → EachTwo IsEarlier os → Each (λ o. IsOwn dp o.subproblem) os → Each (IsOwn dp) cs
    → (k : ℕ) (v : ℤ) → OneOf (Deep dp k v) os → OneOf (Deep dp k v) (without_all (replaced fs) os ++ entering cs fs)
open-carries dp laws reach os es ticket cs fs long h rise own kids k v one =
    let r = one-member (Deep dp k v) os one in
    let o = r.0 in
    let stay = without_all (replaced fs) os in
    let new = entering cs fs in
    let own_new = kids-each (IsOwn dp) cs fs kids in
    elim (stays-or-beaten dp reach os es ticket cs fs o long h r.1 rise) as (λ _. OneOf (Deep dp k v) (stay ++ new)) [
      | inl e ↦ one-left (Deep dp k v) stay new (one-of-has (Deep dp k v) stay o r.2 (Has-filter (λ (o : Ticketed). not (is_among o.ticket (replaced fs))) os o r.1 (ap not e)))
      | inr b ↦ one-right (Deep dp k v) stay new
          (one-then (λ q. Beats o q × IsOwn dp q.subproblem) (Deep dp k v) (λ q x. beats-deep dp laws k v o q (each-has (λ (o : Ticketed). IsOwn dp o.subproblem) os o own r.1) x.1 x.0 r.2) new
          (one-each (Beats o) (λ q. IsOwn dp q.subproblem) new b own_new))
    ]

-- what is given to a Finish, over lists
pub record IsFinish (dp : Dp) (reach : Option ℤ) (o : Ticketed) (full rest os : List Ticketed) (es : List TableEntry) (ticket : ℕ) (cs : List Subproblem) (fs : List Fate) : Type 0 where
  pub out : IsWith o rest full
  pub own : Each (λ o. IsOwn dp o.subproblem) (full ++ os)
  pub rise : EachTwo IsEarlier os
  pub entries : Each (IsEntry dp ticket) es
  pub floors : Each (HasFloor dp reach (full ++ os)) es
  pub own_kids : Each (IsChild dp o.subproblem.decisions) cs
  pub held_kids : Each (λ c. IsHeld dp reach c.decisions c.bound) cs
  pub matched : (x : List ℕ) → IsCompletion dp o.subproblem.decisions x → AtMost (value_of dp x) reach ⊎ OneOf (IsMatched dp x) (map (λ c. c.decisions) cs)
  pub long : length fs ≡ length cs
  pub fates : FatesHold dp reach os es ticket cs fs

abbrev pub after : List Ticketed → List Ticketed → List Subproblem → List Fate → List Ticketed
after rest os cs fs = rest ++ (without_all (replaced fs) os ++ entering cs fs)

rest-carries : (dp : Dp) → IsLawful dp → (reach : Option ℤ) (o : Ticketed) (full rest os : List Ticketed) (es : List TableEntry) (ticket : ℕ) (cs : List Subproblem) (fs : List Fate)
    → IsFinish dp reach o full rest os es ticket cs fs → (k : ℕ) (v : ℤ) → OneOf (Deep dp k v) (rest ++ os) → OneOf (Deep dp k v) (after rest os cs fs)
rest-carries dp laws reach o full rest os es ticket cs fs f k v one =
    let kids = Each-then (IsChild dp o.subproblem.decisions) (IsOwn dp) cs (λ c x. x.own) f.own_kids in
    let tail = without_all (replaced fs) os ++ entering cs fs in
    elim (one-cases (Deep dp k v) rest os one) as (λ _. OneOf (Deep dp k v) (after rest os cs fs)) [
      | inl a ↦ one-left (Deep dp k v) rest tail a
      | inr b ↦ one-right (Deep dp k v) rest tail (open-carries dp laws reach os es ticket cs fs f.long f.fates f.rise (each-back (λ (o : Ticketed). IsOwn dp o.subproblem) full os f.own) kids k v b)
    ]

-- a child that an entry dominates: the floor leads to something of the frontier that is as deep as the child, so not to the slot's prefix
dominated-carries : (dp : Dp) → IsLawful dp → (reach : Option ℤ) (o : Ticketed) (full rest os : List Ticketed) (es : List TableEntry) (ticket : ℕ) (cs : List Subproblem) (fs : List Fate)
    → IsFinish dp reach o full rest os es ticket cs fs → (c : Subproblem) (e : TableEntry) → IsChild dp o.subproblem.decisions c → IsEntry dp ticket e → HasFloor dp reach (full ++ os) e → entry_dominates dp (length c.decisions) c.row c.value e ≡ true
    → (k : ℕ) (v : ℤ) → k ≤ length c.decisions → Reaches dp v c.decisions → AtMost v reach ⊎ OneOf (Deep dp k v) (after rest os cs fs)
dominated-carries dp laws reach o full rest os es ticket cs fs f c e child entry floor dom k v less r =
    let first = and_parts (nat_eq e.depth (length c.decisions)) (nat_eq e.bucket (dp.bucket (length c.decisions) c.row) && covers_at (dp.gap (length c.decisions) e.row c.row) e.value c.value) dom in
    let second = and_parts (nat_eq e.bucket (dp.bucket (length c.decisions) c.row)) (covers_at (dp.gap (length c.decisions) e.row c.row) e.value c.value) first.1 in
    let level : e.depth ≡ length c.decisions = same-number e.depth (length c.decisions) first.0 in
    let lift = covers-some (dp.gap (length c.decisions) e.row c.row) e.value c.value second.1 in
    let P = prefixes (full ++ os) in
    let x = r.by in
    let w = value_of dp r.by in
    let own_row = child.own.row in
    let own_value = child.own.value in
    let within = lift.2 in
    let gap : dp.gap (length c.decisions) e.row (state_of dp c.decisions) ≡ Some lift.0 = subst (λ s. dp.gap (length c.decisions) e.row s ≡ Some lift.0) own_row lift.1 in
    let Answer : Type 0 = AtMost v reach ⊎ OneOf (Deep dp k v) (after rest os cs fs) in
    let least = r.least in
    elim (floors-match dp laws reach P e.row e.value lift.0 c.decisions child.own.prefix (subst (λ n. IsStateOf dp n e.row) level entry.state)
    (subst (λ n. IsFloor dp reach P n e.row e.value) level floor) gap (omega (arith, ints)) x r.completion) as (λ _. Answer) [
      | inl low ↦ inl (at-most-then v w reach least low)
      | inr one ↦ elim (one-out_of (Deep dp (length c.decisions) w) o (rest ++ os) (full ++ os) (with-right o rest full os f.out) (one-map (λ (q : Ticketed). q.subproblem.decisions) (ReachesBelow dp (length c.decisions) w) (full ++ os) one)) as (λ _. Answer) [
        | inl parent ↦ (let deep = parent.deep in let deeper = child.deeper in absurd (omega arith))
        | inr other ↦ inr (one-then (Deep dp (length c.decisions) w) (Deep dp k v) (λ q d. deep-less dp k (length c.decisions) v w q.subproblem.decisions less least d) (after rest os cs fs)
            (rest-carries dp laws reach o full rest os es ticket cs fs f (length c.decisions) w other))
      ]
    ]

-- a child that is left out
left-carries : (dp : Dp) → IsLawful dp → (reach : Option ℤ) (o : Ticketed) (full rest os : List Ticketed) (es : List TableEntry) (ticket : ℕ) (cs : List Subproblem) (fs : List Fate)
    → IsFinish dp reach o full rest os es ticket cs fs → (c : Subproblem) → IsChild dp o.subproblem.decisions c → IsHeld dp reach c.decisions c.bound → IsLeftOut dp reach os es c
    → (k : ℕ) (v : ℤ) → k ≤ length c.decisions → Reaches dp v c.decisions → AtMost v reach ⊎ OneOf (Deep dp k v) (after rest os cs fs)
left-carries dp laws reach o full rest os es ticket cs fs f c child held (inl low) k v less r = inl (reaches-low dp reach v c.decisions c.bound r held (not-above reach c.bound low))
left-carries dp laws reach o full rest os es ticket cs fs f c child held (inr (inl kept)) k v less r =
    let me : Ticketed = record { ticket = 0; subproblem = c } in
    inr (rest-carries dp laws reach o full rest os es ticket cs fs f k v (one-right (Deep dp k v) rest os
    (one-then (λ q. KeepsOut c q × IsOwn dp q.subproblem) (Deep dp k v) (λ q x. beats-deep dp laws k v me q child.own x.1 (keeps-beats c q x.0) (record { deep = less; reaches = r })) os
    (one-each (KeepsOut c) (λ q. IsOwn dp q.subproblem) os kept (each-back (λ (o : Ticketed). IsOwn dp o.subproblem) full os f.own)))))
left-carries dp laws reach o full rest os es ticket cs fs f c child held (inr (inr dom)) k v less r =
    one-out (λ e. (entry_dominates dp (length c.decisions) c.row c.value e ≡ true) × (IsEntry dp ticket e × HasFloor dp reach (full ++ os) e)) (AtMost v reach ⊎ OneOf (Deep dp k v) (after rest os cs fs))
    (λ e x. dominated-carries dp laws reach o full rest os es ticket cs fs f c e child x.1.0 x.1.1 x.0 k v less r) es
    (one-each (λ e. entry_dominates dp (length c.decisions) c.row c.value e ≡ true) (λ e. IsEntry dp ticket e × HasFloor dp reach (full ++ os) e) es dom (each-both (IsEntry dp ticket) (HasFloor dp reach (full ++ os)) es f.entries f.floors))

-- what the slot's prefix reaches goes on to its children, or where they are left out
parent-carries : (dp : Dp) → IsLawful dp → (reach : Option ℤ) (o : Ticketed) (full rest os : List Ticketed) (es : List TableEntry) (ticket : ℕ) (cs : List Subproblem) (fs : List Fate)
    → IsFinish dp reach o full rest os es ticket cs fs → (k : ℕ) (v : ℤ) → Deep dp k v o → AtMost v reach ⊎ OneOf (Deep dp k v) (after rest os cs fs)
parent-carries dp laws reach o full rest os es ticket cs fs f k v d =
    let Answer : Type 0 = AtMost v reach ⊎ OneOf (Deep dp k v) (after rest os cs fs) in
    let y = d.reaches.by in
    let deep = d.deep in
    let least = d.reaches.least in
    let P : Subproblem → Type 0 = λ c. ReachesBelow dp k v c.decisions in
    let Known : Subproblem → Type 0 = λ c. IsChild dp o.subproblem.decisions c × IsHeld dp reach c.decisions c.bound in
    let known = each-both (IsChild dp o.subproblem.decisions) (λ c. IsHeld dp reach c.decisions c.bound) cs f.own_kids f.held_kids in
    let stay = without_all (replaced fs) os in
    let new = entering cs fs in
    elim (f.matched y d.reaches.completion) as (λ _. Answer) [
      | inl most ↦ inl (at-most-then v (value_of dp y) reach least most)
      | inr one ↦
          let mine = one-then (λ (c : Subproblem). IsMatched dp y c.decisions × Known c) P
          (λ c x. let deeper = x.1.0.deeper in let more = x.0.least in record { deep = omega arith; reaches = record { by = x.0.by; completion = x.0.completion; least = omega (arith, ints) } }) cs
          (one-each (λ (c : Subproblem). IsMatched dp y c.decisions) Known cs (one-map (λ (c : Subproblem). c.decisions) (IsMatched dp y) cs one) known) in
          elim (kids-one P dp reach os es ticket cs fs f.fates mine) as (λ _. Answer) [
            | inl entered ↦ inr (one-right (Deep dp k v) rest (stay ++ new) (one-right (Deep dp k v) stay new entered))
            | inr left ↦ one-out (λ c. (P c × IsLeftOut dp reach os es c) × Known c) Answer
                (λ c x. left-carries dp laws reach o full rest os es ticket cs fs f c x.1.0 x.1.1 x.0.1 k v x.0.0.deep x.0.0.reaches) cs
                (one-each (λ c. P c × IsLeftOut dp reach os es c) Known cs left known)
          ]
    ]

pub finish-carries : (dp : Dp) → IsLawful dp → (reach : Option ℤ) (o : Ticketed) (full rest os : List Ticketed) (es : List TableEntry) (ticket : ℕ) (cs : List Subproblem) (fs : List Fate)
    → IsFinish dp reach o full rest os es ticket cs fs → CarriesBy dp reach (full ++ os) (after rest os cs fs)
finish-carries dp laws reach o full rest os es ticket cs fs f k v one =
    elim (one-out_of (Deep dp k v) o (rest ++ os) (full ++ os) (with-right o rest full os f.out) one) as (λ _. AtMost v reach ⊎ OneOf (Deep dp k v) (after rest os cs fs)) [
      | inl here ↦ parent-carries dp laws reach o full rest os es ticket cs fs f k v here
      | inr other ↦ inr (rest-carries dp laws reach o full rest os es ticket cs fs f k v other)
    ]

-- Entries.

pub each-put : (P : TableEntry → Type 0) (limit : ℕ) (es new : List TableEntry) → Each P es → Each P new → Each P (put_all limit es new)
each-put P limit es [] h k = h
each-put P limit es (e ∷ new) h k =
    each-put P limit (cond (nat_eq (length es) limit) es (es ++ e ∷ [])) new
    (elim (nat_eq (length es) limit) as (λ b. Each P (cond b es (es ++ e ∷ []))) [ true ↦ h | false ↦ Each-append P es (e ∷ []) h (k.0, tt) ]) k.1

-- entries old and new keep their floors
pub finish-floors : (dp : Dp) → IsLawful dp → (reach : Option ℤ) (o : Ticketed) (full rest os : List Ticketed) (es : List TableEntry) (ticket limit : ℕ) (cs : List Subproblem) (fs : List Fate)
    → IsFinish dp reach o full rest os es ticket cs fs → Each (HasFloor dp reach (after rest os cs fs)) (put_all limit es (map (entry_of dp) (entering cs fs)))
finish-floors dp laws reach o full rest os es ticket limit cs fs f =
    let carries = carries-from dp reach (full ++ os) (after rest os cs fs) (finish-carries dp laws reach o full rest os es ticket cs fs f) in
    let stay = without_all (replaced fs) os in
    let new = entering cs fs in
    let own_new = kids-each (IsOwn dp) cs fs (Each-then (IsChild dp o.subproblem.decisions) (IsOwn dp) cs (λ c x. x.own) f.own_kids) in
    each-put (HasFloor dp reach (after rest os cs fs)) limit es (map (entry_of dp) new)
    (Each-then (HasFloor dp reach (full ++ os)) (HasFloor dp reach (after rest os cs fs)) es
    (λ e h. floor-carried dp reach reach (prefixes (full ++ os)) (prefixes (after rest os cs fs)) (option-self reach) carries e.depth e.row e.value h) f.floors)
    (Each-map (entry_of dp) (HasFloor dp reach (after rest os cs fs)) new
    (each-of-all (λ q. HasFloor dp reach (after rest os cs fs) (entry_of dp q)) new
    (λ q in_list. own-floor dp reach (after rest os cs fs) q (each-has (λ (q : Ticketed). IsOwn dp q.subproblem) new q own_new in_list)
    (Has-append-right q rest (stay ++ new) (Has-append-right q stay new in_list)))))
