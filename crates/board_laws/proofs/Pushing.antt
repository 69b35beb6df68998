-- Children pushed one after another give the list that their fates give.
use Rattle.std.proofs.Common.{◌≡◌, ℕ, ◌+◌, ◌<◌, ℤ, int_le, nat_eq, nat_lt, Bool, true, false, cond, not, ◌||◌, ◌&&◌, List, [], ◌∷◌, ◌++◌, length, Option, Some, None, refl, sym, ◌∙◌, ap, subst, append_assoc, arith, ◌-◌}
use Rattle.std.proofs.lemmas.Bool.Decides.{nat_tests}
use Rattle.dp_model.specs.Dp.{Dp}
use Rattle.dp_model.specs.Lists.{Each}
use Rattle.dp_model.specs.Rows.{row_same}
use Rattle.dp_model.specs.Subproblem.{Subproblem}
use Rattle.dp_model.proofs.Members.{Each-then, Each-append, each-has, each-of-all}
use Rattle.dp_laws.specs.Pairs.{EachTwo}
use Rattle.dp_laws.proofs.Lists.{each-filter, two-filter}
use Rattle.board_laws.proofs.Fates.{FatesHold, fates-hold, fates-many, found-one, same-ticket}
use Rattle.dp_laws.specs.Children.{DifferInPlace}
use Rattle.board_laws.specs.Entering.{entering, replaced, is_among, without_all, put_all}
use Rattle.board_laws.specs.Fates.{fate_of, fates_by, ticket_after}
use Rattle.board_laws.specs.Pushes.{push_by, PushesAreFates, PutsAreEntries}
use Rattle.board_laws.specs.declared.fate.Fate.{Fate}
use Rattle.board_laws.specs.declared.fate.Fate.TheVariants.{Below, Kept, Dominated, Replaced, Entered}
use Rattle.fringe.specs.Fringe.{is_same, same_at, same_open}
use Rattle.fringe.specs.Pushing.{pushed_beside, after_push}
use Rattle.fringe.specs.Tickets.{Ticketed, IsEarlier, by_ticket, without}
use Rattle.dominance_table.specs.Entries.{TableEntry, after_put, is_full}
use Rattle.fringe.proofs.Rows.{same-depth, same-row, different-turned}
use Rattle.dp_laws.proofs.Restricted.Permutations.{two-append}

-- what a push needs of a fate
record PutsOut (os : List Ticketed) (ticket : ℕ) (c : Subproblem) (own old : ℕ) : Type 0 where
  pub own_is : own ≡ ticket
  pub other : Ticketed
  pub found : same_open c os ≡ Some other
  pub old_is : old ≡ other.ticket
  pub less : int_le c.value other.subproblem.value ≡ false

abbrev PushHolds : List Ticketed → ℕ → Subproblem → Fate → Type 0
PushHolds os ticket c Below = Unit {0}
PushHolds os ticket c (Kept by) = Unit {0}
PushHolds os ticket c (Dominated by) = Unit {0}
PushHolds os ticket c (Replaced own old) = PutsOut os ticket c own old
PushHolds os ticket c (Entered own) = (own ≡ ticket) × (same_open c os ≡ None)

abbrev PushesHold : List Ticketed → ℕ → List Subproblem → List Fate → Type 0
PushesHold os ticket [] fs = Unit {0}
PushesHold os ticket (c ∷ cs) [] = ⊥
PushesHold os ticket (c ∷ cs) (f ∷ fs) = PushHolds os ticket c f × PushesHold os (ticket_after ticket f) cs fs

pushes-hold : (dp : Dp) (reach : Option ℤ) (os : List Ticketed) (es : List TableEntry) (ticket : ℕ) (cs : List Subproblem) (fs : List Fate) → FatesHold dp reach os es ticket cs fs → PushesHold os ticket cs fs
pushes-hold dp reach os es ticket [] fs h = tt
pushes-hold dp reach os es ticket (c ∷ cs) [] h = h
pushes-hold dp reach os es ticket (c ∷ cs) (Below ∷ fs) h = (tt, pushes-hold dp reach os es ticket cs fs h.1)
pushes-hold dp reach os es ticket (c ∷ cs) (Kept by ∷ fs) h = (tt, pushes-hold dp reach os es ticket cs fs h.1)
pushes-hold dp reach os es ticket (c ∷ cs) (Dominated by ∷ fs) h = (tt, pushes-hold dp reach os es ticket cs fs h.1)
pushes-hold dp reach os es ticket (c ∷ cs) (Replaced own old ∷ fs) h =
    (record { own_is = h.0.own_is; other = h.0.other; found = h.0.found; old_is = h.0.old_is; less = h.0.less }, pushes-hold dp reach os es (ticket + 1) cs fs h.1)
pushes-hold dp reach os es ticket (c ∷ cs) (Entered own ∷ fs) h = ((h.0.own_is, h.0.none), pushes-hold dp reach os es (ticket + 1) cs fs h.1)

-- they hold beside another list in which each child finds the same
moved : (os new : List Ticketed) (ticket : ℕ) (cs : List Subproblem) (fs : List Fate) → Each (λ c. same_open c new ≡ same_open c os) cs → PushesHold os ticket cs fs → PushesHold new ticket cs fs
moved os new ticket [] fs e h = tt
moved os new ticket (c ∷ cs) [] e h = h
moved os new ticket (c ∷ cs) (Below ∷ fs) e h = (tt, moved os new ticket cs fs e.1 h.1)
moved os new ticket (c ∷ cs) (Kept by ∷ fs) e h = (tt, moved os new ticket cs fs e.1 h.1)
moved os new ticket (c ∷ cs) (Dominated by ∷ fs) e h = (tt, moved os new ticket cs fs e.1 h.1)
moved os new ticket (c ∷ cs) (Replaced own old ∷ fs) e h =
    (record { own_is = h.0.own_is; other = h.0.other; found = e.0 ∙ h.0.found; old_is = h.0.old_is; less = h.0.less }, moved os new (ticket + 1) cs fs e.1 h.1)
moved os new ticket (c ∷ cs) (Entered own ∷ fs) e h = ((h.0.0, e.0 ∙ h.0.1), moved os new (ticket + 1) cs fs e.1 h.1)

-- Lists.

last-by_ticket : (o : Ticketed) (os : List Ticketed) → Each (λ x. x.ticket < o.ticket) os → by_ticket o os ≡ os ++ o ∷ []
last-by_ticket o [] h = refl
last-by_ticket o (x ∷ os) h =
    let later : nat_lt o.ticket x.ticket ≡ false = let less : x.ticket < o.ticket = h.0 in grind (arith, nat_tests) in
    ap (λ b. cond b (o ∷ x ∷ os) (x ∷ by_ticket o os)) later ∙ ap (λ l. x ∷ l) (last-by_ticket o os h.1)

find-more : (depth : ℕ) (row : List ℤ) (os : List Ticketed) (k : Ticketed) → is_same depth row k ≡ false → same_at depth row (os ++ k ∷ []) ≡ same_at depth row os
find-more depth row [] k h = ap (λ b. cond b (Some k) None) h
find-more depth row (x ∷ os) k h = ap (λ s. cond (is_same depth row x) (Some x) s) (find-more depth row os k h)

find-without : (depth : ℕ) (row : List ℤ) (old : ℕ) (os : List Ticketed) → Each (λ x. nat_eq x.ticket old ≡ true → is_same depth row x ≡ false) os → same_at depth row (without old os) ≡ same_at depth row os
find-without depth row old [] h = refl
find-without depth row old (x ∷ os) h =
    let rest = find-without depth row old os h.1 in
    let Goal : Bool → Type 0 = λ b. same_at depth row (cond (not b) (x ∷ without old os) (without old os)) ≡ cond (is_same depth row x) (Some x) (same_at depth row os) in
    let go : (b : Bool) → nat_eq x.ticket old ≡ b → Goal b = λ b. elim b as (λ b. nat_eq x.ticket old ≡ b → Goal b) [
      | true ↦ λ e. rest ∙ ap (λ b. cond b (Some x) (same_at depth row os)) (sym (h.0 e))
      | false ↦ λ e. ap (λ s. cond (is_same depth row x) (Some x) s) rest
    ] in go (nat_eq x.ticket old) refl

without_all-none : (os : List Ticketed) → without_all [] os ++ [] ≡ os
without_all-none [] = refl
without_all-none (x ∷ os) = ap (λ l. x ∷ l) (without_all-none os)

without_all-more : (ts : List ℕ) (os : List Ticketed) (k : Ticketed) → is_among k.ticket ts ≡ false → without_all ts (os ++ k ∷ []) ≡ without_all ts os ++ k ∷ []
without_all-more ts [] k h = ap (λ b. cond (not b) (k ∷ []) []) h
without_all-more ts (x ∷ os) k h =
    let rest = without_all-more ts os k h in
    elim (is_among x.ticket ts) as (λ b. cond (not b) (x ∷ without_all ts (os ++ k ∷ [])) (without_all ts (os ++ k ∷ [])) ≡ cond (not b) (x ∷ without_all ts os) (without_all ts os) ++ k ∷ []) [ true ↦ rest | false ↦ ap (λ l. x ∷ l) rest ]

without_all-without : (old : ℕ) (ts : List ℕ) (os : List Ticketed) → without_all ts (without old os) ≡ without_all (old ∷ ts) os
without_all-without old ts [] = refl
without_all-without old ts (x ∷ os) =
    let rest = without_all-without old ts os in
    elim (nat_eq x.ticket old) as (λ b. without_all ts (cond (not b) (x ∷ without old os) (without old os)) ≡ cond (not (b || is_among x.ticket ts)) (x ∷ without_all (old ∷ ts) os) (without_all (old ∷ ts) os)) [
      | true ↦ rest
      | false ↦ ap (λ l. cond (not (is_among x.ticket ts)) (x ∷ l) l) rest
    ]

-- who goes out was open before
old-below : (n : ℕ) (os : List Ticketed) (ticket : ℕ) (cs : List Subproblem) (fs : List Fate) → length fs ≡ length cs → PushesHold os ticket cs fs → Each (λ x. x.ticket < n) os → is_among n (replaced fs) ≡ false
old-below n os ticket [] [] long h low = refl
old-below n os ticket [] (f ∷ fs) long h low = absurd (omega arith)
old-below n os ticket (c ∷ cs) [] long h low = absurd h
old-below n os ticket (c ∷ cs) (Below ∷ fs) long h low = old-below n os ticket cs fs (omega arith) h.1 low
old-below n os ticket (c ∷ cs) (Kept by ∷ fs) long h low = old-below n os ticket cs fs (omega arith) h.1 low
old-below n os ticket (c ∷ cs) (Dominated by ∷ fs) long h low = old-below n os ticket cs fs (omega arith) h.1 low
old-below n os ticket (c ∷ cs) (Entered own ∷ fs) long h low = old-below n os (ticket + 1) cs fs (omega arith) h.1 low
old-below n os ticket (c ∷ cs) (Replaced own old ∷ fs) long h low =
    let one = found-one (length c.decisions) c.row os h.0.other h.0.found in
    let less : h.0.other.ticket < n = each-has (λ (x : Ticketed). x.ticket < n) os h.0.other low one.0 in
    let is = h.0.old_is in
    let here : nat_eq n old ≡ false = grind (arith, nat_tests) in
    ap (λ b. b || is_among n (replaced fs)) here ∙ old-below n os (ticket + 1) cs fs (omega arith) h.1 low

-- One push.

abbrev kid : ℕ → Subproblem → Ticketed
kid ticket c = record { ticket = ticket; subproblem = c }

turned : (c d : Subproblem) → DifferInPlace c d → is_same (length d.decisions) d.row (kid 0 c) ≡ false
turned c d h = different-turned (kid 0 c) (kid 0 d) h

-- a sibling finds the same beside the child
beside-kid : (own : ℕ) (c : Subproblem) (os : List Ticketed) (cs : List Subproblem) → Each (DifferInPlace c) cs → Each (λ d. same_open d (os ++ kid own c ∷ []) ≡ same_open d os) cs
beside-kid own c os cs h = Each-then (DifferInPlace c) (λ d. same_open d (os ++ kid own c ∷ []) ≡ same_open d os) cs (λ d e. find-more (length d.decisions) d.row os (kid own c) (turned c d e)) h

-- a sibling finds the same without what the child puts out
beside-out : (c : Subproblem) (old : ℕ) (other : Ticketed) (os : List Ticketed) → EachTwo IsEarlier os → same_open c os ≡ Some other → old ≡ other.ticket → (d : Subproblem) → DifferInPlace c d → same_open d (without old os) ≡ same_open d os
beside-out c old other os rise found is d h =
    let one = found-one (length c.decisions) c.row os other found in
    let level = same-depth (length c.decisions) c.row other one.1 in
    let row = same-row (length c.decisions) c.row other one.1 in
    let differs : is_same (length d.decisions) d.row other ≡ false =
    ap (λ n. nat_eq n (length d.decisions) && row_same other.subproblem.row d.row) (sym level) ∙ (ap (λ r. nat_eq (length c.decisions) (length d.decisions) && row_same r d.row) (sym row) ∙ turned c d h) in
    find-without (length d.decisions) d.row old os
    (each-of-all (λ x. nat_eq x.ticket old ≡ true → is_same (length d.decisions) d.row x ≡ false) os
    (λ x in_list e.
    let same : x.ticket ≡ other.ticket = grind (arith, nat_tests) in
    subst (λ (y : Ticketed). is_same (length d.decisions) d.row y ≡ false) (sym (same-ticket os x other rise in_list one.0 same)) differs))

each-both-find : (c : Subproblem) (own old : ℕ) (other : Ticketed) (os : List Ticketed) (cs : List Subproblem) → EachTwo IsEarlier os → same_open c os ≡ Some other → old ≡ other.ticket → Each (DifferInPlace c) cs
    → Each (λ d. same_open d (without old os ++ kid own c ∷ []) ≡ same_open d os) cs
each-both-find c own old other os cs rise found is h =
    Each-then (DifferInPlace c) (λ d. same_open d (without old os ++ kid own c ∷ []) ≡ same_open d os) cs
    (λ d e. find-more (length d.decisions) d.row (without old os) (kid own c) (turned c d e) ∙ beside-out c old other os rise found is d e) h

-- with a child at the end
kid-rises : (os : List Ticketed) (own ticket : ℕ) (c : Subproblem) → own ≡ ticket → EachTwo IsEarlier os → Each (λ x. x.ticket < ticket) os → EachTwo IsEarlier (os ++ kid own c ∷ [])
kid-rises os own ticket c is rise low =
    two-append IsEarlier os (kid own c ∷ []) rise (tt, tt) (Each-then (λ (x : Ticketed). x.ticket < ticket) (λ x. Each (IsEarlier x) (kid own c ∷ [])) os (λ x h. (let less : x.ticket < own = omega arith in less, tt)) low)

kid-below : (os : List Ticketed) (own ticket : ℕ) (c : Subproblem) → own ≡ ticket → Each (λ x. x.ticket < ticket) os → Each (λ x. x.ticket < ticket + 1) (os ++ kid own c ∷ [])
kid-below os own ticket c is low =
    Each-append (λ x. x.ticket < ticket + 1) os (kid own c ∷ []) (Each-then (λ (x : Ticketed). x.ticket < ticket) (λ x. x.ticket < ticket + 1) os (λ x h. omega arith) low) (omega arith, tt)

own-below : (os : List Ticketed) (own ticket : ℕ) → own ≡ ticket → Each (λ x. x.ticket < ticket) os → Each (λ x. x.ticket < own) os
own-below os own ticket is low = subst (λ n. Each (λ (x : Ticketed). x.ticket < n) os) (sym is) low

pushes : (os : List Ticketed) (ticket : ℕ) (cs : List Subproblem) (fs : List Fate) → length fs ≡ length cs → PushesHold os ticket cs fs → EachTwo IsEarlier os → Each (λ x. x.ticket < ticket) os → EachTwo DifferInPlace cs
    → push_by cs fs os ≡ without_all (replaced fs) os ++ entering cs fs
pushes os ticket [] [] long h rise low two = sym (without_all-none os)
pushes os ticket [] (f ∷ fs) long h rise low two = absurd (omega arith)
pushes os ticket (c ∷ cs) [] long h rise low two = absurd h
pushes os ticket (c ∷ cs) (Below ∷ fs) long h rise low two = pushes os ticket cs fs (omega arith) h.1 rise low two.1
pushes os ticket (c ∷ cs) (Kept by ∷ fs) long h rise low two = pushes os ticket cs fs (omega arith) h.1 rise low two.1
pushes os ticket (c ∷ cs) (Dominated by ∷ fs) long h rise low two = pushes os ticket cs fs (omega arith) h.1 rise low two.1
pushes os ticket (c ∷ cs) (Entered own ∷ fs) long h rise low two =
    let k = kid own c in
    let new = os ++ k ∷ [] in
    let is = h.0.0 in
    let own_low = own-below os own ticket is low in
    let step : after_push k os ≡ new = ap (pushed_beside k os) h.0.1 ∙ last-by_ticket k os own_low in
    let rest = pushes new (ticket + 1) cs fs (omega arith) (moved os new (ticket + 1) cs fs (beside-kid own c os cs two.0) h.1) (kid-rises os own ticket c is rise low) (kid-below os own ticket c is low) two.1 in
    let there = without_all-more (replaced fs) os k (old-below own os (ticket + 1) cs fs (omega arith) h.1 own_low) in
    ap (push_by cs fs) step ∙ (rest ∙ (ap (λ l. l ++ entering cs fs) there ∙ append_assoc (without_all (replaced fs) os) (k ∷ []) (entering cs fs)))
pushes os ticket (c ∷ cs) (Replaced own old ∷ fs) long h rise low two =
    let k = kid own c in
    let other = h.0.other in
    let left = without old os in
    let new = left ++ k ∷ [] in
    let is = h.0.own_is in
    let p : Ticketed → Bool = λ x. not (nat_eq x.ticket old) in
    let low_left = each-filter (λ (x : Ticketed). x.ticket < ticket) p os low in
    let rise_left = two-filter IsEarlier p os rise in
    let own_low = own-below left own ticket is low_left in
    let put : pushed_beside k os (Some other) ≡ by_ticket k (without other.ticket os) = ap (λ b. cond b os (by_ticket k (without other.ticket os))) h.0.less in
    let step : after_push k os ≡ new = ap (pushed_beside k os) h.0.found ∙ (put ∙ (ap (λ t. by_ticket k (without t os)) (sym h.0.old_is) ∙ last-by_ticket k left own_low)) in
    let same = each-both-find c own old other os cs rise h.0.found h.0.old_is two.0 in
    let rest = pushes new (ticket + 1) cs fs (omega arith) (moved os new (ticket + 1) cs fs same h.1) (kid-rises left own ticket c is rise_left low_left) (kid-below left own ticket c is low_left) two.1 in
    let there = without_all-more (replaced fs) left k (old-below own os (ticket + 1) cs fs (omega arith) h.1 (own-below os own ticket is low)) in
    ap (push_by cs fs) step ∙ (rest ∙ (ap (λ l. l ++ entering cs fs) there ∙ (append_assoc (without_all (replaced fs) left) (k ∷ []) (entering cs fs) ∙ ap (λ l. l ++ k ∷ entering cs fs) (without_all-without old (replaced fs) os))))

pub pushes-are-fates : (dp : Dp) → PushesAreFates dp
pushes-are-fates dp reach os es ticket cs rise low two =
    let fs = fates_by (fate_of dp reach os es) ticket cs in
    pushes os ticket cs fs (fates-many (fate_of dp reach os es) ticket cs) (pushes-hold dp reach os es ticket cs fs (fates-hold dp reach os es ticket cs)) rise low two

-- Puts.

pub puts-are-entries : PutsAreEntries
puts-are-entries t [] = refl
puts-are-entries t (e ∷ new) =
    let rest = puts-are-entries (after_put t e) new in
    let limit : (b : Bool) → (cond b t (record t { entries = t.entries ++ e ∷ []; spare = t.spare - 1 })).limit ≡ t.limit = λ b. elim b as (λ b. (cond b t (record t { entries = t.entries ++ e ∷ []; spare = t.spare - 1 })).limit ≡ t.limit) [ true ↦ refl | false ↦ refl ] in
    let entries : (b : Bool) → (cond b t (record t { entries = t.entries ++ e ∷ []; spare = t.spare - 1 })).entries ≡ cond b t.entries (t.entries ++ e ∷ []) = λ b. elim b as (λ b. (cond b t (record t { entries = t.entries ++ e ∷ []; spare = t.spare - 1 })).entries ≡ cond b t.entries (t.entries ++ e ∷ [])) [ true ↦ refl | false ↦ refl ] in
    rest ∙ (ap (λ n. put_all n (after_put t e).entries new) (limit (is_full t)) ∙ ap (λ l. put_all t.limit l new) (entries (is_full t)))
