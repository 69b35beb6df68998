-- What the layers cover where the width takes nothing away.
use Rattle.std.proofs.Common.{◌≡◌, ℕ, zero, suc, ◌+◌, ◌-◌, ◌<◌, ◌≤◌, ℤ, pos, ◌+ℤ◌, ◌≤ℤ◌, int_le, int_lt, nat_le, nat_lt, Bool, true, false, not, cond, ◌&&◌, ◌||◌, List, [], ◌∷◌, ◌++◌, length, filter, find, take, Option, Some, None, option_map, ◌⊎◌, inl, inr, IsTrue, refl, sym, ◌∙◌, ap, subst, length-append, append_assoc, append-nil, arith}
use Rattle.std.proofs.lemmas.Int.{ints}
use Rattle.std.proofs.lemmas.Bool.Decides.{nat_tests}
use Rattle.std.proofs.lemmas.List.{take_all}
use Rattle.dp_model.specs.Dp.{Dp, IsAllowed}
use Rattle.dp_model.specs.Decisions.{below}
use Rattle.dp_model.specs.Gaps.{IsStateOf, is_struck_by, covers_at}
use Rattle.dp_model.specs.Laws.{IsLawful}
use Rattle.dp_model.specs.Lists.{Each, OneOf}
use Rattle.dp_model.specs.Numbers.{AtMost, int_same}
use Rattle.dp_model.specs.Prefixes.{IsPrefix, IsContinuation, IsMatched, gain_of, state_of, value_of}
use Rattle.dp_model.specs.Reached.{Reached, reached}
use Rattle.dp_model.proofs.Members.{Has, each-has, one-of-has, Has-map, Has-filter, Has-flat_map, Has-below, Each-then}
use Rattle.dp_model.proofs.Paths.{IsPrefix-back, IsPrefix-length, state_of-state, continued, value_of-split}
use Rattle.std.proofs.lemmas.Bool.{and_parts}
use Rattle.dp_model.proofs.RowLemmas.{int_same-is}
use Rattle.dp_laws.specs.Restricted.Beam.{is_reduced, reduced_to, expanded, pruned, whole_layer, layer_below, is_too_wide}
use Rattle.dp_laws.specs.Restricted.Beams.{beam, wide, first_of_all}
use Rattle.dp_laws.specs.Restricted.BestOfState.{IsBestOfState}
use Rattle.dp_laws.specs.Restricted.Covering.{AreWhole, WholeLayersCover, LastExactCovers, WholeBeamsAreBest}
use Rattle.dp_laws.specs.Dominance.{Dominates}
use Rattle.dp_laws.specs.Restricted.Extensions.{extended, extensions, candidates}
use Rattle.dp_laws.specs.Restricted.Leaders.{unstruck, dominates, dominated, leaders_after, undominated}
use Rattle.dp_laws.specs.Restricted.Members.{IsMember}
use Rattle.dp_laws.specs.Restricted.Ordered.{IsInOrder}
use Rattle.dp_laws.specs.Pairs.{EachTwo}
use Rattle.dp_laws.specs.Restricted.ReductionOrder.{stands_before}
use Rattle.dp_laws.proofs.Restricted.Differing.{two-pruned, two-cut}
use Rattle.dp_laws.proofs.Restricted.Found.{last-members}
use Rattle.dp_laws.proofs.Restricted.Joining.{best-each, expansion}
use Rattle.dp_laws.proofs.Restricted.Keeping.{each-pruned}
use Rattle.dp_laws.proofs.Matching.{completions-matched}
use Rattle.dp_laws.proofs.Prefixes.{candidates-members, expanded-members, layers-prefixes}
use Rattle.dp_model.specs.declared.limits.TheConstants.{MOST_LEADERS}

-- a member with the fact
pub one-member : {X : Type 0} (P : X → Type 0) (xs : List X) → OneOf P xs → (x : X) × Has x xs × P x
one-member P [] h = absurd h
one-member P (x ∷ xs) (inl h) = (x, inl refl, h)
one-member P (x ∷ xs) (inr h) = let r = one-member P xs h in (r.0, inr r.1, r.2)

-- A solution that a completion of one prefix is at least, and another prefix matches.

matched-then : (dp : Dp) (x y p : List ℕ) → value_of dp x ≤ℤ value_of dp y → IsMatched dp y p → IsMatched dp x p
matched-then dp x y p le h = let more = h.least in record { by = h.by; completion = h.completion; least = omega (arith, ints) }

-- Members that dominate.

member-state : (dp : Dp) → IsLawful dp → (p : List ℕ) (k : ℕ) (r : Reached) → IsMember dp p k r → IsStateOf dp k r.row
member-state dp laws p k r h =
    subst (λ n. IsStateOf dp n r.row) h.deep (subst (IsStateOf dp (length r.decisions)) (sym h.row) (state_of-state dp laws.states r.decisions h.prefix))

-- the test on two members, as it is said of prefixes
covers-is : (g : Option ℤ) (above number : ℤ) → covers_at g above number ≡ true → (gap : ℤ) × (g ≡ Some gap) × ((number +ℤ gap) ≤ℤ above)
covers-is None above number h = absurd (cc)
covers-is (Some gap) above number h = (gap, refl, (let e : int_le (number +ℤ gap) above ≡ true = h in grind (arith, ints)))

pub dominates-is : (dp : Dp) (p : List ℕ) (k : ℕ) (a r : Reached) → IsMember dp p k a → IsMember dp p k r → dominates dp k a r ≡ true → Dominates dp a.decisions (state_of dp r.decisions) (value_of dp r.decisions)
dominates-is dp p k a r one other test =
    let parts = covers-is (dp.gap k a.row r.row) a.value r.value test in
    let same : dp.gap (length a.decisions) (state_of dp a.decisions) (state_of dp r.decisions) ≡ dp.gap k a.row r.row =
    ap (λ n. dp.gap n (state_of dp a.decisions) (state_of dp r.decisions)) one.deep ∙ (ap (λ s. dp.gap k s (state_of dp r.decisions)) (sym one.row) ∙ ap (λ s. dp.gap k a.row s) (sym other.row)) in
    let mine = one.value in let its = other.value in let within = parts.2 in
    record { gap = parts.0; is = same ∙ parts.1; within = omega (arith, ints) }

member-matches : (dp : Dp) → IsLawful dp → (p : List ℕ) (k : ℕ) (a r : Reached) → IsMember dp p k a → IsMember dp p k r
    → Dominates dp a.decisions (state_of dp r.decisions) (value_of dp r.decisions) → (x : List ℕ) → IsMatched dp x r.decisions → IsMatched dp x a.decisions
member-matches dp laws p k a r one other h x m =
    matched-then dp x m.by a.decisions m.least (completions-matched dp laws a.decisions r.decisions one.prefix other.prefix (one.deep ∙ sym other.deep) h m.by m.completion)

-- a member of the same row and no less value dominates
same-dominates : (dp : Dp) → IsLawful dp → (p : List ℕ) (k : ℕ) (a r : Reached) → IsMember dp p k a → IsMember dp p k r → a.row ≡ r.row → r.value ≤ℤ a.value
    → Dominates dp a.decisions (state_of dp r.decisions) (value_of dp r.decisions)
same-dominates dp laws p k a r one other same le =
    let row : state_of dp r.decisions ≡ state_of dp a.decisions = sym other.row ∙ (sym same ∙ one.row) in
    let own = laws.gaps.own (length a.decisions) (state_of dp a.decisions) (state_of-state dp laws.states a.decisions one.prefix) in
    let mine = one.value in let its = other.value in
    record { gap = pos 0; is = ap (dp.gap (length a.decisions) (state_of dp a.decisions)) row ∙ own; within = omega (arith, ints) }

-- Candidates.

next : (dp : Dp) (p : List ℕ) (k : ℕ) (layer : List Reached) (r : Reached) → k < dp.vars → IsMember dp p k r → Has r layer → (x : List ℕ) → (m : IsMatched dp x r.decisions)
    → (rest : List ℕ) → m.by ≡ r.decisions ++ rest → OneOf (λ c. IsMatched dp x c.decisions) (candidates dp k layer)
next dp p k layer r short h has x m [] e =
    let long = ap length e ∙ length-append r.decisions [] in let whole = m.completion.solution.whole in let deep = h.deep in absurd (omega arith)
next dp p k layer r short h has x m (d ∷ more) e =
    let path = IsPrefix-back dp r.decisions (d ∷ more) (subst (IsPrefix dp) e m.completion.solution.prefix) in
    let allowed : IsAllowed dp k r.row d = subst (λ n. IsAllowed dp n r.row d) h.deep (subst (λ s. IsAllowed dp (length r.decisions) s d) (sym h.row) path.0) in
    let there = Has-map (extended dp k r) (filter (dp.allowed k r.row) (below (dp.choices k))) d (Has-filter (dp.allowed k r.row) (below (dp.choices k)) d (Has-below (dp.choices k) d allowed.choice) allowed.test) in
    let longer : m.by ≡ (r.decisions ++ d ∷ []) ++ more = e ∙ sym (append_assoc r.decisions (d ∷ []) more) in
    let matched : IsMatched dp x (r.decisions ++ d ∷ []) = record { by = m.by; completion = record { solution = m.completion.solution; rest = more; begins = longer }; least = m.least } in
    one-of-has (λ c. IsMatched dp x c.decisions) (candidates dp k layer) (extended dp k r d) matched (Has-flat_map (extensions dp k) layer r (extended dp k r d) has there)

-- what a completion of a member decides next gives a candidate
next-candidate : (dp : Dp) (p : List ℕ) (k : ℕ) (layer : List Reached) (r : Reached) → k < dp.vars → IsMember dp p k r → Has r layer → (x : List ℕ) → IsMatched dp x r.decisions
    → OneOf (λ c. IsMatched dp x c.decisions) (candidates dp k layer)
next-candidate dp p k layer r short h has x m = next dp p k layer r short h has x m m.completion.rest m.completion.begins

-- What is struck.

below_rough : (v value gain : ℤ) (rough t : Option ℤ) → v ≤ℤ (value +ℤ gain) → AtMost gain rough → is_struck_by value rough t ≡ true → AtMost v t
below_rough v value gain None t le bound struck = absurd bound
below_rough v value gain (Some r) None le bound struck = absurd (cc)
below_rough v value gain (Some r) (Some limit) le bound struck = let e : int_le (value +ℤ r) limit ≡ true = struck in let under : (value +ℤ r) ≤ℤ limit = grind (arith, ints) in omega (arith, ints)

-- what is struck is at most the threshold
struck-below : (dp : Dp) → IsLawful dp → (p : List ℕ) (k : ℕ) (t : Option ℤ) (r : Reached) → IsMember dp p k r → is_struck_by r.value (dp.rough k r.row) t ≡ true
    → (x : List ℕ) → IsMatched dp x r.decisions → AtMost (value_of dp x) t
struck-below dp laws p k t r h struck x m =
    let cont = continued dp r.decisions m.by m.completion in
    let here : IsContinuation dp k r.row m.completion.rest = subst (λ n. IsContinuation dp n r.row m.completion.rest) h.deep (subst (λ s. IsContinuation dp (length r.decisions) s m.completion.rest) (sym h.row) cont) in
    let bound = laws.rough.bounds k r.row m.completion.rest (member-state dp laws p k r h) here in
    let split = value_of-split dp r.decisions m.by m.completion in
    let gain : gain_of dp (length r.decisions) (state_of dp r.decisions) m.completion.rest ≡ gain_of dp k r.row m.completion.rest =
    ap (λ n. gain_of dp n (state_of dp r.decisions) m.completion.rest) h.deep ∙ ap (λ s. gain_of dp k s m.completion.rest) (sym h.row) in
    let value = h.value in
    below_rough (value_of dp x) r.value (gain_of dp k r.row m.completion.rest) (dp.rough k r.row) t (let least = m.least in omega (arith, ints)) bound struck

-- What a layer's candidates, and what is left of them, cover.

abbrev Matching : Dp → List ℕ → Reached → Type 0
Matching dp x r = IsMatched dp x r.decisions

pub expanded-covers : (dp : Dp) → IsLawful dp → (p : List ℕ) (k : ℕ) (layer : List Reached) → k < dp.vars → Each (IsMember dp p k) layer → (x : List ℕ)
    → OneOf (Matching dp x) layer → OneOf (Matching dp x) (expanded dp k layer)
expanded-covers dp laws p k layer short members x one =
    let cs = candidates dp k layer in
    let from = one-member (Matching dp x) layer one in
    let new = one-member (Matching dp x) cs (next-candidate dp p k layer from.0 short (each-has (IsMember dp p k) layer from.0 members from.1) from.1 x from.2) in
    let c = new.0 in
    let whole = expansion dp (k + 1) cs in
    let kept = one-member (λ q. q.row ≡ c.row) (expanded dp k layer) (each-has (λ c. OneOf (λ q. q.row ≡ c.row) (expanded dp k layer)) cs c whole.has.all new.1) in
    let q = kept.0 in
    let best = each-has (IsBestOfState cs) (expanded dp k layer) q whole.has.best kept.1 in
    let most = each-has (λ c. c.row ≡ q.row → c.value ≤ℤ q.value) cs c (best-each cs q best) new.1 (sym kept.2) in
    let at_c = each-has (IsMember dp p (k + 1)) cs c (candidates-members dp p k layer short members) new.1 in
    let at_q = each-has (IsMember dp p (k + 1)) (expanded dp k layer) q (expanded-members dp p k layer short members) kept.1 in
    one-of-has (Matching dp x) (expanded dp k layer) q (member-matches dp laws p (k + 1) q c at_q at_c (same-dominates dp laws p (k + 1) q c at_q at_c kept.2 most) x new.2) kept.1

pub one-cases : {X : Type 0} (P : X → Type 0) (xs ys : List X) → OneOf P (xs ++ ys) → OneOf P xs ⊎ OneOf P ys
one-cases P [] ys h = inr h
one-cases P (x ∷ xs) ys (inl h) = inl (inl h)
one-cases P (x ∷ xs) ys (inr h) = elim (one-cases P xs ys h) as (λ _. OneOf P (x ∷ xs) ⊎ OneOf P ys) [ inl a ↦ inl (inr a) | inr b ↦ inr b ]

dominated-by : (dp : Dp) (k : ℕ) (leaders : List Reached) (r : Reached) → dominated dp k leaders r ≡ true → OneOf (λ a. dominates dp k a r ≡ true) leaders
dominated-by dp k [] r h = absurd (cc)
dominated-by dp k (a ∷ leaders) r h =
    let go : (b : Bool) → dominates dp k a r ≡ b → (b || dominated dp k leaders r) ≡ true → OneOf (λ a. dominates dp k a r ≡ true) (a ∷ leaders) =
    λ b. elim b as (λ b. dominates dp k a r ≡ b → (b || dominated dp k leaders r) ≡ true → OneOf (λ a. dominates dp k a r ≡ true) (a ∷ leaders)) [
      | true ↦ λ e h. inl e
      | false ↦ λ e h. inr (dominated-by dp k leaders r h)
    ] in
    go (dominates dp k a r) refl h

-- a member of the rest is left, or a leader that is left dominates it, or a leader so far does
abbrev IsLed : (Reached → Type 0) → List Reached → Reached → List Reached → Type 0
IsLed P leaders q rest = OneOf P leaders ⊎ (Has q rest ⊎ OneOf P rest)

led-more : (P : Reached → Type 0) (leaders : List Reached) (r q : Reached) (rest : List Reached) (out full : Bool)
    → IsLed P (cond (out || full) leaders (leaders ++ r ∷ [])) q rest → IsLed P leaders q (cond out [] (r ∷ []) ++ rest)
led-more P leaders r q rest true full h = h
led-more P leaders r q rest false full (inr (inl has)) = inr (inl (inr has))
led-more P leaders r q rest false full (inr (inr one)) = inr (inr (inr one))
led-more P leaders r q rest false true (inl one) = inl one
led-more P leaders r q rest false false (inl one) = elim (one-cases P leaders (r ∷ []) one) as (λ _. IsLed P leaders q (r ∷ rest)) [
  | inl before ↦ inl before
  | inr here ↦ elim here as (λ _. IsLed P leaders q (r ∷ rest)) [ inl h ↦ inr (inr (inl h)) | inr never ↦ absurd never ]
]

pub undominated-led : (dp : Dp) (k : ℕ) (leaders rs : List Reached) (q : Reached) → Has q rs → IsLed (λ a. dominates dp k a q ≡ true) leaders q (undominated dp k leaders rs)
undominated-led dp k leaders [] q h = absurd h
undominated-led dp k leaders (r ∷ rs) q (inl same) =
    let rest = undominated dp k (leaders_after dp k leaders r) rs in
    let go : (b : Bool) → dominated dp k leaders r ≡ b → IsLed (λ a. dominates dp k a q ≡ true) leaders q (cond b [] (r ∷ []) ++ rest) =
    λ b. elim b as (λ b. dominated dp k leaders r ≡ b → IsLed (λ a. dominates dp k a q ≡ true) leaders q (cond b [] (r ∷ []) ++ rest)) [
      | true ↦ λ e. inl (subst (λ z. OneOf (λ a. dominates dp k a z ≡ true) leaders) same (dominated-by dp k leaders r e))
      | false ↦ λ e. inr (inl (inl same))
    ] in
    go (dominated dp k leaders r) refl
undominated-led dp k leaders (r ∷ rs) q (inr later) =
    led-more (λ a. dominates dp k a q ≡ true) leaders r q (undominated dp k (leaders_after dp k leaders r) rs) (dominated dp k leaders r) (nat_le MOST_LEADERS (length leaders))
    (undominated-led dp k (leaders_after dp k leaders r) rs q later)

pub pruned-covers : (dp : Dp) → IsLawful dp → (p : List ℕ) (k : ℕ) (t : Option ℤ) (rs : List Reached) → Each (IsMember dp p k) rs → (x : List ℕ)
    → OneOf (Matching dp x) rs → AtMost (value_of dp x) t ⊎ OneOf (Matching dp x) (pruned dp k t rs)
pruned-covers dp laws p k t rs members x one =
    let from = one-member (Matching dp x) rs one in
    let q = from.0 in
    let at_q = each-has (IsMember dp p k) rs q members from.1 in
    let left = pruned dp k t rs in
    let go : (b : Bool) → is_struck_by q.value (dp.rough k q.row) t ≡ b → AtMost (value_of dp x) t ⊎ OneOf (Matching dp x) left =
    λ b. elim b as (λ b. is_struck_by q.value (dp.rough k q.row) t ≡ b → AtMost (value_of dp x) t ⊎ OneOf (Matching dp x) left) [
      | true ↦ λ e. inl (struck-below dp laws p k t q at_q e x from.2)
      | false ↦ λ e. (
          let has = Has-filter (λ r. not (is_struck_by r.value (dp.rough k r.row) t)) rs q from.1 (ap not e) in
          elim (undominated-led dp k [] (unstruck dp k t rs) q has) as (λ _. AtMost (value_of dp x) t ⊎ OneOf (Matching dp x) left) [
            | inl never ↦ absurd never
            | inr some ↦ elim some as (λ _. AtMost (value_of dp x) t ⊎ OneOf (Matching dp x) left) [
              | inl stays ↦ inr (one-of-has (Matching dp x) left q from.2 stays)
              | inr leads ↦ inr (
                  let leader = one-member (λ a. dominates dp k a q ≡ true) left leads in
                  let at_a = each-has (IsMember dp p k) left leader.0 (each-pruned (IsMember dp p k) dp k t rs members) leader.1 in
                  one-of-has (Matching dp x) left leader.0 (member-matches dp laws p k leader.0 q at_a at_q (dominates-is dp p k leader.0 q at_a at_q leader.2) x from.2) leader.1)
            ]
          ])
    ] in
    go (is_struck_by q.value (dp.rough k q.row) t) refl

-- Layers that the width leaves whole.

cut-whole : (dp : Dp) (w first depth : ℕ) (layer : List Reached) → (is_reduced dp first depth && nat_lt w (length layer)) ≡ false → reduced_to dp w first depth layer ≡ layer
cut-whole dp w first depth layer h =
    let go : (b : Bool) → (b && nat_lt w (length layer)) ≡ false → cond b (take w layer) layer ≡ layer =
    λ b. elim b as (λ b. (b && nat_lt w (length layer)) ≡ false → cond b (take w layer) layer ≡ layer) [
      | true ↦ λ h. (let few : length layer ≤ w = grind (arith, nat_tests) in take_all w layer few)
      | false ↦ λ h. refl
    ] in
    go (is_reduced dp first depth) h

pub layers-cover : (dp : Dp) → IsLawful dp → WholeLayersCover dp
layers-cover dp laws p w t zero h short whole x comp = inr (inl (record { by = x; completion = comp; least = omega (arith, ints) }))
layers-cover dp laws p w t (suc m) h short whole x comp =
    let layer = layer_below dp (reached dp p) w t m in
    let k = length p + m in
    let members = layers-prefixes dp p w t m h (omega arith) in
    let same = cut-whole dp w (length p) (k + 1) (whole_layer dp k t layer) (whole (suc m) (omega arith)) in
    elim (layers-cover dp laws p w t m h (omega arith) (λ j le. whole j (omega arith)) x comp) as (λ _. AtMost (value_of dp x) t ⊎ OneOf (Matching dp x) (layer_below dp (reached dp p) w t (suc m))) [
      | inl struck ↦ inl struck
      | inr one ↦ elim (pruned-covers dp laws p (k + 1) t (expanded dp k layer) (expanded-members dp p k layer (omega arith) members) x (expanded-covers dp laws p k layer (omega arith) members x one))
          as (λ _. AtMost (value_of dp x) t ⊎ OneOf (Matching dp x) (layer_below dp (reached dp p) w t (suc m))) [
            | inl struck ↦ inl struck
            | inr left ↦ inr (subst (OneOf (Matching dp x)) (sym same) left)
          ]
    ]

-- The width's first effect.

find-none : (test : ℕ → Bool) (xs : List ℕ) → find test xs ≡ None → (j : ℕ) → Has j xs → test j ≡ false
find-none test [] h j has = absurd has
find-none test (x ∷ xs) h j has =
    let go : (b : Bool) → test x ≡ b → cond b (Some x) (find test xs) ≡ None → test j ≡ false =
    λ b. elim b as (λ b. test x ≡ b → cond b (Some x) (find test xs) ≡ None → test j ≡ false) [
      | true ↦ λ e h. absurd (cc)
      | false ↦ λ e h. elim has as (λ _. test j ≡ false) [ inl same ↦ subst (λ y. test y ≡ false) same e | inr later ↦ find-none test xs h j later ]
    ] in
    go (test x) refl h

find-front : (test : ℕ → Bool) (xs ys : List ℕ) (x : ℕ) → find test xs ≡ Some x → find test (xs ++ ys) ≡ Some x
find-front test [] ys x h = absurd (cc)
find-front test (y ∷ xs) ys x h =
    elim (test y) as (λ b. cond b (Some y) (find test xs) ≡ Some x → cond b (Some y) (find test (xs ++ ys)) ≡ Some x) [ true ↦ λ h. h | false ↦ λ h. find-front test xs ys x h ] h

find-back : (test : ℕ → Bool) (xs ys : List ℕ) → find test xs ≡ None → find test (xs ++ ys) ≡ find test ys
find-back test [] ys h = refl
find-back test (y ∷ xs) ys h =
    elim (test y) as (λ b. cond b (Some y) (find test xs) ≡ None → cond b (Some y) (find test (xs ++ ys)) ≡ find test ys) [ true ↦ λ h. absurd (cc) | false ↦ λ h. find-back test xs ys h ] h

-- the least number that passes the test
pub record IsLeast (test : ℕ → Bool) (n m : ℕ) : Type 0 where
  pub passes : test m ≡ true
  pub within : m < n
  pub least : (j : ℕ) → j < m → test j ≡ false

last-one : (test : ℕ → Bool) (n m : ℕ) → find test (n ∷ []) ≡ Some m → (n ≡ m) × (test m ≡ true)
last-one test n m h =
    let go : (b : Bool) → test n ≡ b → cond b (Some n) None ≡ Some m → (n ≡ m) × (test m ≡ true) =
    λ b. elim b as (λ b. test n ≡ b → cond b (Some n) None ≡ Some m → (n ≡ m) × (test m ≡ true)) [
      | true ↦ λ e h. (let same : n ≡ m = cc in (same, subst (λ y. test y ≡ true) same e))
      | false ↦ λ e h. absurd (cc)
    ] in
    go (test n) refl h

pub find-below : (test : ℕ → Bool) (n m : ℕ) → find test (below n) ≡ Some m → IsLeast test n m
find-below test zero m h = absurd (cc)
find-below test (suc n) m h =
    let go : (o : Option ℕ) → find test (below n) ≡ o → IsLeast test (suc n) m =
    λ o. elim o as (λ o. find test (below n) ≡ o → IsLeast test (suc n) m) [
      | Some x ↦ λ e. (
          let found = find-below test n x e in
          let same : x ≡ m = let front = find-front test (below n) (n ∷ []) x e in cc in
          let within = found.within in
          subst (IsLeast test (suc n)) same (record { passes = found.passes; within = omega arith; least = found.least }))
      | None ↦ λ e. (
          let last = sym (find-back test (below n) (n ∷ []) e) ∙ h in
          let one = last-one test n m last in
          record {
            passes = one.1;
            within = (let same = one.0 in omega arith);
            least = λ j less. find-none test (below n) e j (Has-below n j (let same = one.0 in omega arith));
          })
    ] in
    go (find test (below n)) refl

option_map-none : {X Y : Type 0} (f : X → Y) (o : Option X) → option_map f o ≡ None → o ≡ None
option_map-none f None h = refl
option_map-none f (Some x) h = absurd (cc)

option_map-some : {X Y : Type 0} (f : X → Y) (o : Option X) (y : Y) → option_map f o ≡ Some y → (x : X) × (o ≡ Some x) × (f x ≡ y)
option_map-some f None y h = absurd (cc)
option_map-some f (Some x) y h = (x, refl, (let same : f x ≡ y = cc in same))

not-zero : (dp : Dp) (p : List ℕ) (w : ℕ) (t : Option ℤ) (m : ℕ) → is_too_wide dp (reached dp p) w t m ≡ true → 1 ≤ m
not-zero dp p w t zero h = absurd (cc)
not-zero dp p w t (suc m) h = omega arith

pub wide-none : (dp : Dp) (p : List ℕ) (w : ℕ) (t : Option ℤ) → wide dp p w t ≡ None → AreWhole dp p w t (dp.vars - length p)
wide-none dp p w t h j le =
    let n = dp.vars - length p + 1 in
    let none = option_map-none (λ m. length p + m) (find (is_too_wide dp (reached dp p) w t) (below n)) h in
    find-none (is_too_wide dp (reached dp p) w t) (below n) none j (Has-below n j (omega arith))

pub last_exact-cover : (dp : Dp) → IsLawful dp → LastExactCovers dp
last_exact-cover dp laws p w t depth h last =
    let test = is_too_wide dp (reached dp p) w t in
    let n = dp.vars - length p + 1 in
    let reduced_to = option_map-some (λ d. d - 1) (wide dp p w t) depth last in
    let first = option_map-some (λ m. length p + m) (find test (below n)) reduced_to.0 reduced_to.1 in
    let found = find-below test n first.0 first.1 in
    let some = not-zero dp p w t first.0 found.passes in
    let within = found.within in
    let one = reduced_to.2 in let other = first.2 in
    let short = IsPrefix-length dp p h in
    layers-cover dp laws p w t (depth - length p) h (omega arith) (λ j le. found.least j (omega arith))

-- The beam of a diagram that the width leaves whole.

abbrev Falls : Reached → Reached → Type 0
Falls a b = b.value ≤ℤ a.value

first-falls : (a b : ℤ) (rest : Bool) → (int_lt b a || (int_same a b && rest)) ≡ true → b ≤ℤ a
first-falls a b rest h =
    let go : (c : Bool) → int_lt b a ≡ c → (c || (int_same a b && rest)) ≡ true → b ≤ℤ a =
    λ c. elim c as (λ c. int_lt b a ≡ c → (c || (int_same a b && rest)) ≡ true → b ≤ℤ a) [
      | true ↦ λ e h. grind (arith, ints)
      | false ↦ λ e h. (let same = int_same-is a b (and_parts (int_same a b) rest h).0 in omega (arith, ints))
    ] in
    go (int_lt b a) refl h

before-falls : (dp : Dp) (k : ℕ) (a b : Reached) → stands_before dp k a b ≡ true → Falls a b
before-falls dp k a b h = first-falls a.value b.value _ h

two-falls : (dp : Dp) (k : ℕ) (rs : List Reached) → IsInOrder dp k rs → EachTwo Falls rs
two-falls dp k [] h = tt
two-falls dp k (r ∷ rs) h = (Each-then (λ o. IsTrue (stands_before dp k r o)) (Falls r) rs (λ o before. before-falls dp k r o before) h.0, two-falls dp k rs h.1)

layer-falls : (dp : Dp) (r : Reached) (w : ℕ) (t : Option ℤ) (m : ℕ) → EachTwo Falls (layer_below dp r w t m)
layer-falls dp r w t zero = (tt, tt)
layer-falls dp r w t (suc m) =
    let layer = layer_below dp r w t m in let k = length r.decisions + m in
    two-cut Falls dp w (length r.decisions) (k + 1) (whole_layer dp k t layer)
    (two-pruned Falls dp (k + 1) t (expanded dp k layer) (two-falls dp (k + 1) (expanded dp k layer) (expansion dp (k + 1) (candidates dp k layer)).order))

first-most : (v : ℤ) (rs : List Reached) (r : Reached) → EachTwo Falls rs → Has r rs → v ≤ℤ r.value → AtMost v (option_map (λ (r : Reached). r.value) (first_of_all rs))
first-most v [] r falls has le = absurd has
first-most v (a ∷ rs) r falls (inl same) le = subst (λ (z : Reached). v ≤ℤ z.value) (sym same) le
first-most v (a ∷ rs) r falls (inr later) le = let down = each-has (Falls a) rs r falls.0 later in omega (arith, ints)

no-rest : (l : List ℕ) → length l ≡ 0 → l ≡ []
no-rest [] h = refl
no-rest (d ∷ l) h = absurd (omega arith)

-- a completion of a solution is the solution
whole-value : (dp : Dp) (p : List ℕ) (r : Reached) → IsMember dp p dp.vars r → (x : List ℕ) → IsMatched dp x r.decisions → value_of dp x ≤ℤ r.value
whole-value dp p r h x m =
    let none = no-rest (m.completion.rest) (let long = ap length m.completion.begins ∙ length-append r.decisions m.completion.rest in let whole = m.completion.solution.whole in let deep = h.deep in omega arith) in
    let same : m.by ≡ r.decisions = m.completion.begins ∙ (ap (λ l. r.decisions ++ l) none ∙ append-nil r.decisions) in
    let value : value_of dp m.by ≡ r.value = ap (value_of dp) same ∙ sym h.value in
    let least = m.least in omega (arith, ints)

pub whole_beams-best : (dp : Dp) → IsLawful dp → WholeBeamsAreBest dp
whole_beams-best dp laws p w t h none x comp =
    let short = IsPrefix-length dp p h in
    let layer = layer_below dp (reached dp p) w t (dp.vars - length p) in
    let value = option_map (λ (r : Reached). r.value) (beam dp p w t) in
    elim (layers-cover dp laws p w t (dp.vars - length p) h (omega arith) (wide-none dp p w t none) x comp) as (λ _. AtMost (value_of dp x) t ⊎ AtMost (value_of dp x) value) [
      | inl struck ↦ inl struck
      | inr one ↦ inr (
          let from = one-member (Matching dp x) layer one in
          let member = each-has (IsMember dp p dp.vars) layer from.0 (last-members dp p w t h) from.1 in
          first-most (value_of dp x) layer from.0 (layer-falls dp (reached dp p) w t (dp.vars - length p)) from.1 (whole-value dp p from.0 member x from.2))
    ]
