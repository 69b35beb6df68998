-- A compiled diagram is one as its readers have to show it.
use Rattle.std.proofs.Common.{◌≡◌, ℕ, zero, suc, ◌+◌, ◌<◌, ◌≤◌, nat_lt, nat_le, ℤ, ◌≤ℤ◌, int_lt, Bool, true, false, cond, ◌&&◌, ◌||◌, List, [], ◌∷◌, ◌++◌, length, map, take, find, slice_get, Option, Some, None, option_map, ◌⊎◌, inl, inr, IsTrue, refl, sym, ◌∙◌, ap, subst, arith, add-zero}
use Rattle.std.proofs.lemmas.Int.{ints}
use Rattle.std.proofs.lemmas.List.{take_all}
use Rattle.dp_model.specs.Dp.{Dp}
use Rattle.dp_model.specs.Decisions.{below}
use Rattle.dp_model.specs.Lists.{Each}
use Rattle.dp_model.specs.Numbers.{int_same}
use Rattle.dp_model.specs.Rows.{row_smaller}
use Rattle.dp_model.specs.Reached.{Reached, reached}
use Rattle.std.proofs.lemmas.Bool.{and_parts}
use Rattle.dp_model.proofs.RowLemmas.{int_same-is}
use Rattle.dp_laws.specs.Restricted.Beam.{expanded, whole_layer, is_reduced, reduced_to, layer_below, is_too_wide}
use Rattle.dp_laws.specs.Restricted.Extensions.{candidates}
use Rattle.dp_laws.specs.Restricted.Ordered.{IsInOrder}
use Rattle.dp_laws.specs.Pairs.{EachTwo}
use Rattle.dp_laws.specs.Restricted.ReductionOrder.{stands_before}
use Rattle.dp_laws.proofs.Restricted.Joining.{expansion}
use Rattle.dp_laws.specs.Diagrams.Nodes.{DdNode, prefix_at, as_member}
use Rattle.dp_laws.specs.Diagrams.Seen.{decisions_at, suffix_from, FallFrom}
use Rattle.dp_laws.proofs.Diagrams.Places.{same-Some}
use Rattle.dp_laws.proofs.Diagrams.Apart.{and-false}
use Rattle.dp_laws.specs.Rules.Redirects.{Redirect, with_redirected}
use Rattle.dp_laws.specs.Rules.Expanding.{node_for, new_layer, arc_of, with_arcs}
use Rattle.dp_laws.specs.Rules.Pruning.{pruned_nodes, prune_redirects}
use Rattle.dp_laws.specs.Rules.Reducing.{merge_redirects}
use Rattle.dp_laws.specs.Rules.Compiling.{first_of_layers, expand, prune, merge_rest, is_wide, built, compiled, first_reduced_below, with_suffixes, start_layer, kept_next, restricted_below}
use Rattle.dp_laws.proofs.Rules.Redirecting.{followed_node}
use Rattle.dp_laws.proofs.Rules.Pruned.{pruned-two}
use Rattle.dp_laws.proofs.Rules.Unreduced.{StandFor, length-same, next-stands}

-- The first layer that is reduced.

-- a search through the numbers below n

find-append : (test : ℕ → Bool) (xs ys : List ℕ) → find test xs ≡ None → find test (xs ++ ys) ≡ find test ys
find-append test [] ys e = refl
find-append test (x ∷ xs) ys e =
    elim (test x) as (λ b. cond b (Some x) (find test xs) ≡ None → cond b (Some x) (find test (xs ++ ys)) ≡ find test ys) [
      | true ↦ λ h. absurd (let clash : Some x ≡ None = h in cc)
      | false ↦ λ h. find-append test xs ys h
    ] e

find-kept : (test : ℕ → Bool) (xs ys : List ℕ) (m : ℕ) → find test xs ≡ Some m → find test (xs ++ ys) ≡ Some m
find-kept test [] ys m e = absurd (let none : None ≡ Some m = e in cc)
find-kept test (x ∷ xs) ys m e =
    elim (test x) as (λ b. cond b (Some x) (find test xs) ≡ Some m → cond b (Some x) (find test (xs ++ ys)) ≡ Some m) [
      | true ↦ λ h. h
      | false ↦ λ h. find-kept test xs ys m h
    ] e

find-none : (test : ℕ → Bool) (n : ℕ) → ((i : ℕ) → i < n → test i ≡ false) → find test (below n) ≡ None
find-none test zero h = refl
find-none test (suc n) h =
    let here : test n ≡ false = h n (omega arith) in
    find-append test (below n) (n ∷ []) (find-none test n (λ i less. h i (omega arith))) ∙ rw here refl

find-first : (test : ℕ → Bool) (n m : ℕ) → m < n → test m ≡ true → ((i : ℕ) → i < m → test i ≡ false) → find test (below n) ≡ Some m
find-first test zero m less e h = absurd (omega arith)
find-first test (suc n) m less e h =
    let at : (m < n) ⊎ (m ≡ n) = grind arith in
    elim at as (λ _. find test (below n ++ n ∷ []) ≡ Some m) [
      | inl lower ↦ find-kept test (below n) (n ∷ []) m (find-first test n m lower e h)
      | inr same ↦ (
          let none = find-none test n (λ i low. h i (omega arith)) in
          let here : test n ≡ true = ap test (sym same) ∙ e in
          find-append test (below n) (n ∷ []) none ∙ (rw here (ap Some (sym same))))
    ]

-- a layer is too wide exactly where that of the restricted diagram is
wide-same : (dp : Dp) (p : List ℕ) (w : ℕ) (t : Option ℤ) (m : ℕ) (layer : List DdNode) → StandFor layer (layer_below dp (reached dp p) w t m)
    → is_wide dp (length p) w (length p + m + 1) (prune dp (length p + m + 1) t (expand dp (length p + m) layer)).next ≡ is_too_wide dp (reached dp p) w t (suc m)
wide-same dp p w t m layer h =
    let long = length-same (prune dp (length p + m + 1) t (expand dp (length p + m) layer)).next (whole_layer dp (length p + m) t (layer_below dp (reached dp p) w t m)) (next-stands dp (length p + m) t layer (layer_below dp (reached dp p) w t m) h) in
    ap (λ n. is_reduced dp (length p) (length p + m + 1) && nat_lt w n) long

-- where the next layer is not reduced it stands for the next one of the restricted diagram
built-stands : (dp : Dp) (p : List ℕ) (w : ℕ) (t : Option ℤ) (m : ℕ) (layer : List DdNode) → StandFor layer (layer_below dp (reached dp p) w t m) → is_too_wide dp (reached dp p) w t (suc m) ≡ false
    → StandFor (built dp (length p) w t (length p + m) layer).next (layer_below dp (reached dp p) w t (suc m))
built-stands dp p w t m layer h e =
    let whole = whole_layer dp (length p + m) t (layer_below dp (reached dp p) w t m) in
    let not-wide = wide-same dp p w t m layer h ∙ e in
    let next = next-stands dp (length p + m) t layer (layer_below dp (reached dp p) w t m) h in
    let uncut : reduced_to dp w (length p) (length p + m + 1) whole ≡ whole =
    elim (is_reduced dp (length p) (length p + m + 1)) as (λ b. (b && nat_lt w (length whole)) ≡ false → cond b (take w whole) whole ≡ whole) [
      | true ↦ λ x. take_all w whole (let test : nat_lt w (length whole) ≡ false = x in grind arith)
      | false ↦ λ x. refl
    ] e in
    let plain : (built dp (length p) w t (length p + m) layer).next ≡ (prune dp (length p + m + 1) t (expand dp (length p + m) layer)).next = rw not-wide refl in
    subst (λ ns. StandFor ns (reduced_to dp w (length p) (length p + m + 1) whole)) (sym plain) (subst (λ rs. StandFor (prune dp (length p + m + 1) t (expand dp (length p + m) layer)).next rs) (sym uncut) next)

-- the layers are not too wide as far as the m-th
abbrev pub NoneTooWide : Dp → List ℕ → ℕ → Option ℤ → ℕ → Type 0
NoneTooWide dp p w t m = (i : ℕ) → i < m + 1 → is_too_wide dp (reached dp p) w t i ≡ false

none-further : (dp : Dp) (p : List ℕ) (w : ℕ) (t : Option ℤ) (m : ℕ) → NoneTooWide dp p w t m → is_too_wide dp (reached dp p) w t (suc m) ≡ false → NoneTooWide dp p w t (m + 1)
none-further dp p w t m h e = λ i less.
    let at : (i < m + 1) ⊎ (suc m ≡ i) = grind arith in
    elim at as (λ _. is_too_wide dp (reached dp p) w t i ≡ false) [ inl low ↦ h i low | inr same ↦ subst (λ n. is_too_wide dp (reached dp p) w t n ≡ false) same e ]

pub reduced-first : (dp : Dp) (p : List ℕ) (w : ℕ) (t : Option ℤ) (m' m : ℕ) (layer : List DdNode) → StandFor layer (layer_below dp (reached dp p) w t m) → NoneTooWide dp p w t m
    → first_reduced_below dp (length p) w t (length p + m) m' layer ≡ option_map (λ j. length p + j) (find (is_too_wide dp (reached dp p) w t) (below (m + m' + 1)))
reduced-first dp p w t zero m layer h none =
    let nothing = find-none (is_too_wide dp (reached dp p) w t) (m + 0 + 1) (λ i less. none i (omega arith)) in
    sym (ap (option_map (λ j. length p + j)) nothing)
reduced-first dp p w t (suc m') m layer h none =
    let same = wide-same dp p w t m layer h in
    let Goal : Bool → Type 0 = λ b. cond b (Some (length p + m + 1)) (first_reduced_below dp (length p) w t (length p + m + 1) m' (built dp (length p) w t (length p + m) layer).next) ≡ option_map (λ j. length p + j) (find (is_too_wide dp (reached dp p) w t) (below (m + suc m' + 1))) in
    let split : (b : Bool) → is_too_wide dp (reached dp p) w t (suc m) ≡ b → Goal b = λ b. elim b as (λ b. is_too_wide dp (reached dp p) w t (suc m) ≡ b → Goal b) [
      | true ↦ λ e. (
          let found = find-first (is_too_wide dp (reached dp p) w t) (m + suc m' + 1) (suc m) (omega arith) e (λ i less. none i (omega arith)) in
          let sum : length p + m + 1 ≡ length p + suc m = omega arith in
          ap Some sum ∙ sym (ap (option_map (λ j. length p + j)) found))
      | false ↦ λ e. (
          let stands = built-stands dp p w t m layer h e in
          let one : suc m ≡ m + 1 = omega arith in
          let sum : length p + m + 1 ≡ length p + (m + 1) = omega arith in
          let count : m + 1 + m' + 1 ≡ m + suc m' + 1 = omega arith in
          let next = (built dp (length p) w t (length p + m) layer).next in
          let ih = reduced-first dp p w t m' (m + 1) next (subst (λ n. StandFor next (layer_below dp (reached dp p) w t n)) one stands) (none-further dp p w t m none e) in
          subst (λ k. first_reduced_below dp (length p) w t k m' next ≡ option_map (λ j. length p + j) (find (is_too_wide dp (reached dp p) w t) (below (m + suc m' + 1)))) (sym sum)
          (subst (λ n. first_reduced_below dp (length p) w t (length p + (m + 1)) m' next ≡ option_map (λ j. length p + j) (find (is_too_wide dp (reached dp p) w t) (below n))) count ih))
    ] in
    subst Goal (sym same) (split (is_too_wide dp (reached dp p) w t (suc m)) refl)

-- The layers above it.

-- looking at a layer as members leaves out arcs and suffixes
members-same : (f : DdNode → DdNode) → ((x : DdNode) → as_member (f x) ≡ as_member x) → (layer : List DdNode) → map as_member (map f layer) ≡ map as_member layer
members-same f keeps [] = refl
members-same f keeps (x ∷ layer) = ap (λ o. o ∷ map as_member (map f layer)) (keeps x) ∙ ap (λ os. as_member x ∷ os) (members-same f keeps layer)

members-ended : (dp : Dp) (k : ℕ) (next layer : List DdNode) → map as_member (map (λ (node : DdNode). record node { suffix = suffix_from dp k next node.arcs }) layer) ≡ map as_member layer
members-ended dp k next layer = members-same (λ (node : DdNode). record node { suffix = suffix_from dp k next node.arcs }) (λ x. refl) layer

members-redirected : (redirects : List (Option Redirect)) (layer : List DdNode) → map as_member (with_redirected redirects layer) ≡ map as_member layer
members-redirected redirects layer = members-same (followed_node redirects) (λ x. refl) layer

members-built : (dp : Dp) (first w : ℕ) (t : Option ℤ) (k : ℕ) (layer : List DdNode) → map as_member (built dp first w t k layer).above ≡ map as_member layer
members-built dp first w t k layer =
    let next = new_layer dp k layer in
    let two = prune dp (k + 1) t (expand dp k layer) in
    let one = members-same (λ (node : DdNode). record node { arcs = map (arc_of dp k next node.row) (decisions_at dp k node.row) }) (λ x. refl) layer in
    let pruned : map as_member two.above ≡ map as_member layer = members-redirected (prune_redirects dp (k + 1) t [] 0 next) (with_arcs dp k next layer) ∙ one in
    elim (is_wide dp first w (k + 1) two.next) as (λ v. map as_member (cond v (merge_rest dp (k + 1) w two) two).above ≡ map as_member layer) [
      | true ↦ members-redirected (merge_redirects dp (k + 1) w two.next) two.above ∙ pruned
      | false ↦ pruned
    ]

-- the layer at a place stands for that of the restricted diagram
pub record StandsAt (dp : Dp) (p : List ℕ) (w : ℕ) (t : Option ℤ) (ds : List (List DdNode)) (i m : ℕ) : Type 0 where
  pub layer : List DdNode
  pub at : slice_get ds i ≡ Some layer
  pub stands : StandFor layer (layer_below dp (reached dp p) w t m)

-- the depth is above the first one that is reduced
abbrev pub IsAbove : ℕ → Option ℕ → Type 0
IsAbove depth None = Unit {0}
IsAbove depth (Some first) = depth < first

above-next : (b : Bool) (k i : ℕ) (o : Option ℕ) → IsAbove (k + suc i) (cond b (Some (k + 1)) o) → b ≡ false
above-next true k i o h = absurd (let less : k + suc i < k + 1 = h in omega arith)
above-next false k i o h = refl

pub stands-at : (dp : Dp) (p : List ℕ) (w : ℕ) (t : Option ℤ) (m' m i : ℕ) (layer : List DdNode) → StandFor layer (layer_below dp (reached dp p) w t m) → i ≤ m' → IsAbove (length p + m + i) (first_reduced_below dp (length p) w t (length p + m) m' layer)
    → StandsAt dp p w t (with_suffixes dp (length p + m) (compiled dp (length p) w t (length p + m) m' layer)) i (m + i)
stands-at dp p w t zero m zero layer h few above = record {
  layer = map (λ (node : DdNode). record node { suffix = suffix_from dp (length p + m) [] node.arcs }) layer;
  at = refl;
  stands = members-ended dp (length p + m) [] layer ∙ subst (λ n. StandFor layer (layer_below dp (reached dp p) w t n)) (sym (add-zero m)) h;
}
stands-at dp p w t zero m (suc i) layer h few above = absurd (omega arith)
stands-at dp p w t (suc m') m zero layer h few above =
    let k = length p + m in
    let two = built dp (length p) w t k layer in
    let rest = with_suffixes dp (k + 1) (compiled dp (length p) w t (k + 1) m' two.next) in
    record {
      layer = map (λ (node : DdNode). record node { suffix = suffix_from dp k (first_of_layers rest) node.arcs }) two.above;
      at = refl;
      stands = members-ended dp k (first_of_layers rest) two.above ∙ (members-built dp (length p) w t k layer ∙ subst (λ n. StandFor layer (layer_below dp (reached dp p) w t n)) (sym (add-zero m)) h);
    }
stands-at dp p w t (suc m') m (suc i) layer h few above =
    let k = length p + m in
    let next = (built dp (length p) w t k layer).next in
    let unwide : is_wide dp (length p) w (k + 1) (prune dp (k + 1) t (expand dp k layer)).next ≡ false =
    above-next (is_wide dp (length p) w (k + 1) (prune dp (k + 1) t (expand dp k layer)).next) k i (first_reduced_below dp (length p) w t (k + 1) m' next) above in
    let stands = built-stands dp p w t m layer h (sym (wide-same dp p w t m layer h) ∙ unwide) in
    let later : IsAbove (k + suc i) (first_reduced_below dp (length p) w t (k + 1) m' next) = subst (λ b. IsAbove (k + suc i) (cond b (Some (k + 1)) (first_reduced_below dp (length p) w t (k + 1) m' next))) unwide above in
    let one : suc m ≡ m + 1 = omega arith in
    let sum : length p + (m + 1) ≡ k + 1 = omega arith in
    let depth : k + suc i ≡ length p + (m + 1) + i = omega arith in
    let shown : IsAbove (length p + (m + 1) + i) (first_reduced_below dp (length p) w t (length p + (m + 1)) m' next) = subst (λ n. IsAbove (length p + (m + 1) + i) (first_reduced_below dp (length p) w t n m' next)) (sym sum) (subst (λ n. IsAbove n (first_reduced_below dp (length p) w t (k + 1) m' next)) depth later) in
    let ih = stands-at dp p w t m' (m + 1) i next (subst (λ n. StandFor next (layer_below dp (reached dp p) w t n)) one stands) (omega arith) shown in
    let place : m + 1 + i ≡ m + suc i = omega arith in
    let moved : StandsAt dp p w t (with_suffixes dp (k + 1) (compiled dp (length p) w t (k + 1) m' next)) i (m + suc i) = subst (λ n. StandsAt dp p w t (with_suffixes dp n (compiled dp (length p) w t n m' next)) i (m + suc i)) sum (subst (λ n. StandsAt dp p w t (with_suffixes dp (length p + (m + 1)) (compiled dp (length p) w t (length p + (m + 1)) m' next)) i n) place ih) in
    record { layer = moved.layer; at = moved.at; stands = moved.stands }

-- lists with the same at each place below a count have the same front
pub front-same : {X Y Z : Type 0} (f : X → Z) (g : Y → Z) (count : ℕ) (xs : List X) (ys : List Y) → ((i : ℕ) → i < count → (x : X) × (y : Y) × (slice_get xs i ≡ Some x) × (slice_get ys i ≡ Some y) × (f x ≡ g y)) → map f (take count xs) ≡ map g (take count ys)
front-same f g zero xs ys h = refl
front-same f g (suc count) [] ys h = absurd (let at = h 0 (omega arith) in let none : None ≡ Some at.0 = at.2 in cc)
front-same f g (suc count) (x ∷ xs) [] h = absurd (let at = h 0 (omega arith) in let none : None ≡ Some at.1 = at.3 in cc)
front-same f g (suc count) (x ∷ xs) (y ∷ ys) h =
    let at = h 0 (omega arith) in
    let here : f x ≡ g y = ap f (same-Some x at.0 at.2) ∙ (at.4 ∙ ap g (sym (same-Some y at.1 at.3))) in
    let rest = front-same f g count xs ys (λ i less. h (suc i) (omega arith)) in
    ap (λ z. z ∷ map f (take count xs)) here ∙ ap (λ zs. g y ∷ zs) rest

-- The order of the last layer.

falls-each : (f : DdNode → DdNode) → ((x : DdNode) → (f x).value ≡ x.value) → (node : DdNode) (xs : List DdNode) → Each (λ (other : DdNode). other.value ≤ℤ node.value) xs → Each (λ (other : DdNode). other.value ≤ℤ (f node).value) (map f xs)
falls-each f keeps node [] h = tt
falls-each f keeps node (x ∷ xs) h = ((let a = keeps node in let b = keeps x in let c = h.0 in omega (arith, ints)), falls-each f keeps node xs h.1)

falls-mapped : (f : DdNode → DdNode) → ((x : DdNode) → (f x).value ≡ x.value) → (xs : List DdNode) → FallFrom xs → FallFrom (map f xs)
falls-mapped f keeps [] h = tt
falls-mapped f keeps (x ∷ xs) h = (falls-each f keeps x xs h.0, falls-mapped f keeps xs h.1)

falls-two : (xs : List DdNode) → EachTwo (λ (a b : DdNode). b.value ≤ℤ a.value) xs → FallFrom xs
falls-two [] h = tt
falls-two (x ∷ xs) h = (h.0, falls-two xs h.1)

before-falls : (dp : Dp) (k : ℕ) (a b : Reached) → IsTrue (stands_before dp k a b) → b.value ≤ℤ a.value
before-falls dp k a b h =
    elim (int_lt b.value a.value) as (λ v. int_lt b.value a.value ≡ v → IsTrue (v || (int_same a.value b.value && (int_lt (dp.rank k b.row) (dp.rank k a.row) || (int_same (dp.rank k a.row) (dp.rank k b.row) && row_smaller a.row b.row)))) → b.value ≤ℤ a.value) [
      | true ↦ λ e x. (let low : int_lt b.value a.value ≡ true = e in grind (arith, ints))
      | false ↦ λ e x. (let same = int_same-is a.value b.value (and_parts (int_same a.value b.value) (int_lt (dp.rank k b.row) (dp.rank k a.row) || (int_same (dp.rank k a.row) (dp.rank k b.row) && row_smaller a.row b.row)) x).0 in omega (arith, ints))
    ] refl h

falls-for : (dp : Dp) (k d : ℕ) (layer : List DdNode) (r : Reached) (rs : List Reached) → Each (λ (b : Reached). IsTrue (stands_before dp d r b)) rs → Each (λ (b : DdNode). b.value ≤ℤ (node_for dp k layer r).value) (map (node_for dp k layer) rs)
falls-for dp k d layer r [] h = tt
falls-for dp k d layer r (q ∷ rs) h = (before-falls dp d r q h.0, falls-for dp k d layer r rs h.1)

falls-new : (dp : Dp) (k d : ℕ) (layer : List DdNode) (rs : List Reached) → IsInOrder dp d rs → EachTwo (λ (a b : DdNode). b.value ≤ℤ a.value) (map (node_for dp k layer) rs)
falls-new dp k d layer [] h = tt
falls-new dp k d layer (r ∷ rs) h = (falls-for dp k d layer r rs h.0, falls-new dp k d layer rs h.1)

falls-pruned : (dp : Dp) (k : ℕ) (t : Option ℤ) (layer : List DdNode) → FallFrom (prune dp (k + 1) t (expand dp k layer)).next
falls-pruned dp k t layer =
    falls-two (pruned_nodes dp (k + 1) t [] 0 (new_layer dp k layer))
    (pruned-two (λ (a b : DdNode). b.value ≤ℤ a.value) dp (k + 1) t [] 0 (new_layer dp k layer) (falls-new dp k (k + 1) layer (expanded dp k (map prefix_at layer)) (expansion dp (k + 1) (candidates dp k (map prefix_at layer))).order))

uncut-last : (dp : Dp) (first depth : ℕ) → depth ≡ dp.vars → is_reduced dp first depth ≡ false
uncut-last dp first depth e =
    let over : nat_lt depth dp.vars ≡ false = grind arith in
    rw over (and-false (nat_le (first + 2) depth))

falls-built : (dp : Dp) (first w : ℕ) (t : Option ℤ) (k : ℕ) (layer : List DdNode) → k + 1 ≡ dp.vars → FallFrom (built dp first w t k layer).next
falls-built dp first w t k layer e =
    let uncut = uncut-last dp first (k + 1) e in
    let two = prune dp (k + 1) t (expand dp k layer) in
    let plain : (built dp first w t k layer).next ≡ two.next = rw uncut refl in
    subst FallFrom (sym plain) (falls-pruned dp k t layer)

-- the last layer, by its place
pub record LastFalls (ds : List (List DdNode)) (i : ℕ) : Type 0 where
  pub layer : List DdNode
  pub at : slice_get ds i ≡ Some layer
  pub falls : FallFrom layer

pub last-falls : (dp : Dp) (first w : ℕ) (t : Option ℤ) (k m : ℕ) (layer : List DdNode) → k + m ≡ dp.vars → (k ≡ dp.vars → FallFrom layer) → LastFalls (with_suffixes dp k (compiled dp first w t k m layer)) m
last-falls dp first w t k zero layer e falls = record {
  layer = map (λ (node : DdNode). record node { suffix = suffix_from dp k [] node.arcs }) layer;
  at = refl;
  falls = falls-mapped (λ (node : DdNode). record node { suffix = suffix_from dp k [] node.arcs }) (λ x. refl) layer (falls (omega arith));
}
last-falls dp first w t k (suc m) layer e falls =
    let ih = last-falls dp first w t (k + 1) m (built dp first w t k layer).next (omega arith) (λ last. falls-built dp first w t k layer last) in
    record { layer = ih.layer; at = ih.at; falls = ih.falls }

-- The layers of a restricted diagram.

map-take : (w : ℕ) (layer : List DdNode) → take w (map as_member layer) ≡ map as_member (take w layer)
map-take zero layer = refl
map-take (suc w) [] = refl
map-take (suc w) (x ∷ layer) = ap (λ l. as_member x ∷ l) (map-take w layer)

map-take-some : (w : ℕ) (rs : List Reached) → take w (map (λ (r : Reached). Some r) rs) ≡ map (λ (r : Reached). Some r) (take w rs)
map-take-some zero rs = refl
map-take-some (suc w) [] = refl
map-take-some (suc w) (r ∷ rs) = ap (λ l. Some r ∷ l) (map-take-some w rs)

stands-take : (w : ℕ) (layer : List DdNode) (rs : List Reached) → StandFor layer rs → StandFor (take w layer) (take w rs)
stands-take w layer rs h = sym (map-take w layer) ∙ (ap (take w) h ∙ map-take-some w rs)

kept-stands : (dp : Dp) (p : List ℕ) (w : ℕ) (t : Option ℤ) (m : ℕ) (layer : List DdNode) → StandFor layer (layer_below dp (reached dp p) w t m) → StandFor (kept_next dp (length p) w t (length p + m) layer) (layer_below dp (reached dp p) w t (suc m))
kept-stands dp p w t m layer h =
    let whole = whole_layer dp (length p + m) t (layer_below dp (reached dp p) w t m) in
    let two = prune dp (length p + m + 1) t (expand dp (length p + m) layer) in
    let next : StandFor two.next whole = next-stands dp (length p + m) t layer (layer_below dp (reached dp p) w t m) h in
    let long = length-same two.next whole next in
    let Goal : Bool → Type 0 = λ c. StandFor (cond (c && nat_lt w (length two.next)) (take w two.next) two.next) (cond c (take w whole) whole) in
    let inside : (b : Bool) → nat_lt w (length two.next) ≡ b → StandFor (cond b (take w two.next) two.next) (take w whole) = λ b.
    elim b as (λ b. nat_lt w (length two.next) ≡ b → StandFor (cond b (take w two.next) two.next) (take w whole)) [
      | true ↦ λ e. stands-take w two.next whole next
      | false ↦ λ e. subst (StandFor two.next) (sym (take_all w whole (grind arith))) next
    ] in
    elim (is_reduced dp (length p) (length p + m + 1)) as Goal [ true ↦ inside (nat_lt w (length two.next)) refl | false ↦ next ]

-- each layer of a restricted diagram that is built by the rules stands for the one that is defined on prefixes
pub restricted-stands : (dp : Dp) (p : List ℕ) (w : ℕ) (t : Option ℤ) (m : ℕ) → StandFor (restricted_below dp (length p) w t (length p) m (start_layer (reached dp p))) (layer_below dp (reached dp p) w t m)
restricted-stands dp p w t zero = refl
restricted-stands dp p w t (suc m) = kept-stands dp p w t m (restricted_below dp (length p) w t (length p) m (start_layer (reached dp p))) (restricted-stands dp p w t m)
