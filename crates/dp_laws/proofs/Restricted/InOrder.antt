-- Layers stand in the reduction order, and none of their members is struck.
use Rattle.std.proofs.Common.{◌≡◌, ℕ, zero, suc, ◌+◌, ◌-◌, ◌*◌, ◌≤◌, ◌≤ℤ◌, Bool, true, false, not, cond, List, [], ◌∷◌, length, filter, option_map, IsTrue, refl, subst, arith, length-append, Option, take, ◌++◌, ℤ}
use Rattle.std.proofs.lemmas.Int.{ints}
use Rattle.std.proofs.Math.Nat.{suc-mul}
use Rattle.std.proofs.lemmas.List.{length-map}
use Rattle.std.specs.List.{flat_map}
use Rattle.dp_model.specs.Decisions.{below}
use Rattle.dp_model.specs.Dp.{Dp}
use Rattle.dp_model.specs.Gaps.{is_struck_by}
use Rattle.dp_model.specs.Lists.{Each}
use Rattle.dp_model.specs.Numbers.{AtMost}
use Rattle.dp_model.specs.Reached.{Reached, reached}
use Rattle.dp_model.specs.Rows.{row_same}
use Rattle.dp_model.proofs.Members.{Each-then}
use Rattle.dp_laws.specs.Restricted.Beam.{expanded, pruned, whole_layer, is_reduced, reduced_to, layer_below}
use Rattle.dp_laws.specs.Restricted.BeamGives.{BeamsAreGreatest, MembersAreUnstruck}
use Rattle.dp_laws.specs.Restricted.Beams.{first_of_all}
use Rattle.dp_laws.specs.Restricted.Extensions.{better, joined, all_joined, extended, extensions, candidates}
use Rattle.dp_laws.specs.Restricted.Leaders.{unstruck, dominated, leaders_after, undominated}
use Rattle.dp_laws.specs.Restricted.Ordered.{IsInOrder, LayersInOrder}
use Rattle.dp_laws.specs.Restricted.ReductionOrder.{stands_before, placed, in_order}
use Rattle.dp_laws.proofs.Diagrams.Places.{length-below}
use Rattle.dp_laws.proofs.Restricted.Differing.{two-pruned, two-cut, differ-all_joined}
use Rattle.dp_laws.proofs.Restricted.Keeping.{each-undominated, each-cut}
use Rattle.dp_laws.proofs.Restricted.Orders.{order-in_order}

pub layer-ordered : (dp : Dp) (k : ℕ) (layer : List Reached) → IsInOrder dp (k + 1) (expanded dp k layer)
layer-ordered dp k layer = order-in_order dp (k + 1) (all_joined [] (candidates dp k layer)) (differ-all_joined [] (candidates dp k layer) tt)

pub layers-ordered : (dp : Dp) → LayersInOrder dp
layers-ordered dp r w t zero = (tt, tt)
layers-ordered dp r w t (suc m) =
    let layer = layer_below dp r w t m in let k = length r.decisions + m in
    let R : Reached → Reached → Type 0 = λ a b. IsTrue (stands_before dp (k + 1) a b) in
    let done : IsInOrder dp (k + 1) (layer_below dp r w t (suc m)) =
    two-cut R dp w (length r.decisions) (k + 1) (whole_layer dp k t layer) (two-pruned R dp (k + 1) t (expanded dp k layer) (layer-ordered dp k layer)) in
    let same : k + 1 ≡ length r.decisions + suc m = omega arith in
    subst (λ n. IsInOrder dp n (layer_below dp r w t (suc m))) same done

-- The beam is the greatest of the last layer.

falls : (dp : Dp) (k : ℕ) (a b : Reached) → IsTrue (stands_before dp k a b) → b.value ≤ℤ a.value
falls dp k a b h = grind (arith, ints)

first-greatest : (dp : Dp) (k : ℕ) (rs : List Reached) → IsInOrder dp k rs → Each (λ (r : Reached). AtMost r.value (option_map (λ (b : Reached). b.value) (first_of_all rs))) rs
first-greatest dp k [] h = tt
first-greatest dp k (r ∷ rs) h = (omega (arith, ints), Each-then (λ b. IsTrue (stands_before dp k r b)) (λ (b : Reached). b.value ≤ℤ r.value) rs (λ b e. falls dp k r b e) h.0)

pub beams-greatest : (dp : Dp) → BeamsAreGreatest dp
beams-greatest dp p w t = first-greatest dp (length p + (dp.vars - length p)) (layer_below dp (reached dp p) w t (dp.vars - length p)) (layers-ordered dp (reached dp p) w t (dp.vars - length p))

-- None is struck.

kept-by : (test : Reached → Bool) (rs : List Reached) → Each (λ r. test r ≡ false) (filter (λ r. not (test r)) rs)
kept-by test [] = tt
kept-by test (r ∷ rs) =
    elim (test r) as (λ b. test r ≡ b → Each (λ r. test r ≡ false) (cond (not b) (r ∷ filter (λ r. not (test r)) rs) (filter (λ r. not (test r)) rs))) [
      | true ↦ λ e. kept-by test rs
      | false ↦ λ e. (e, kept-by test rs)
    ] refl

pub members-unstruck : (dp : Dp) → MembersAreUnstruck dp
members-unstruck dp r w t m =
    let layer = layer_below dp r w t m in let k = length r.decisions + m in
    let Unstruck : Reached → Type 0 = λ c. is_struck_by c.value (dp.rough (k + 1) c.row) t ≡ false in
    each-cut Unstruck dp w (length r.decisions) (k + 1) (whole_layer dp k t layer)
    (each-undominated Unstruck dp (k + 1) [] (unstruck dp (k + 1) t (expanded dp k layer)) (kept-by (λ c. is_struck_by c.value (dp.rough (k + 1) c.row) t) (expanded dp k layer)))

-- How many there are.

few-joined : (rs : List Reached) (new : Reached) → length (joined rs new) ≤ length rs + 1
few-joined [] new = omega arith
few-joined (r ∷ rs) new =
    elim (row_same r.row new.row) as (λ b. length (cond b (better r new ∷ rs) (r ∷ joined rs new)) ≤ length (r ∷ rs) + 1) [
      | true ↦ omega arith
      | false ↦ (let few = few-joined rs new in omega arith)
    ]

few-all_joined : (rs news : List Reached) → length (all_joined rs news) ≤ length rs + length news
few-all_joined rs [] = omega arith
few-all_joined rs (new ∷ news) = let one = few-joined rs new in let rest = few-all_joined (joined rs new) news in omega arith

length-placed : (dp : Dp) (k : ℕ) (new : Reached) (rs : List Reached) → length (placed dp k new rs) ≡ length rs + 1
length-placed dp k new [] = refl
length-placed dp k new (r ∷ rs) =
    elim (stands_before dp k new r) as (λ b. length (cond b (new ∷ r ∷ rs) (r ∷ placed dp k new rs)) ≡ length (r ∷ rs) + 1) [
      | true ↦ omega arith
      | false ↦ (let rest = length-placed dp k new rs in omega arith)
    ]

length-in_order : (dp : Dp) (k : ℕ) (rs : List Reached) → length (in_order dp k rs) ≡ length rs
length-in_order dp k [] = refl
length-in_order dp k (r ∷ rs) = let one = length-placed dp k r (in_order dp k rs) in let rest = length-in_order dp k rs in omega arith

few-filter : {X : Type 0} (p : X → Bool) (xs : List X) → length (filter p xs) ≤ length xs
few-filter p [] = omega arith
few-filter p (x ∷ xs) =
    let rest = few-filter p xs in
    elim (p x) as (λ b. length (cond b (x ∷ filter p xs) (filter p xs)) ≤ length (x ∷ xs)) [ true ↦ omega arith | false ↦ omega arith ]

few-extensions : (dp : Dp) (k : ℕ) (r : Reached) → length (extensions dp k r) ≤ dp.choices k
few-extensions dp k r =
    let allowed = filter (dp.allowed k r.row) (below (dp.choices k)) in
    let few = few-filter (dp.allowed k r.row) (below (dp.choices k)) in
    let all = length-below (dp.choices k) in
    let long : length (extensions dp k r) ≡ length allowed = length-map allowed (extended dp k r) in
    omega arith

pub few-candidates : (dp : Dp) (k : ℕ) (layer : List Reached) → length (candidates dp k layer) ≤ length layer * dp.choices k
few-candidates dp k [] = omega arith
few-candidates dp k (r ∷ layer) =
    let sum = length-append (extensions dp k r) (flat_map (extensions dp k) layer) in
    let one = few-extensions dp k r in
    let rest = few-candidates dp k layer in
    let more : length (r ∷ layer) * dp.choices k ≡ length layer * dp.choices k + dp.choices k = suc-mul (length layer) (dp.choices k) in
    omega arith

pub few-expanded : (dp : Dp) (k : ℕ) (layer : List Reached) → length (expanded dp k layer) ≤ length layer * dp.choices k
few-expanded dp k layer =
    let order = length-in_order dp (k + 1) (all_joined [] (candidates dp k layer)) in
    let few = few-all_joined [] (candidates dp k layer) in
    let all = few-candidates dp k layer in
    omega arith

few-undominated : (dp : Dp) (k : ℕ) (leaders rs : List Reached) → length (undominated dp k leaders rs) ≤ length rs
few-undominated dp k leaders [] = omega arith
few-undominated dp k leaders (r ∷ rs) =
    let rest = few-undominated dp k (leaders_after dp k leaders r) rs in
    elim (dominated dp k leaders r) as (λ b. length (cond b [] (r ∷ []) ++ undominated dp k (leaders_after dp k leaders r) rs) ≤ length (r ∷ rs)) [ true ↦ omega arith | false ↦ omega arith ]

pub few-pruned : (dp : Dp) (k : ℕ) (t : Option ℤ) (rs : List Reached) → length (pruned dp k t rs) ≤ length rs
few-pruned dp k t rs =
    let left = few-undominated dp k [] (unstruck dp k t rs) in
    let few = few-filter (λ (r : Reached). not (is_struck_by r.value (dp.rough k r.row) t)) rs in
    omega arith

few-take : (n : ℕ) (rs : List Reached) → length (take n rs) ≤ length rs
few-take zero rs = omega arith
few-take (suc n) [] = omega arith
few-take (suc n) (r ∷ rs) = let rest = few-take n rs in omega arith

pub few-reduced : (dp : Dp) (w first depth : ℕ) (rs : List Reached) → length (reduced_to dp w first depth rs) ≤ length rs
few-reduced dp w first depth rs =
    let few = few-take w rs in
    elim (is_reduced dp first depth) as (λ b. length (cond b (take w rs) rs) ≤ length rs) [ true ↦ few | false ↦ omega arith ]
