-- The list of feasible solutions, and the greatest value among them.
use Rattle.std.proofs.Common.{◌≡◌, ℕ, zero, suc, ◌+◌, ℤ, ◌≤ℤ◌, int_lt, List, [], ◌∷◌, length, map, filter, true, false, cond, Option, Some, None, inl, inr, refl, ap, subst, zero-add, arith}
use Rattle.std.proofs.lemmas.Int.{ints}
use Rattle.dp_model.specs.Dp.{Dp, IsAllowed}
use Rattle.dp_model.specs.Decisions.{below}
use Rattle.dp_model.specs.Numbers.{greatest, greatest_from}
use Rattle.dp_model.specs.Prefixes.{IsPath, IsSolution, value_of}
use Rattle.dp_model.specs.Best.{paths_of, solutions, best, IsBest}
use Rattle.dp_model.specs.Solution.{SolutionGives}
use Rattle.dp_model.proofs.Members.{Has, Has-map, Has-map-from, Has-filter, Has-filter-from, Has-flat_map, Has-flat_map-from, Has-below, Has-below-from}

-- each list of paths_of is a path of that many decisions
pub paths_of-are : (dp : Dp) (n k : ℕ) (s : List ℤ) → k + n ≡ dp.vars → (x : List ℕ) → Has x (paths_of dp n k s) → IsPath dp k s x × (length x ≡ n)
paths_of-are dp zero k s e x (inl same) = subst (λ y. IsPath dp k s y × (length y ≡ 0)) same (tt, refl)
paths_of-are dp zero k s e x (inr never) = absurd never
paths_of-are dp (suc n) k s e x h =
    let from = Has-flat_map-from (λ d. map (λ c. d ∷ c) (paths_of dp n (k + 1) (dp.step k s d))) (filter (dp.allowed k s) (below (dp.choices k))) x h in
    let d = from.0 in
    let choice = Has-filter-from (dp.allowed k s) (below (dp.choices k)) d from.1 in
    let rest = Has-map-from (λ (c : List ℕ). d ∷ c) (paths_of dp n (k + 1) (dp.step k s d)) x from.2 in
    let again = paths_of-are dp n (k + 1) (dp.step k s d) (omega arith) rest.0 rest.1 in
    let allowed : IsAllowed dp k s d = record { layer = omega arith; choice = Has-below-from (dp.choices k) d choice.0; test = choice.1 } in
    subst (λ y. IsPath dp k s y × (length y ≡ suc n)) rest.2 ((allowed, again.0), ap suc again.1)

-- each path of that many decisions is in paths_of
pub paths_of-all : (dp : Dp) (n k : ℕ) (s : List ℤ) (x : List ℕ) → IsPath dp k s x → length x ≡ n → Has x (paths_of dp n k s)
paths_of-all dp zero k s [] path e = inl refl
paths_of-all dp zero k s (d ∷ x) path e = absurd (omega arith)
paths_of-all dp (suc n) k s [] path e = absurd (omega arith)
paths_of-all dp (suc n) k s (d ∷ x) path e =
    let again = paths_of-all dp n (k + 1) (dp.step k s d) x path.1 (omega arith) in
    Has-flat_map (λ d. map (λ c. d ∷ c) (paths_of dp n (k + 1) (dp.step k s d))) (filter (dp.allowed k s) (below (dp.choices k))) d (d ∷ x)
    (Has-filter (dp.allowed k s) (below (dp.choices k)) d (Has-below (dp.choices k) d path.0.choice) path.0.test)
    (Has-map (λ (c : List ℕ). d ∷ c) (paths_of dp n (k + 1) (dp.step k s d)) x again)

pub solutions-are : (dp : Dp) (x : List ℕ) → Has x (solutions dp) → IsSolution dp x
solutions-are dp x h = let at = paths_of-are dp dp.vars 0 dp.root (zero-add dp.vars) x h in record { prefix = at.0; whole = at.1 }

pub solutions-all : (dp : Dp) (x : List ℕ) → IsSolution dp x → Has x (solutions dp)
solutions-all dp x h = paths_of-all dp dp.vars 0 dp.root x h.prefix h.whole

-- the greatest of a list is in it, and none is greater

pub greatest_from-least : (z : ℤ) (ys : List ℤ) → z ≤ℤ greatest_from z ys
greatest_from-least z [] = omega (arith, ints)
greatest_from-least z (y ∷ ys) =
    elim (int_lt z y) as (λ b. int_lt z y ≡ b → z ≤ℤ greatest_from (cond b y z) ys) [
      | true ↦ λ e. let up : z ≤ℤ y = grind (arith, ints) in let more = greatest_from-least y ys in omega (arith, ints)
      | false ↦ λ e. greatest_from-least z ys
    ] refl

pub greatest_from-most : (z : ℤ) (ys : List ℤ) (y : ℤ) → Has y ys → y ≤ℤ greatest_from z ys
greatest_from-most z [] y h = absurd h
greatest_from-most z (x ∷ ys) y (inl same) =
    elim (int_lt z x) as (λ b. int_lt z x ≡ b → y ≤ℤ greatest_from (cond b x z) ys) [
      | true ↦ λ e. subst (λ w. w ≤ℤ greatest_from x ys) same (greatest_from-least x ys)
      | false ↦ λ e. let low : x ≤ℤ z = grind (arith, ints) in let more = greatest_from-least z ys in subst (λ w. w ≤ℤ greatest_from z ys) same (omega (arith, ints))
    ] refl
greatest_from-most z (x ∷ ys) y (inr later) = greatest_from-most (cond (int_lt z x) x z) ys y later

pub greatest_from-in : (z : ℤ) (ys : List ℤ) → Has (greatest_from z ys) (z ∷ ys)
greatest_from-in z [] = inl refl
greatest_from-in z (y ∷ ys) =
    elim (int_lt z y) as (λ b. Has (greatest_from (cond b y z) ys) (z ∷ y ∷ ys)) [
      | true ↦ inr (greatest_from-in y ys)
      | false ↦ elim (greatest_from-in z ys) as (λ _. Has (greatest_from z ys) (z ∷ y ∷ ys)) [ inl same ↦ inl same | inr later ↦ inr (inr later) ]
    ]

best_of : (dp : Dp) (xs : List (List ℕ)) → ((x : List ℕ) → IsSolution dp x → Has x xs) → ((x : List ℕ) → Has x xs → IsSolution dp x) → IsBest dp (greatest (map (value_of dp) xs))
best_of dp [] all are = λ x h. absurd (all x h)
best_of dp (y ∷ ys) all are =
    let top = greatest_from (value_of dp y) (map (value_of dp) ys) in
    let from = Has-map-from (value_of dp) (y ∷ ys) top (greatest_from-in (value_of dp y) (map (value_of dp) ys)) in
    record {
      by = from.0;
      solution = are from.0 from.1;
      value = from.2;
      most = λ x h. elim (Has-map (value_of dp) (y ∷ ys) x (all x h)) as (λ _. value_of dp x ≤ℤ top) [
        | inl same ↦ subst (λ w. w ≤ℤ top) same (greatest_from-least (value_of dp y) (map (value_of dp) ys))
        | inr later ↦ greatest_from-most (value_of dp y) (map (value_of dp) ys) (value_of dp x) later
      ];
    }

pub best-is_best : (dp : Dp) → IsBest dp (best dp)
best-is_best dp = best_of dp (solutions dp) (solutions-all dp) (solutions-are dp)

-- two greatest values are the same
pub IsBest-unique : (dp : Dp) (v w : Option ℤ) → IsBest dp v → IsBest dp w → v ≡ w
IsBest-unique dp None None h k = refl
IsBest-unique dp None (Some w) h k = absurd (h k.by k.solution)
IsBest-unique dp (Some v) None h k = absurd (k h.by h.solution)
IsBest-unique dp (Some v) (Some w) h k =
    let up = h.most k.by k.solution in let down = k.most h.by h.solution in
    let mine = h.value in let other = k.value in
    ap Some (omega (arith, ints))

-- the value of a feasible solution is given, and where there is none nothing is
pub given_value : (dp : Dp) (x : List ℕ) (given : Option ℤ) → SolutionGives dp x given → IsSolution dp x → given ≡ Some (value_of dp x)
given_value dp x None gives h = absurd (gives h)
given_value dp x (Some v) gives h = ap Some gives.value

pub given_none : (dp : Dp) (x : List ℕ) (given : Option ℤ) → SolutionGives dp x given → (IsSolution dp x → ⊥) → given ≡ None
given_none dp x None gives never = refl
given_none dp x (Some v) gives never = absurd (never gives.solution)
