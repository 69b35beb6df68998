-- What an entry more changes: the value by what the entry gives, and the limits by its most.
use Rattle.std.proofs.Common.{◌≡◌, ℕ, zero, suc, ◌+◌, ◌-◌, ◌<◌, ℤ, pos, ◌+ℤ◌, List, [], ◌∷◌, length, take, drop, get_or, set, replicate, Bool, arith, refl, ap, ◌∙◌, sym}
use Rattle.std.specs.Prelude.{IsTrue}
use Rattle.std.specs.List.{list_all}
use Rattle.std.proofs.lemmas.Int.{ints}
use Rattle.std.proofs.lemmas.Bool.{and_parts, and_from}
use Rattle.std.proofs.lemmas.List.{take-set-le, drop-set-lt, drop-set-add, take-replicate, drop-replicate, get_or-take, get_or-drop, length-take-le, length-drop}
use Rattle.pair_rows.specs.declared.values.UnitValues.{UnitValues}
use Rattle.pair_rows.specs.declared.values.PairValues.{PairValues}
use Rattle.pair_rows.specs.Pairs.{rows_of, pair_count, entries_before, total_by}
use Rattle.pair_rows.specs.Instance.{no_unit, no_pair}
use Rattle.pair_rows.specs.Limits.{unit_fits, pair_fits}
use Rattle.pair_rows.specs.Laws.Limits.{is-up_to, unit-fits, pair-fits}
use Rattle.pair_rows.specs.OwnWords.{unit_value, pair_value, units_value, row_value, rows_value}
use Rattle.pair_problem.specs.Adding.{unit_sum, pair_sum, place_of}

-- lists with another entry

pub all-set : {X : Type 0} (test : X → Bool) (xs : List X) (i : ℕ) (x : X) → IsTrue (list_all test xs) → IsTrue (test x) → IsTrue (list_all test (set xs i x))
all-set test [] i x h new = refl
all-set test (y ∷ ys) zero x h new = and_from (test x) _ new (and_parts (test y) _ h).1
all-set test (y ∷ ys) (suc i) x h new = and_from (test y) _ (and_parts _ _ h).0 (all-set test ys i x (and_parts (test y) _ h).1 new)

pub all-replicate : {X : Type 0} (test : X → Bool) (n : ℕ) (x : X) → IsTrue (test x) → IsTrue (list_all test (replicate n x))
all-replicate test zero x h = refl
all-replicate test (suc n) x h = and_from (test x) _ h (all-replicate test n x h)

pub total_by-set : {X : Type 0} (number : X → ℤ) (xs : List X) (i : ℕ) (none x : X) → i < length xs →
    total_by number (set xs i x) +ℤ number (get_or xs i none) ≡ total_by number xs +ℤ number x
total_by-set number [] i none x h = absurd (omega arith)
total_by-set number (y ∷ ys) zero none x h = omega (arith, ints)
total_by-set number (y ∷ ys) (suc i) none x h = omega (arith, ints, total_by-set number ys i none x (omega arith))

pub total_by-replicate : {X : Type 0} (number : X → ℤ) (n : ℕ) (x : X) → number x ≡ pos 0 → total_by number (replicate n x) ≡ pos 0
total_by-replicate number zero x h = refl
total_by-replicate number (suc n) x h = omega (arith, ints, total_by-replicate number n x h)

take-set-lt : {X : Type 0} (n : ℕ) (xs : List X) (i : ℕ) (x : X) → i < n → take n (set xs i x) ≡ set (take n xs) i x
take-set-lt zero xs i x h = absurd (omega arith)
take-set-lt (suc n) [] i x h = refl
take-set-lt (suc n) (y ∷ ys) zero x h = refl
take-set-lt (suc n) (y ∷ ys) (suc i) x h = ap (λ zs. y ∷ zs) (take-set-lt n ys i x (omega arith))

-- sums keep to the limits

pub unit_sum-fits : (u v : UnitValues) → IsTrue (unit_fits u) → IsTrue (unit_fits v) → IsTrue (unit_fits (unit_sum u v))
unit_sum-fits u v h g =
    let a = unit-fits u h in
    let b = unit-fits v g in
    and_from _ _ (is-up_to (u.most +ℤ v.most) (u.if_no +ℤ v.if_no) (omega (arith, ints, a.if_no, b.if_no)) (omega (arith, ints, a.no_most, b.no_most)))
    (is-up_to (u.most +ℤ v.most) (u.if_yes +ℤ v.if_yes) (omega (arith, ints, a.if_yes, b.if_yes)) (omega (arith, ints, a.yes_most, b.yes_most)))

pub pair_sum-fits : (p q : PairValues) → IsTrue (pair_fits p) → IsTrue (pair_fits q) → IsTrue (pair_fits (pair_sum p q))
pair_sum-fits p q h g =
    let a = pair-fits p h in
    let b = pair-fits q g in
    let m : ℤ = p.most +ℤ q.most in
    and_from _ _
    (and_from _ _ (is-up_to m (p.no_no +ℤ q.no_no) (omega (arith, ints, a.no_no, b.no_no)) (omega (arith, ints, a.no_no_most, b.no_no_most)))
    (is-up_to m (p.no_yes +ℤ q.no_yes) (omega (arith, ints, a.no_yes, b.no_yes)) (omega (arith, ints, a.no_yes_most, b.no_yes_most))))
    (and_from _ _ (is-up_to m (p.yes_no +ℤ q.yes_no) (omega (arith, ints, a.yes_no, b.yes_no)) (omega (arith, ints, a.yes_no_most, b.yes_no_most)))
    (is-up_to m (p.yes_yes +ℤ q.yes_yes) (omega (arith, ints, a.yes_yes, b.yes_yes)) (omega (arith, ints, a.yes_yes_most, b.yes_yes_most))))

-- values

unit_value-sum : (u v : UnitValues) (x : ℕ) → unit_value (unit_sum u v) x ≡ unit_value u x +ℤ unit_value v x
unit_value-sum u v zero = refl
unit_value-sum u v (suc x) = refl

pair_value-sum : (p q : PairValues) (x y : ℕ) → pair_value (pair_sum p q) x y ≡ pair_value p x y +ℤ pair_value q x y
pair_value-sum p q zero zero = refl
pair_value-sum p q zero (suc y) = refl
pair_value-sum p q (suc x) zero = refl
pair_value-sum p q (suc x) (suc y) = refl

pub units_value-set : (us : List UnitValues) (a : ℕ) (u : UnitValues) (xs : List ℕ) → a < length us → length xs ≡ length us →
    units_value (set us a (unit_sum (get_or us a no_unit) u)) xs ≡ units_value us xs +ℤ unit_value u (get_or xs a 0)
units_value-set [] a u xs h e = absurd (omega arith)
units_value-set (v ∷ us) a u [] h e = absurd (omega arith)
units_value-set (v ∷ us) zero u (x ∷ xs) h e = omega (arith, ints, unit_value-sum v u x)
units_value-set (v ∷ us) (suc a) u (x ∷ xs) h e = omega (arith, ints, units_value-set us a u xs (omega arith) (omega arith))

row_value-set : (ps : List PairValues) (b : ℕ) (p : PairValues) (x : ℕ) (ys : List ℕ) → b < length ps → length ys ≡ length ps →
    row_value (set ps b (pair_sum (get_or ps b no_pair) p)) x ys ≡ row_value ps x ys +ℤ pair_value p x (get_or ys b 0)
row_value-set [] b p x ys h e = absurd (omega arith)
row_value-set (q ∷ ps) b p x [] h e = absurd (omega arith)
row_value-set (q ∷ ps) zero p x (y ∷ ys) h e = omega (arith, ints, pair_value-sum q p x y)
row_value-set (q ∷ ps) (suc b) p x (y ∷ ys) h e = omega (arith, ints, row_value-set ps b p x ys (omega arith) (omega arith))

-- the rows with an entry more in the first row, and in a later one
first_row-set : (later b : ℕ) (ps : List PairValues) (p : PairValues) (x : ℕ) (xs : List ℕ) → length ps ≡ later + pair_count later → length xs ≡ later → b < later →
    rows_value (rows_of (suc later) (set ps b (pair_sum (get_or ps b no_pair) p))) (x ∷ xs) ≡ rows_value (rows_of (suc later) ps) (x ∷ xs) +ℤ pair_value p x (get_or xs b 0)
first_row-set later b ps p x xs whole e h =
    let new : PairValues = pair_sum (get_or ps b no_pair) p in
    let there : get_or (take later ps) b no_pair ≡ get_or ps b no_pair = get_or-take later ps b no_pair h in
    let front : row_value (take later (set ps b new)) x xs ≡ row_value (set (take later ps) b (pair_sum (get_or (take later ps) b no_pair) p)) x xs =
    ap (λ row. row_value row x xs) (take-set-lt later ps b new h) ∙ ap (λ q. row_value (set (take later ps) b (pair_sum q p)) x xs) (sym there) in
    let rest : rows_value (rows_of later (drop later (set ps b new))) xs ≡ rows_value (rows_of later (drop later ps)) xs =
    ap (λ qs. rows_value (rows_of later qs) xs) (drop-set-lt later ps b new h) in
    let long = length-take-le later ps (omega arith) in
    omega (arith, ints, row_value-set (take later ps) b p x xs (omega arith) (omega arith))

pub rows_value-set : (n a b : ℕ) (ps : List PairValues) (p : PairValues) (xs : List ℕ) → length ps ≡ pair_count n → length xs ≡ n → a < b → b < n →
    rows_value (rows_of n (set ps (place_of n a b) (pair_sum (get_or ps (place_of n a b) no_pair) p))) xs ≡ rows_value (rows_of n ps) xs +ℤ pair_value p (get_or xs a 0) (get_or xs b 0)
rows_value-set zero a b ps p xs whole e order h = absurd (omega arith)
rows_value-set (suc later) a b ps p [] whole e order h = absurd (omega arith)
rows_value-set (suc later) a zero ps p (x ∷ xs) whole e order h = absurd (omega arith)
rows_value-set (suc later) zero (suc b) ps p (x ∷ xs) whole e order h =
    let at : place_of (suc later) zero (suc b) ≡ b = omega arith in
    rw at (first_row-set later b ps p x xs whole (omega arith) (omega arith))
rows_value-set (suc later) (suc a) (suc b) ps p (x ∷ xs) whole e order h =
    let at : ℕ = place_of later a b in
    let place : place_of (suc later) (suc a) (suc b) ≡ later + at = omega arith in
    let new : PairValues = pair_sum (get_or ps (later + at) no_pair) p in
    let there : get_or (drop later ps) at no_pair ≡ get_or ps (later + at) no_pair = get_or-drop later ps at no_pair in
    let front : row_value (take later (set ps (later + at) new)) x xs ≡ row_value (take later ps) x xs = ap (λ row. row_value row x xs) (take-set-le later ps (later + at) new (omega arith)) in
    let rest : rows_value (rows_of later (drop later (set ps (later + at) new))) xs ≡ rows_value (rows_of later (set (drop later ps) at (pair_sum (get_or (drop later ps) at no_pair) p))) xs =
    ap (λ qs. rows_value (rows_of later qs) xs) (drop-set-add later ps at new) ∙ ap (λ q. rows_value (rows_of later (set (drop later ps) at (pair_sum q p))) xs) (sym there) in
    let inner = rows_value-set later a b (drop later ps) p xs (omega (arith, length-drop later ps)) (omega arith) (omega arith) (omega arith) in
    let sums : rows_value (rows_of (suc later) (set ps (later + at) new)) (x ∷ xs) ≡ rows_value (rows_of (suc later) ps) (x ∷ xs) +ℤ pair_value p (get_or xs a 0) (get_or xs b 0) = omega (arith, ints) in
    rw place sums

-- nothing is given where nothing is added

pub units_value-none : (n : ℕ) (xs : List ℕ) → units_value (replicate n no_unit) xs ≡ pos 0
units_value-none zero xs = refl
units_value-none (suc n) [] = refl
units_value-none (suc n) (zero ∷ xs) = omega (arith, ints, units_value-none n xs)
units_value-none (suc n) (suc x ∷ xs) = omega (arith, ints, units_value-none n xs)

row_value-none : (n x : ℕ) (ys : List ℕ) → row_value (replicate n no_pair) x ys ≡ pos 0
row_value-none zero x ys = refl
row_value-none (suc n) x [] = refl
row_value-none (suc n) zero (zero ∷ ys) = omega (arith, ints, row_value-none n zero ys)
row_value-none (suc n) zero (suc y ∷ ys) = omega (arith, ints, row_value-none n zero ys)
row_value-none (suc n) (suc x) (zero ∷ ys) = omega (arith, ints, row_value-none n (suc x) ys)
row_value-none (suc n) (suc x) (suc y ∷ ys) = omega (arith, ints, row_value-none n (suc x) ys)

pub rows_value-none : (n : ℕ) (xs : List ℕ) → rows_value (rows_of n (replicate (pair_count n) no_pair)) xs ≡ pos 0
rows_value-none zero xs = refl
rows_value-none (suc later) [] = refl
rows_value-none (suc later) (x ∷ xs) =
    let front = ap (λ row. row_value row x xs) (take-replicate later (later + pair_count later) no_pair (omega arith)) ∙ row_value-none later x xs in
    let left : later + pair_count later - later ≡ pair_count later = omega arith in
    let rest = ap (λ ps. rows_value (rows_of later ps) xs) (drop-replicate later (later + pair_count later) no_pair ∙ ap (λ m. replicate m no_pair) left) ∙ rows_value-none later xs in
    omega (arith, ints)

-- where entries stand

pub entries_before-all : (n : ℕ) → entries_before n n ≡ pair_count n
entries_before-all zero = refl
entries_before-all (suc n) = omega (arith, entries_before-all n)

pub place-within : (n a b : ℕ) → a < b → b < n → place_of n a b < pair_count n
place-within zero a b order h = absurd (omega arith)
place-within (suc n) a zero order h = absurd (omega arith)
place-within (suc n) zero (suc b) order h = omega arith
place-within (suc n) (suc a) (suc b) order h = omega (arith, place-within n a b (omega arith) (omega arith))
