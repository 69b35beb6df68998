-- The clauses of the canonical text: that they stand, and what they weigh and count.
use Rattle.std.proofs.Common.{◌≡◌, ℕ, zero, suc, ◌+◌, ◌<◌, ◌≤◌, ℤ, pos, ◌+ℤ◌, ◌≤ℤ◌, Bool, true, false, List, [], ◌∷◌, ◌++◌, length, take, drop, refl, arith, sym, subst}
use Rattle.std.specs.Prelude.{IsTrue, int_lt, if◌then◌else◌}
use Rattle.std.proofs.lemmas.Int.{ints}
use Rattle.std.proofs.lemmas.List.{length-append, length-drop, length-take-le}
use Rattle.std.proofs.lemmas.Bool.{and_parts}
use Rattle.std.proofs.lemmas.List.Sums.{sum_by-cons, sum_by-take-drop}
use Rattle.dp_model.specs.NumberLaws.{int_lt-is_not}
use Rattle.max_two_sat.specs.declared.clause.Literals.{Literals}
use Rattle.max_two_sat.specs.declared.clause.Literals.TheVariants.{One, Two}
use Rattle.max_two_sat.specs.declared.weights.UnitWeights.{UnitWeights}
use Rattle.max_two_sat.specs.declared.weights.PairWeights.{PairWeights}
use Rattle.max_two_sat.specs.Instance.{Instance, unit_total, pair_total, units_total, pairs_total}
use Rattle.pair_rows.specs.Pairs.{rows_of, pair_count}
use Rattle.max_two_sat.specs.Limits.{IsWithinLimits, PairIsPositive, UnitIsPositive, pairs_are_positive, units_are_positive, pair_is_positive, unit_is_positive}
use Rattle.max_two_sat.specs.Laws.Limits.{unit-positive, pair-positive}
use Rattle.max_two_sat.specs.Lines.{Clause, clause_where, clauses_of, line_count, literal, tautology_lines, unit_lines, units_lines, pair_lines, row_lines, rows_lines, weighs, pair_weighing, unit_weighing, units_weighing, pairs_weighing}
use Rattle.pair_rows.specs.Laws.Pairs.{all-drop, all-take, total_by-cut}
use Rattle.max_two_sat.proofs.RoundTrip.{ClauseStands, LiteralsStand}

-- the clauses stand, and weigh and count so much

abbrev pub AllStand : ℕ → List Clause → Type 0
AllStand n [] = Unit {0}
AllStand n (x ∷ xs) = ClauseStands n x × AllStand n xs

abbrev pub weights_of : List Clause → ℤ
weights_of [] = pos 0
weights_of (x ∷ xs) = x.weight +ℤ weights_of xs

pub record StandsAs (n : ℕ) (xs : List Clause) (total : ℤ) (count : ℕ) : Type 0 where
  pub stand : AllStand n xs
  pub weight : weights_of xs ≡ total
  pub many : length xs ≡ count

all-append : (n : ℕ) (xs ys : List Clause) → AllStand n xs → AllStand n ys → AllStand n (xs ++ ys)
all-append n [] ys h g = g
all-append n (x ∷ xs) ys h g = (h.0, all-append n xs ys h.1 g)

weights-append : (xs ys : List Clause) → weights_of (xs ++ ys) ≡ weights_of xs +ℤ weights_of ys
weights-append [] ys = omega (arith, ints)
weights-append (x ∷ xs) ys = omega (arith, ints, weights-append xs ys)

stands-both : (n : ℕ) (xs ys : List Clause) (s t u : ℤ) (a b c : ℕ) → StandsAs n xs s a → StandsAs n ys t b → s +ℤ t ≡ u → a + b ≡ c → StandsAs n (xs ++ ys) u c
stands-both n xs ys s t u a b c one two sum count = record {
  stand = all-append n xs ys one.stand two.stand;
  weight = omega (arith, ints, weights-append xs ys, one.weight, two.weight);
  many = omega (arith, length-append xs ys, one.many, two.many);
}

stands-where : (n : ℕ) (w : ℤ) (literals : Literals) → pos 0 ≤ℤ w → (int_lt (pos 0) w ≡ true → LiteralsStand n literals) → StandsAs n (clause_where w literals) w (weighs w)
stands-where n w literals low fits =
    elim (int_lt (pos 0) w) as (λ t. int_lt (pos 0) w ≡ t → StandsAs n (if t then record { weight = w; literals = literals } ∷ [] else []) w (if t then 1 else 0)) [
      | true ↦ λ e. record { stand = (record { low = low; literals = fits e }, tt); weight = omega (arith, ints); many = refl }
      | false ↦ λ e. record { stand = tt; weight = omega (arith, ints, int_lt-is_not (pos 0) w e); many = refl }
    ] refl

unit-stands : (n v : ℕ) (u : UnitWeights) → v < n → UnitIsPositive u → StandsAs n (unit_lines v u) (unit_total u) (weighs u.positive + weighs u.negative)
unit-stands n v u h here =
    stands-both n (clause_where u.positive (One (literal v true))) (clause_where u.negative (One (literal v false))) u.positive u.negative (unit_total u) (weighs u.positive) (weighs u.negative) _
    (stands-where n u.positive (One (literal v true)) here.positive (λ e. h)) (stands-where n u.negative (One (literal v false)) here.negative (λ e. h)) refl refl

units-stand : (n : ℕ) (us : List UnitWeights) (v : ℕ) → v + length us ≤ n → IsTrue (units_are_positive us) → StandsAs n (units_lines v us) (units_total us) (units_weighing us)
units-stand n [] v h g = record { stand = tt; weight = refl; many = refl }
units-stand n (u ∷ us) v h g =
    stands-both n (unit_lines v u) (units_lines (v + 1) us) (unit_total u) (units_total us) (units_total (u ∷ us)) _ _ (units_weighing (u ∷ us))
    (unit-stands n v u (omega arith) (unit-positive u (and_parts _ _ g).0)) (units-stand n us (v + 1) (omega arith) (and_parts (unit_is_positive u) _ g).1) refl (sym (sum_by-cons unit_weighing u us))

pair-stands : (n i j : ℕ) (p : PairWeights) → i < n → j < n → PairIsPositive p →
    StandsAs n (pair_lines i j p) (pair_total p) ((weighs p.both + weighs p.first) + (weighs p.second + weighs p.neither))
pair-stands n i j p h g here =
    let one = stands-where n p.both (Two (literal i true) (literal j true)) here.both (λ e. (h, g)) in
    let two = stands-where n p.first (Two (literal i true) (literal j false)) here.first (λ e. (h, g)) in
    let three = stands-where n p.second (Two (literal i false) (literal j true)) here.second (λ e. (h, g)) in
    let four = stands-where n p.neither (Two (literal i false) (literal j false)) here.neither (λ e. (h, g)) in
    let last = stands-both n _ _ p.second p.neither (p.second +ℤ p.neither) (weighs p.second) (weighs p.neither) (weighs p.second + weighs p.neither) three four refl refl in
    let rest = stands-both n _ _ p.first (p.second +ℤ p.neither) (p.first +ℤ (p.second +ℤ p.neither)) (weighs p.first) (weighs p.second + weighs p.neither) (weighs p.first + (weighs p.second + weighs p.neither)) two last refl refl in
    stands-both n _ _ p.both (p.first +ℤ (p.second +ℤ p.neither)) (pair_total p) (weighs p.both) (weighs p.first + (weighs p.second + weighs p.neither)) _ one rest (omega (arith, ints)) (omega arith)

row-stands : (n i : ℕ) (ps : List PairWeights) (j : ℕ) → i < j → j + length ps ≤ n → IsTrue (pairs_are_positive ps) → StandsAs n (row_lines i j ps) (pairs_total ps) (pairs_weighing ps)
row-stands n i [] j h g positive = record { stand = tt; weight = refl; many = refl }
row-stands n i (p ∷ ps) j h g positive =
    stands-both n (pair_lines i j p) (row_lines i (j + 1) ps) (pair_total p) (pairs_total ps) (pairs_total (p ∷ ps)) _ _ (pairs_weighing (p ∷ ps))
    (pair-stands n i j p (omega arith) (omega arith) (pair-positive p (and_parts _ _ positive).0)) (row-stands n i ps (j + 1) (omega arith) (omega arith) (and_parts (pair_is_positive p) _ positive).1) refl (sym (sum_by-cons pair_weighing p ps))

rows-stand : (n m : ℕ) (ps : List PairWeights) (i : ℕ) → i + m ≤ n → length ps ≡ pair_count m → IsTrue (pairs_are_positive ps) → StandsAs n (rows_lines i (rows_of m ps)) (pairs_total ps) (pairs_weighing ps)
rows-stand n zero [] i h e positive = record { stand = tt; weight = refl; many = refl }
rows-stand n zero (p ∷ ps) i h e positive = absurd (omega arith)
rows-stand n (suc m) ps i h e positive =
    stands-both n (row_lines i (i + 1) (take m ps)) (rows_lines (i + 1) (rows_of m (drop m ps))) (pairs_total (take m ps)) (pairs_total (drop m ps)) (pairs_total ps)
    (pairs_weighing (take m ps)) (pairs_weighing (drop m ps)) (pairs_weighing ps)
    (row-stands n i (take m ps) (i + 1) (omega arith) (omega (arith, length-take-le m ps (omega arith))) (all-take pair_is_positive m ps positive))
    (rows-stand n m (drop m ps) (i + 1) (omega arith) (omega (arith, length-drop m ps)) (all-drop pair_is_positive m ps positive)) (total_by-cut pair_total m ps) (sum_by-take-drop pair_weighing ps m)

tautology-stands : (n : ℕ) (w : ℤ) → pos 0 ≤ℤ w → weighs w ≤ n → int_lt (pos 0) w ≡ true → LiteralsStand n (Two (literal 0 true) (literal 0 false))
tautology-stands n w low some test =
    let one : 1 ≤ n = subst (λ (b : Bool). (if b then 1 else 0) ≤ n) test some in
    (omega arith, omega arith)

pub clauses-stand : (i : Instance) → IsWithinLimits i → StandsAs (length i.units) (clauses_of i) (i.tautologies +ℤ (units_total i.units +ℤ pairs_total i.pairs)) (line_count i)
unfolding clauses_of
clauses-stand i kept =
    let n : ℕ = length i.units in
    let units = units-stand n i.units 0 (omega arith) kept.units in
    let rows = rows-stand n n i.pairs 0 (omega arith) kept.whole kept.pairs in
    let both = stands-both n _ _ (units_total i.units) (pairs_total i.pairs) (units_total i.units +ℤ pairs_total i.pairs) (units_weighing i.units) (pairs_weighing i.pairs) (units_weighing i.units + pairs_weighing i.pairs) units rows refl refl in
    stands-both n (tautology_lines i.tautologies) _ i.tautologies (units_total i.units +ℤ pairs_total i.pairs) _ (weighs i.tautologies) (units_weighing i.units + pairs_weighing i.pairs) _
    (stands-where n i.tautologies (Two (literal 0 true) (literal 0 false)) kept.tautologies (tautology-stands n i.tautologies kept.tautologies kept.some)) both refl refl

pub weights-positive : (n : ℕ) (xs : List Clause) → AllStand n xs → pos 0 ≤ℤ weights_of xs
weights-positive n [] h = omega (arith, ints)
weights-positive n (x ∷ xs) h = omega (arith, ints, h.0.low, weights-positive n xs h.1)
