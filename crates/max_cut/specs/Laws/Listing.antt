-- The vertices and pairs that a graph lists are in range, and give the weight across.
use Rattle.std.proofs.Common.{◌≡◌, ℕ, zero, suc, ◌+◌, ◌<◌, ℤ, pos, ◌+ℤ◌, List, [], ◌∷◌, ◌++◌, length, take, drop, map, replicate, Bool, true, false, ◌&&◌, arith, sym, ap, ◌∙◌, refl, cond, eqb}
use Rattle.std.specs.Prelude.{◌==◌, nat_lt, IsTrue}
use Rattle.std.specs.Int.{int_min}
use Rattle.std.specs.List.{list_all, take-map}
use Rattle.std.proofs.lemmas.Int.{ints, clamps}
use Rattle.std.proofs.lemmas.List.{length-map, length-replicate, length-take-le, length-drop, take-append-drop, drop-map}
use Rattle.std.proofs.lemmas.Bool.{and_parts, and_from}
use Rattle.std.proofs.lemmas.Bool.Decides.{nat_tests}
use Rattle.benefit_rows.specs.Benefits.{above_zero, below_zero, size_of, rank_of}
use Rattle.pair_rows.specs.Pairs.{rows_of, pair_count}
use Rattle.pair_rows.specs.Instance.{no_unit, units_most, pairs_most}
use Rattle.pair_rows.specs.Limits.{IsInstance, is_up_to, pair_fits, units_fit, pairs_fit}
use Rattle.pair_rows.specs.Laws.Limits.{is-up_to}
use Rattle.pair_rows.specs.OwnWords as plain
use Rattle.max_cut.specs.Graph.{Graph, IsGraph, negatives_of}
use Rattle.max_cut.specs.Laws.Graph.{negatives_of-bounds, rank_of-most}
use Rattle.max_cut.specs.Program.{pair_values, rows_in}
use Rattle.max_cut.specs.Cuts.{across_from, weight_across, begins_on_S, is_cut}

-- in range

units-in_range : (n : ℕ) → IsTrue (units_fit (replicate n no_unit))
units-in_range zero = refl
units-in_range (suc n) = units-in_range n

pair-in_range : (w : ℤ) → IsTrue (pair_fits (pair_values w))
pair-in_range w =
    let m : ℤ = size_of w in
    let below : IsTrue (is_up_to m (below_zero w)) = is-up_to m (below_zero w) (omega (arith, ints, clamps)) (omega (arith, ints, clamps)) in
    let above : IsTrue (is_up_to m (above_zero w)) = is-up_to m (above_zero w) (omega (arith, ints, clamps)) (omega (arith, ints, clamps)) in
    and_from (is_up_to m (below_zero w) && is_up_to m (above_zero w)) _ (and_from (is_up_to m (below_zero w)) _ below above) (and_from (is_up_to m (above_zero w)) _ above below)

pairs-in_range : (ws : List ℤ) → IsTrue (pairs_fit (map pair_values ws))
pairs-in_range [] = refl
pairs-in_range (w ∷ ws) = and_from (pair_fits (pair_values w)) _ (pair-in_range w) (pairs-in_range ws)

units-most-none : (n : ℕ) → units_most (replicate n no_unit) ≡ pos 0
units-most-none zero = refl
units-most-none (suc n) = omega (arith, ints, units-most-none n)

pairs-most-rank : (ws : List ℤ) → pairs_most (map pair_values ws) ≡ rank_of ws
pairs-most-rank [] = refl
pairs-most-rank (w ∷ ws) = ap (λ z. size_of w +ℤ z) (pairs-most-rank ws)

pub rows-kept : (g : Graph) → IsGraph g → IsInstance (rows_in g)
rows-kept g h =
    let bounds = negatives_of-bounds g.weights in
    let most = rank_of-most g h in
    let long = length-replicate g.vertices no_unit in
    record {
      variables = omega (arith, h.few);
      whole = rw long (length-map g.weights pair_values ∙ h.whole);
      first_some = omega arith;
      first_few = omega arith;
      units = units-in_range g.vertices;
      pairs = pairs-in_range g.weights;
      low = omega (arith, ints, bounds.1);
      high = omega (arith, ints, bounds.0);
      total = rw (units-most-none g.vertices, pairs-most-rank g.weights) (omega (arith, ints));
    }

-- the weight across

side-is : (d : ℕ) → nat_lt d 2 ≡ true → d < 2
side-is d h = grind (arith, nat_tests)

-- two sides give the weight between them where they differ
pair-across : (w : ℤ) (d e : ℕ) → d < 2 → e < 2 → int_min w (pos 0) +ℤ plain.pair_value (pair_values w) d e ≡ cond (eqb d e) (pos 0) w
pair-across w zero zero few h = omega (arith, ints, clamps)
pair-across w zero (suc zero) few h = omega (arith, ints, clamps)
pair-across w (suc zero) zero few h = omega (arith, ints, clamps)
pair-across w (suc zero) (suc zero) few h = omega (arith, ints, clamps)
pair-across w zero (suc (suc e)) few h = absurd (omega arith)
pair-across w (suc zero) (suc (suc e)) few h = absurd (omega arith)
pair-across w (suc (suc d)) e few h = absurd (omega arith)

row-across : (row : List ℤ) (d : ℕ) (ds : List ℕ) → d < 2 → plain.are_binary ds ≡ true → length row ≡ length ds → negatives_of row +ℤ plain.row_value (map pair_values row) d ds ≡ across_from d row ds
row-across [] d [] few h e = refl
row-across [] d (x ∷ ds) few h e = absurd (omega arith)
row-across (w ∷ row) d [] few h e = absurd (omega arith)
row-across (w ∷ row) d (x ∷ ds) few h e =
    let both = and_parts (nat_lt x 2) (plain.are_binary ds) h in
    omega (arith, ints, pair-across w d x few (side-is x both.0), row-across row d ds few both.1 (omega arith))

negatives_of-append : (ws more : List ℤ) → negatives_of (ws ++ more) ≡ negatives_of ws +ℤ negatives_of more
negatives_of-append [] more = omega (arith, ints)
negatives_of-append (w ∷ ws) more = omega (arith, ints, negatives_of-append ws more)

rows-across : (ws : List ℤ) (ds : List ℕ) → plain.are_binary ds ≡ true → length ws ≡ pair_count (length ds) → negatives_of ws +ℤ plain.rows_value (rows_of (length ds) (map pair_values ws)) ds ≡ weight_across ws ds
rows-across [] [] sides whole = refl
rows-across (w ∷ ws) [] sides whole = absurd (omega arith)
rows-across ws (d ∷ ds) sides whole =
    let both = and_parts (nat_lt d 2) (plain.are_binary ds) sides in
    let n : ℕ = length ds in
    let row : List ℤ = take n ws in
    let rest : List ℤ = drop n ws in
    let first = row-across row d ds (side-is d both.0) both.1 (length-take-le n ws (omega arith)) in
    let later = rows-across rest ds both.1 (omega (arith, length-drop n ws)) in
    let split : negatives_of ws ≡ negatives_of row +ℤ negatives_of rest = ap negatives_of (sym (take-append-drop n ws)) ∙ negatives_of-append row rest in
    let here : plain.row_value (take n (map pair_values ws)) d ds ≡ plain.row_value (map pair_values row) d ds = ap (λ ps. plain.row_value ps d ds) (take-map pair_values n ws) in
    let there : plain.rows_value (rows_of n (drop n (map pair_values ws))) ds ≡ plain.rows_value (rows_of n (map pair_values rest)) ds = ap (λ ps. plain.rows_value (rows_of n ps) ds) (drop-map pair_values n ws) in
    omega (arith, ints)

units-none : (n : ℕ) (ds : List ℕ) → plain.units_value (replicate n no_unit) ds ≡ pos 0
units-none zero ds = refl
units-none (suc n) [] = refl
units-none (suc n) (zero ∷ ds) = omega (arith, ints, units-none n ds)
units-none (suc n) (suc d ∷ ds) = omega (arith, ints, units-none n ds)

-- the same cuts

begins-same : (ds : List ℕ) → begins_on_S ds ≡ plain.begins_within 1 ds
begins-same [] = refl
begins-same (zero ∷ ds) = refl
begins-same (suc d ∷ ds) =
    let later : (suc d == 0) ≡ false = grind (arith, nat_tests) in
    let above : nat_lt (suc d) 1 ≡ false = grind (arith, nat_tests) in
    later ∙ sym above

pub test-same : (g : Graph) (x : List ℕ) → is_cut g x ≡ plain.is_assignment (rows_in g) x
test-same g x =
    ap (λ n. (length x == n) && (begins_on_S x && plain.are_binary x)) (sym (length-replicate g.vertices no_unit))
    ∙ ap (λ b. (length x == length (replicate g.vertices no_unit)) && (b && plain.are_binary x)) (begins-same x)

-- what a cut is
pub cut_parts : (g : Graph) (x : List ℕ) → is_cut g x ≡ true → (length x ≡ g.vertices) × (plain.are_binary x ≡ true)
cut_parts g x h =
    let whole = and_parts (length x == g.vertices) (begins_on_S x && plain.are_binary x) h in
    let rest = and_parts (begins_on_S x) (plain.are_binary x) whole.1 in
    let test : (length x == g.vertices) ≡ true = whole.0 in
    (grind (arith, nat_tests), rest.1)

pub weight-same : (g : Graph) → IsGraph g → (x : List ℕ) → is_cut g x ≡ true → weight_across g.weights x ≡ plain.value_of_all (rows_in g) x
weight-same g h x cut =
    let parts = cut_parts g x cut in
    let across = rows-across g.weights x parts.1 (h.whole ∙ ap pair_count (sym parts.0)) in
    let rows : plain.rows_value (rows_of (length (replicate g.vertices no_unit)) (map pair_values g.weights)) x ≡ plain.rows_value (rows_of (length x) (map pair_values g.weights)) x =
    ap (λ n. plain.rows_value (rows_of n (map pair_values g.weights)) x) (length-replicate g.vertices no_unit ∙ sym parts.0) in
    omega (arith, ints, units-none g.vertices x)
