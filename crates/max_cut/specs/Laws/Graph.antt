-- How the weights of a graph lie, and how much they are together.
use Rattle.std.specs.Prelude.{◌≡◌, ℕ, zero, suc, ◌+◌, ◌-◌, ◌*◌, ◌^◌, ◌<◌, ◌≤◌, ℤ, pos, ◌+ℤ◌, ◌≤ℤ◌, List, [], ◌∷◌, ◌++◌, length, drop}
use Rattle.std.specs.List.{All}
use Rattle.std.proofs.Common.{arith, sym, ap, ◌∙◌, add-one}
use Rattle.std.proofs.lemmas.Int.{ints, clamps}
use Rattle.std.proofs.lemmas.List.{drop-drop, length-drop, length-take-le, take-append-drop, nil_from_length}
use Rattle.std.proofs.lemmas.Nat.{mul-le}
use Rattle.benefit_rows.specs.Benefits.{size_of, rank_of}
use Rattle.pair_rows.specs.Pairs.{pair_count, entries_before}
use Rattle.pair_rows.specs.Laws.Pairs.{pair_count-is}
use Rattle.max_cut.specs.Graph.{Graph, IsGraph, IsWeight, negatives_of, row_of, weights_from}

-- the pairs before a row and those from it on are all pairs
pub entries_before-rest : (n k : ℕ) → k ≤ n → entries_before n k + pair_count (n - k) ≡ pair_count n
entries_before-rest n zero h =
    let all : n - 0 ≡ n = omega arith in
    let same : pair_count (n - 0) ≡ pair_count n = ap pair_count all in
    omega arith
entries_before-rest zero (suc k) h = absurd (omega arith)
entries_before-rest (suc n) (suc k) h =
    let less : suc n - suc k ≡ n - k = omega arith in
    let same : pair_count (suc n - suc k) ≡ pair_count (n - k) = ap pair_count less in
    omega (arith, entries_before-rest n k (omega arith))

-- the next row begins where the entries of a row end
row_ends : (n k : ℕ) → entries_before n (suc k) ≡ entries_before n k + (n - suc k)
row_ends zero zero = omega arith
row_ends zero (suc k) = omega arith
row_ends (suc n) zero = omega arith
row_ends (suc n) (suc k) = omega (arith, row_ends n k)

pub entries_before-next : (n k : ℕ) → entries_before n (k + 1) ≡ entries_before n k + (n - (k + 1))
entries_before-next n k = rw add-one (row_ends n k)

pub weights_from-next : (g : Graph) (k : ℕ) → weights_from g (k + 1) ≡ drop (g.vertices - (k + 1)) (weights_from g k)
weights_from-next g k = ap (λ m. drop m g.weights) (entries_before-next g.vertices k) ∙ sym (drop-drop (g.vertices - (k + 1)) (entries_before g.vertices k) g.weights)

pub length-weights_from : (g : Graph) → IsGraph g → (k : ℕ) → k ≤ g.vertices → length (weights_from g k) ≡ pair_count (g.vertices - k)
length-weights_from g h k few =
    let whole = h.whole in
    omega (arith, length-drop (entries_before g.vertices k) g.weights, entries_before-rest g.vertices k few)

pub length-row_of : (g : Graph) → IsGraph g → (k : ℕ) → k < g.vertices → length (row_of g k) ≡ g.vertices - (k + 1)
length-row_of g h k few =
    let one : g.vertices - k ≡ suc (g.vertices - (k + 1)) = omega arith in
    let more : pair_count (g.vertices - k) ≡ (g.vertices - (k + 1)) + pair_count (g.vertices - (k + 1)) = ap pair_count one in
    length-take-le (g.vertices - (k + 1)) (weights_from g k) (omega (arith, length-weights_from g h k (omega arith)))

-- a row lies within the weights
pub row_within : (g : Graph) → IsGraph g → (k : ℕ) → k < g.vertices → entries_before g.vertices k + (g.vertices - (k + 1)) ≤ length g.weights
row_within g h k few =
    let whole = h.whole in
    let one : g.vertices - k ≡ suc (g.vertices - (k + 1)) = omega arith in
    let more : pair_count (g.vertices - k) ≡ (g.vertices - (k + 1)) + pair_count (g.vertices - (k + 1)) = ap pair_count one in
    omega (arith, entries_before-rest g.vertices k (omega arith))

pub weights_from-split : (g : Graph) (k : ℕ) → row_of g k ++ weights_from g (k + 1) ≡ weights_from g k
weights_from-split g k = ap (λ ws. row_of g k ++ ws) (weights_from-next g k) ∙ take-append-drop (g.vertices - (k + 1)) (weights_from g k)

pub weights_from-none : (g : Graph) → IsGraph g → weights_from g g.vertices ≡ []
weights_from-none g h =
    let last : g.vertices - g.vertices ≡ 0 = omega arith in
    nil_from_length (weights_from g g.vertices) (length-weights_from g h g.vertices (omega arith) ∙ ap pair_count last)

pub rank_of-weights : (ws : List ℤ) → All IsWeight ws → rank_of ws ≤ℤ pos (500000000 * length ws)
rank_of-weights [] h = omega (arith, ints)
rank_of-weights (w ∷ ws) h =
    let first : size_of w ≤ℤ pos 500000000 = h 0 (pos 0) (omega arith) in
    omega (arith, ints, rank_of-weights ws (λ k d less. h (suc k) d (omega arith)))

-- there are at most 1,023 for each two vertices
pair_count-few : (n : ℕ) → n ≤ 1024 → pair_count n ≤ 523776
pair_count-few n h =
    let square : n * n ≤ 1024 * n = mul-le n n 1024 n h (omega arith) in
    omega (arith, pair_count-is n)

-- all weights together are at most 2^48
pub rank_of-most : (g : Graph) → IsGraph g → rank_of g.weights ≤ℤ pos (2 ^ 48)
rank_of-most g h =
    let few = pair_count-few g.vertices h.few in let whole = h.whole in
    omega (arith, ints, rank_of-weights g.weights h.small)

-- the negative weights are together at most zero, and no more than all weights
pub negatives_of-bounds : (ws : List ℤ) → (negatives_of ws ≤ℤ pos 0) × (pos 0 ≤ℤ (negatives_of ws +ℤ rank_of ws))
negatives_of-bounds [] = (omega (arith, ints), omega (arith, ints))
negatives_of-bounds (w ∷ ws) =
    let rest = negatives_of-bounds ws in
    (omega (arith, ints, clamps), omega (arith, ints, clamps))
