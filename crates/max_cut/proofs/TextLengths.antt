-- The canonical text is short.
use Rattle.std.proofs.Common.{◌≡◌, ℕ, zero, suc, ◌+◌, ◌-◌, ◌*◌, ◌^◌, ◌<◌, ◌≤◌, ℤ, pos, List, [], ◌∷◌, ◌++◌, length, Bool, true, false, cond, arith, ap, ◌∙◌, sym}
use Rattle.std.proofs.lemmas.Fmt.{length-decimal-le}
use Rattle.std.specs.List.{All}
use Rattle.std.proofs.lemmas.List.{length-append}
use Rattle.std.proofs.lemmas.List.Elements.{All-take, All-drop, All-head, All-tail}
use Rattle.tokens.specs.Decimal.{decimal_of, spaced, ended}
use Rattle.tokens.proofs.Lengths.{number_short}
use Rattle.pair_rows.specs.Pairs.{entries_before}
use Rattle.max_cut.specs.Graph.{Graph, IsGraph, IsWeight, row_of, weights_from}
use Rattle.pair_rows.specs.Laws.Pairs.{pair_count-most}
use Rattle.max_cut.specs.Laws.Graph.{length-row_of, weights_from-split}
use Rattle.max_cut.specs.EdgeLines.{is_none, edges_in, edge_line, row_lines, lines_from, text_of}
use Rattle.max_cut.proofs.Rereading.{edges_in-most, written}

spaced_short : (n : ℕ) → n ≤ 1024 → length (spaced n) ≤ 5
spaced_short n few =
    omega (arith, length-append (decimal_of (pos n)) (32 ∷ []), length-decimal-le 4 n (omega arith) (omega arith) (omega arith))

weight_short : (w : ℤ) → IsWeight w → length (ended w) ≤ 12
weight_short w h =
    let size = (written w h).size in
    omega (arith, length-append (decimal_of w) (10 ∷ []), number_short 10 w (omega arith) (omega arith) (omega arith))

line_short : (i j : ℕ) (w : ℤ) → i < 1024 → j < 1024 → IsWeight w → length (edge_line i j w) ≤ 32
line_short i j w first second weight =
    omega (arith, length-append (spaced (i + 1)) (spaced (j + 1) ++ ended w), length-append (spaced (j + 1)) (ended w), spaced_short (i + 1) (omega arith), spaced_short (j + 1) (omega arith), weight_short w weight)

pair_short : (b : Bool) (line : List ℕ) → length line ≤ 32 → length (cond b [] line) ≤ 32
pair_short true line h = omega arith
pair_short false line h = h

row_short : (i j : ℕ) (ws : List ℤ) → i < 1024 → j + length ws ≤ 1024 → All IsWeight ws → length (row_lines i j ws) ≤ 32 * length ws
row_short i j [] first last small = omega arith
row_short i j (w ∷ ws) first last small =
    let line = pair_short (is_none w) (edge_line i j w) (line_short i j w first (omega arith) (All-head IsWeight w ws small)) in
    omega (arith, length-append (cond (is_none w) [] (edge_line i j w)) (row_lines i (j + 1) ws), row_short i (j + 1) ws first (omega arith) (All-tail IsWeight w ws small))

lines_short : (g : Graph) → IsGraph g → (k m : ℕ) → k + m ≡ g.vertices → length (lines_from g k m) ≤ 32 * length (weights_from g k)
lines_short g h k zero whole = omega arith
lines_short g h k (suc m) whole =
    let row = length-row_of g h k (omega arith) in
    let few = h.few in
    let split = ap length (sym (weights_from-split g k)) ∙ length-append (row_of g k) (weights_from g (k + 1)) in
    let first = row_short k (k + 1) (row_of g k) (omega arith) (omega arith) (All-take IsWeight (g.vertices - (k + 1)) (weights_from g k) (All-drop IsWeight (entries_before g.vertices k) g.weights h.small)) in
    omega (arith, length-append (row_lines k (k + 1) (row_of g k)) (lines_from g (k + 1) m), lines_short g h (k + 1) m (omega arith))

-- the canonical text of a graph
pub text_short : (g : Graph) → IsGraph g → length (text_of g) ≤ 2 ^ 30
text_short g h =
    let few = h.few in
    let whole = h.whole in
    let most = pair_count-most g.vertices h.few in
    let edges : edges_in g.weights ≤ 2 ^ 20 = omega (arith, edges_in-most g.weights) in
    let lines = lines_short g h 0 g.vertices (omega arith) in
    let count = length-decimal-le 10 (edges_in g.weights) (omega arith) (omega arith) (omega arith) in
    omega (arith, spaced_short g.vertices h.few, length-append (decimal_of (pos (edges_in g.weights))) (10 ∷ []), length-append (spaced g.vertices) (ended (pos (edges_in g.weights)) ++ lines_from g 0 g.vertices), length-append (ended (pos (edges_in g.weights))) (lines_from g 0 g.vertices))
