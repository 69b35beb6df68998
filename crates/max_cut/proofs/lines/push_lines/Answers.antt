use Rattle.std.proofs.Common.{◌≡◌, ◌<◌, ◌+◌, ◌-◌, ◌++◌, ℕ, suc, List, ℤ, drop, length, take, arith, sym, ap, ◌∙◌, append_assoc}
use Rattle.pair_rows.specs.Pairs.{entries_before, row_at, rows_of}
use Rattle.pair_rows.specs.Laws.Pairs.{length-row_at, row_at-is}
use Rattle.max_cut.specs.Graph.{Graph, row_of}
use Rattle.max_cut.specs.EdgeLines.{row_lines, lines_from}
use Rattle.max_cut.proofs.lines.push_lines.Goals as goal

-- the lines of one vertex more
lined : (g : Graph) (k : ℕ) (before after whole : List ℕ) (row : List ℤ) → k < g.vertices → row ≡ row_of g k → after ≡ before ++ row_lines k (k + 1) row
    → before ++ lines_from g k (g.vertices - k) ≡ whole → after ++ lines_from g (k + 1) (g.vertices - (k + 1)) ≡ whole
lined g k before after whole row h e f so_far =
    let one : g.vertices - k ≡ suc (g.vertices - (k + 1)) = omega arith in
    let rest = lines_from g (k + 1) (g.vertices - (k + 1)) in
    ap (λ bytes. bytes ++ rest) (f ∙ ap (λ ws. before ++ row_lines k (k + 1) ws) e)
    ∙ (append_assoc before (row_lines k (k + 1) (row_of g k)) rest ∙ (ap (λ m. before ++ lines_from g k m) (sym one) ∙ so_far))

-- the row of a vertex
row-is : (g : Graph) (k : ℕ) (row : List ℤ) → k < g.vertices → row ≡ row_at (rows_of g.vertices g.weights) k → row ≡ row_of g k
row-is g k row h e =
    e ∙ (row_at-is g.vertices k g.weights h ∙ ap (λ m. take m (drop (entries_before g.vertices k) g.weights)) (omega arith))

pub push_row-requires : goal.push_row-requires
push_row-requires c =
    let long = ap length c.row_of.ensures in
    omega (arith, length-row_at c.args.vertices c.args.weights.now c.loop-k.k c.requires.whole c.loop-k-test.true, c.requires.few)

pub loop-k-preserved : goal.loop-k-preserved
loop-k-preserved c =
    let g : Graph = record { vertices = c.args.vertices; weights = c.args.weights.now } in
    lined g c.loop-k.k c.loop-k.out.items c.push_row.new.out.items _ c.row_of.result.now c.loop-k-test.true (row-is g c.loop-k.k c.row_of.result.now c.loop-k-test.true c.row_of.ensures) c.in_ok-push_row.ensures c.loop-k.invariant
