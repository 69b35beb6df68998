use Rattle.std.proofs.Common.{◌≡◌, ◌<◌, ◌^◌, ◌+◌, ℕ, List, ℤ, pos, ◌+ℤ◌, ◌≤ℤ◌, to_z, of_z, w64, length, get_or, drop, arith}
use Rattle.std.specs.Int.{int_min}
use Rattle.std.proofs.lemmas.Int.{ints, clamps}
use Rattle.benefit_rows.specs.Benefits.{rank_of}
use Rattle.max_cut.specs.Graph.{negatives_of}
use Rattle.max_cut.specs.Laws.Graph.{negatives_of-bounds}
use Rattle.benefit_rows.proofs.Steps.{read_at, size_of-at}
use Rattle.max_cut.proofs.Passes.{negatives_of-drop_more}
use Rattle.max_cut.proofs.listing.sum_of_negatives.Goals as goal

-- what one weight adds
added : (ws : List ℤ) (i : ℕ) (got : ℤ) → i < length ws → rank_of ws ≤ℤ pos (2 ^ 50) → got ≡ int_min (to_z w64 (of_z w64 (get_or ws i (pos 0)))) (pos 0)
    → (got +ℤ negatives_of (drop (i + 1) ws) ≡ negatives_of (drop i ws)) × (got ≤ℤ pos 0) × (negatives_of (drop (i + 1) ws) ≤ℤ pos 0) × (pos 0 ≤ℤ (negatives_of ws +ℤ pos (2 ^ 50)))
added ws i got h small is =
    let weight = size_of-at ws i (pos 0) h in
    let read = rw (read_at ws i h (omega (arith, ints))).is at is in
    let more = negatives_of-drop_more ws i (pos 0) h in
    (omega (arith, ints), omega (arith, ints, clamps), (negatives_of-bounds (drop (i + 1) ws)).0, (let all = negatives_of-bounds ws in omega (arith, ints)))

pub overflow_add-total : goal.overflow_add-total
overflow_add-total c =
    let more = added c.args.weights.now c.loop-weight.weight-index c.min-total.result c.loop-weight-test.true c.requires c.min-total.ensures.value in
    omega (arith, ints)

pub loop-weight-preserved : goal.loop-weight-preserved
loop-weight-preserved c =
    let more = added c.args.weights.now c.loop-weight.weight-index c.min-total.result c.loop-weight-test.true c.requires c.min-total.ensures.value in
    (omega (arith, ints), omega (arith, ints))
