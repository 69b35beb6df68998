use Rattle.std.proofs.Common.{◌≡◌, ◌<◌, ◌^◌, ◌+◌, ℕ, List, ℤ, pos, ◌+ℤ◌, ◌≤ℤ◌, FitsSigned, to_z, of_z, w64, cond, eqb, length, get_or, drop, arith}
use Rattle.std.proofs.lemmas.Int.{ints, clamps}
use Rattle.benefit_rows.specs.Benefits.{size_of, rank_of}
use Rattle.benefit_rows.specs.BenefitLaws.{rank_of-drop}
use Rattle.benefit_rows.proofs.Steps.{fits_by_size, read_at}
use Rattle.max_cut.specs.Cuts.{across_from}
use Rattle.max_cut.proofs.Crossings.{across_from-size, across_from-drop_more}
use Rattle.max_cut.proofs.sides.weight_from.Goals as goal

-- what one vertex more makes of the weight so far, which is of no great size
record Added (side : ℕ) (row : List ℤ) (later : List ℕ) (i : ℕ) (total : ℤ) : Type 0 where
  so_far : total +ℤ across_from side (drop i row) (drop i later) ≡ across_from side row later
  fits : FitsSigned w64 total

added : (side : ℕ) (row : List ℤ) (later : List ℕ) (i : ℕ) (total got : ℤ) → i < length row → length row ≡ length later → rank_of row ≤ℤ pos (2 ^ 50)
    → got ≡ cond (eqb side (get_or later i 0)) (pos 0) (to_z w64 (of_z w64 (get_or row i (pos 0))))
    → total +ℤ across_from side (drop i row) (drop i later) ≡ across_from side row later → Added side row later (i + 1) (total +ℤ got)
added side row later i total got h e small is so_far =
    let read = rw (read_at row i h (omega (arith, ints))).is at is in
    let more : (total +ℤ got) +ℤ across_from side (drop (i + 1) row) (drop (i + 1) later) ≡ across_from side row later = omega (arith, ints, across_from-drop_more side row later i h e) in
    let size : size_of (total +ℤ got) ≤ℤ pos (2 ^ 51) = omega (arith, ints, clamps, across_from-size side row later, across_from-size side (drop (i + 1) row) (drop (i + 1) later), rank_of-drop (i + 1) row) in
    record { so_far = more; fits = fits_by_size (total +ℤ got) (omega (arith, ints)) }

next : (c : goal.After-weight_between-total) → Added c.args.side c.args.row.now c.args.later.now (c.loop-i.i + 1) (c.loop-i.total +ℤ c.weight_between-total.result)
next c =
    added c.args.side c.args.row.now c.args.later.now c.loop-i.i c.loop-i.total c.weight_between-total.result c.loop-i-test.true c.requires.lengths c.requires.sizes
    c.weight_between-total.ensures (rw (← c.loop-i.total-is) c.loop-i.invariant)

pub overflow_add-total : goal.overflow_add-total
overflow_add-total c = let sum = (next c).fits in omega (arith, ints)

pub loop-i-preserved : goal.loop-i-preserved
loop-i-preserved c =
    let more = (next c).so_far in
    let sum = (next c).fits in
    omega (arith, ints)
