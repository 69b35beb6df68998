use Rattle.std.proofs.Common.{◌≡◌, ◌^◌, true, false, w64, ℤ, pos, ◌+ℤ◌, ◌≤ℤ◌, arith}
use Rattle.std.specs.Prelude.{int_le, int_lt}
use Rattle.std.proofs.lemmas.Int.{ints, clamps, to_z-of_z}
use Rattle.benefit_rows.specs.Benefits.{size_of}
use Rattle.benefit_rows.specs.BenefitLaws.{size_of-add}
use Rattle.benefit_rows.proofs.Steps.{fits_by_size, read_by_size}
use Rattle.max_cut.specs.Graph.{IsWeight}
use Rattle.max_cut.proofs.edges.total_with.Goals as goal

sum-small : (y z : ℤ) → IsWeight y → IsWeight z → size_of (y +ℤ z) ≤ℤ pos (2 ^ 62)
sum-small y z y_small z_small = omega (arith, ints, size_of-add y z)

pub overflow_add-sum : goal.overflow_add-sum
overflow_add-sum c =
    let total = read_by_size c.args.total (omega (arith, ints, c.requires.total)) in
    let weight = read_by_size c.args.weight (omega (arith, ints, c.requires.weight)) in
    rw (total, weight) (fits_by_size (c.args.total +ℤ c.args.weight) (sum-small c.args.total c.args.weight c.requires.total c.requires.weight))

pub size-requires : goal.size-requires
size-requires c =
    let total = read_by_size c.args.total (omega (arith, ints, c.requires.total)) in
    let weight = read_by_size c.args.weight (omega (arith, ints, c.requires.weight)) in
    let small = sum-small c.args.total c.args.weight c.requires.total c.requires.weight in
    rw (total, weight, read_by_size (c.args.total +ℤ c.args.weight) small) small

over : (z : ℤ) → int_lt (pos 500000000) z ≡ true → int_le z (pos 500000000) ≡ false
over z more = grind (arith, ints)

pub returns-then-size-gt-GREATEST_WEIGHT : goal.returns-then-size-gt-GREATEST_WEIGHT
returns-then-size-gt-GREATEST_WEIGHT c =
    let total = read_by_size c.args.total (omega (arith, ints, c.requires.total)) in
    let weight = read_by_size c.args.weight (omega (arith, ints, c.requires.weight)) in
    let sum = read_by_size (c.args.total +ℤ c.args.weight) (sum-small c.args.total c.args.weight c.requires.total c.requires.weight) in
    let is : c.size.result ≡ size_of (c.args.total +ℤ c.args.weight) = rw (total, weight, sum) at c.size.ensures in
    let same = to_z-of_z w64 c.size.result (record { sfits = c.size.type_inv }) in
    over (size_of (c.args.total +ℤ c.args.weight)) (rw (same, is) at c.if-size-gt-GREATEST_WEIGHT.true)

pub returns : goal.returns
returns c = (omega (arith, ints, clamps), omega (arith, ints, clamps))
