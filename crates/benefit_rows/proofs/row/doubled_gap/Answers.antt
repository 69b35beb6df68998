use Rattle.std.proofs.Common.{◌≡◌, ◌^◌, ℤ, pos, ◌+ℤ◌, ◌-ℤ◌, ◌≤ℤ◌, FitsSigned, to_z, of_z, w64, arith, sym, ◌∙◌}
use Rattle.std.proofs.lemmas.Int.{ints, to_z-of_z}
use Rattle.benefit_rows.specs.Benefits.{size_of, gap_between}
use Rattle.benefit_rows.specs.BenefitLaws.{size_of-positive, size_of-sub, gap_between-by_sizes}
use Rattle.benefit_rows.proofs.Steps.{fits_by_size, read_by_size}
use Rattle.benefit_rows.proofs.row.doubled_gap.Goals as goal

read : (z : ℤ) → size_of z ≤ℤ pos (2 ^ 60) → to_z w64 (of_z w64 z) ≡ z
read z small = read_by_size z (omega (arith, ints))

between_small : (from to : ℤ) → size_of from ≤ℤ pos (2 ^ 60) → size_of to ≤ℤ pos (2 ^ 60) → size_of (to -ℤ from) ≤ℤ pos (2 ^ 61)
between_small from to p q = let most = size_of-sub to from in omega (arith, ints)

between_read : (from to : ℤ) → size_of from ≤ℤ pos (2 ^ 60) → size_of to ≤ℤ pos (2 ^ 60) → to_z w64 (of_z w64 (to_z w64 (of_z w64 to) -ℤ to_z w64 (of_z w64 from))) ≡ to -ℤ from
between_read from to p q =
    let small = between_small from to p q in
    rw (read from p, read to q) (read_by_size (to -ℤ from) (omega (arith, ints)))

-- the size that a call gave, read
size_read : (z got : ℤ) → size_of z ≤ℤ pos (2 ^ 61) → got ≡ size_of z → to_z w64 (of_z w64 got) ≡ size_of z
size_read z got small e =
    let low = size_of-positive z in
    let fits : FitsSigned w64 (size_of z) = omega (arith, ints) in
    rw e (to_z-of_z w64 (size_of z) fits)

call_read : (z got : ℤ) → size_of z ≤ℤ pos (2 ^ 60) → got ≡ size_of (to_z w64 (of_z w64 z)) → to_z w64 (of_z w64 got) ≡ size_of z
call_read z got small e = size_read z got (omega (arith, ints)) (rw (read z small) at e)

less_fits : (a b : ℤ) → size_of a ≤ℤ pos (2 ^ 60) → size_of b ≤ℤ pos (2 ^ 60) → FitsSigned w64 (size_of a -ℤ size_of b)
less_fits a b p q = let low_a = size_of-positive a in let low_b = size_of-positive b in omega (arith, ints)

-- the difference of two sizes and a third one, as they are added
added : (less third twice : ℤ) → FitsSigned w64 less → FitsSigned w64 (less +ℤ third) → twice ≡ less +ℤ third
    → FitsSigned w64 (to_z w64 (of_z w64 less) +ℤ third) × (to_z w64 (of_z w64 (to_z w64 (of_z w64 less) +ℤ third)) ≡ twice)
added less third twice fits sum_fits e =
    let is = to_z-of_z w64 less fits in (rw is sum_fits, rw is (to_z-of_z w64 (less +ℤ third) sum_fits ∙ sym e))

sum_fits : (from to : ℤ) → size_of from ≤ℤ pos (2 ^ 60) → size_of to ≤ℤ pos (2 ^ 60) → FitsSigned w64 ((size_of to -ℤ size_of from) +ℤ size_of (to -ℤ from))
sum_fits from to p q =
    let small = between_small from to p q in
    let low = size_of-positive from in
    let low_to = size_of-positive to in
    let low_between = size_of-positive (to -ℤ from) in
    omega (arith, ints)

pub size-requires : goal.size-requires
size-requires c = rw (read c.args.to c.requires.to_size) (omega (arith, ints, c.requires.to_size))

pub size-requires-2 : goal.size-requires-2
size-requires-2 c = rw (read c.args.from c.requires.from_size) (omega (arith, ints, c.requires.from_size))

pub overflow_sub-result : goal.overflow_sub-result
overflow_sub-result c =
    rw (call_read c.args.to c.size.result c.requires.to_size c.size.ensures, call_read c.args.from c.size-2.result c.requires.from_size c.size-2.ensures)
    (less_fits c.args.to c.args.from c.requires.to_size c.requires.from_size)

pub overflow_sub-to : goal.overflow_sub-to
overflow_sub-to c =
    let small = between_small c.args.from c.args.to c.requires.from_size c.requires.to_size in
    rw (read c.args.to c.requires.to_size, read c.args.from c.requires.from_size) (fits_by_size (c.args.to -ℤ c.args.from) (omega (arith, ints, small)))

pub size-requires-3 : goal.size-requires-3
size-requires-3 c =
    let small = between_small c.args.from c.args.to c.requires.from_size c.requires.to_size in
    rw (between_read c.args.from c.args.to c.requires.from_size c.requires.to_size) (omega (arith, ints, small))

-- what is computed of the sizes that the three calls gave
computed : (from to first second third : ℤ) → size_of from ≤ℤ pos (2 ^ 60) → size_of to ≤ℤ pos (2 ^ 60)
    → first ≡ size_of (to_z w64 (of_z w64 to)) → second ≡ size_of (to_z w64 (of_z w64 from))
    → third ≡ size_of (to_z w64 (of_z w64 (to_z w64 (of_z w64 to) -ℤ to_z w64 (of_z w64 from))))
    → FitsSigned w64 (to_z w64 (of_z w64 (to_z w64 (of_z w64 first) -ℤ to_z w64 (of_z w64 second))) +ℤ to_z w64 (of_z w64 third))
    × (to_z w64 (of_z w64 (to_z w64 (of_z w64 (to_z w64 (of_z w64 first) -ℤ to_z w64 (of_z w64 second))) +ℤ to_z w64 (of_z w64 third))) ≡ gap_between from to +ℤ gap_between from to)
computed from to first second third p q e f g =
    let is : third ≡ size_of (to -ℤ from) = rw (between_read from to p q) at g in
    rw (call_read to first q e, call_read from second p f, size_read (to -ℤ from) third (between_small from to p q) is)
    (added (size_of to -ℤ size_of from) (size_of (to -ℤ from)) (gap_between from to +ℤ gap_between from to) (less_fits to from q p) (sum_fits from to p q) (gap_between-by_sizes from to))

pub overflow_add-result : goal.overflow_add-result
overflow_add-result c =
    (computed c.args.from c.args.to c.size.result c.size-2.result c.size-3.result c.requires.from_size c.requires.to_size c.size.ensures c.size-2.ensures c.size-3.ensures).0

pub returns : goal.returns
returns c =
    (computed c.args.from c.args.to c.size.result c.size-2.result c.size-3.result c.requires.from_size c.requires.to_size c.size.ensures c.size-2.ensures c.size-3.ensures).1
