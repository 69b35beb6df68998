use Rattle.std.proofs.Common.{◌≡◌, ◌+◌, pos, length, take, replicate, arith, sym, subst, List, ℤ}
use Rattle.std.proofs.lemmas.Int.{ints}
use Rattle.benefit_rows.proofs.Zeros.{zeros_before}
use Rattle.pair_rows.proofs.Writing.{tail-is, rank_of-tail}
use Rattle.pair_rows.proofs.row.write_step.Goals as goal

pub write_zeros-requires : goal.write_zeros-requires
write_zeros-requires c =
    subst (λ (front : List ℤ). take c.args.done front ≡ take c.args.done (replicate (length front) (pos 0))) (sym c.split_at_mut-decided.ensures.front)
    (zeros_before c.args.done (c.args.k + 1) c.args.out.now c.requires.done)

pub write_sums-requires-clause-row_size : goal.write_sums-requires-clause-row_size
write_sums-requires-clause-row_size c = rw tail-is (omega (arith, ints, rank_of-tail c.args.k c.args.s.now (omega arith), c.requires.benefits))
