use Rattle.std.proofs.Common.{◌+◌, pos, get_or, arith, refl, ◌∙◌}
use Rattle.std.proofs.lemmas.Int.{ints}
use Rattle.std.proofs.lemmas.List.{length-drop}
use Rattle.benefit_rows.specs.Benefits.{choice_gain}
use Rattle.pair_rows.proofs.Cells.{benefit-read}
use Rattle.pair_rows.proofs.Shifting.{ExtendRead, extend-read, read}
use Rattle.pair_rows.proofs.Writing.{tail-is, rank_of-tail}
use Rattle.pair_rows.proofs.row.step_gain.Goals as goal

pub rank-before-requires : goal.rank-before-requires
rank-before-requires c = rw tail-is (omega (arith, ints, c.requires.benefits))

pub rank_of_sums-next-requires : goal.rank_of_sums-next-requires
rank_of_sums-next-requires c = record {
  lengths = rw tail-is (omega (arith, length-drop (c.args.k + 1) c.args.s.now, c.requires.entries));
  row_size = rw tail-is (omega (arith, ints, rank_of-tail c.args.k c.args.s.now (omega (arith, c.requires.entries)), c.requires.benefits));
  added_size = omega (arith, ints, c.requires.sizes);
}

pub size-requires : goal.size-requires
size-requires c = omega (arith, ints, (benefit-read c.args.s.now c.args.k (omega arith) c.requires.benefits).small)

before : (c : goal.After-size)
    → ExtendRead c.args.shifts.now c.args.stakes c.args.k c.args.s.now c.rank-before.result c.args.d c.size.result c.rank_of_sums-next.result (choice_gain (read (get_or c.args.s.now c.args.k (pos 0))) c.args.d)
before c =
    extend-read c.args.shifts.now c.args.stakes c.args.k c.args.s.now c.rank-before.result c.args.d c.size.result c.rank_of_sums-next.result _ (omega arith) c.requires.sizes c.requires.benefits (rw tail-is at c.rank-before.ensures)
    c.requires.stakes_low c.requires.stakes_high c.size.ensures (rw tail-is at c.rank_of_sums-next.ensures) refl

pub overflow_sub-shared : goal.overflow_sub-shared
overflow_sub-shared c = (before c).facts.before_fits

pub overflow_add-shared : goal.overflow_add-shared
overflow_add-shared c = (before c).facts.sum_fits

pub overflow_sub-shared-2 : goal.overflow_sub-shared-2
overflow_sub-shared-2 c = (before c).facts.lost_fits

pub side_gain-requires : goal.side_gain-requires
side_gain-requires c = record { size = (benefit-read c.args.s.now c.args.k (omega arith) c.requires.benefits).small }

after : (c : goal.After-side_gain)
    → ExtendRead c.args.shifts.now c.args.stakes c.args.k c.args.s.now c.rank-before.result c.args.d c.size.result c.rank_of_sums-next.result c.side_gain.result
after c =
    extend-read c.args.shifts.now c.args.stakes c.args.k c.args.s.now c.rank-before.result c.args.d c.size.result c.rank_of_sums-next.result c.side_gain.result (omega arith) c.requires.sizes c.requires.benefits (rw tail-is at c.rank-before.ensures)
    c.requires.stakes_low c.requires.stakes_high c.size.ensures (rw tail-is at c.rank_of_sums-next.ensures) c.side_gain.ensures

pub overflow_add-result : goal.overflow_add-result
overflow_add-result c = let facts = (after c).facts in rw facts.half facts.gain_fits

pub returns : goal.returns
returns c = let own = after c in rw own.facts.half (own.facts.gain ∙ own.is)
