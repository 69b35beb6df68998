use Rattle.std.proofs.Common.{pos, get_or, arith, refl, ◌∙◌}
use Rattle.std.proofs.lemmas.Int.{ints}
use Rattle.benefit_rows.specs.Benefits.{choice_gain}
use Rattle.pair_rows.proofs.Cells.{benefit-read}
use Rattle.pair_rows.proofs.Shifting.{ExtendRead, extend-read, read}
use Rattle.pair_rows.proofs.row.extend_row.Goals as goal

pub size-requires : goal.size-requires
size-requires c = omega (arith, ints, (benefit-read c.args.s.now c.args.k (omega arith) c.requires.benefits).small)

before : (c : goal.After-size)
    → ExtendRead c.args.shifts.now c.args.stakes c.args.k c.args.s.now c.args.rank c.args.d c.size.result c.write_step-next.result (choice_gain (read (get_or c.args.s.now c.args.k (pos 0))) c.args.d)
before c =
    extend-read c.args.shifts.now c.args.stakes c.args.k c.args.s.now c.args.rank c.args.d c.size.result c.write_step-next.result _ (omega arith) c.requires.sizes c.requires.benefits c.requires.rank
    c.requires.stakes_low c.requires.stakes_high c.size.ensures c.write_step-next.ensures.rank refl

pub overflow_sub-shared : goal.overflow_sub-shared
overflow_sub-shared c = (before c).facts.before_fits

pub overflow_add-shared : goal.overflow_add-shared
overflow_add-shared c = (before c).facts.sum_fits

pub overflow_sub-shared-2 : goal.overflow_sub-shared-2
overflow_sub-shared-2 c = (before c).facts.lost_fits

pub side_gain-requires : goal.side_gain-requires
side_gain-requires c = record { size = (benefit-read c.args.s.now c.args.k (omega arith) c.requires.benefits).small }

after : (c : goal.After-side_gain)
    → ExtendRead c.args.shifts.now c.args.stakes c.args.k c.args.s.now c.args.rank c.args.d c.size.result c.write_step-next.result c.side_gain.result
after c =
    extend-read c.args.shifts.now c.args.stakes c.args.k c.args.s.now c.args.rank c.args.d c.size.result c.write_step-next.result c.side_gain.result (omega arith) c.requires.sizes c.requires.benefits c.requires.rank
    c.requires.stakes_low c.requires.stakes_high c.size.ensures c.write_step-next.ensures.rank c.side_gain.ensures

pub overflow_add-result : goal.overflow_add-result
overflow_add-result c = let facts = (after c).facts in rw facts.half facts.gain_fits

pub returns-clause-gain : goal.returns-clause-gain
returns-clause-gain c = let own = after c in rw own.facts.half (own.facts.gain ∙ own.is)
