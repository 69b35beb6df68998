use Rattle.std.proofs.Common.{arith}
use Rattle.max_two_sat.proofs.printing.push_first_line.Goals as goal

pub count_units-units-requires : goal.count_units-units-requires
count_units-units-requires c = rw c.as_slice.ensures.value (omega (arith, c.args.model.now.kept.lines))

pub count_pairs-pairs-requires : goal.count_pairs-pairs-requires
count_pairs-pairs-requires c = rw c.as_slice-2.ensures.value (omega (arith, c.args.model.now.kept.lines))
