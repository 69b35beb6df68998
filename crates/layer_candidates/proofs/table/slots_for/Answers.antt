use Rattle.std.proofs.Common.{sym, subst}
use Rattle.std.specs.Int.{IsPowerOfTwo}
use Rattle.layer_candidates.proofs.Powers.{lesser}
use Rattle.layer_candidates.proofs.table.slots_for.Goals as goal

pub returns-clause-power : goal.returns-clause-power
returns-clause-power c = subst IsPowerOfTwo (sym c.min.ensures) (lesser c.next_power_of_two.result c.args.slots c.next_power_of_two.ensures.power c.requires.power)
