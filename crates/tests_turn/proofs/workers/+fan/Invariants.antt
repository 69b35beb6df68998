use Rattle.std.proofs.Common.{◌+◌, ◌*◌, length}
use Rattle.tests_turn.proofs.workers.+fan.Given as goal

abbrev pub decreases-fan_out : goal.decreases-fan_out
decreases-fan_out g l = 3 * length l.seats.now

abbrev pub decreases-beside : goal.decreases-beside
decreases-beside g l = 3 * length l.seats.now + 2

abbrev pub decreases-beside-join_mut+arg3 : goal.decreases-beside-join_mut+arg3
decreases-beside-join_mut+arg3 g l = 3 * length l.seats.now + 1
