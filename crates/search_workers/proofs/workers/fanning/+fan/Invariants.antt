use Rattle.std.proofs.Common.{◌+◌, ◌*◌, length}
use Rattle.search_workers.proofs.workers.fanning.+fan.Given as goal

abbrev pub decreases-fan : goal.decreases-fan
decreases-fan g l = 3 * length l.seats.now

abbrev pub decreases-beside : goal.decreases-beside
decreases-beside g l = 3 * length l.seats.now + 2

abbrev pub decreases-beside-join_mut+arg3 : goal.decreases-beside-join_mut+arg3
decreases-beside-join_mut+arg3 g l = 3 * length l.seats.now + 1
