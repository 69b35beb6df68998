use Rattle.std.proofs.Common.{arith}
use Rattle.turn.proofs.Numbers.{length_is}
use Rattle.tests_turn.proofs.workers.count_all.Goals as goal

pub fan_all-requires-clause-lengths : goal.fan_all-requires-clause-lengths
fan_all-requires-clause-lengths g c κs within =
    let e = c.in_ok-turn.ensures in
    omega (arith, c.in_ok-desks.ensures.len, c.in_ok-turn.seats.ok.0, e.count, length_is c.in_ok-turn.seats.items 0 _ e.numbers)
