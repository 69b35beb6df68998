use Rattle.std.proofs.Common.{arith}
use Rattle.turn.proofs.Numbers.{length_is, nothing_out}
use Rattle.turn.specs.Seats.{seats_of}
use Rattle.tests_turn.specs.Counter.{slot_of}
use Rattle.tests_turn.proofs.workers.close.Goals as goal

pub close-requires-clause-all : goal.close-requires-clause-all
close-requires-clause-all c =
    omega (arith, c.args.seats.ok.0, length_is c.args.seats.items 0 (seats_of c.args.turn) c.requires.numbers)

pub returns-clause-nothing_out : goal.returns-clause-nothing_out
returns-clause-nothing_out c =
    let e = c.close.ensures in
    nothing_out slot_of c.close.result c.args.seats.items (seats_of c.args.turn) c.requires.numbers e.out
    (λ k d lt. (c.requires.ready k d lt).nothing_out) e.rest
