use Rattle.std.proofs.Common.{length, ap, ◌∙◌}
use Rattle.std.proofs.lemmas.List.{length-replicate}
use Rattle.tests_turn.specs.Counter.{CounterView}
use Rattle.tests_turn.proofs.Ready.{ready}
use Rattle.tests_turn.proofs.workers.open.Goals as goal

pub returns-in-Ok-clause-ready : goal.returns-in-Ok-clause-ready
returns-in-Ok-clause-ready c =
    let e = c.in-Ok.ensures in
    ready c.in-Ok.turn c.in-Ok.seats.items c.args.workers e.seats e.numbers
    (ap (λ (x : CounterView). length x.slots) (e.first ∙ c.in_ok-counter.ensures.made) ∙ length-replicate c.args.workers _)
