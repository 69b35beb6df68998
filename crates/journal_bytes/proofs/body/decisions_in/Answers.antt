use Rattle.std.specs.Int.{w32}
use Rattle.std.proofs.lemmas.Result.{err_from_is_err_and}
use Rattle.journal_bytes.specs.Bodies.{number_at, many}
use Rattle.journal_bytes.proofs.Loop.{goes_on, stops, is_done}
use Rattle.journal_bytes.proofs.body.decisions_in.Goals as goal

pub returns-in_err-decision : goal.returns-in_err-decision
returns-in_err-decision c =
    let p = err_from_is_err_and c.from_residual.result c.from_residual.ensures.1 in
    rw (p.1, p.2) (stops (number_at w32) c.in_err-decision.field-0.0 c.loop.decisions.items c.args.count c.loop.counter c.loop.rest.now (many (number_at w32) c.args.count c.args.bytes.now) c.loop-test.true c.in_err-decision.ensures c.loop.invariant)

pub loop-preserved : goal.loop-preserved
loop-preserved c =
    rw c.in_ok-push.ensures.items (goes_on (number_at w32) c.loop.decisions.items c.args.count c.loop.counter c.loop.rest.now c.in_ok-decision.decision c.in_ok-decision.after.now (many (number_at w32) c.args.count c.args.bytes.now) c.loop-test.true c.in_ok-decision.ensures c.loop.invariant)

pub returns : goal.returns
returns c = is_done (number_at w32) c.loop.decisions.items c.args.count c.loop.counter c.loop.rest.now (many (number_at w32) c.args.count c.args.bytes.now) c.loop-test.false c.loop.invariant
