use Rattle.cover_join.proofs.Rows.{empty_added}
use Rattle.cover_join.proofs.adding.push_empty.Goals as goal

pub loop-preserved : goal.loop-preserved
loop-preserved c = empty_added c.args.count c.loop.counter c.loop.cover c.add_layer.new.self _ c.loop-test.true c.in_ok-add_layer.ensures.ok c.loop.invariant
