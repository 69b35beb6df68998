use Rattle.cover_join.specs.Joining.{answers_in}
use Rattle.cover_join.proofs.Rows.{next_layer}
use Rattle.cover_join.proofs.adding.push_layers.Goals as goal

pub loop-layer-preserved : goal.loop-layer-preserved
loop-layer-preserved c = next_layer c.args.vars c.loop-layer.layer (answers_in c.args.texts.now) c.loop-layer.cover c.push_layer.new.cover _ c.loop-layer-test.true c.in_ok-push_layer.ensures c.loop-layer.invariant
