use Rattle.layer_build.proofs.Dropping.{HasDropped}
use Rattle.layer_build.proofs.stack.drop_above.Given as goal

abbrev pub invariant-layers : goal.invariant-layers
invariant-layers l = HasDropped l.fn.stack l.stack l.from l.depth
