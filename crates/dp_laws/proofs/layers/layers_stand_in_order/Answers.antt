use Rattle.dp_laws.proofs.Restricted.InOrder.{layers-ordered}
use Rattle.dp_laws.proofs.layers.layers_stand_in_order.Goals as goal

pub returns : goal.returns
returns c = layers-ordered
