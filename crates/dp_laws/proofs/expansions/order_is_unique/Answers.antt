use Rattle.dp_laws.proofs.Restricted.Orders.{order-unique}
use Rattle.dp_laws.proofs.expansions.order_is_unique.Goals as goal

pub returns : goal.returns
returns c = order-unique
