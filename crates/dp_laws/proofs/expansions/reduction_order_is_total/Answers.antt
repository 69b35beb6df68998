use Rattle.dp_laws.proofs.Restricted.Orders.{reduction-order}
use Rattle.dp_laws.proofs.expansions.reduction_order_is_total.Goals as goal

pub returns : goal.returns
returns c = reduction-order
