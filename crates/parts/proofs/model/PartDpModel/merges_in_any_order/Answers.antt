use Rattle.std.proofs.Common.{subst}
use Rattle.std.specs.Arc.{arc_value}
use Rattle.dp_model.specs.Laws.{MergesInAnyOrder}
use Rattle.parts.specs.Laws.{any_order_part}
use Rattle.parts.proofs.model.PartDpModel.merges_in_any_order.Goals as goal

pub returns : goal.returns
returns g c any =
    let part = c.args.self.now in
    any_order_part (g.M.DpModel.meaning (g.M.DpModel.numbers (arc_value part.model))) part.index part.of part.root_state
    (subst (λ m. MergesInAnyOrder (g.M.DpModel.meaning (g.M.DpModel.numbers m))) c.deref.ensures (c.merges_in_any_order.ensures any))
