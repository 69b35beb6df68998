use Rattle.std.proofs.Common.{true, false, sym, ◌∙◌}
use Rattle.relaxed_dd.proofs.Built.{built-by}
use Rattle.relaxed_dd.proofs.building.build_layer.Goals as goal

pub returns-then-is_next_reduced : goal.returns-then-is_next_reduced
returns-then-is_next_reduced g c =
    let dp = g.M.DpModel.meaning (g.M.DpModel.numbers c.args.model.now) in
    let e = c.expand_within in
    built-by dp c.args.threshold c.args.space.now e.new.self true (sym c.is_next_reduced.ensures ∙ c.if-is_next_reduced.true) e.ensures.layers e.ensures.under_way

pub returns-else-is_next_reduced : goal.returns-else-is_next_reduced
returns-else-is_next_reduced g c =
    let dp = g.M.DpModel.meaning (g.M.DpModel.numbers c.args.model.now) in
    let e = c.expand_pruned in
    built-by dp c.args.threshold c.args.space.now e.new.self false (sym c.is_next_reduced.ensures ∙ c.if-is_next_reduced.false) e.ensures.layers e.ensures.under_way
