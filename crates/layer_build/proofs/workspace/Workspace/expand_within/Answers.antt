use Rattle.std.proofs.Common.{refl}
use Rattle.layer_build.specs.Layers.{last_depth}
use Rattle.layer_build.proofs.Pruning.{none-struck-now, expanded-pruned}
use Rattle.layer_build.proofs.Merged.{pruned_by, merged-within, pruned-within}
use Rattle.layer_build.proofs.workspace.Workspace.expand_within.Goals as goal

pub returns-then-expand_by-clause-layers : goal.returns-then-expand_by-clause-layers
returns-then-expand_by-clause-layers g c =
    let dp = g.M.DpModel.meaning (g.M.DpModel.numbers c.args.model.now) in
    let e = c.if-expand_by.ensures in
    merged-within dp c.args.threshold c.args.self.now c.expand_by.new.self c.count_reduced.new.self c.requires.under_way.some (e.merged refl) e.layers c.count_reduced.ensures.seen

pub merge_wide-requires-after_bounds : goal.merge_wide-requires-after_bounds
merge_wide-requires-after_bounds g c κs within =
    c.drop_dominated.ensures.under_way c.args.threshold
    (none-struck-now (g.M.DpModel.meaning (g.M.DpModel.numbers c.args.model.now)) c.args.threshold c.args.self.now c.expand_by.new.self c.requires.under_way.some c.if-expand_by.ensures.layers)

pub returns-clause-layers : goal.returns-clause-layers
returns-clause-layers g c =
    let dp = g.M.DpModel.meaning (g.M.DpModel.numbers c.args.model.now) in
    let s = c.args.self.now in
    let some = c.requires.under_way.some in
    let pruned = expanded-pruned dp c.args.threshold s c.expand_by.new.self c.drop_dominated.new.self some c.if-expand_by.ensures.layers c.drop_dominated.ensures.layers in
    pruned-within dp (pruned_by dp c.args.threshold (last_depth s)) s c.drop_dominated.new.self c.merge_wide.new.self some pruned c.merge_wide.ensures.layers
