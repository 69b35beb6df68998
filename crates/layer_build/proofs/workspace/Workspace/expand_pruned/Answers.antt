use Rattle.layer_build.proofs.Pruning.{none-struck-now, expanded-pruned}
use Rattle.layer_build.proofs.workspace.Workspace.expand_pruned.Goals as goal

pub returns-clause-layers : goal.returns-clause-layers
returns-clause-layers g c =
    expanded-pruned (g.M.DpModel.meaning (g.M.DpModel.numbers c.args.model.now)) c.args.threshold c.args.self.now c.expand_sifted.new.self c.drop_dominated.new.self c.requires.under_way.some c.expand_sifted.ensures.layers c.drop_dominated.ensures.layers

pub returns-clause-under_way : goal.returns-clause-under_way
returns-clause-under_way g c =
    c.drop_dominated.ensures.under_way c.args.threshold
    (none-struck-now (g.M.DpModel.meaning (g.M.DpModel.numbers c.args.model.now)) c.args.threshold c.args.self.now c.expand_sifted.new.self c.requires.under_way.some c.expand_sifted.ensures.layers)
