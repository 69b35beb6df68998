use Rattle.std.proofs.Common.{◌+◌, ap, ◌∙◌}
use Rattle.dp_model.specs.Dp.{Dp}
use Rattle.dp_laws.specs.Rules.Compiling.{expand, prune}
use Rattle.layer_build.specs.Layers.{last_depth, expand_last}
use Rattle.wide_layers.proofs.expander.Expander.expand_pruned.Goals as goal

pub returns-in-Parallel-clause-layers : goal.returns-in-Parallel-clause-layers
returns-in-Parallel-clause-layers g c =
    let s = c.args.space.now in let e = c.expand_pruned-in-Parallel in
    e.ensures.layers
    ∙ ap (λ (dp : Dp). record s { layers = expand_last (λ layer. prune dp (last_depth s + 1) c.args.threshold (expand dp (last_depth s) layer)) s.layers; told = e.new.self.told })
    (ap (λ m. g.M.DpModel.meaning (g.M.DpModel.numbers m)) c.new-recalled.ensures)
