use Rattle.std.proofs.Common.{◌+◌, nat_lt, cond, length, ap, ◌∙◌}
use Rattle.dp_model.specs.Dp.{Dp}
use Rattle.dp_laws.specs.Rules.Compiling.{expand, prune}
use Rattle.layer_build.specs.Layers.{last_depth, last_layer, expand_last, reduced_first}
use Rattle.layer_build.specs.Within.{within_width}
use Rattle.wide_layers.proofs.expander.Expander.expand_within.Goals as goal

pub returns-in-Parallel-clause-layers : goal.returns-in-Parallel-clause-layers
returns-in-Parallel-clause-layers g c =
    let s = c.args.space.now in let e = c.expand_within-in-Parallel in
    e.ensures.layers
    ∙ ap (λ (dp : Dp). record s {
      layers = expand_last (λ layer. within_width dp s.width (last_depth s + 1) (prune dp (last_depth s + 1) c.args.threshold (expand dp (last_depth s) layer))) s.layers;
      told = e.new.self.told;
      first_reduced = cond (nat_lt s.width (length (prune dp (last_depth s + 1) c.args.threshold (expand dp (last_depth s) (last_layer s.layers))).next)) (reduced_first s.first_reduced (last_depth s + 1)) s.first_reduced;
    })
    (ap (λ m. g.M.DpModel.meaning (g.M.DpModel.numbers m)) c.new-recalled.ensures)
