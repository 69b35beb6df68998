use Rattle.std.proofs.Common.{◌+◌, ◌∙◌, ap}
use Rattle.bound_cover.specs.Exploring.{layer_of}
use Rattle.bound_cover.specs.Verdicts.{rows_fault}
use Rattle.bound_cover.proofs.RowTurns.{layer-fails, layer-passes}
use Rattle.bound_cover.proofs.checks.layers_fault.Goals as goal

pub returns-then-is_some : goal.returns-then-is_some
returns-then-is_some g c =
    let dp = g.M.DpModel.meaning (g.M.DpModel.numbers c.args.model.now) in
    let why = c.rows_fault-why.ensures
    ∙ (ap (λ rows. rows_fault dp c.layers.k rows 0 c.layer-here.result) c.layer.ensures ∙ ap (rows_fault dp c.layers.k (layer_of c.args.cover.now (c.layers.k + 1)) 0) c.layer-here.ensures) in
    layer-fails dp c.layers.k c.layers-k-end.result c.args.cover.now c.rows_fault-why.result c.layers.invariant c.layers-test.true c.layers-k-end.ensures.count why c.if-is_some.ensures

pub layers-preserved : goal.layers-preserved
layers-preserved g c =
    let dp = g.M.DpModel.meaning (g.M.DpModel.numbers c.args.model.now) in
    let why = c.rows_fault-why.ensures
    ∙ (ap (λ rows. rows_fault dp c.layers.k rows 0 c.layer-here.result) c.layer.ensures ∙ ap (rows_fault dp c.layers.k (layer_of c.args.cover.now (c.layers.k + 1)) 0) c.layer-here.ensures) in
    layer-passes dp c.layers.k c.layers-k-end.result c.args.cover.now c.rows_fault-why.result c.layers.invariant c.layers-test.true c.layers-k-end.ensures.count why c.if-is_some.ensures
