use Rattle.std.proofs.Common.{◌≡◌, ◌<◌, sym, subst, arith}
use Rattle.relaxed_dd.proofs.Built.{IsBuiltTo, starts, builds-further, builds-all, may-build}
use Rattle.relaxed_dd.proofs.widely.build.Goals as goal

pub layers-init : goal.layers-init
layers-init g c =
    subst (λ n. IsBuiltTo (g.M.DpModel.meaning (g.M.DpModel.numbers c.args.model.now)) c.args.threshold n c.args.space.now c.args.space.now) (sym c.first_depth-first.ensures)
    (starts (g.M.DpModel.meaning (g.M.DpModel.numbers c.args.model.now)) c.args.threshold c.args.space.now c.requires.under_way c.requires.started)

pub build_layer-requires-clause-under_way : goal.build_layer-requires-clause-under_way
build_layer-requires-clause-under_way g c κs within =
    c.layers.invariant.under_way

pub build_layer-requires-clause-some : goal.build_layer-requires-clause-some
build_layer-requires-clause-some g c κs within =
    let dp = g.M.DpModel.meaning (g.M.DpModel.numbers c.args.model.now) in
    let low : c.layers.counter < dp.vars = (let e = c.vars-vars.ensures in let t = c.layers-test.true in omega arith) in
    (may-build dp c.args.threshold c.layers.counter c.args.space.now c.layers.space low c.layers.invariant).some

pub build_layer-requires-clause-below : goal.build_layer-requires-clause-below
build_layer-requires-clause-below g c κs within =
    let dp = g.M.DpModel.meaning (g.M.DpModel.numbers c.args.model.now) in
    let low : c.layers.counter < dp.vars = (let e = c.vars-vars.ensures in let t = c.layers-test.true in omega arith) in
    (may-build dp c.args.threshold c.layers.counter c.args.space.now c.layers.space low c.layers.invariant).below

pub build_layer-requires-clause-narrow : goal.build_layer-requires-clause-narrow
build_layer-requires-clause-narrow g c κs within =
    let dp = g.M.DpModel.meaning (g.M.DpModel.numbers c.args.model.now) in
    let low : c.layers.counter < dp.vars = (let e = c.vars-vars.ensures in let t = c.layers-test.true in omega arith) in
    (may-build dp c.args.threshold c.layers.counter c.args.space.now c.layers.space low c.layers.invariant).narrow

pub layers-preserved : goal.layers-preserved
layers-preserved g c =
    let dp = g.M.DpModel.meaning (g.M.DpModel.numbers c.args.model.now) in
    let low : c.layers.counter < dp.vars = (let e = c.vars-vars.ensures in let t = c.layers-test.true in omega arith) in
    builds-further dp c.args.threshold c.layers.counter c.args.space.now c.layers.space c.build_layer.new.space c.requires.started.positive low c.layers.invariant c.build_layer.ensures

pub returns : goal.returns
returns g c =
    let dp = g.M.DpModel.meaning (g.M.DpModel.numbers c.args.model.now) in
    let end : c.layers.counter ≡ dp.vars = (let e = c.vars-vars.ensures in let t = c.layers-test.false in let f = c.layers.auto.counter-end in let h = c.layers.invariant.low in omega arith) in
    builds-all dp c.args.threshold c.args.space.now c.layers.space (subst (λ n. IsBuiltTo dp c.args.threshold n c.args.space.now c.layers.space) end c.layers.invariant)
