use Rattle.std.proofs.Common.{◌≡◌, ◌<◌, subst, arith}
use Rattle.relaxed_dd.proofs.LeanBuilt.{IsLeanTo, lean-further, lean-all}
use Rattle.relaxed_dd.proofs.lean.build.Goals as goal

pub layers-preserved : goal.layers-preserved
layers-preserved g c =
    let dp = g.M.DpModel.meaning (g.M.DpModel.numbers c.args.model.now) in
    let low : c.layers.counter < dp.vars = (let e = c.vars-vars.ensures in let t = c.layers-test.true in omega arith) in
    lean-further dp c.args.threshold c.layers.counter c.args.space.now c.layers.space c.build_lean_layer.new.space c.layers.cut c.build_lean_layer.new.cut c.requires.started.positive low c.layers.invariant c.build_lean_layer.ensures

pub returns : goal.returns
returns g c =
    let dp = g.M.DpModel.meaning (g.M.DpModel.numbers c.args.model.now) in
    let end : c.layers.counter ≡ dp.vars = (let e = c.vars-vars.ensures in let t = c.layers-test.false in let f = c.layers.auto.counter-end in let h = c.layers.invariant.whole.low in omega arith) in
    lean-all dp c.args.threshold c.args.space.now c.layers.space c.layers.cut (subst (λ n. IsLeanTo dp c.args.threshold n c.args.space.now c.layers.space c.layers.cut) end c.layers.invariant)
