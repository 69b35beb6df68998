use Rattle.dp_model.specs.Laws.{IsLawful}
use Rattle.relaxed_dd.proofs.LeanBuilt.{may-suffix-lean, is-made-lean}
use Rattle.relaxed_dd.proofs.lean.compile_lean.Given as given
use Rattle.relaxed_dd.proofs.lean.compile_lean.Goals as goal

laws_of : (g : given.Over) (m : g.row.M.Denot) → IsLawful (g.M.DpModel.meaning (g.M.DpModel.numbers m))
laws_of g m = (g.met.M.DpModel g.world.𝓛 g.world.𝓜 g.world.𝓡 ((λ s x. x), (λ x. x), (λ x. x), λ x. x)).lawful m

pub set_all-requires-clause-numbers : goal.set_all-requires-clause-numbers
set_all-requires-clause-numbers g c κs within =
    let a = c.args in
    (may-suffix-lean (g.M.DpModel.meaning (g.M.DpModel.numbers a.model.now)) (laws_of g a.model.now) a.threshold a.space.now c.begin.new.self c.build.new.space a.sub.now.subproblem c.build.new.cut c.requires.prepared c.requires.own c.begin.ensures.layers c.build.ensures).numbers

pub set_all-requires-clause-whole : goal.set_all-requires-clause-whole
set_all-requires-clause-whole g c κs within =
    let a = c.args in
    (may-suffix-lean (g.M.DpModel.meaning (g.M.DpModel.numbers a.model.now)) (laws_of g a.model.now) a.threshold a.space.now c.begin.new.self c.build.new.space a.sub.now.subproblem c.build.new.cut c.requires.prepared c.requires.own c.begin.ensures.layers c.build.ensures).whole

pub returns : goal.returns
returns g c =
    let a = c.args in
    is-made-lean (g.M.DpModel.meaning (g.M.DpModel.numbers a.model.now)) a.sub.now.subproblem.decisions a.threshold a.space.now c.begin.new.self c.build.new.space c.set_all.new.space c.build.new.cut c.requires.prepared c.begin.ensures.layers c.build.ensures c.set_all.ensures
