use Rattle.dp_model.specs.Laws.{IsLawful}
use Rattle.relaxed_dd.proofs.Made.{may-suffix, is-made}
use Rattle.relaxed_dd.proofs.widely.compile_with.Given as given
use Rattle.relaxed_dd.proofs.widely.compile_with.Goals as goal

laws_of : (g : given.Over) (m : g.row.M.Denot) → IsLawful (g.M.DpModel.meaning (g.M.DpModel.numbers m))
laws_of g m = (g.met.M.DpModel g.world.𝓛 g.world.𝓜 g.world.𝓡 ((λ s x. x), (λ x. x), (λ x. x), λ x. x)).lawful m

pub set_all-requires-clause-numbers : goal.set_all-requires-clause-numbers
set_all-requires-clause-numbers g c κs within =
    let dp = g.M.DpModel.meaning (g.M.DpModel.numbers c.args.model.now) in
    let a = c.args in
    let own = c.requires.own in
    (may-suffix dp (laws_of g a.model.now) a.sub.now.subproblem.decisions a.threshold a.space.now c.begin.new.self c.build.new.space c.requires.prepared own.prefix own.shorter c.begin.ensures.layers c.build.ensures).numbers

pub set_all-requires-clause-whole : goal.set_all-requires-clause-whole
set_all-requires-clause-whole g c κs within =
    let dp = g.M.DpModel.meaning (g.M.DpModel.numbers c.args.model.now) in
    let a = c.args in
    let own = c.requires.own in
    (may-suffix dp (laws_of g a.model.now) a.sub.now.subproblem.decisions a.threshold a.space.now c.begin.new.self c.build.new.space c.requires.prepared own.prefix own.shorter c.begin.ensures.layers c.build.ensures).whole

pub returns : goal.returns
returns g c =
    let dp = g.M.DpModel.meaning (g.M.DpModel.numbers c.args.model.now) in
    let a = c.args in
    is-made dp a.sub.now.subproblem.decisions a.threshold a.space.now c.begin.new.self c.build.new.space c.set_all.new.space c.requires.prepared c.begin.ensures.layers c.build.ensures c.set_all.ensures
