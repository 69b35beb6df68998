use Rattle.std.proofs.Common.{◌≡◌, ◌*◌, ◌^◌, ◌<◌, ◌≤◌, ℕ, subst, sym, arith}
use Rattle.dp_model.specs.Laws.{IsLawful}
use Rattle.layer_build.proofs.Rooms.{choice-few, product-few, enough-more}
use Rattle.layer_build.proofs.preparing.room_for.Given as given
use Rattle.layer_build.proofs.preparing.room_for.Goals as goal

laws_of : (g : given.Over) (m : g.row.M.Denot) → IsLawful (g.M.DpModel.meaning (g.M.DpModel.numbers m))
laws_of g m = (g.met.M.DpModel g.world.𝓛 g.world.𝓜 g.world.𝓡 ((λ s x. x), (λ x. x), (λ x. x), λ x. x)).lawful m

pub layers-preserved : goal.layers-preserved
layers-preserved g c =
    let dp = g.M.DpModel.meaning (g.M.DpModel.numbers c.args.model.now) in
    let laws = laws_of g c.args.model.now in
    let l = c.layers in
    let low : l.k < dp.vars = (let t = c.layers-test.true in let e = c.vars-k-end.ensures in omega arith) in
    let is : c.choices-choices.result ≡ dp.choices l.k = c.choices-choices.ensures in
    let most = laws.sizes.choices l.k low in
    let few : c.args.width * c.choices-choices.result ≤ 2 ^ 25 = subst (λ (x : ℕ). c.args.width * x ≤ 2 ^ 25) (sym is) (choice-few dp c.args.width c.requires l.k low) in
    let both = product-few l.before c.choices-choices.result l.invariant.before_few (omega arith) in
    let e = c.greatest-room.ensures in
    enough-more dp laws c.args.width l.k l.room l.before c.choices-choices.result c.greatest-room.result c.requires low l.invariant is e.first e.second e.third (e.least (2 ^ 25) l.invariant.enough.few few both)
