use Rattle.std.proofs.Common.{◌≡◌, ◌<◌, length, sym, ◌∙◌, ap, subst}
use Rattle.dp_model.specs.Laws.{IsLawful, IsChained}
use Rattle.layer_build.specs.Layers.{SpaceView, diagram_of}
use Rattle.relaxed_dd.specs.Shown.{layers_of, width_of, last_of}
use Rattle.exact_cutset.specs.Seen.{ChildrenView}
use Rattle.exact_cutset.proofs.Cuts.{last-is}
use Rattle.exact_cutset.proofs.Enough.{some-layer}
use Rattle.exact_cutset.proofs.taking.take.Given as given
use Rattle.exact_cutset.proofs.taking.take.Goals as goal

laws_of : (g : given.Over) (m : g.row.M.Denot) → IsLawful (g.M.DpModel.meaning (g.M.DpModel.numbers m))
laws_of g m = (g.met.M.DpModel g.world.𝓛 g.world.𝓜 g.world.𝓡 ((λ s x. x), (λ x. x), (λ x. x), λ x. x)).lawful m

chain_of : (g : given.Over) (m : g.row.M.Denot) → IsChained (g.M.DpModel.meaning (g.M.DpModel.numbers m))
chain_of g m = (g.met.M.DpModel g.world.𝓛 g.world.𝓜 g.world.𝓡 ((λ s x. x), (λ x. x), (λ x. x), λ x. x)).chained m

pub find-requires-clause-some : goal.find-requires-clause-some
find-requires-clause-some g c κs within =
    let dp = g.M.DpModel.meaning (g.M.DpModel.numbers c.args.model.now) in
    let d = c.args.diagram.now in
    subst (λ (s : SpaceView). 0 < length s.layers) (sym c.space.ensures) (some-layer dp (laws_of g c.args.model.now) (chain_of g c.args.model.now) (width_of d) (layers_of d) c.requires.diagram)

pub find-requires-clause-last : goal.find-requires-clause-last
find-requires-clause-last g c κs within =
    let dp = g.M.DpModel.meaning (g.M.DpModel.numbers c.args.model.now) in
    let d = c.args.diagram.now in
    let one : c.take_kind.new.out.vars ≡ c.clear.new.self.vars = ap (λ (v : ChildrenView). v.vars) c.take_kind.ensures.children in
    let two : c.clear.new.self.vars ≡ c.args.out.now.vars = ap (λ (v : ChildrenView). v.vars) c.clear.ensures in
    ap (λ (s : SpaceView). last_of (diagram_of s)) c.space.ensures ∙ last-is dp (laws_of g c.args.model.now) (chain_of g c.args.model.now) (width_of d) (layers_of d) c.requires.diagram ∙ sym (one ∙ (two ∙ c.requires.prepared.vars))
