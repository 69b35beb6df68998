use Rattle.std.proofs.Common.{◌≡◌, sym, ◌∙◌, ap, subst}
use Rattle.dp_model.specs.Laws.{IsLawful, IsChained}
use Rattle.layer_build.specs.Layers.{diagram_of}
use Rattle.exact_cutset.specs.Ready.{CutIsReady}
use Rattle.exact_cutset.specs.Seen.{ChildrenView}
use Rattle.exact_cutset.proofs.Cuts.{last-is}
use Rattle.exact_cutset.proofs.Enough.{cut-ready}
use Rattle.exact_cutset.proofs.taking.take_copied.Given as given
use Rattle.exact_cutset.proofs.taking.take_copied.Goals as goal

laws_of : (g : given.Over) (m : g.row.M.Denot) → IsLawful (g.M.DpModel.meaning (g.M.DpModel.numbers m))
laws_of g m = (g.met.M.DpModel g.world.𝓛 g.world.𝓜 g.world.𝓡 ((λ s x. x), (λ x. x), (λ x. x), λ x. x)).lawful m

chain_of : (g : given.Over) (m : g.row.M.Denot) → IsChained (g.M.DpModel.meaning (g.M.DpModel.numbers m))
chain_of g m = (g.met.M.DpModel g.world.𝓛 g.world.𝓜 g.world.𝓡 ((λ s x. x), (λ x. x), (λ x. x), λ x. x)).chained m

pub take_last_exact-requires-clause-cut : goal.take_last_exact-requires-clause-cut
take_last_exact-requires-clause-cut g c κs within =
    let dp = g.M.DpModel.meaning (g.M.DpModel.numbers c.args.model.now) in
    let s = c.args.space.now in
    let room : c.clear.new.self.room ≡ c.args.out.now.room = ap (λ (v : ChildrenView). v.room) c.clear.ensures in
    subst (λ n. CutIsReady dp (diagram_of s) n s.first_reduced) (sym room) (cut-ready dp (laws_of g c.args.model.now) (chain_of g c.args.model.now) s.width (diagram_of s) c.requires.diagram c.args.out.now c.requires.prepared)

pub find-requires-clause-last : goal.find-requires-clause-last
find-requires-clause-last g c κs within =
    let dp = g.M.DpModel.meaning (g.M.DpModel.numbers c.args.model.now) in
    let s = c.args.space.now in
    let one : c.take_last_exact.new.out.vars ≡ c.clear.new.self.vars = ap (λ (v : ChildrenView). v.vars) c.take_last_exact.ensures in
    let two : c.clear.new.self.vars ≡ c.args.out.now.vars = ap (λ (v : ChildrenView). v.vars) c.clear.ensures in
    last-is dp (laws_of g c.args.model.now) (chain_of g c.args.model.now) s.width (diagram_of s) c.requires.diagram ∙ sym (one ∙ (two ∙ c.requires.prepared.vars))
