use Rattle.std.proofs.Common.{sym, subst}
use Rattle.dp_model.specs.Laws.{IsLawful, IsChained}
use Rattle.layer_build.specs.Layers.{SpaceView, diagram_of}
use Rattle.relaxed_dd.specs.Shown.{layers_of, width_of}
use Rattle.exact_cutset.specs.Prepared.{IsListPreparedFor}
use Rattle.exact_cutset.specs.Ready.{CutIsReady}
use Rattle.exact_cutset.proofs.Enough.{cut-ready, walk-ready}
use Rattle.exact_cutset.proofs.taking.take_kind.Given as given
use Rattle.exact_cutset.proofs.taking.take_kind.Goals as goal

laws_of : (g : given.Over) (m : g.row.M.Denot) → IsLawful (g.M.DpModel.meaning (g.M.DpModel.numbers m))
laws_of g m = (g.met.M.DpModel g.world.𝓛 g.world.𝓜 g.world.𝓡 ((λ s x. x), (λ x. x), (λ x. x), λ x. x)).lawful m

chain_of : (g : given.Over) (m : g.row.M.Denot) → IsChained (g.M.DpModel.meaning (g.M.DpModel.numbers m))
chain_of g m = (g.met.M.DpModel g.world.𝓛 g.world.𝓜 g.world.𝓡 ((λ s x. x), (λ x. x), (λ x. x), λ x. x)).chained m

pub take_last_exact-requires-clause-cut : goal.take_last_exact-requires-clause-cut
take_last_exact-requires-clause-cut g c κs within =
    let dp = g.M.DpModel.meaning (g.M.DpModel.numbers c.args.model.now) in
    let d = c.args.diagram.now in
    subst (λ (s : SpaceView). CutIsReady dp (diagram_of s) c.args.out.now.room s.first_reduced) (sym c.space.ensures)
    (cut-ready dp (laws_of g c.args.model.now) (chain_of g c.args.model.now) (width_of d) (layers_of d) c.requires.diagram c.args.out.now
    (subst (λ kind. IsListPreparedFor dp (width_of d) kind c.args.out.now) c.in-LastExactLayer.is c.requires.prepared))

pub take_frontier-requires-clause-walk : goal.take_frontier-requires-clause-walk
take_frontier-requires-clause-walk g c κs within =
    let dp = g.M.DpModel.meaning (g.M.DpModel.numbers c.args.model.now) in
    let d = c.args.diagram.now in
    walk-ready dp (laws_of g c.args.model.now) (chain_of g c.args.model.now) (width_of d) (layers_of d) c.requires.diagram c.args.out.now
    (subst (λ kind. IsListPreparedFor dp (width_of d) kind c.args.out.now) c.in-Frontier.is c.requires.prepared)
