use Rattle.std.proofs.Common.{◌∙◌, ap}
use Rattle.dp_model.specs.Gaps.{within}
use Rattle.dp_model.specs.Laws.{IsLawful}
use Rattle.layer_candidates.specs.HeldRows.{held_row}
use Rattle.layer_nodes.proofs.Leaders.{gap-within-small, gap-within-all}
use Rattle.layer_nodes.proofs.merging.gap_to.Given as given
use Rattle.layer_nodes.proofs.merging.gap_to.Goals as goal

laws_of : (g : given.Over) (m : g.row.M.Denot) → IsLawful (g.M.DpModel.meaning (g.M.DpModel.numbers m))
laws_of g m = (g.met.M.DpModel g.world.𝓛 g.world.𝓜 g.world.𝓡 ((λ s x. x), (λ x. x), (λ x. x), λ x. x)).lawful m

pub returns-clause-gap : goal.returns-clause-gap
returns-clause-gap g c =
    let dp = g.M.DpModel.meaning (g.M.DpModel.numbers c.args.model.now) in
    let a = c.args in
    c.covers_within.ensures ∙ (ap (within _) (ap (dp.gap a.k a.into.state.now) c.row_of-s.ensures.row)
    ∙ gap-within-all dp (laws_of g a.model.now) a.k a.into.state.now (held_row a.region.now a.node.now.row) c.requires.state c.requires.node.state)

pub returns-clause-small : goal.returns-clause-small
returns-clause-small g c =
    let dp = g.M.DpModel.meaning (g.M.DpModel.numbers c.args.model.now) in
    let a = c.args in
    gap-within-small dp (laws_of g a.model.now) a.k a.into.state.now (held_row a.region.now a.node.now.row) _ c.covers_within.result c.requires.state c.requires.node.state
    (c.covers_within.ensures ∙ ap (within _) (ap (dp.gap a.k a.into.state.now) c.row_of-s.ensures.row))
