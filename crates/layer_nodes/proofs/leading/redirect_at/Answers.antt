use Rattle.std.proofs.Common.{◌≡◌, ◌-ℤ◌, w64, ap, ap₂, ◌∙◌}
use Rattle.std.proofs.lemmas.Int.{to_z-of_z}
use Rattle.dp_model.specs.Gaps.{within}
use Rattle.dp_model.specs.Laws.{IsLawful}
use Rattle.dp_laws.specs.Rules.Reducing.{redirect_by}
use Rattle.layer_candidates.specs.HeldRows.{held_row}
use Rattle.layer_nodes.proofs.Leaders.{gap-within-small, by-within}
use Rattle.layer_nodes.proofs.leading.redirect_at.Given as given
use Rattle.layer_nodes.proofs.leading.redirect_at.Goals as goal

laws_of : (g : given.Over) (m : g.row.M.Denot) → IsLawful (g.M.DpModel.meaning (g.M.DpModel.numbers m))
laws_of g m = (g.met.M.DpModel g.world.𝓛 g.world.𝓜 g.world.𝓡 ((λ s x. x), (λ x. x), (λ x. x), λ x. x)).lawful m

pub redirect_by-requires : goal.redirect_by-requires
redirect_by-requires g c =
    let dp = g.M.DpModel.meaning (g.M.DpModel.numbers c.args.model.now) in
    let a = c.args in
    record {
      small = gap-within-small dp (laws_of g a.model.now) a.k (held_row a.region.now a.leader.row) (held_row a.region.now a.node.now.row) _ c.covers_within-gap.result c.requires.leader.with_row.state c.requires.node.with_row.state
          (c.covers_within-gap.ensures ∙ ap (within _) (ap₂ (dp.gap a.k) c.row_of-a.ensures.row c.row_of-s.ensures.row));
    }

pub returns-clause-redirect : goal.returns-clause-redirect
returns-clause-redirect g c =
    let dp = g.M.DpModel.meaning (g.M.DpModel.numbers c.args.model.now) in
    let a = c.args in
    let gap = dp.gap a.k (held_row a.region.now a.leader.row) (held_row a.region.now a.node.now.row) in
    let is : c.covers_within-gap.result ≡ within (a.leader.value -ℤ a.node.now.value) gap =
    c.covers_within-gap.ensures ∙ ap₂ within (to_z-of_z w64 c.room-most.result (record { sfits = c.room-most.type_inv }) ∙ c.room-most.ensures) (ap₂ (dp.gap a.k) c.row_of-a.ensures.row c.row_of-s.ensures.row) in
    c.redirect_by.ensures.redirect ∙ (ap (redirect_by a.leader.place) is ∙ by-within a.leader.place gap a.leader.value a.node.now.value)
