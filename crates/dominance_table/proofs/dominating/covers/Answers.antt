use Rattle.std.proofs.Common.{rules, ◌≡◌, ◌-ℤ◌, is_some, w64, to_z, of_z, ◌∙◌, ap, ap₂}
use Rattle.std.specs.Int.{saturate_signed}
use Rattle.std.proofs.lemmas.Int.{to_z-of_z}
use Rattle.dp_model.specs.Gaps.{within}
use Rattle.dp_model.specs.Laws.{IsLawful}
use Rattle.dominance_table.proofs.Covering.{within_covers}
use Rattle.dominance_table.proofs.dominating.covers.Given as given
use Rattle.dominance_table.proofs.dominating.covers.Goals as goal

laws_of : (g : given.Over) (m : g.row.M.Denot) → IsLawful (g.M.DpModel.meaning (g.M.DpModel.numbers m))
laws_of g m = (g.met.M.DpModel g.world.𝓛 g.world.𝓜 g.world.𝓡 ((λ s x. x), (λ x. x), (λ x. x), λ x. x)).lawful m

pub returns : goal.returns
returns g c =
    let dp = g.M.DpModel.meaning (g.M.DpModel.numbers c.args.model.now) in
    let gap = dp.gap c.args.sought.now.depth c.args.row.now c.args.sought.now.row.now in
    let above = to_z-of_z w64 c.args.entry.now.value (search rules) in
    let value : to_z w64 (of_z w64 c.args.sought.now.value) ≡ c.args.sought.now.value = search rules in
    let most = to_z-of_z w64 c.excess-most.result (record { sfits = c.excess-most.type_inv }) ∙ (c.excess-most.ensures ∙ ap₂ (λ a b. saturate_signed w64 (a -ℤ b)) above value) in
    c.is_some.ensures ∙ (ap is_some (c.covers_within.ensures ∙ ap (λ m. within m gap) most)
    ∙ within_covers dp c.args.sought.now.depth c.args.row.now c.args.sought.now.row.now c.args.entry.now.value c.args.sought.now.value (laws_of g c.args.model.now) c.requires.row.state c.requires.state)
