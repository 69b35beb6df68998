use Rattle.std.proofs.Common.{rules, ◌≡◌, ◌<ℤ◌, w64, to_z, of_z, arith}
use Rattle.std.proofs.lemmas.Int.{ints, to_z-of_z}
use Rattle.dp_model.specs.Laws.{IsLawful}
use Rattle.dominance_table.proofs.Covering.{less_dominates}
use Rattle.dominance_table.proofs.dominating.dominates.Given as given
use Rattle.dominance_table.proofs.dominating.dominates.Goals as goal

laws_of : (g : given.Over) (m : g.row.M.Denot) → IsLawful (g.M.DpModel.meaning (g.M.DpModel.numbers m))
laws_of g m = (g.met.M.DpModel g.world.𝓛 g.world.𝓜 g.world.𝓡 ((λ s x. x), (λ x. x), (λ x. x), λ x. x)).lawful m

pub returns-then-entry-sought : goal.returns-then-entry-sought
returns-then-entry-sought g c =
    let above = to_z-of_z w64 c.args.entry.now.value (search rules) in
    let value : to_z w64 (of_z w64 c.args.sought.now.value) ≡ c.args.sought.now.value = search rules in
    let test = c.if-entry-sought.true in
    let less : c.args.entry.now.value <ℤ c.args.sought.now.value = grind (arith, ints) in
    less_dominates (g.M.DpModel.meaning (g.M.DpModel.numbers c.args.model.now)) c.args.sought.now.depth c.args.sought.now.row.now c.args.sought.now.value c.args.entry.now c.args.row.now
    (laws_of g c.args.model.now) (λ _. c.requires.row) c.requires.state less

pub covers-requires-clause-worth : goal.covers-requires-clause-worth
covers-requires-clause-worth g c =
    let above = to_z-of_z w64 c.args.entry.now.value (search rules) in
    let value : to_z w64 (of_z w64 c.args.sought.now.value) ≡ c.args.sought.now.value = search rules in
    let test = c.if-entry-sought.false in
    grind (arith, ints)
