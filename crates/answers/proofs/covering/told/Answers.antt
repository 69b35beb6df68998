use Rattle.std.proofs.Common.{◌≡◌, ◌∙◌, sym, subst, w64, to_z, of_z, rules}
use Rattle.dp_model.specs.Laws.{IsLawful}
use Rattle.problem_theory.specs.Theory.{Theory}
use Rattle.bound_cover.specs.Clamping.{IsReachable, IsWritable}
use Rattle.bound_cover.specs.Exploring.{HoldsAll}
use Rattle.dp_model.specs.Distances.{IsDistance}
use Rattle.answers.specs.Covers.{IsCoverText}
use Rattle.answers.proofs.Covered.{claim-told, counts-fit, covered-told, distance-fits, same-claim, value-writable}
use Rattle.answers.proofs.covering.told.Given as given
use Rattle.answers.proofs.covering.told.Goals as goal

laws_of : (g : given.Over) (m : g.row.M.Denot) → IsLawful (g.M.DpModel.meaning (g.M.DpModel.numbers m))
laws_of g m = (g.met.M.DpModel g.world.𝓛 g.world.𝓜 g.world.𝓡 ((λ s x. x), (λ x. x), (λ x. x), λ x. x)).lawful m

pub claim_of-claim-requires-clause-value : goal.claim_of-claim-requires-clause-value
claim_of-claim-requires-clause-value g c =
    subst IsWritable (sym c.value.ensures) (value-writable _ (laws_of g c.args.program.now) _ c.args.search.budget c.args.ended.outcome c.requires.true_told)

pub claim_of-claim-requires-clause-distance : goal.claim_of-claim-requires-clause-distance
claim_of-claim-requires-clause-distance g c =
    let read : to_z w64 (of_z w64 c.distance.result) ≡ c.distance.result = search rules in
    subst IsDistance (sym (read ∙ c.distance.ensures)) (distance-fits _ _ c.args.search.budget c.args.ended.outcome c.requires.true_told)

pub cover_text-requires-clause-holds : goal.cover_text-requires-clause-holds
cover_text-requires-clause-holds g c κs within =
    let m = c.args.program.now in
    let final = sym c.is_final.ensures ∙ c.if-not-is_final.false in
    let read : to_z w64 (of_z w64 c.distance.result) ≡ c.distance.result = search rules in
    let claim = claim-told _ (laws_of g m) _ c.args.search.budget c.args.ended.outcome final c.requires.true_told in
    subst (HoldsAll (g.M.DpModel.meaning (g.M.DpModel.numbers m))) (sym (same-claim _ _ _ _ _ c.value.ensures (read ∙ c.distance.ensures) c.claim_of-claim.ensures)) claim.0

pub cover_text-requires-clause-reachable : goal.cover_text-requires-clause-reachable
cover_text-requires-clause-reachable g c κs within =
    let final = sym c.is_final.ensures ∙ c.if-not-is_final.false in
    let read : to_z w64 (of_z w64 c.distance.result) ≡ c.distance.result = search rules in
    let claim = claim-told _ (laws_of g c.args.program.now) _ c.args.search.budget c.args.ended.outcome final c.requires.true_told in
    subst IsReachable (sym (same-claim _ _ _ _ _ c.value.ensures (read ∙ c.distance.ensures) c.claim_of-claim.ensures)) claim.1

pub returns-in-Ok-clause-covered : goal.returns-in-Ok-clause-covered
returns-in-Ok-clause-covered g c =
    let numbers = g.P.DpModel.numbers c.args.model.now in
    let program = c.args.program.now in
    let dp = g.M.DpModel.meaning (g.M.DpModel.numbers program) in
    let t : Theory = g.P.Problem.theory in
    let subject = c.args.subject in
    let read : to_z w64 (of_z w64 c.distance.result) ≡ c.distance.result = search rules in
    let final = sym c.is_final.ensures ∙ c.if-not-is_final.false in
    covered-told subject.name subject.part t numbers dp c.args.search.budget c.args.ended.outcome c.args.ended.counts c.in-Ok.text c.requires.named c.requires.part c.requires.program (laws_of g program) final
    c.requires.true_told
    (counts-fit c.args.ended.counts c.requires.sized)
    c.in-Ok.ensures.reads_back
    (subst (λ v. IsCoverText dp subject.name subject.part (t.canonical numbers) v c.in-Ok.text.items) (same-claim _ _ _ _ _ c.value.ensures (read ∙ c.distance.ensures) c.claim_of-claim.ensures) c.in-Ok.ensures.text)
