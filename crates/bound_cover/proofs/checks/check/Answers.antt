use Rattle.std.proofs.Common.{◌≡◌, ◌≢◌, ℕ, ◌+◌, ℤ, Bool, true, false, cond, List, length, Option, None, Some, FitsSigned, to_z, of_z, w64, arith, refl, rules, ap, sym, ◌∙◌}
use Rattle.std.specs.Prelude.{nat_eq}
use Rattle.std.proofs.lemmas.Bool.Decides.{nat_tests}
use Rattle.std.proofs.lemmas.Int.{to_z-of_z}
use Rattle.dp_model.specs.Dp.{Dp}
use Rattle.dp_model.specs.Laws.{IsLawful}
use Rattle.bound_cover.specs.declared.cover.Why.{Why}
use Rattle.bound_cover.specs.declared.cover.Why.TheVariants.{Layers}
use Rattle.bound_cover.specs.Covers.{CoverRow}
use Rattle.bound_cover.specs.Tests.{first_of}
use Rattle.bound_cover.specs.Verdicts.{checked_rows, claim_of, cover_fault, solution_fault, verdict, verdict_of}
use Rattle.bound_cover.proofs.Sound.{accepted-is-near, accepted-is-best, checked-by, reported-far}
use Rattle.bound_cover.proofs.checks.check.Given as given
use Rattle.bound_cover.proofs.checks.check.Goals as goal

laws_of : (g : given.Over) (m : g.row.M.Denot) → IsLawful (g.M.DpModel.meaning (g.M.DpModel.numbers m))
laws_of g m = (g.met.M.DpModel g.world.𝓛 g.world.𝓜 g.world.𝓡 ((λ s x. x), (λ x. x), (λ x. x), λ x. x)).lawful m

-- the verdict, as the first failure stands
verdict_on : (dp : Dp) (best : Option ℤ) (within : ℤ) (x : List ℕ) (layers : List (List CoverRow)) (test : Bool) (first : Option Why) → nat_eq (length layers) (dp.vars + 1) ≡ test → solution_fault dp best x ≡ first
    → verdict dp best within x layers ≡ verdict_of (cond test (first_of first (cover_fault dp (claim_of best within) layers)) (Some Layers))
verdict_on dp best within x layers test first long is = rw (long, is) refl

other_layers : (dp : Dp) (layers : List (List CoverRow)) (n vars : ℕ) → n ≡ length layers → vars ≡ dp.vars → n ≢ vars + 1 → nat_eq (length layers) (dp.vars + 1) ≡ false
other_layers dp layers n vars count is other = grind (arith, nat_tests)

all_layers : (dp : Dp) (layers : List (List CoverRow)) (n vars : ℕ) → n ≡ length layers → vars ≡ dp.vars → n ≡ vars + 1 → nat_eq (length layers) (dp.vars + 1) ≡ true
all_layers dp layers n vars count is whole = grind (arith, nat_tests)

by_rows : (dp : Dp) (best : Option ℤ) (within : ℤ) (x : List ℕ) (layers : List (List CoverRow)) (claim : Option ℤ) (rows : Option Why) → solution_fault dp best x ≡ None → claim_of best within ≡ claim
    → checked_rows dp claim layers ≡ rows → verdict dp best within x layers ≡ verdict_of rows
by_rows dp best within x layers claim rows none claimed is =
    ap (λ first. verdict_of (cond (nat_eq (length layers) (dp.vars + 1)) (first_of first (cover_fault dp (claim_of best within) layers)) (Some Layers))) none
    ∙ ap verdict_of (ap (λ bound. checked_rows dp bound layers) claimed ∙ is)

-- the claim that was asked for
claim_is : (best claim : Option ℤ) (within : ℤ) → FitsSigned w64 within → claim ≡ claim_of best (to_z w64 (of_z w64 within)) → claim_of best within ≡ claim
claim_is best claim within fits is = ap (claim_of best) (sym (to_z-of_z w64 within fits)) ∙ sym is

pub claim_of-claim-requires-clause-value : goal.claim_of-claim-requires-clause-value
claim_of-claim-requires-clause-value g c =
    reported-far (g.M.DpModel.meaning (g.M.DpModel.numbers c.args.model.now)) (laws_of g c.args.model.now) c.args.reported.best c.args.reported.assignment.now (sym c.solution_fault.ensures ∙ c.in_default.is)

pub returns-in-None-clause-near : goal.returns-in-None-clause-near
returns-in-None-clause-near g c =
    let dp = g.M.DpModel.meaning (g.M.DpModel.numbers c.args.model.now) in
    let claim = claim_is c.args.reported.best c.claim_of-claim.result c.args.reported.within (search rules) c.claim_of-claim.ensures in
    λ _. accepted-is-near dp (laws_of g c.args.model.now) c.args.reported.best c.args.reported.within c.args.reported.assignment.now c.args.cover.now
    (checked-by dp c.args.reported.best c.args.reported.within c.args.reported.assignment.now c.args.cover.now (sym c.solution_fault.ensures ∙ c.in_default.is)
    (ap (λ claim. checked_rows dp claim c.args.cover.now) claim ∙ (sym c.check_rows.ensures ∙ c.in-None.is)))

pub returns-in-None-clause-sound : goal.returns-in-None-clause-sound
returns-in-None-clause-sound g c =
    let dp = g.M.DpModel.meaning (g.M.DpModel.numbers c.args.model.now) in
    let claim = claim_is c.args.reported.best c.claim_of-claim.result c.args.reported.within (search rules) c.claim_of-claim.ensures in
    λ _. accepted-is-best dp (laws_of g c.args.model.now) c.args.reported.best c.args.reported.within c.args.reported.assignment.now c.args.cover.now
    (checked-by dp c.args.reported.best c.args.reported.within c.args.reported.assignment.now c.args.cover.now (sym c.solution_fault.ensures ∙ c.in_default.is)
    (ap (λ claim. checked_rows dp claim c.args.cover.now) claim ∙ (sym c.check_rows.ensures ∙ c.in-None.is)))

pub returns-then-layers-vars-clause-verdict : goal.returns-then-layers-vars-clause-verdict
returns-then-layers-vars-clause-verdict g c =
    let dp = g.M.DpModel.meaning (g.M.DpModel.numbers c.args.model.now) in
    sym (verdict_on dp c.args.reported.best c.args.reported.within c.args.reported.assignment.now c.args.cover.now false _ (other_layers dp c.args.cover.now c.layers.result c.vars.result c.layers.ensures.count c.vars.ensures c.if-layers-vars.true) refl)

pub returns-in-Some-clause-verdict : goal.returns-in-Some-clause-verdict
returns-in-Some-clause-verdict g c =
    let dp = g.M.DpModel.meaning (g.M.DpModel.numbers c.args.model.now) in
    sym (verdict_on dp c.args.reported.best c.args.reported.within c.args.reported.assignment.now c.args.cover.now true (Some c.in-Some.why)
    (all_layers dp c.args.cover.now c.layers.result c.vars.result c.layers.ensures.count c.vars.ensures c.if-layers-vars.false) (sym c.solution_fault.ensures ∙ c.in-Some.is))

pub returns-in-None-clause-verdict : goal.returns-in-None-clause-verdict
returns-in-None-clause-verdict g c =
    sym (by_rows (g.M.DpModel.meaning (g.M.DpModel.numbers c.args.model.now)) c.args.reported.best c.args.reported.within c.args.reported.assignment.now c.args.cover.now c.claim_of-claim.result None (sym c.solution_fault.ensures ∙ c.in_default.is)
    (claim_is c.args.reported.best c.claim_of-claim.result c.args.reported.within (search rules) c.claim_of-claim.ensures) (sym c.check_rows.ensures ∙ c.in-None.is))

pub returns-in-Some-check_rows-clause-verdict : goal.returns-in-Some-check_rows-clause-verdict
returns-in-Some-check_rows-clause-verdict g c =
    sym (by_rows (g.M.DpModel.meaning (g.M.DpModel.numbers c.args.model.now)) c.args.reported.best c.args.reported.within c.args.reported.assignment.now c.args.cover.now c.claim_of-claim.result (Some c.in-Some-check_rows.why) (sym c.solution_fault.ensures ∙ c.in_default.is)
    (claim_is c.args.reported.best c.claim_of-claim.result c.args.reported.within (search rules) c.claim_of-claim.ensures) (sym c.check_rows.ensures ∙ c.in-Some-check_rows.is))
