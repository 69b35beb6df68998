use Rattle.std.proofs.Common.{◌≡◌, None, Option, ℤ, ◌∙◌, subst, IfOk}
use Rattle.dp_model.specs.Best.{best}
use Rattle.bound_cover.specs.Clamping.{IsReachable}
use Rattle.bound_cover.specs.Exploring.{HoldsAll}
use Rattle.bound_cover.specs.Verdicts.{checked_rows}
use Rattle.cover_book.proofs.whole.explore_each.Goals as goal

pub returns-clause-best : goal.returns-clause-best
returns-clause-best g c =
    let dp = g.M.DpModel.meaning (g.M.DpModel.numbers c.args.model.now) in
    subst (λ (claim : Option ℤ). IfOk c.finish.result (λ cover. claim ≡ best dp → checked_rows dp claim cover ≡ None)) (c.put_all.ensures.claim ∙ c.in_ok-exploration.ensures.claim) c.finish.ensures.best

pub returns-clause-passes : goal.returns-clause-passes
returns-clause-passes g c =
    let dp = g.M.DpModel.meaning (g.M.DpModel.numbers c.args.model.now) in
    subst (λ (claim : Option ℤ). IfOk c.finish.result (λ cover. HoldsAll dp claim → IsReachable claim → checked_rows dp claim cover ≡ None)) (c.put_all.ensures.claim ∙ c.in_ok-exploration.ensures.claim) c.finish.ensures.passes
