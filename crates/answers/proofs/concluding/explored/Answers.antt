use Rattle.std.proofs.Common.{◌≡◌, ◌∙◌, sym, subst, w64, to_z, of_z, rules}
use Rattle.bound_cover.specs.Exploring.{HoldsAll}
use Rattle.board_laws.specs.Board.{reach}
use Rattle.board_laws.specs.GoodBoard.{IsBoard, IsGood}
use Rattle.dp_model.specs.Distances.{IsDistance}
use Rattle.answers.specs.Reports.{IsProvedWithin}
use Rattle.answers.proofs.Conclusions.{explored_with, reach_infeasible, reach_proved}
use Rattle.answers.proofs.concluding.explored.Goals as goal

pub returns-in-Some-clause-told : goal.returns-in-Some-clause-told
returns-in-Some-clause-told g c = λ own agrees.
    let b = c.args.board.now.board in
    let kept = subst (λ n. IsBoard (g.M.DpModel.meaning n) b) c.requires.numbers c.facts.ensures.kept in
    let read : to_z w64 (of_z w64 c.args.within) ≡ c.args.within = search rules in
    (explored_with _ own agrees b _ c.requires.nothing_left kept (sym c.in-Some.is ∙ c.requires.copied), read ∙ c.requires.distance)

pub returns-in-None-clause-told : goal.returns-in-None-clause-told
returns-in-None-clause-told g c = λ own agrees.
    let b = c.args.board.now.board in
    let kept = subst (λ n. IsBoard (g.M.DpModel.meaning n) b) c.requires.numbers c.facts.ensures.kept in
    explored_with _ own agrees b _ c.requires.nothing_left kept (sym c.in-None.is ∙ c.requires.copied)

pub returns-in-Some-clause-ends : goal.returns-in-Some-clause-ends
returns-in-Some-clause-ends g c = λ own agrees budget good.
    let numbers = c.requires.numbers in
    let b = c.args.board.now.board in
    let dp = g.M.DpModel.meaning (g.M.DpModel.numbers c.args.model.now) in
    let begun = subst (λ n. IsGood (g.M.DpModel.meaning n) c.args.board.now.first) (sym numbers) good in
    let kept = subst (λ n. IsBoard (g.M.DpModel.meaning n) b) numbers c.facts.ensures.kept in
    let most = subst (λ n. HoldsAll (g.M.DpModel.meaning n) (reach b)) numbers (c.is_explored.ensures.within begun (c.is_explored.ensures.explored ∙ c.requires.nothing_left)) in
    let found = c.in-Some.best in
    let near : IsProvedWithin dp own b.settings.within found =
    reach_proved dp own agrees b.settings.within b.incumbent found (sym c.in-Some.is ∙ c.requires.copied) kept.incumbent most in
    let read : to_z w64 (of_z w64 c.args.within) ≡ c.args.within = search rules in
    subst (λ w. IsDistance w × IsProvedWithin dp own w found) (sym (read ∙ c.requires.distance))
    (kept.settings.distance, near)

pub returns-in-None-clause-ends : goal.returns-in-None-clause-ends
returns-in-None-clause-ends g c = λ own agrees budget good.
    let numbers = c.requires.numbers in
    let b = c.args.board.now.board in
    let begun = subst (λ n. IsGood (g.M.DpModel.meaning n) c.args.board.now.first) (sym numbers) good in
    let most = subst (λ n. HoldsAll (g.M.DpModel.meaning n) (reach b)) numbers (c.is_explored.ensures.within begun (c.is_explored.ensures.explored ∙ c.requires.nothing_left)) in
    reach_infeasible _ own agrees b.settings.within b.incumbent (sym c.in-None.is ∙ c.requires.copied) most
