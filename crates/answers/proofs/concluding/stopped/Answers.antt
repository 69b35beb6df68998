use Rattle.std.proofs.Common.{◌≡◌, ◌∙◌, sym, subst, ℕ, ℤ, List, Option, Some, w64, to_z, of_z, rules}
use Rattle.dp_model.specs.Numbers.{AtMost}
use Rattle.dp_model.specs.Prefixes.{IsSolution, value_of}
use Rattle.board_laws.specs.GoodBoard.{IsBoard, IsGood}
use Rattle.answers.specs.Outcomes.{IsBounded, IsStopped}
use Rattle.answers.proofs.Conclusions.{bound_there, is_bounded, is_stopped}
use Rattle.answers.proofs.concluding.stopped.Goals as goal

pub unreachable-requires : goal.unreachable-requires
unreachable-requires g c = bound_there _ _ _ _ c.requires.over c.requires.left (sym c.bound.ensures.bound ∙ c.in_default.is)

pub stop_of-stop-requires-after_bounds : goal.stop_of-stop-requires-after_bounds
stop_of-stop-requires-after_bounds g c κs within = c.requires.over.ended c.requires.left

pub returns-clause-told : goal.returns-clause-told
returns-clause-told g c = λ own agrees.
    let b = c.args.board.now.board in
    let dp = g.M.DpModel.meaning (g.M.DpModel.numbers c.args.model.now) in
    let kept = subst (λ n. IsBoard (g.M.DpModel.meaning n) b) c.requires.numbers c.facts.ensures.kept in
    let base : IsStopped dp own b c.stop_of-stop.result c.args.found c.in-Some.bound =
    is_stopped dp own agrees c.args.search c.args.board.now.first b c.stop_of-stop.result c.args.found c.in-Some.bound kept c.requires.over c.requires.left c.requires.copied (sym c.bound.ensures.bound ∙ c.in-Some.is) c.stop_of-stop.ensures in
    let read : to_z w64 (of_z w64 c.in-Some.bound) ≡ c.in-Some.bound = search rules in
    subst (λ z. IsStopped dp own b c.stop_of-stop.result c.args.found z) (sym read) base

pub returns-clause-ends : goal.returns-clause-ends
returns-clause-ends g c = λ own agrees good.
    let numbers = c.requires.numbers in
    let b = c.args.board.now.board in
    let dp = g.M.DpModel.meaning (g.M.DpModel.numbers c.args.model.now) in
    let begun = subst (λ n. IsGood (g.M.DpModel.meaning n) c.args.board.now.first) (sym numbers) good in
    let most : (x : List ℕ) → IsSolution dp x → AtMost (value_of dp x) (Some c.in-Some.bound) =
    subst (λ (o : Option ℤ). (x : List ℕ) → IsSolution dp x → AtMost (value_of dp x) o) c.in-Some.is
    (subst (λ n. (x : List ℕ) → IsSolution (g.M.DpModel.meaning n) x → AtMost (value_of (g.M.DpModel.meaning n) x) c.bound.result) numbers (c.bound.ensures.holds begun)) in
    let base : IsBounded dp own c.args.search.budget c.stop_of-stop.result c.in-Some.bound =
    is_bounded dp own agrees c.args.search c.args.board.now.first b c.stop_of-stop.result c.in-Some.bound c.requires.over c.requires.left good most c.stop_of-stop.ensures in
    let read : to_z w64 (of_z w64 c.in-Some.bound) ≡ c.in-Some.bound = search rules in
    subst (λ z. IsBounded dp own c.args.search.budget c.stop_of-stop.result z) (sym read) base
