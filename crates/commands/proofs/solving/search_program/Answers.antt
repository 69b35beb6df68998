use Rattle.std.proofs.Common.{◌∙◌, false, is_some, ap, sym, subst}
use Rattle.std.specs.Arc.{arc_value}
use Rattle.dp_model.specs.Dp.{Dp}
use Rattle.problem_theory.specs.Theory.{Agrees}
use Rattle.answers.specs.Answers.{Solves}
use Rattle.answers.specs.Parts.{own_in}
use Rattle.answers.proofs.Parts.{agrees-in}
use Rattle.commands.specs.Searches.{IsKeptOn}
use Rattle.commands.proofs.Told.{books-held, good-kept, keeps-here, none-kept, none-solves, searched-here, told-true}
use Rattle.commands.proofs.solving.search_program.Given as given
use Rattle.commands.proofs.solving.search_program.Goals as goal

-- the own words of what is searched agree with its program
agrees_of : (g : given.Over) (m : g.row.P.Denot) → Agrees (g.P.Problem.theory.program (g.P.DpModel.numbers m)) (g.P.Problem.theory.own_value (g.P.DpModel.numbers m))
agrees_of g m =
    let problem = g.met.P.Problem g.world.𝓛 g.world.𝓜 g.world.𝓡 ((λ s x. x), (λ x. x), (λ x. x), λ x. x) in
    let own = g.P.Problem.theory.own_value (g.P.DpModel.numbers m) in
    subst (λ (dp : Dp). Agrees dp own) (problem.same_program (g.P.DpModel.numbers m)) (problem.agrees m)

pub returns-clause-solves : goal.returns-clause-solves
returns-clause-solves g c =
    let meaning = g.M.DpModel.meaning in
    let ns = g.M.DpModel.numbers c.deref-program.result.now in
    let here = g.M.DpModel.numbers (arc_value c.args.start.model) in
    let at = ap g.M.DpModel.numbers c.deref-program.ensures in
    let whole = g.P.DpModel.numbers c.args.whole.now in
    let part = c.args.subject.part in
    let own = own_in part (g.P.Problem.theory.own_value whole) in
    let agrees = subst (λ (dp : Dp). Agrees dp own) (sym (ap meaning at ∙ c.requires.program)) (agrees-in part (g.P.Problem.theory.program whole) (g.P.Problem.theory.own_value whole) (agrees_of g c.args.whole.now)) in
    let kept = c.new-kept.ensures in
    let board = c.args.start.board in
    let ended = c.search_from-ended.result.0 in
    let now = c.search_from-ended.result.1 in
    let searched = searched-here g.D.Disk meaning ns here at c.new-kept.result board c.args.disk false kept.board kept.made (ap is_some kept.tail) now (λ _. own) c.args.search ended (c.search_from-ended.ensures.searched own agrees) in
    subst (λ (dp : Dp). Solves dp own c.args.search c.answer_of-answer.result) c.requires.program
    (none-solves g.D.Disk (meaning here) own c.args.search board c.args.start.desks c.args.disk now c.requires.begun ended c.answer_of-answer.result c.answer_of-answer.ensures.answers searched)

pub returns-clause-disk : goal.returns-clause-disk
returns-clause-disk g c =
    let meaning = g.M.DpModel.meaning in
    let ns = g.M.DpModel.numbers c.deref-program.result.now in
    let here = g.M.DpModel.numbers (arc_value c.args.start.model) in
    let at = ap g.M.DpModel.numbers c.deref-program.ensures in
    let kept = c.new-kept.ensures in
    let now = c.search_from-ended.result.1 in
    let keeps = keeps-here g.D.Disk meaning ns here at c.new-kept.result c.args.start.board c.args.disk false kept.board kept.made (ap is_some kept.tail) now c.search_from-ended.ensures.keeps in
    (none-kept g.D.Disk (meaning here) c.args.disk now keeps.board keeps.keeps).1

pub answer_of-answer-requires-clause-program : goal.answer_of-answer-requires-clause-program
answer_of-answer-requires-clause-program g c κs within = ap (λ m. g.M.DpModel.meaning (g.M.DpModel.numbers m)) c.deref-program.ensures ∙ c.requires.program

pub answer_of-answer-requires-clause-true_told : goal.answer_of-answer-requires-clause-true_told
answer_of-answer-requires-clause-true_told g c κs within =
    let meaning = g.M.DpModel.meaning in
    let ns = g.M.DpModel.numbers c.deref-program.result.now in
    let here = g.M.DpModel.numbers (arc_value c.args.start.model) in
    let at = ap g.M.DpModel.numbers c.deref-program.ensures in
    let whole = g.P.DpModel.numbers c.args.whole.now in
    let part = c.args.subject.part in
    let own = own_in part (g.P.Problem.theory.own_value whole) in
    let agrees = subst (λ (dp : Dp). Agrees dp own) (sym (ap meaning at ∙ c.requires.program)) (agrees-in part (g.P.Problem.theory.program whole) (g.P.Problem.theory.own_value whole) (agrees_of g c.args.whole.now)) in
    let kept = c.new-kept.result in
    let ended = c.search_from-ended.result in
    told-true (meaning ns) own c.args.search kept.board.first (IsKeptOn g.D.Disk (meaning ns) (is_some kept.tail) kept.made ended.1)
    (good-kept meaning ns here at kept.board c.args.start.board c.new-kept.ensures.board c.requires.begun.good) ended.0 (c.search_from-ended.ensures.searched own agrees)

pub answer_of-answer-requires-clause-books : goal.answer_of-answer-requires-clause-books
answer_of-answer-requires-clause-books g c κs within =
    books-held (g.M.DpModel.meaning (g.M.DpModel.numbers c.deref-program.result.now)) c.new-kept.result.board.board.settings.width c.search_from-ended.new.desks.items c.search_from-ended.ensures.prepared
