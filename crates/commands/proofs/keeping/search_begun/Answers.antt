use Rattle.std.proofs.Common.{◌≡◌, true, is_some, ap}
use Rattle.std.specs.Arc.{arc_value}
use Rattle.answers.specs.Kept.{head_of}
use Rattle.commands.proofs.Beginning.{ends, left, same-attached}
use Rattle.commands.specs.Searches.{IsKeptOn}
use Rattle.commands.proofs.Told.{books-held, first-is, good-kept, keeps-here, searched-here, told-true}
use Rattle.problem_theory.specs.Theory.{Agrees}
use Rattle.commands.proofs.keeping.search_begun.Given as given
use Rattle.commands.proofs.keeping.search_begun.Goals as goal

agrees_of : (g : given.Over) (m : g.row.P.Denot) → Agrees (g.P.DpModel.meaning (g.P.DpModel.numbers m)) (g.P.Problem.theory.own_value (g.P.DpModel.numbers m))
agrees_of g m = (g.met.P.Problem g.world.𝓛 g.world.𝓜 g.world.𝓡 ((λ s x. x), (λ x. x), (λ x. x), λ x. x)).agrees m

same_program : (g : given.Over) (m : g.row.P.Denot) → g.P.DpModel.meaning (g.P.DpModel.numbers m) ≡ g.P.Problem.theory.program (g.P.DpModel.numbers m)
same_program g m = (g.met.P.Problem g.world.𝓛 g.world.𝓜 g.world.𝓡 ((λ s x. x), (λ x. x), (λ x. x), λ x. x)).same_program (g.P.DpModel.numbers m)

pub returns-clause-ends : goal.returns-clause-ends
returns-clause-ends g c =
    let meaning = g.P.DpModel.meaning in
    let own = g.P.Problem.theory.own_value in
    let here = g.P.DpModel.numbers (arc_value c.args.start.model) in
    let head = head_of g.P.Problem.theory c.args.name c.args.search.within here in
    let kept = c.new-kept.ensures in
    let board = c.args.start.board in
    let ended = c.search_from-ended.result.0 in
    let now = c.search_from-ended.result.1 in
    let searched = searched-here g.D.Disk meaning (g.P.DpModel.numbers c.deref-whole.result.now) here (ap g.P.DpModel.numbers c.deref-whole.ensures) c.new-kept.result board c.args.disk true kept.board kept.made (ap is_some kept.tail) now own c.args.search ended (c.search_from-ended.ensures.searched (own (g.P.DpModel.numbers c.deref-whole.result.now)) (agrees_of g c.deref-whole.result.now)) in
    ends g.D.Disk (meaning here) (own here) head c.args.search c.requires.may.distance c.args.disk c.args.tail c.requires.ready now board.first (first-is (meaning here) c.args.search board c.args.start.desks c.requires.begun) c.requires.begun.good ended c.answer_of-answer.result c.answer_of-answer.ensures.answers searched

pub returns-clause-left : goal.returns-clause-left
returns-clause-left g c =
    let meaning = g.P.DpModel.meaning in
    let own = g.P.Problem.theory.own_value in
    let here = g.P.DpModel.numbers (arc_value c.args.start.model) in
    let head = head_of g.P.Problem.theory c.args.name c.args.search.within here in
    let kept = c.new-kept.ensures in
    let board = c.args.start.board in
    let now = c.search_from-ended.result.1 in
    let keeps = keeps-here g.D.Disk meaning (g.P.DpModel.numbers c.deref-whole.result.now) here (ap g.P.DpModel.numbers c.deref-whole.ensures) c.new-kept.result board c.args.disk true kept.board kept.made (ap is_some kept.tail) now c.search_from-ended.ensures.keeps in
    left g.D.Disk (meaning here) (own here) head c.args.search c.requires.may.distance c.args.disk c.args.tail c.requires.ready now board.board.settings keeps

pub returns-clause-attached : goal.returns-clause-attached
returns-clause-attached g c =
    let meaning = g.P.DpModel.meaning in
    let own = g.P.Problem.theory.own_value in
    let here = g.P.DpModel.numbers (arc_value c.args.start.model) in
    let kept = c.new-kept.ensures in
    let now = c.search_from-ended.result.1 in
    let keeps = keeps-here g.D.Disk meaning (g.P.DpModel.numbers c.deref-whole.result.now) here (ap g.P.DpModel.numbers c.deref-whole.ensures) c.new-kept.result c.args.start.board c.args.disk true kept.board kept.made (ap is_some kept.tail) now c.search_from-ended.ensures.keeps in
    same-attached g.D.Disk (meaning here) (own here) (head_of g.P.Problem.theory c.args.name c.args.search.within here) c.args.search c.requires.may.distance c.args.disk c.args.tail c.requires.ready now keeps.board keeps.keeps

pub answer_of-answer-requires-clause-program : goal.answer_of-answer-requires-clause-program
answer_of-answer-requires-clause-program g c κs within = same_program g c.deref-whole.result.now

pub answer_of-answer-requires-clause-true_told : goal.answer_of-answer-requires-clause-true_told
answer_of-answer-requires-clause-true_told g c κs within =
    let meaning = g.P.DpModel.meaning in
    let ns = g.P.DpModel.numbers c.deref-whole.result.now in
    let own = g.P.Problem.theory.own_value ns in
    let kept = c.new-kept.result in
    let ended = c.search_from-ended.result in
    told-true (meaning ns) own c.args.search kept.board.first (IsKeptOn g.D.Disk (meaning ns) (is_some kept.tail) kept.made ended.1)
    (good-kept meaning ns (g.P.DpModel.numbers (arc_value c.args.start.model)) (ap g.P.DpModel.numbers c.deref-whole.ensures) kept.board c.args.start.board c.new-kept.ensures.board c.requires.begun.good)
    ended.0 (c.search_from-ended.ensures.searched own (agrees_of g c.deref-whole.result.now))

pub answer_of-answer-requires-clause-books : goal.answer_of-answer-requires-clause-books
answer_of-answer-requires-clause-books g c κs within =
    books-held (g.P.DpModel.meaning (g.P.DpModel.numbers c.deref-whole.result.now)) c.new-kept.result.board.board.settings.width c.search_from-ended.new.desks.items c.search_from-ended.ensures.prepared
