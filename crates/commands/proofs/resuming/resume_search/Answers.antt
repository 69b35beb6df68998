use Rattle.std.proofs.Common.{◌≡◌, ◌⊎◌, map, Some, true, is_some, ap, subst, sym, ◌∙◌, IfOk, IfErr}
use Rattle.answers.proofs.Journaled.{made-resumed, none-follow}
use Rattle.kept_board.specs.Kept.{MayKeep}
use Rattle.dp_model.specs.Laws.{IsLawful}
use Rattle.journal_bytes.specs.Journal.{head_view}
use Rattle.disk.specs.Counts.{Rose}
use Rattle.part_reports.specs.Reports.{report_view}
use Rattle.answers.specs.Offers.{AreWorthAtMost, told_value}
use Rattle.answers.specs.Kept.{MayBeAdded, going_on}
use Rattle.journal_replay.specs.Sound.{AreSound}
use Rattle.solver_words.specs.declared.job.JobSettings.{JobSettings}
use Rattle.commands.specs.Journals.{TouchesNothing}
use Rattle.commands.specs.Searches.{IsToldOn}
use Rattle.commands.specs.Starts.{DoesNotTake}
use Rattle.commands.proofs.GoingOn.{first-good, first-restored, gone-on, leaves, leaves-it, may-go-on, or-refused, told-on, untouched}
use Rattle.commands.proofs.Told.{keeps-here, searched-here}
use Rattle.commands.proofs.resuming.resume_search.Given as given
use Rattle.problem_theory.specs.Theory.{Agrees}
use Rattle.commands.proofs.resuming.resume_search.Goals as goal

laws_of : (g : given.Over) (m : g.row.P.Denot) → IsLawful (g.P.DpModel.meaning (g.P.DpModel.numbers m))
laws_of g m = (g.met.P.DpModel g.world.𝓛 g.world.𝓜 g.world.𝓡 ((λ s x. x), (λ x. x), (λ x. x), λ x. x)).lawful m

agrees_of : (g : given.Over) (m : g.row.P.Denot) → Agrees (g.P.DpModel.meaning (g.P.DpModel.numbers m)) (g.P.Problem.theory.own_value (g.P.DpModel.numbers m))
agrees_of g m = (g.met.P.Problem g.world.𝓛 g.world.𝓜 g.world.𝓡 ((λ s x. x), (λ x. x), (λ x. x), λ x. x)).agrees m

pub returns-in-Ok-clause-told : goal.returns-in-Ok-clause-told
returns-in-Ok-clause-told g c =
    let meaning = g.P.DpModel.meaning in
    let here = g.P.DpModel.numbers c.args.model in
    let dp = meaning here in
    let own = g.P.Problem.theory.own_value in
    let at = ap g.P.DpModel.numbers c.deref.ensures ∙ c.in-Ok.ensures.model in
    let head = head_view c.args.tail.version c.args.head.now in
    let records = c.args.records.now in
    let offers = map report_view c.args.asked.offers.now in
    let kept = c.new-kept.ensures in
    let search = c.going_on-search.result in
    let same : search ≡ going_on head c.args.asked.search = c.going_on-search.ensures c.args.tail.version in
    let near = ap (λ (s : JobSettings). s.within) same in
    let may = may-go-on head search c.args.asked.search same c.requires.distance c.requires.may in
    let start = c.in-Ok.field-0 in
    let board = start.board in
    let on = c.in-Ok.ensures.goes_on in
    let ended = c.search_offered-ended.result.0 in
    let now = c.search_offered-ended.result.1 in
    let searched = searched-here g.D.Disk meaning (g.P.DpModel.numbers c.deref.result.now) here at c.new-kept.result board c.args.disk true kept.board kept.made (ap is_some kept.tail) now own search ended (c.search_offered-ended.ensures.searched (own (g.P.DpModel.numbers c.deref.result.now)) (agrees_of g c.deref.result.now)) in
    let taken = subst (λ d. IfOk ended (λ told. AreWorthAtMost offers (told_value told.outcome) ⊎ Rose (g.D.Disk.faults d) (g.D.Disk.faults now))) kept.made (c.search_offered-ended.ensures.taken (own (g.P.DpModel.numbers c.deref.result.now)) (agrees_of g c.deref.result.now)) in
    let gone = gone-on g.D.Disk dp (own here) head records.records offers search c.args.disk c.args.tail c.requires.opened now board.first on.accepted c.in-Ok.ensures.tested (first-restored dp search records board start.desks on)
    (λ sound. first-good dp (laws_of g c.args.model) search records board start.desks may on (subst (λ z. AreSound dp z records.records) (sym near) sound)) ended taken searched in
    subst (λ r. IfOk r (λ told. IsToldOn g.D.Disk dp (own here) head records.records offers (going_on head c.args.asked.search) now told.outcome told.counts)) (sym c.or_memory.ensures)
    (told-on g.D.Disk dp (own here) head records.records offers search c.args.asked.search same now ended gone)

pub returns-in-Ok-clause-refused : goal.returns-in-Ok-clause-refused
returns-in-Ok-clause-refused g c =
    let dp = g.P.DpModel.meaning (g.P.DpModel.numbers c.args.model) in
    let own = g.P.Problem.theory.own_value (g.P.DpModel.numbers c.args.model) in
    let head = head_view c.args.tail.version c.args.head.now in
    let offers = map report_view c.args.asked.offers.now in
    let now = c.search_offered-ended.result.1 in
    subst (λ r. IfErr r (λ answer. DoesNotTake dp (going_on head c.args.asked.search) c.args.records.now offers answer × TouchesNothing c.args.disk now answer)) (sym c.or_memory.ensures)
    (or-refused g.D.Disk dp own head c.args.records.now.records offers c.args.records.now c.args.asked.search c.args.disk now c.search_offered-ended.result.0)

pub returns-in-Ok-clause-left : goal.returns-in-Ok-clause-left
returns-in-Ok-clause-left g c =
    let meaning = g.P.DpModel.meaning in
    let here = g.P.DpModel.numbers c.args.model in
    let own = g.P.Problem.theory.own_value in
    let at = ap g.P.DpModel.numbers c.deref.ensures ∙ c.in-Ok.ensures.model in
    let kept = c.new-kept.ensures in
    let board = c.in-Ok.field-0.board in
    let now = c.search_offered-ended.result.1 in
    let keeps = keeps-here g.D.Disk meaning (g.P.DpModel.numbers c.deref.result.now) here at c.new-kept.result board c.args.disk true kept.board kept.made (ap is_some kept.tail) now c.search_offered-ended.ensures.keeps in
    leaves g.D.Disk (meaning here) (own here) (head_view c.args.tail.version c.args.head.now) c.args.records.now.records (map report_view c.args.asked.offers.now) c.going_on-search.result c.args.disk c.args.tail c.requires.opened now board.board.settings keeps

pub returns-in-Err-clause-left : goal.returns-in-Err-clause-left
returns-in-Err-clause-left g c =
    let dp = g.P.DpModel.meaning (g.P.DpModel.numbers c.args.model) in
    let rs = c.args.records.now.records in
    leaves-it g.D.Disk (MayBeAdded dp c.args.head.now.within rs) (head_view c.args.tail.version c.args.head.now) rs c.args.disk c.args.tail c.requires.opened (none-follow g.D.Disk dp c.args.head.now.within rs)

pub taking-requires-clause-may : goal.taking-requires-clause-may
taking-requires-clause-may g c κs within =
    let head = head_view c.args.tail.version c.args.head.now in
    may-go-on head c.going_on-search.result c.args.asked.search (c.going_on-search.ensures c.args.tail.version) c.requires.distance c.requires.may

pub taking-requires-clause-within : goal.taking-requires-clause-within
taking-requires-clause-within g c κs within = ap (λ (s : JobSettings). s.within) (c.going_on-search.ensures c.args.tail.version) ∙ sym c.requires.within

pub returns-in-Err-clause-refused : goal.returns-in-Err-clause-refused
returns-in-Err-clause-refused g c =
    let dp = g.P.DpModel.meaning (g.P.DpModel.numbers c.args.model) in
    let head = head_view c.args.tail.version c.args.head.now in
    let answer = c.in-Err.answer in
    (subst (λ (s : JobSettings). DoesNotTake dp s c.args.records.now (map report_view c.args.asked.offers.now) answer) (c.going_on-search.ensures c.args.tail.version) c.in-Err.ensures.refused, untouched c.args.disk answer)

pub new-kept-requires-clause-made : goal.new-kept-requires-clause-made
new-kept-requires-clause-made g c κs within =
    let here = g.P.DpModel.numbers c.args.model in
    let board = c.in-Ok.field-0.board in
    let on = c.in-Ok.ensures.goes_on in
    let head = head_view c.args.tail.version c.args.head.now in
    let near = on.fresh.ready.prepared.asked.distance ∙ ap (λ (s : JobSettings). s.within) (c.going_on-search.ensures c.args.tail.version) in
    subst (λ ns. MayKeep g.D.Disk (g.P.DpModel.meaning ns) board.board c.args.disk (Some c.args.tail)) (sym c.in-Ok.ensures.numbers)
    (made-resumed g.D.Disk (g.P.DpModel.meaning here) board.board.settings board.board c.args.disk c.args.tail head c.args.records.now.records
    (c.requires.opened.is_attached, c.requires.opened.is_open) near on.accepted on.board)
