use Rattle.std.proofs.Common.{ap, subst}
use Rattle.std.specs.Arc.{arc_value}
use Rattle.dp_model.specs.Laws.{IsLawful}
use Rattle.answers.specs.Kept.{head_of}
use Rattle.answers.specs.Journals.{IsRefusedToBegin}
use Rattle.answers.proofs.Journaled.{BeginsSince, left-begun-alone, still-attaches}
use Rattle.commands.proofs.Beginning.{begun-solves}
use Rattle.commands.proofs.keeping.search_kept.Given as given
use Rattle.commands.proofs.keeping.search_kept.Goals as goal

laws_of : (g : given.Over) (m : g.row.P.Denot) → IsLawful (g.P.DpModel.meaning (g.P.DpModel.numbers m))
laws_of g m = (g.met.P.DpModel g.world.𝓛 g.world.𝓜 g.world.𝓡 ((λ s x. x), (λ x. x), (λ x. x), λ x. x)).lawful m

pub returns-in-Ok-clause-solves : goal.returns-in-Ok-clause-solves
returns-in-Ok-clause-solves g c =
    let here = g.P.DpModel.numbers (arc_value c.args.start.model) in
    let dp = g.P.DpModel.meaning here in
    let own = g.P.Problem.theory.own_value here in
    let head = head_of g.P.Problem.theory c.args.name c.args.search.within here in
    begun-solves g.D.Disk dp own head c.args.search c.args.disk c.search_begun.result.1 c.search_begun.result.0 c.search_begun.ensures.ends

pub returns-in-Ok-clause-left : goal.returns-in-Ok-clause-left
returns-in-Ok-clause-left g c =
    (still-attaches g.D.Disk c.args.path.now c.args.disk c.begin_journal.new.disk c.search_begun.result.1 c.in-Ok.ensures.began c.search_begun.ensures.attached c.begin_journal.ensures.attaches, c.search_begun.ensures.left)

pub returns-in-Err-clause-solves : goal.returns-in-Err-clause-solves
returns-in-Err-clause-solves g c =
    let asked = c.requires.begun.fresh.ready.prepared.asked in (
      subst (λ ns. IsRefusedToBegin g.D.Disk (head_of g.P.Problem.theory c.args.name c.args.search.within ns) c.args.disk c.begin_journal.new.disk c.in-Err.error) (ap g.P.DpModel.numbers c.deref.ensures) c.in-Err.ensures.refused,
      (c.args.start.board.board.settings.width, asked.wide),
    )

pub returns-in-Err-clause-left : goal.returns-in-Err-clause-left
returns-in-Err-clause-left g c =
    let m = arc_value c.args.start.model in
    let here = g.P.DpModel.numbers m in
    let now = c.begin_journal.new.disk in (
      c.begin_journal.ensures.attaches,
      left-begun-alone g.D.Disk (g.P.DpModel.meaning here) now (head_of g.P.Problem.theory c.args.name c.args.search.within here) (laws_of g m) c.requires.may.distance c.begin_journal.ensures.spared
          (subst (λ ns. BeginsSince g.D.Disk (head_of g.P.Problem.theory c.args.name c.args.search.within ns) now) (ap g.P.DpModel.numbers c.deref.ensures) c.begin_journal.ensures.since),
    )

pub begin_journal-requires-clause-distance : goal.begin_journal-requires-clause-distance
begin_journal-requires-clause-distance g c κs within = c.requires.may.distance
