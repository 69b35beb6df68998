use Rattle.std.proofs.Common.{ℤ, sym, subst}
use Rattle.dp_model.specs.Distances.{IsDistance}
use Rattle.dp_model.specs.Laws.{IsLawful}
use Rattle.journal_bytes.specs.Bodies.{RecordView}
use Rattle.journal_bytes.specs.Journal.{journal_view}
use Rattle.journal_bytes.specs.Spelling.{HasTickets}
use Rattle.answers.specs.Splits.{IsFileOf, part_head, part_record}
use Rattle.answers.proofs.Splits.{split-told}
use Rattle.answers.proofs.splitting.split_model.Given as given
use Rattle.answers.proofs.splitting.split_model.Goals as goal

laws_of : (g : given.Over) (m : g.row.M.Denot) → IsLawful (g.M.DpModel.meaning (g.M.DpModel.numbers m))
laws_of g m = (g.met.M.DpModel g.world.𝓛 g.world.𝓜 g.world.𝓡 ((λ s x. x), (λ x. x), (λ x. x), λ x. x)).lawful m

pub part_record-requires-clause-distance : goal.part_record-requires-clause-distance
part_record-requires-clause-distance g c κs within = subst IsDistance (sym c.requires.within) c.requires.distance

pub part_file-requires-clause-tickets : goal.part_file-requires-clause-tickets
part_file-requires-clause-tickets g c = subst HasTickets (sym c.in-Ok.ensures.record) tt

pub returns-in-Ok : goal.returns-in-Ok
returns-in-Ok g c =
    let job = c.args in
    let dp = g.M.DpModel.meaning (g.M.DpModel.numbers job.model) in
    let j = journal_view (job.head, job.records.now, job.tail) in
    let head = part_head j.head j.tail.digest job.part in
    let told = subst (λ (w : ℤ). IsFileOf head (part_record dp w j.records job.part) c.part_file.result) c.requires.within
    (subst (λ (r : RecordView). IsFileOf head r c.part_file.result) c.in-Ok.ensures.record c.part_file.ensures) in
    split-told dp (laws_of g job.model) j c.requires.distance job.part c.in-Ok.ensures.accepted job.records.now.first c.part_file.result told
