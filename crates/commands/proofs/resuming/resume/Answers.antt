use Rattle.std.proofs.Common.{Err, ap, map}
use Rattle.journal_file.specs.declared.error.JournalError.{JournalError}
use Rattle.journal_bytes.specs.Journal.{head_view}
use Rattle.part_reports.specs.Reports.{report_view}
use Rattle.answers.specs.Kept.{MayFollow, ResumesJournal}
use Rattle.answers.proofs.Opened.{for-unopened}
use Rattle.answers.proofs.Journaled.{left-resumed, left-unwritten, still-attaches}
use Rattle.commands.proofs.GoingOn.{answered, is-found-still}
use Rattle.commands.proofs.resuming.resume.Goals as goal

pub returns-in-Ok-clause-resumes : goal.returns-in-Ok-clause-resumes
returns-in-Ok-clause-resumes g c =
    let made = c.open_journal.new.disk in
    let r = c.resume_journal.ensures in
    answered g.D.Disk (map report_view c.args.offers.now) c.args.search c.args.disk made c.resume_journal.result.1 (MayFollow (head_view c.in-Ok.tail.version c.in-Ok.head) c.in-Ok.records.records) (c.in-Ok.head, c.in-Ok.records, c.in-Ok.tail) c.in-Ok.ensures.opened c.in-Ok.ensures.began r.left
    c.open_journal.ensures.unwritten c.resume_journal.result.0 r.resumes r.refused

pub returns-in-Ok-clause-left : goal.returns-in-Ok-clause-left
returns-in-Ok-clause-left g c =
    let made = c.open_journal.new.disk in
    let now = c.resume_journal.result.1 in
    let l = c.resume_journal.ensures.left in
    let found = is-found-still g.D.Disk (map report_view c.args.offers.now) c.args.search c.args.disk made now (MayFollow (head_view c.in-Ok.tail.version c.in-Ok.head) c.in-Ok.records.records) (c.in-Ok.head, c.in-Ok.records, c.in-Ok.tail) c.in-Ok.ensures.opened c.in-Ok.ensures.began l in
    left-resumed g.D.Disk c.args.path.now c.args.disk now (head_view c.in-Ok.tail.version c.in-Ok.head) c.in-Ok.records.records l.written
    (still-attaches g.D.Disk c.args.path.now c.args.disk made now c.in-Ok.ensures.began (record { still_tells = l.still_tells; same_names = l.same_names; same_found = l.same_found; start = l.start }) c.open_journal.ensures.attaches) found l.gone

pub returns-in-Err-clause-resumes : goal.returns-in-Err-clause-resumes
returns-in-Err-clause-resumes g c = (
  for-unopened g.D.Disk (ResumesJournal g.D.Disk (map report_view c.args.offers.now) c.args.search c.open_journal.new.disk) c.args.disk c.open_journal.new.disk c.in-Err.error c.in-Err.ensures.opened (λ is. c.in-Err.ensures.disk (ap (λ (e : JournalError). Err e) is)),
  c.open_journal.ensures.unwritten,
)

pub returns-in-Err-clause-left : goal.returns-in-Err-clause-left
returns-in-Err-clause-left g c = left-unwritten g.D.Disk c.args.path.now c.args.disk c.open_journal.new.disk c.open_journal.ensures.attaches c.open_journal.ensures.unwritten
