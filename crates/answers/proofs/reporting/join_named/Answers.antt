use Rattle.std.proofs.Common.{Err, ap, map}
use Rattle.journal_bytes.specs.Bodies.{RecordsView}
use Rattle.journal_bytes.specs.Journal.{journal_view}
use Rattle.journal_bytes.specs.declared.head.Head.{Head}
use Rattle.journal_bytes.specs.declared.tail.Tail.{Tail}
use Rattle.journal_file.specs.declared.error.JournalError.{JournalError}
use Rattle.part_text.specs.Reports.{settled_view}
use Rattle.answers.specs.ReportsJoined.{JoinsJournal}
use Rattle.answers.proofs.Opened.{reads-opened, reads-unopened}
use Rattle.answers.proofs.ReportsJoined.{joins-not-disk}
use Rattle.answers.proofs.reporting.join_named.Goals as goal

pub returns-in-Ok : goal.returns-in-Ok
returns-in-Ok g c =
    let rs = map settled_view c.args.reports.items in
    let r : Head × RecordsView × Tail = (c.in-Ok.head, c.in-Ok.records, c.in-Ok.tail) in
    reads-opened g.D.Disk (JoinsJournal rs) c.args.disk.now c.open_journal.new.disk c.args.path.now c.open_journal.ensures.attaches c.open_journal.ensures.unwritten
    r c.in-Ok.ensures.opened c.in-Ok.ensures.began (joins-not-disk rs (journal_view r) c.in-Ok.records.first) c.join_opened.result c.join_opened.ensures

pub returns-in-Err : goal.returns-in-Err
returns-in-Err g c =
    reads-unopened g.D.Disk (JoinsJournal (map settled_view c.args.reports.items)) c.args.disk.now c.open_journal.new.disk c.args.path.now c.open_journal.ensures.attaches c.open_journal.ensures.unwritten
    c.in-Err.error c.in-Err.ensures.opened (λ is. c.in-Err.ensures.disk (ap (λ (e : JournalError). Err e) is))
