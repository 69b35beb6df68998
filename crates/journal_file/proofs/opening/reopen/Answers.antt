use Rattle.std.proofs.Common.{◌≡◌, ◌⊎◌, ◌∙◌, List, ℕ, sym, subst}
use Rattle.std.proofs.lemmas.Result.{err_from_is_err_and}
use Rattle.disk.specs.Disk.{Only}
use Rattle.journal_bytes.specs.Journal.{journal_view}
use Rattle.journal_file.specs.declared.error.JournalError.TheVariants.{Disk, OutOfMemory}
use Rattle.journal_file.proofs.Opened.{opened, not_read}
use Rattle.journal_file.proofs.Texts.{is_short}
use Rattle.journal_file.proofs.opening.reopen.Goals as goal

pub returns-clause-ready : goal.returns-clause-ready
returns-clause-ready g c tells =
    let disk = c.fetch.new.disk in
    let same = c.deref.ensures.value ∙ c.in_ok-file.ensures.bytes tells ∙ sym c.fetch.ensures.seen in
    let only = subst (λ (l : List ℕ). Only l (g.D.Disk.may_leave disk)) (sym c.fetch.ensures.seen) (c.in_ok-file.ensures.durable tells) in
    opened (g.D.Disk.seen disk) c.deref.result.now (g.D.Disk.may_leave disk) c.in_ok-journal.journal same c.in_ok-journal.ensures.exact c.in_ok-journal.ensures.ends only

pub returns-in_err-file-clause-exact : goal.returns-in_err-file-clause-exact
returns-in_err-file-clause-exact g c =
    let told = err_from_is_err_and c.from_residual.result c.from_residual.ensures.1 in
    not_read (g.D.Disk.tells c.args.disk.now) (g.D.Disk.seen c.args.disk.now) c.from_residual.result told.0 told.1 (subst (λ e. (e ≡ Disk) ⊎ (e ≡ OutOfMemory)) (sym told.2) c.in_err-file.ensures.errors)

pub returns-clause-text : goal.returns-clause-text
returns-clause-text g c = is_short c.deref.result.now c.in_ok-journal.journal.2 (journal_view c.in_ok-journal.journal) c.in_ok-journal.ensures.ends c.in_ok-journal.ensures.exact
