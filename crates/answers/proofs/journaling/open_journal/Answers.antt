use Rattle.std.proofs.Common.{◌≡◌, [], sym, ◌∙◌, ap, subst, IsTrue}
use Rattle.std.specs.Prelude.{Err, None, IsSome}
use Rattle.std.proofs.lemmas.Result.{err_from_is_err_and}
use Rattle.journal_bytes.specs.Journal.{journal_of}
use Rattle.journal_file.specs.Beginning.{BeganAt}
use Rattle.journal_file.specs.declared.error.JournalError.{JournalError}
use Rattle.answers.specs.Journals.{HasOpened}
use Rattle.answers.proofs.Heads.{head-distance, heads-near}
use Rattle.answers.proofs.Journaled.{after-attaching, at-first, attached-since, began-fresh, nothing-yet, opened-since, unattached}
use Rattle.answers.proofs.journaling.open_journal.Goals as goal

pub returns-in_err-attach-clause-attaches : goal.returns-in_err-attach-clause-attaches
returns-in_err-attach-clause-attaches g c = unattached g.D.Disk c.args.path.now c.args.disk.now c.attach.new.self c.in_err-attach.ensures.names c.attach.ensures.start c.in_err-attach.ensures.faults.1

pub returns-in_err-attach-clause-unwritten : goal.returns-in_err-attach-clause-unwritten
returns-in_err-attach-clause-unwritten g c = nothing-yet g.D.Disk c.attach.new.self _ c.attach.ensures.start c.attach.ensures.found

pub returns-in_err-attach-clause-opened : goal.returns-in_err-attach-clause-opened
returns-in_err-attach-clause-opened g c =
    let now = c.attach.new.self in
    let told = err_from_is_err_and c.from_residual.result c.from_residual.ensures.1 in
    subst (HasOpened g.D.Disk now) (sym (told.1 ∙ ap (λ (e : JournalError). Err e) told.2))
    (record { file = []; is_file = nothing-yet g.D.Disk now (λ s. s.content ≡ []) c.attach.ensures.start c.attach.ensures.found; opens = tt; first = tt; began = λ refusal. absurd refusal })

pub returns-clause-attaches : goal.returns-clause-attaches
returns-clause-attaches g c =
    let mid = c.attach.new.self in
    let new = c.reopen.new.disk in
    attached-since g.D.Disk c.args.path.now c.args.disk.now mid new c.in_ok-attach.ensures.names c.reopen.ensures.keeps c.attach.ensures.found
    (λ tells. at-first (g.D.Disk.start new) (g.D.Disk.seen mid) (g.D.Disk.seen new) _ _ (λ s b. b.content) (c.reopen.ensures.start tells c.attach.ensures.start))

pub returns-clause-unwritten : goal.returns-clause-unwritten
returns-clause-unwritten g c =
    let mid = c.attach.new.self in
    let new = c.reopen.new.disk in
    let keeps = c.reopen.ensures.keeps in
    after-attaching g.D.Disk mid new (λ s. BeganAt g.D.Disk.moment g.D.Disk.left_since s new s.content) keeps.still_tells c.attach.ensures.found keeps.same_found
    (λ tells. at-first (g.D.Disk.start new) (g.D.Disk.seen mid) (g.D.Disk.seen new) _ _ (λ s b. subst (BeganAt g.D.Disk.moment g.D.Disk.left_since s new) (sym b.content) b) (c.reopen.ensures.start tells c.attach.ensures.start))

pub returns-clause-opened : goal.returns-clause-opened
returns-clause-opened g c =
    let mid = c.attach.new.self in
    let new = c.reopen.new.disk in
    let keeps = c.reopen.ensures.keeps in
    opened-since g.D.Disk new (g.D.Disk.tells mid) (g.D.Disk.seen mid) c.reopen.result c.reopen.ensures.exact (λ tells. subst IsTrue keeps.still_tells tells)
    (after-attaching g.D.Disk mid new (λ s. s.content ≡ g.D.Disk.seen mid) keeps.still_tells c.attach.ensures.found keeps.same_found
    (λ tells. at-first (g.D.Disk.start new) (g.D.Disk.seen mid) (g.D.Disk.seen new) _ _ (λ s b. b.content) (c.reopen.ensures.start tells c.attach.ensures.start)))
    (began-fresh (g.D.Disk.start mid ≡ None) (IsSome (g.D.Disk.start new)) c.reopen.result c.attach.ensures.start c.reopen.ensures.began_refused)

pub returns-clause-distance : goal.returns-clause-distance
returns-clause-distance g c = heads-near c.reopen.result (journal_of c.reopen.ensures.exact.file) c.reopen.ensures.exact.opens (head-distance c.reopen.ensures.exact.file)
