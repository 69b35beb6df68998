use Rattle.std.proofs.Common.{◌≡◌, ◌⊎◌, ℕ, List, [], sym, ◌∙◌, ap, subst, IsTrue, w64, to_z, of_z, rules}
use Rattle.std.specs.Prelude.{IfErr, Err}
use Rattle.std.proofs.lemmas.Result.{err_from_is_err_and}
use Rattle.disk.specs.Counts.{Rose}
use Rattle.journal_bytes.specs.Journal.{is_distance}
use Rattle.journal_file.specs.Beginning.{BeganAt, IsBegun, LeavesSince, MayBegin}
use Rattle.journal_file.specs.declared.error.JournalError.{JournalError}
use Rattle.answers.specs.Journals.{HasBegun, IsRefusedToBegin}
use Rattle.answers.specs.Kept.{head_of}
use Rattle.answers.proofs.Heads.{passes, same-head}
use Rattle.answers.proofs.Journaled.{after-attaching, at-first, attached-since, attached-yet, begun-alone, nothing-yet, on-ok, refused-to-begin, unattached}
use Rattle.answers.proofs.journaling.begin_journal.Goals as goal

pub returns-in_err-attach-clause-attaches : goal.returns-in_err-attach-clause-attaches
returns-in_err-attach-clause-attaches g c = unattached g.D.Disk c.args.path.now c.args.disk.now c.attach.new.self c.in_err-attach.ensures.names c.attach.ensures.start c.in_err-attach.ensures.faults.1

pub returns-in_err-attach-clause-since : goal.returns-in_err-attach-clause-since
returns-in_err-attach-clause-since g c = nothing-yet g.D.Disk c.attach.new.self _ c.attach.ensures.start c.attach.ensures.found

pub returns-in_err-attach-clause-spared : goal.returns-in_err-attach-clause-spared
returns-in_err-attach-clause-spared g c = nothing-yet g.D.Disk c.attach.new.self _ c.attach.ensures.start c.attach.ensures.found

pub returns-in_err-attach-clause-refused : goal.returns-in_err-attach-clause-refused
returns-in_err-attach-clause-refused g c =
    let now = c.attach.new.self in
    let head = head_of g.P.Problem.theory c.args.name c.args.search.within (g.P.DpModel.numbers c.args.model.now) in
    let told = err_from_is_err_and c.from_residual.result c.from_residual.ensures.1 in
    subst (λ r. IfErr r (IsRefusedToBegin g.D.Disk head c.args.disk.now now)) (sym (told.1 ∙ ap (λ (e : JournalError). Err e) told.2))
    (c.in_err-attach.ensures.faults.1, nothing-yet g.D.Disk now (λ s. MayBegin s.content → (x : List ℕ) → g.D.Disk.left_since now s.moment x → HasBegun head [] x) c.attach.ensures.start c.attach.ensures.found)

pub returns-in_err-text-clause-attaches : goal.returns-in_err-text-clause-attaches
returns-in_err-text-clause-attaches g c = attached-yet g.D.Disk c.args.path.now c.args.disk.now c.attach.new.self c.in_ok-attach.ensures.names c.attach.ensures.start c.attach.ensures.found

pub returns-in_err-text-clause-since : goal.returns-in_err-text-clause-since
returns-in_err-text-clause-since g c = nothing-yet g.D.Disk c.attach.new.self _ c.attach.ensures.start c.attach.ensures.found

pub returns-in_err-text-clause-spared : goal.returns-in_err-text-clause-spared
returns-in_err-text-clause-spared g c = nothing-yet g.D.Disk c.attach.new.self _ c.attach.ensures.start c.attach.ensures.found

pub returns-clause-attaches : goal.returns-clause-attaches
returns-clause-attaches g c =
    let mid = c.attach.new.self in
    let new = c.begin.new.disk in
    attached-since g.D.Disk c.args.path.now c.args.disk.now mid new c.in_ok-attach.ensures.names c.begin.ensures.keeps c.attach.ensures.found
    (λ tells. at-first (g.D.Disk.start new) (g.D.Disk.seen mid) (g.D.Disk.seen new) _ _ (λ s x. x.0) (c.begin.ensures.since tells c.attach.ensures.start))

pub returns-clause-since : goal.returns-clause-since
returns-clause-since g c =
    let mid = c.attach.new.self in
    let new = c.begin.new.disk in
    let h = c.head_of-head in
    let read : to_z w64 (of_z w64 c.args.search.within) ≡ c.args.search.within = search rules in
    let head = same-head h.result c.args.name c.args.search.within (g.P.Problem.theory.canonical (g.P.DpModel.numbers c.args.model.now)) h.ensures.model (h.ensures.within ∙ read) h.ensures.part (h.ensures.text ∙ c.in_ok-text.ensures.text) in
    let keeps = c.begin.ensures.keeps in
    after-attaching g.D.Disk mid new (λ s. MayBegin s.content → LeavesSince g.D.Disk.moment g.D.Disk.left_since s new (IsBegun (head_of g.P.Problem.theory c.args.name c.args.search.within (g.P.DpModel.numbers c.args.model.now)))) keeps.still_tells c.attach.ensures.found keeps.same_found
    (λ tells. at-first (g.D.Disk.start new) (g.D.Disk.seen mid) (g.D.Disk.seen new) _ _ (λ s x may. subst (λ h. LeavesSince g.D.Disk.moment g.D.Disk.left_since s new (IsBegun h)) head (x.1 may)) (c.begin.ensures.since tells c.attach.ensures.start))

pub returns-clause-begins : goal.returns-clause-begins
returns-clause-begins g c =
    let mid = c.attach.new.self in
    let new = c.begin.new.disk in
    let keeps = c.begin.ensures.keeps in
    on-ok c.begin.result
    (λ begins. after-attaching g.D.Disk mid new (λ s. MayBegin s.content) keeps.still_tells c.attach.ensures.found keeps.same_found
    (λ tells. at-first (g.D.Disk.start new) (g.D.Disk.seen mid) (g.D.Disk.seen new) _ _ (λ s x. subst MayBegin (sym x.0) (begins tells)) (c.begin.ensures.since tells c.attach.ensures.start)))
    c.begin.ensures.begins

pub returns-clause-spared : goal.returns-clause-spared
returns-clause-spared g c =
    let mid = c.attach.new.self in
    let new = c.begin.new.disk in
    let keeps = c.begin.ensures.keeps in
    after-attaching g.D.Disk mid new (λ s. MayBegin s.content ⊎ BeganAt g.D.Disk.moment g.D.Disk.left_since s new s.content) keeps.still_tells c.attach.ensures.found keeps.same_found
    (λ tells. c.begin.ensures.spared tells c.attach.ensures.start)

pub returns-clause-refused : goal.returns-clause-refused
returns-clause-refused g c =
    let mid = c.attach.new.self in
    let new = c.begin.new.disk in
    let keeps = c.begin.ensures.keeps in
    let fresh = c.attach.ensures.start in
    let head = head_of g.P.Problem.theory c.args.name c.args.search.within (g.P.DpModel.numbers c.args.model.now) in
    refused-to-begin g.D.Disk head c.args.disk.now new (g.D.Disk.seen mid) c.begin.result c.begin.ensures.errors
    (λ is. subst (λ n. Rose n (g.D.Disk.faults new)) c.in_ok-attach.ensures.faults (c.begin.ensures.disk is))
    (begun-alone g.D.Disk new head (returns-clause-since g c))
    (λ is. c.begin.ensures.began_exists is fresh)
    (after-attaching g.D.Disk mid new (λ s. s.content ≡ g.D.Disk.seen mid) keeps.still_tells c.attach.ensures.found keeps.same_found
    (λ tells. at-first (g.D.Disk.start new) (g.D.Disk.seen mid) (g.D.Disk.seen new) _ _ (λ s x. x.0) (c.begin.ensures.since tells fresh)))
    (returns-clause-spared g c)
    (λ is tells. let e = c.begin.ensures.exists is (subst IsTrue keeps.still_tells tells) in (e.0, e.1))

pub begin-requires-clause-within : goal.begin-requires-clause-within
begin-requires-clause-within g c =
    let read : to_z w64 (of_z w64 c.args.search.within) ≡ c.args.search.within = search rules in
    subst (λ z. IsTrue (is_distance z)) (sym (c.head_of-head.ensures.within ∙ read)) (passes c.args.search.within c.requires.distance)
