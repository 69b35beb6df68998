-- The answer to a search that goes on after the offers of an input is an answer to that input.
use Rattle.std.proofs.Common.{◌≡◌, ℕ, ℤ, List, Option, Some, None, Result, Ok, Err, refl, subst}
use Rattle.std.specs.Prelude.{IsOkAnd, MatchResult}
use Rattle.disk.specs.declared.disk.Disk.{Ghosts}
use Rattle.dp_model.specs.Dp.{Dp}
use Rattle.journal_bytes.specs.Bodies.{RecordView}
use Rattle.journal_bytes.specs.Frames.{frames_of}
use Rattle.journal_bytes.specs.Journal.{HeadView, JournalView, after_head, journal_of}
use Rattle.journal_bytes.specs.declared.head.Part.{Part}
use Rattle.journal_bytes.specs.declared.refusal.Refusal.{Refusal}
use Rattle.journal_file.specs.Refusing.{error_of}
use Rattle.journal_file.specs.declared.error.JournalError.{JournalError}
use Rattle.journal_file.specs.declared.error.JournalError.TheVariants as errors
use Rattle.part_reports.specs.Reports.{ReportView}
use Rattle.part_text.specs.Reports.{SettledView, reports_of}
use Rattle.problem_theory.specs.Theory.{Theory}
use Rattle.problems.specs.Theories.{theory_of}
use Rattle.solver_report.specs.declared.answer.Answer.{Answer}
use Rattle.solver_report.specs.declared.answer.Answer.TheVariants as answers
use Rattle.solver_words.specs.declared.job.JobSettings.{JobSettings}
use Rattle.tokens.specs.declared.instance_error.InstanceError.{InstanceError}
use Rattle.answers.specs.Covers.{cover_limit}
use Rattle.answers.specs.Ended.{IsInputAnswer, Readings, WasRead}
use Rattle.answers.specs.Kept.{GoesOn, GoesOnPart, Resumes, ResumesIn, ResumesJournal, ResumesOffered, ResumesPart, starts_in}
use Rattle.answers.specs.Opened.{IsForFile}
use Rattle.answers.specs.Offers.{RefusesReport, parts_told}
use Rattle.answers.specs.OffersRead.{IsNoOffer, RefusesOffers}
use Rattle.answers.proofs.Texts.{whole}

-- an answer to an input by other words
input-by : (limit : ℕ) (For Other : List ℕ → Answer → Type 0) (r : Readings) (answer : Answer) → ((bytes : List ℕ) → For bytes answer → Other bytes answer) → IsInputAnswer limit For r answer → IsInputAnswer limit Other r answer
input-by limit For Other r answers.ReadFault f h = h
input-by limit For Other r answers.TooLong f h = h
input-by limit For Other r answers.OutOfMemory f h = h
input-by limit For Other r answer f h = record { bytes = h.bytes; read = h.read; replies = f h.bytes h.replies }

module _ {D : Type 0} (on : Ghosts D) (search : JobSettings) (now : D) where
  -- an answer that no search that goes on gives
  record IsNone (answer : Answer) : Type 0 where
    whole : (dp : Dp) (own : List ℕ → Option ℤ) (head : HeadView) (records : List RecordView) (first : ℕ) (offers : List ReportView) → GoesOn on dp own head records first offers search now answer → ⊥
    part : (dp : Dp) (own : List ℕ → Option ℤ) (p : Part) (starts : List (List ℕ)) (head : HeadView) (records : List RecordView) (first : ℕ) (offers : List ReportView) → GoesOnPart on dp own p starts head records first offers search now answer → ⊥
    other : (e : JournalError) → answer ≡ answers.Journal e → ⊥

  module _ (offers : List ReportView) (answer : Answer) (none : IsNone answer) where
    in-part : (dp : Dp) (own : List ℕ → Option ℤ) (p : Part) (starts : Option (List (List ℕ))) (head : HeadView) (records : List RecordView) (first : ℕ) → ResumesPart on dp own p starts head records first offers search now answer → ⊥
    in-part dp own p None head records first same = none.other (errors.Malformed first) same
    in-part dp own p (Some starts) head records first h = none.part dp own p starts head records first offers h

    in-dp : (dp : Dp) (own : List ℕ → Option ℤ) (part : Option Part) (head : HeadView) (records : List RecordView) (first : ℕ) → ResumesIn on dp own part head records first offers search now answer → ⊥
    in-dp dp own None head records first h = none.whole dp own head records first offers h
    in-dp dp own (Some p) head records first h = in-part dp own p (starts_in records) head records first h

    in-text : {E : Type 0} (t : Theory) (spelled : Result (List ℤ) E) (j : JournalView) (first : ℕ)
        → MatchResult spelled (λ numbers. ResumesIn on (t.program numbers) (t.own_value numbers) j.head.part j.head j.records first offers search now answer) (λ e. answer ≡ answers.Journal (errors.Malformed 0)) → ⊥
    in-text t (Ok numbers) j first h = in-dp (t.program numbers) (t.own_value numbers) j.head.part j.head j.records first h
    in-text t (Err e) j first same = none.other (errors.Malformed 0) same

    in-file : (read : Result JournalView Refusal) (first : ℕ) → MatchResult read (λ j. ResumesJournal on offers search now j first answer) (λ refusal. answer ≡ answers.Journal (error_of refusal)) → ⊥
    in-file (Ok j) first h = let t = theory_of j.head.model in in-text t (t.spelled j.head.text) j first h
    in-file (Err refusal) first same = none.other (error_of refusal) same

    not-resumed : IsForFile on (ResumesJournal on offers search now) now answer → ⊥
    not-resumed h = in-file (journal_of h.file) (after_head (frames_of h.file)) h.right

  no-fault : IsNone answers.ReadFault
  no-fault = record { whole = λ dp own head records first offers h. h; part = λ dp own p starts head records first offers h. h; other = λ e same. cc }

  no-excess : IsNone answers.TooLong
  no-excess = record { whole = λ dp own head records first offers h. h; part = λ dp own p starts head records first offers h. h; other = λ e same. cc }

  module _ (before : D) where
    never-fault : (read : Result (List SettledView) InstanceError) → MatchResult read (λ rs. Resumes on (parts_told rs) search before now answers.ReadFault) (λ e. RefusesReport e answers.ReadFault × (now ≡ before)) → ⊥
    never-fault (Ok rs) h = not-resumed (parts_told rs) answers.ReadFault no-fault h.0
    never-fault (Err e) h = h.0

    never-excess : (read : Result (List SettledView) InstanceError) → MatchResult read (λ rs. Resumes on (parts_told rs) search before now answers.TooLong) (λ e. RefusesReport e answers.TooLong × (now ≡ before)) → ⊥
    never-excess (Ok rs) h = not-resumed (parts_told rs) answers.TooLong no-excess h.0
    never-excess (Err e) h = h.0

    after-offers : (offers : List ReportView) (answer : Answer) (read : Result (List SettledView) InstanceError) → IsOkAnd read (λ rs. offers ≡ parts_told rs) → Resumes on offers search before now answer
        → MatchResult read (λ rs. Resumes on (parts_told rs) search before now answer) (λ e. RefusesReport e answer × (now ≡ before))
    after-offers offers answer (Ok rs) same h = subst (λ os. Resumes on os search before now answer) same h
    after-offers offers answer (Err e) same h = absurd same

    -- the input offers these
    pub resumes-input : (offers : List ReportView) (r : Readings) (bytes : List ℕ) (answer : Answer) → WasRead cover_limit r bytes → IsOkAnd (reports_of bytes) (λ rs. offers ≡ parts_told rs) → Resumes on offers search before now answer
        → IsInputAnswer cover_limit (ResumesOffered on search before now) r answer
    resumes-input offers r bytes answer read told h = whole cover_limit (ResumesOffered on search before now) r bytes answer (never-fault (reports_of bytes)) (never-excess (reports_of bytes)) read (after-offers offers answer (reports_of bytes) told h)

  not-read : (answer : Answer) (read : Result (List SettledView) InstanceError) → MatchResult read (λ rs. ⊥) (λ e. RefusesReport e answer) → MatchResult read (λ rs. Resumes on (parts_told rs) search now now answer) (λ e. RefusesReport e answer × (now ≡ now))
  not-read answer (Ok rs) h = absurd h
  not-read answer (Err e) h = (h, refl)

  -- or none
  pub offers-none : (r : Readings) (answer : Answer) → IsNoOffer r answer → IsInputAnswer cover_limit (ResumesOffered on search now now) r answer
  offers-none r answer h = input-by cover_limit RefusesOffers (ResumesOffered on search now now) r answer (λ bytes refused. not-read answer (reports_of bytes) refused) h
