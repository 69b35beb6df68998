-- The first fault of texts, and want of memory in reading them.
use Rattle.std.proofs.Common.{◌≡◌, ℕ, ℤ, List, [], ◌∷◌, Some, None}
use Rattle.std.specs.Prelude.{Result, Ok, Err, MatchResult}
use Rattle.cover_text.specs.Grammar.{Fails}
use Rattle.cover_text.specs.Several.{texts_of}
use Rattle.cover_text.specs.Texts.{CoverTextView}
use Rattle.cover_text.specs.declared.cover_error.CoverError.{CoverError}
use Rattle.cover_text.specs.declared.cover_error.CoverError.TheVariants.{Text, Word, OutOfMemory}
use Rattle.problem_theory.specs.declared.refusal.InstanceRefusal.{InstanceRefusal}
use Rattle.problem_theory.specs.Theory.{Theory}
use Rattle.problems.specs.Theories.{theory_of}
use Rattle.solver_report.specs.declared.answer.Answer.{Answer}
use Rattle.solver_report.specs.declared.answer.Answer.TheVariants as answers
use Rattle.answers.specs.Checks.{RefusesCover, RefusesInstance}
use Rattle.answers.specs.Joins.{IsJoined, JoinsIn, JoinsTexts}

unspelled : (t : Theory) (first : CoverTextView) (texts : List CoverTextView) (spelled : Result (List ℤ) InstanceRefusal)
    → MatchResult spelled (λ numbers. JoinsIn (t.program numbers) (t.own_value numbers) first texts answers.OutOfMemory) (λ e. RefusesInstance e answers.OutOfMemory)
unspelled t first texts (Ok numbers) = tt
unspelled t first texts (Err e) = tt

not-joined : (texts : List CoverTextView) → JoinsTexts texts answers.OutOfMemory
not-joined [] = tt
not-joined (first ∷ more) = unspelled (theory_of first.model) first (first ∷ more) ((theory_of first.model).spelled first.instance)

unread : (read : Result (List CoverTextView) CoverError) → MatchResult read (λ texts. JoinsTexts texts answers.OutOfMemory) (λ e. RefusesCover e answers.OutOfMemory)
unread (Ok texts) = not-joined texts
unread (Err e) = tt

without-memory : (bytes : List ℕ) (answer : Answer) → RefusesCover OutOfMemory answer → IsJoined bytes answer
without-memory bytes (answers.Searched outcome counts) h = absurd h
without-memory bytes (answers.Covered outcome counts text) h = absurd h
without-memory bytes (answers.Digest digest) h = absurd h
without-memory bytes (answers.Drawn text) h = absurd h
without-memory bytes (answers.Checked given) h = absurd h
without-memory bytes (answers.Refused e) h = absurd h
without-memory bytes (answers.CoverRefused e) h = absurd (let clash : None ≡ Some e = h in cc)
without-memory bytes (answers.PartsRefused e) h = absurd h
without-memory bytes (answers.PartFile file) h = absurd h
without-memory bytes (answers.PartSearched part told counted) h = absurd h
without-memory bytes (answers.ReportRefused e) h = absurd h
without-memory bytes (answers.ReportsRefused e) h = absurd h
without-memory bytes answers.PartTooLarge h = absurd h
without-memory bytes answers.TooLong h = absurd h
without-memory bytes answers.Width h = absurd h
without-memory bytes (answers.Words e) h = absurd h
without-memory bytes (answers.Journal e) h = absurd h
without-memory bytes answers.ReadFault h = absurd h
without-memory bytes answers.OutOfMemory h = unread (texts_of bytes)

-- the first fault of texts is answered
pub fault-joined : (bytes : List ℕ) (fault : CoverError) (answer : Answer) → Fails fault (texts_of bytes) → RefusesCover fault answer → IsJoined bytes answer
fault-joined bytes (Text e) answer fails h = rw fails h
fault-joined bytes (Word p) answer fails h = rw fails h
fault-joined bytes OutOfMemory answer fails h = without-memory bytes answer h
