-- What is answered to a text up to its sections and to these, seen from the whole text.
use Rattle.std.proofs.Common.{◌≡◌, ℕ, ℤ, List, Option, Some, None, sym, subst, ◌∙◌}
use Rattle.std.specs.Prelude.{Result, Ok, Err, MatchResult}
use Rattle.dp_model.specs.Dp.{Dp}
use Rattle.dp_model.specs.Laws.{IsLawful}
use Rattle.bound_cover.specs.Covers.{CoverRow}
use Rattle.bound_cover.specs.Verdicts.{checked, verdict}
use Rattle.bound_cover.specs.declared.cover.Verdict.{Verdict}
use Rattle.bound_cover.proofs.Sound.{accepted-is-near, accepted-none}
use Rattle.cover_text.specs.Grammar.{Fails}
use Rattle.cover_text.specs.Texts.{CoverTextView, OpenView, and_then, cover_after, held_with, opened, text_of, verdict_after}
use Rattle.cover_text.specs.declared.cover_error.CoverError.{CoverError}
use Rattle.cover_text.specs.declared.cover_error.CoverError.TheVariants.{Text, Word, OutOfMemory}
use Rattle.problem_names.specs.declared.part.PartNumber.{PartNumber}
use Rattle.problem_theory.specs.declared.refusal.InstanceRefusal.{InstanceRefusal}
use Rattle.problems.specs.Theories.{theory_of}
use Rattle.problem_theory.specs.Theory.{Agrees, Theory}
use Rattle.solver_report.specs.declared.answer.Answer.{Answer}
use Rattle.solver_report.specs.declared.answer.Answer.TheVariants as answers
use Rattle.answers.specs.Checks.{Checks, ChecksOpened, ChecksText, IsChecked, RefusesCover, RefusesInstance, ToSections}
use Rattle.answers.specs.Parts.{own_in, program_in}
use Rattle.answers.proofs.Reports.{true-report}

made-then : {A B : Type 0} (read : Result A CoverError) (f : A → B) (fine : B → Type 0) (fault : CoverError → Type 0) → MatchResult read (λ x. fine (f x)) fault → MatchResult (and_then read (λ x. Ok (f x))) fine fault
made-then (Ok x) f fine fault h = h
made-then (Err e) f fine fault h = h

-- what is right after a text's first part is right for the text
pub opened-checked : (bytes : List ℕ) (o : OpenView) (answer : Answer) → opened bytes ≡ Ok o → ChecksOpened (theory_of o.model) o answer → IsChecked bytes answer
unfolding text_of
opened-checked bytes o answer is h =
    rw is (made-then (cover_after o.before o.following) (held_with o) (λ held. ChecksText (theory_of held.model) held answer) (λ e. RefusesCover e answer) h)

-- ---- want of memory

unspelled : (t : Theory) (held : CoverTextView) (spelled : Result (List ℤ) InstanceRefusal) → MatchResult spelled (λ numbers. Checks (program_in held.part (t.program numbers)) (own_in held.part (t.own_value numbers)) held answers.OutOfMemory) (λ e. RefusesInstance e answers.OutOfMemory)
unspelled t held (Ok numbers) = tt
unspelled t held (Err e) = tt

unread : (read : Result CoverTextView CoverError) → MatchResult read (λ held. ChecksText (theory_of held.model) held answers.OutOfMemory) (λ e. RefusesCover e answers.OutOfMemory)
unread (Ok held) = unspelled (theory_of held.model) held ((theory_of held.model).spelled held.instance)
unread (Err e) = tt

unopened : (bytes : List ℕ) (answer : Answer) → RefusesCover OutOfMemory answer → IsChecked bytes answer
unopened bytes (answers.Searched outcome counts) h = absurd h
unopened bytes (answers.Covered outcome counts text) h = absurd h
unopened bytes (answers.Digest digest) h = absurd h
unopened bytes (answers.Drawn text) h = absurd h
unopened bytes (answers.Checked given) h = absurd h
unopened bytes (answers.Refused e) h = absurd h
unopened bytes (answers.CoverRefused e) h = absurd (let clash : None ≡ Some e = h in cc)
unopened bytes (answers.PartsRefused e) h = absurd h
unopened bytes (answers.PartFile file) h = absurd h
unopened bytes (answers.PartSearched part told counted) h = absurd h
unopened bytes (answers.ReportRefused e) h = absurd h
unopened bytes (answers.ReportsRefused e) h = absurd h
unopened bytes answers.PartTooLarge h = absurd h
unopened bytes answers.TooLong h = absurd h
unopened bytes answers.Width h = absurd h
unopened bytes (answers.Words e) h = absurd h
unopened bytes (answers.Journal e) h = absurd h
unopened bytes answers.ReadFault h = absurd h
unopened bytes answers.OutOfMemory h = unread (text_of bytes)

-- a fault of the first part is that of the text
pub fault-checked : (bytes : List ℕ) (fault : CoverError) (answer : Answer) → Fails fault (opened bytes) → RefusesCover fault answer → IsChecked bytes answer
unfolding text_of
fault-checked bytes (Text e) answer fails h = rw fails h
fault-checked bytes (Word p) answer fails h = rw fails h
fault-checked bytes OutOfMemory answer fails h = unopened bytes answer h

-- ---- the verdict

module _ (dp : Dp) (own : List ℕ → Option ℤ) (laws : IsLawful dp) (agrees : Agrees dp own) (o : OpenView) (given : Verdict) where
  of-cover : (read : Result (List (List CoverRow)) CoverError) → and_then read (λ cover. Ok (verdict dp o.best o.within o.assignment cover)) ≡ Ok given
      → MatchResult read (λ cover. Checks dp own (held_with o cover) (answers.Checked given)) (λ e. RefusesCover e (answers.Checked given))
  of-cover (Ok cover) is =
      let same : verdict dp o.best o.within o.assignment cover ≡ given = cc in
      record {
        exact = sym same;
        sound = λ accepted. true-report dp own agrees o.best o.within o.assignment (accepted-is-near dp laws o.best o.within o.assignment cover (accepted-none (checked dp o.best o.within o.assignment cover) (same ∙ accepted)));
      }
  of-cover (Err e) is = absurd (cc)

  -- the verdict on the sections is right
  pub verdict-given : verdict_after dp o ≡ Ok given → ToSections o (λ cover. Checks dp own (held_with o cover)) (answers.Checked given)
  verdict-given is = of-cover (cover_after o.before o.following) is

-- what is right for the part that is meant, or for the whole problem
pub is-meant : (dp : Dp) (own : List ℕ → Option ℤ) (o : OpenView) (meant : Option PartNumber) (answer : Answer) → o.part ≡ meant
    → ToSections o (λ cover. Checks (program_in meant dp) (own_in meant own) (held_with o cover)) answer → ToSections o (λ cover. Checks (program_in o.part dp) (own_in o.part own) (held_with o cover)) answer
is-meant dp own o meant answer is h = subst (λ (part : Option PartNumber). ToSections o (λ cover. Checks (program_in part dp) (own_in part own) (held_with o cover)) answer) (sym is) h
