-- When what a job answers for an instance is right.
use Rattle.std.specs.Prelude.{◌≡◌, ◌≢◌, ℕ, ◌-◌, ◌^◌, Bool, true, false, ◌&&◌, ℤ, pos, List, Option, Some, None, is_some, MatchResult}
use Rattle.dp_model.specs.Dp.{Dp}
use Rattle.dp_model.specs.declared.cut_kind.CutKind.TheVariants.{LastExactLayer}
use Rattle.problem_names.specs.declared.ModelName.{ModelName}
use Rattle.problem_names.specs.declared.part.PartNumber.{PartNumber}
use Rattle.problem_theory.specs.Theory.{Theory, drawn}
use Rattle.board_laws.specs.Board.{BoardState}
use Rattle.board_laws.specs.Steps.{first_board}
use Rattle.board_laws.specs.declared.cause.Cause.TheVariants as causes
use Rattle.sha2.specs.Sha256.{sha256}
use Rattle.solver_report.specs.declared.answer.Counts.{Counts}
use Rattle.solver_report.specs.declared.answer.Outcome.{Outcome}
use Rattle.solver_report.specs.declared.answer.PartOutcome.{PartOutcome}
use Rattle.solver_report.specs.declared.answer.SearchedPart.{SearchedPart}
use Rattle.solver_report.specs.declared.answer.Answer.{Answer}
use Rattle.solver_report.specs.declared.answer.Answer.TheVariants as answers
use Rattle.solver_words.specs.declared.job.JobSettings.{JobSettings}
use Rattle.answers.specs.Checks.{RefusesInstance}
use Rattle.answers.specs.Covers.{IsCoveredIn}
use Rattle.answers.specs.Outcomes.{HasSearched}
use Rattle.answers.specs.Parts.{own_in, program_in}
use Rattle.answers.specs.Widths.{IsRefusedWidth}
use Rattle.solver_report.specs.Report.{is_final}

-- what a search of an instance may answer, where this is what is told of it: a cover exactly where one is asked for and the search went to its end
abbrev pub Ends : Dp → JobSettings → (Outcome → Option Counts → Type 0) → Answer → Type 0
Ends dp search Has (answers.Searched outcome counts) = Has outcome counts × ((is_some search.cover_words && is_final outcome) ≡ false)
Ends dp search Has (answers.Covered outcome counts cover) = Has outcome counts × ((is_some search.cover_words && is_final outcome) ≡ true)
Ends dp search Has answers.Width = IsRefusedWidth dp search.width
Ends dp search Has answers.OutOfMemory = Unit {0}
Ends dp search Has _ = ⊥

-- what a search of a part may answer, where this is what is told of it: how it ended, with the part
abbrev pub EndsPart : Dp → JobSettings → SearchedPart → (PartOutcome → Option Counts → Type 0) → Answer → Type 0
EndsPart dp search part Has (answers.PartSearched told outcome counts) = (told ≡ part) × Has outcome counts
EndsPart dp search part Has answers.Width = IsRefusedWidth dp search.width
EndsPart dp search part Has answers.OutOfMemory = Unit {0}
EndsPart dp search part Has _ = ⊥

-- the answer that tells this of a search: with a cover, or none where memory ran out for it, exactly where one is asked for and the search went to its end
abbrev pub IsReport : JobSettings → Outcome → Option Counts → Answer → Type 0
IsReport search outcome counts (answers.Searched told counted) = (told ≡ outcome) × (counted ≡ counts) × ((is_some search.cover_words && is_final outcome) ≡ false)
IsReport search outcome counts (answers.Covered told counted cover) = (told ≡ outcome) × (counted ≡ counts) × ((is_some search.cover_words && is_final outcome) ≡ true)
IsReport search outcome counts _ = ⊥

-- a search from the start on, for which nothing is to be trusted
abbrev pub HasSearchedFromStart : Dp → (List ℕ → Option ℤ) → JobSettings → (BoardState → Type 0) → Outcome → Option Counts → Type 0
HasSearchedFromStart dp own search Keeps outcome counts = HasSearched dp own (first_board dp) (Unit {0}) search Keeps outcome counts

-- a board that is kept in no journal is not halted for one
abbrev pub KeepsNone : BoardState → Type 0
KeepsNone b = b.cause ≢ Some causes.Journal

-- what a search that keeps no journal may answer
abbrev pub Solves : Dp → (List ℕ → Option ℤ) → JobSettings → Answer → Type 0
Solves dp own search answer = Ends dp search (HasSearchedFromStart dp own search KeepsNone) answer

-- how an instance that is drawn is searched: to the best solution, with the default width, one worker, the greatest budget, its counts, without a cover,
-- and with whole layers
abbrev pub by_default : JobSettings
by_default = record { width = None; workers = 1; budget = 2 ^ 64 - 1; cutset = LastExactLayer; stats = true; within = pos 0; cover_words = None; parts = 1 }

-- what a digest may answer
abbrev pub Digests : List ℕ → Answer → Type 0
Digests canonical (answers.Digest digest) = digest ≡ sha256 canonical
Digests canonical answers.OutOfMemory = Unit {0}
Digests canonical _ = ⊥

-- what a printed instance may answer
abbrev pub Prints : List ℕ → Answer → Type 0
Prints canonical (answers.Drawn text) = text.items ≡ canonical
Prints canonical answers.OutOfMemory = Unit {0}
Prints canonical _ = ⊥

-- what may be answered for an instance that is drawn: its canonical text, or where it is to be solved how a search of it ends
abbrev pub DrawsInstance : Theory → Bool → List ℤ → Answer → Type 0
DrawsInstance t false numbers answer = Prints (t.canonical numbers) answer
DrawsInstance t true numbers answer = Solves (t.program numbers) (t.own_value numbers) by_default answer

-- some instance is drawn, for which this is answered
abbrev pub DrawsSome : Theory → Bool → Option (List ℤ) → Answer → Type 0
DrawsSome t solved None answer = ⊥
DrawsSome t solved (Some numbers) answer = DrawsInstance t solved numbers answer

abbrev pub Draws : Theory → ℕ → ℕ → Bool → Answer → Type 0
Draws t n seed solved answer = DrawsSome t solved (drawn t.drawing n seed) answer

-- what may be answered for a text: for the instance that it spells, or its first fault
abbrev pub Replies : Theory → (List ℤ → Answer → Type 0) → List ℕ → Answer → Type 0
Replies t IsFor bytes answer = MatchResult (t.spelled bytes) (λ numbers. IsFor numbers answer) (λ e. RefusesInstance e answer)

-- where a search is asked for, of an instance or of a part of it: how that ends, and a cover after a report is accepted by `check`, as that of the part
abbrev pub SolvesText : Theory → ModelName → Option PartNumber → JobSettings → List ℕ → Answer → Type 0
SolvesText t name part search bytes answer =
    Replies t (λ numbers found. Solves (program_in part (t.program numbers)) (own_in part (t.own_value numbers)) search found × IsCoveredIn name part (t.canonical numbers) found) bytes answer

-- where a digest is asked for
abbrev pub DigestsText : Theory → List ℕ → Answer → Type 0
DigestsText t bytes answer = Replies t (λ numbers found. Digests (t.canonical numbers) found) bytes answer
