-- Reports of parts that are settled, one after another: settled, perhaps within W, part I/K, journal DIGEST, value and assignment or value none,
-- perhaps taken and finished.
use Rattle.std.specs.Prelude.{ℕ, ◌-◌, ◌^◌, List, [], ◌∷◌, ◌++◌, length, ℤ, pos, neg_ℤ, cond, codes, Option, Some, None, Result, Ok, Err}
use Rattle.tokens.specs.Counts.{is_count}
use Rattle.tokens.specs.Text.{TextState, after_token, ends_line, is_at_end, place_of, text_start}
use Rattle.tokens.specs.declared.comment.Comment.TheVariants.{Never}
use Rattle.dp_model.specs.declared.limits.TheConstants.{MOST_DISTANCE}
use Rattle.journal_bytes.specs.Bodies.{IncumbentView}
use Rattle.problem_names.specs.ModelNames.{word_same}
use Rattle.problem_names.specs.declared.part.PartNumber.{PartNumber}
use Rattle.part_reports.specs.Reports.{ReportView, report_view}
use Rattle.part_text.specs.Grammar.{InstanceError, number_then, word_then, end_then, part_then, passed_then, until, fixed_at, small_at, stands, written_or, wrong_word}
use Rattle.part_text.specs.Written.{digest_written, part_written}
use Rattle.part_text.specs.declared.head.Head.{Head}
use Rattle.part_text.specs.declared.settled_report.SettledReport.{SettledReport}

-- what is told of a part, and how far a better solution of it may be above the value
pub record SettledView : Type 0 where
  pub report : ReportView
  pub within : ℤ

-- a report as its readers see it
abbrev pub settled_view : SettledReport → SettledView
settled_view r = record { report = report_view r.report; within = r.within }

-- the distance after the word within, or 0 where the word part stands in its place; and what stands after part
unfoldable pub distance_at : TextState → Result (ℤ × TextState) InstanceError
distance_at s = word_then s (λ w t.
    cond (word_same w (codes "part")) (Ok (pos 0, t))
    (cond (word_same w (codes "within"))
    (number_then (pos 1) (pos MOST_DISTANCE) t (λ within u.
    passed_then (fixed_at (codes "part") u) (λ v.
    Ok (within, v))))
    (Err (wrong_word (place_of s)))))

-- the part, as I/K
unfoldable pub part_at : TextState → Result (PartNumber × TextState) InstanceError
part_at s = word_then s (λ w t. written_or (wrong_word (place_of s)) (part_written w) t)

-- the digest
unfoldable pub digest_at : TextState → Result (List ℕ × TextState) InstanceError
digest_at s = word_then s (λ w t. written_or (wrong_word (place_of s)) (digest_written w) t)

-- the lines before the value
unfoldable pub head_at : TextState → Result (Head × TextState) InstanceError
head_at s =
    passed_then (fixed_at (codes "settled") s) (λ t.
    part_then (distance_at t) (λ within u.
    part_then (part_at u) (λ part v.
    passed_then (fixed_at (codes "journal") v) (λ w.
    part_then (digest_at w) (λ digest x.
    Ok (record { within = within; part = part; digest = digest }, x))))))

-- a decision after those before it
unfoldable pub decision_at : List ℕ → TextState → Result (List ℕ × TextState) InstanceError
decision_at decisions s = part_then (small_at s) (λ d t. Ok (decisions ++ d ∷ [], t))

-- a value, and an assignment of at most this many decisions, which ends with its line
unfoldable pub solution_at : ℕ → TextState → Result (IncumbentView × TextState) InstanceError
solution_at most s =
    number_then (neg_ℤ (pos (2 ^ 63))) (pos (2 ^ 63 - 1)) s (λ value t.
    passed_then (fixed_at (codes "assignment") t) (λ u.
    part_then (until ends_line decision_at most [] u) (λ decisions v.
    Ok (record { value = value; decisions = decisions }, v))))

-- the best solution with its value, or none
unfoldable pub best_at : ℕ → TextState → Result (Option IncumbentView × TextState) InstanceError
best_at most s =
    passed_then (fixed_at (codes "value") s) (λ t.
    cond (stands (codes "none") t) (Ok (None, after_token t))
    (part_then (solution_at most t) (λ best u.
    Ok (Some best, u))))

-- a number of the lines taken and finished
unfoldable pub count_at : TextState → Result TextState InstanceError
count_at s = word_then s (λ w t. cond (is_count w) (Ok t) (Err (wrong_word (place_of s))))

-- the lines taken and finished, where they stand here
unfoldable pub counts_at : TextState → Result TextState InstanceError
counts_at s =
    cond (stands (codes "taken") s)
    (passed_then (count_at (after_token s)) (λ t.
    passed_then (fixed_at (codes "finished") t) (λ u.
    count_at u)))
    (Ok s)

-- what a report tells
abbrev pub told : Head → Option IncumbentView → SettledView
told head best = record { report = record { index = head.part.index; of = head.part.of; digest = head.digest; best = best }; within = head.within }

-- a report with at most this many decisions
unfoldable pub report_at : ℕ → TextState → Result (SettledView × TextState) InstanceError
report_at most s =
    part_then (head_at s) (λ head t.
    part_then (best_at most t) (λ best u.
    passed_then (counts_at u) (λ v.
    Ok (told head best, v))))

-- a report after those before it
unfoldable pub next_at : ℕ → List SettledView → TextState → Result (List SettledView × TextState) InstanceError
next_at most reports s = part_then (report_at most s) (λ report t. Ok (reports ++ report ∷ [], t))

-- all reports of a text, of which there is at least one; a text has no more reports and decisions than bytes
unfoldable pub reports_of : List ℕ → Result (List SettledView) InstanceError
reports_of bytes =
    part_then (next_at (length bytes) [] (text_start Never bytes)) (λ first t.
    part_then (until is_at_end (next_at (length bytes)) (length bytes) first t) (λ reports u.
    end_then u (Ok reports)))
