-- The lines before the instance: the report, perhaps taken and finished, cover MODEL, perhaps part I K, instance BYTES.
use Rattle.std.specs.Prelude.{ℕ, ◌+◌, ◌-◌, ◌^◌, List, [], ◌∷◌, ◌++◌, length, ℤ, pos, neg_ℤ, nat_abs, cond, codes, Option, Some, None, Result, Ok, Err}
use Rattle.tokens.specs.Counts.{is_count}
use Rattle.tokens.specs.Text.{TextState, text_start, ends_line, place_of}
use Rattle.tokens.specs.declared.comment.Comment.TheVariants.{Never}
use Rattle.dp_model.specs.declared.limits.TheConstants.{MOST_DISTANCE}
use Rattle.problem_names.specs.ModelNames.{word_same, model_named}
use Rattle.problem_names.specs.declared.ModelName.{ModelName}
use Rattle.problem_names.specs.declared.part.PartNumber.{PartNumber}
use Rattle.problem_names.specs.declared.part.TheConstants.{MOST_PARTS}
use Rattle.cover_text.specs.declared.head.Claim.{Claim}
use Rattle.cover_text.specs.declared.head.Size.{Size}
use Rattle.cover_text.specs.declared.head.Head.{Head}
use Rattle.cover_text.specs.declared.cover_error.CoverError.TheVariants.{Word}
use Rattle.cover_text.specs.Grammar.{CoverError, number_then, word_then, end_then, part_then, passed_then, until, fixed_at, small_at}

-- the reported value, none for infeasible, how far the best value may be above it, and the assignment
pub record ClaimView : Type 0 where
  pub best : Option ℤ
  pub within : ℤ
  pub assignment : List ℕ

-- what stands before the instance
pub record HeadView : Type 0 where
  pub claim : ClaimView
  pub model : ModelName
  pub part : Option PartNumber
  pub size : Size

-- a claim as its readers see it
abbrev pub claim_in : Claim → ClaimView
claim_in c = record { best = c.best; within = c.within; assignment = c.assignment.items }

-- a head as its readers see it
abbrev pub head_in : Head → HeadView
head_in h = record { claim = claim_in h.claim; model = h.model; part = h.part; size = h.size }

-- a decision after those before it
unfoldable pub decision_at : List ℕ → TextState → Result (List ℕ × TextState) CoverError
decision_at decisions s = part_then (small_at s) (λ d t. Ok (decisions ++ d ∷ [], t))

-- the distance after the word within, or 0 where the word value stands in its place; and what stands after value
unfoldable pub distance_at : TextState → Result (ℤ × TextState) CoverError
distance_at s = word_then s (λ w t.
    cond (word_same w (codes "value")) (Ok (pos 0, t))
    (cond (word_same w (codes "within"))
    (number_then (pos 0) (pos MOST_DISTANCE) t (λ within u.
    passed_then (fixed_at (codes "value") u) (λ v.
    Ok (within, v))))
    (Err (Word (place_of s)))))

-- what stands after proved: perhaps a distance, the value, and an assignment of at most this many decisions, which ends with its line
unfoldable pub solution_at : ℕ → TextState → Result (ClaimView × TextState) CoverError
solution_at most s =
    part_then (distance_at s) (λ within t.
    number_then (neg_ℤ (pos (2 ^ 63))) (pos (2 ^ 63 - 1)) t (λ best u.
    passed_then (fixed_at (codes "assignment") u) (λ v.
    part_then (until ends_line decision_at most [] v) (λ decisions w.
    Ok (record { best = Some best; within = within; assignment = decisions }, w)))))

-- the report: proved with a solution, or infeasible
unfoldable pub claim_at : ℕ → TextState → Result (ClaimView × TextState) CoverError
claim_at most s = word_then s (λ w t.
    cond (word_same w (codes "proved")) (solution_at most t)
    (cond (word_same w (codes "infeasible")) (Ok (record { best = None; within = pos 0; assignment = [] }, t)) (Err (Word (place_of s)))))

-- a number of the lines taken and finished
unfoldable pub count_at : TextState → Result TextState CoverError
count_at s = word_then s (λ w t. cond (is_count w) (Ok t) (Err (Word (place_of s))))

-- the word cover, perhaps after the lines taken and finished
unfoldable pub counts_at : TextState → Result TextState CoverError
counts_at s = word_then s (λ w t.
    cond (word_same w (codes "cover")) (Ok t)
    (cond (word_same w (codes "taken"))
    (passed_then (count_at t) (λ u.
    passed_then (fixed_at (codes "finished") u) (λ v.
    passed_then (count_at v) (λ x.
    fixed_at (codes "cover") x))))
    (Err (Word (place_of s)))))

-- what was named, or the fault
abbrev pub name_or : {A : Type 0} → CoverError → Option A → TextState → Result (A × TextState) CoverError
name_or fault None t = Err fault
name_or fault (Some name) t = Ok (name, t)

-- the problem's name
unfoldable pub name_at : TextState → Result (ModelName × TextState) CoverError
name_at s = word_then s (λ w t. name_or (Word (place_of s)) (model_named w) t)

-- the number of a part, and how many parts there are
unfoldable pub part_number_at : TextState → Result (PartNumber × TextState) CoverError
part_number_at s =
    number_then (pos 0) (pos (MOST_PARTS - 1)) s (λ index t.
    number_then (pos (nat_abs index + 1)) (pos MOST_PARTS) t (λ of u.
    Ok (record { index = nat_abs index; of = nat_abs of }, u)))

-- the word instance, perhaps after the line of a part: the part that is meant, and what stands after the word
unfoldable pub part_at : TextState → Result (Option PartNumber × TextState) CoverError
part_at s = word_then s (λ w t.
    cond (word_same w (codes "instance")) (Ok (None, t))
    (cond (word_same w (codes "part"))
    (part_then (part_number_at t) (λ part u.
    passed_then (fixed_at (codes "instance") u) (λ v.
    Ok (Some part, v))))
    (Err (Word (place_of s)))))

-- how many bytes the instance has, the last word of its line
unfoldable pub size_at : TextState → Result (Size × TextState) CoverError
size_at s =
    part_then (small_at s) (λ n t.
    cond (ends_line t) (Ok (record { bytes = n; line = (place_of s).line }, t)) (end_then t (Ok (record { bytes = n; line = (place_of s).line }, t))))

-- the lines before the instance, in which there are no more decisions than bytes
unfoldable pub head_at : List ℕ → Result HeadView CoverError
head_at bytes =
    part_then (claim_at (length bytes) (text_start Never bytes)) (λ claim t.
    passed_then (counts_at t) (λ u.
    part_then (name_at u) (λ model v.
    part_then (part_at v) (λ part w.
    part_then (size_at w) (λ size x.
    Ok (record { claim = claim; model = model; part = part; size = size }))))))
