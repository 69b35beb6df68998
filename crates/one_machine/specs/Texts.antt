-- Texts of jobs: how many, then processing time, weight and due time of each.
use Rattle.std.specs.Prelude.{ℕ, pos, List, [], ◌∷◌, ◌++◌, length, Result, Ok}
use Rattle.std.specs.List.{flat_map}
use Rattle.tokens.specs.Text.{TextState, text_start}
use Rattle.tokens.specs.Decimal.{decimal_of}
use Rattle.tokens.specs.Grammar.{part_then, times, end_then}
use Rattle.tokens.specs.Naturals.{natural_then}
use Rattle.tokens.specs.declared.instance_error.InstanceError.{InstanceError}
use Rattle.tokens.specs.declared.comment.Comment.TheVariants.{Never}
use Rattle.one_machine.specs.Instance.{Job}

-- a job after others
unfoldable pub job_after : List Job → TextState → Result (List Job × TextState) InstanceError
job_after jobs s =
    natural_then 0 100000 s (λ p t.
    natural_then 0 100000 t (λ w u.
    natural_then 0 1000000000 u (λ due v.
    Ok (jobs ++ record { processing = p; weight = w; due = due } ∷ [], v))))

-- the whole text
unfoldable pub instance_at : TextState → Result (List Job) InstanceError
instance_at s =
    natural_then 0 100 s (λ count t.
    part_then (times job_after count [] t) (λ jobs u.
    end_then u (Ok jobs)))

-- the instance that the bytes spell, or the first fault with its place
abbrev pub instance_text : List ℕ → Result (List Job) InstanceError
instance_text bytes = instance_at (text_start Never bytes)

-- the line of a job
abbrev pub line_of : Job → List ℕ
line_of x = decimal_of (pos x.processing) ++ (32 ∷ (decimal_of (pos x.weight) ++ (32 ∷ (decimal_of (pos x.due) ++ 10 ∷ []))))

-- the canonical text: how many jobs on the first line, then a line for each
abbrev pub text_of : List Job → List ℕ
text_of jobs = decimal_of (pos (length jobs)) ++ (10 ∷ flat_map line_of jobs)
