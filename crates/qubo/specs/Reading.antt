-- The grammar of an instance's text: how many variables and how many lines, then each line, with variables from 1.
use Rattle.std.specs.Prelude.{ℕ, ◌-◌, ◌^◌, pos, neg_ℤ, List, [], ◌∷◌, ◌++◌, Result, Ok}
use Rattle.tokens.specs.Text.{TextState, text_start}
use Rattle.tokens.specs.Grammar.{number_then, part_then, times, end_then}
use Rattle.tokens.specs.declared.instance_error.InstanceError.{InstanceError}
use Rattle.tokens.specs.Naturals.{natural_then}
use Rattle.tokens.specs.declared.comment.Comment.TheVariants.{Never}
use Rattle.qubo.specs.declared.line.Line.{Line}
use Rattle.qubo.specs.Quadratic.{Quadratic}

-- a line after others: a variable, the same or a later one, and the weight
unfoldable pub line_after : ℕ → List Line → TextState → Result (List Line × TextState) InstanceError
line_after n lines s =
    natural_then 1 n s (λ a t.
    natural_then a n t (λ b u.
    number_then (neg_ℤ (pos 250000000)) (pos 250000000) u (λ w v.
    Ok (lines ++ record { first = a - 1; second = b - 1; weight = w } ∷ [], v))))

unfoldable pub instance_at : TextState → Result Quadratic InstanceError
instance_at s =
    natural_then 0 1024 s (λ n t.
    natural_then 0 (2 ^ 20) t (λ m u.
    part_then (times (line_after n) m [] u) (λ lines v.
    end_then v (Ok (record { variables = n; lines = lines })))))

-- the instance that the bytes spell, or the first fault with its place
abbrev pub instance_text : List ℕ → Result Quadratic InstanceError
instance_text bytes = instance_at (text_start Never bytes)
