-- An example of a grammar: how many digits stand in the text, and the digits.
use Rattle.std.specs.Prelude.{List, [], ◌∷◌, ◌++◌, ℤ, pos, nat_abs, Result, Ok}
use Rattle.tokens.specs.Text.{TextState}
use Rattle.tokens.specs.declared.instance_error.InstanceError.{InstanceError}
use Rattle.tokens.specs.Grammar.{number_then, end_then, part_then, times}

-- one digit after others
unfoldable pub digit_at : List ℤ → TextState → Result (List ℤ × TextState) InstanceError
digit_at digits s = number_then (pos 0) (pos 9) s (λ z t. Ok (digits ++ z ∷ [], t))

-- the whole text
unfoldable pub digits_at : TextState → Result (List ℤ) InstanceError
digits_at s =
    number_then (pos 0) (pos 1000) s (λ count t.
    part_then (times digit_at (nat_abs count) [] t) (λ digits u.
    end_then u (Ok digits)))
