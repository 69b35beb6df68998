-- Zeros that stand one after another.
use Rattle.std.specs.Prelude.{◌≡◌, ℕ, zero, suc, [], ◌∷◌, false}
use Rattle.tokens.specs.Text.{TextState, token, after_token, ends_line}

-- right after this many tokens
unfoldable pub passed_over : ℕ → TextState → TextState
passed_over zero s = s
passed_over (suc n) s = passed_over n (after_token s)

-- the next tokens, this many of them, are each a digit 0 alone, and the line goes on before each
unfoldable pub ZerosFollow : ℕ → TextState → Type 0
ZerosFollow zero s = Unit {0}
ZerosFollow (suc n) s = (ends_line s ≡ false) × (token s ≡ 48 ∷ []) × ZerosFollow n (after_token s)
