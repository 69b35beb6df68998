-- Printed texts: what is read of them.
use Rattle.std.specs.Prelude.{◌≡◌, ℕ, List, ◌++◌, true, Result, Ok, ℤ}
use Rattle.std.specs.List.{list_all}
use Rattle.tokens.specs.Text.{TextState, is_blank, number_at, word_at, after_token}

-- reading stands before these bytes, perhaps with blanks in between
pub record IsBefore (bytes : List ℕ) (s : TextState) : Type 0 where
  pub blanks : List ℕ
  pub are_blank : list_all is_blank blanks ≡ true
  pub rest_is : s.rest ≡ blanks ++ bytes

-- a printed number is read, and reading stands right after it
pub record ReadsNumber (z : ℤ) (least greatest : ℤ) (following : List ℕ) (s : TextState) : Type 0 where
  pub value : number_at least greatest s ≡ Ok z
  pub rest_is : (after_token s).rest ≡ following
  pub comment_is : (after_token s).comment ≡ s.comment

-- a printed word is read, and reading stands right after it
pub record ReadsWord (word : List ℕ) (following : List ℕ) (s : TextState) : Type 0 where
  pub value : word_at s ≡ Ok word
  pub rest_is : (after_token s).rest ≡ following
  pub comment_is : (after_token s).comment ≡ s.comment

-- a printed part is read, and reading stands before what was printed after it
pub record ReadsPart {A E : Type 0} (part : A → TextState → Result (A × TextState) E) (made next : A) (tail : List ℕ) (s : TextState) : Type 0 where
  pub following : TextState
  pub read : part made s ≡ Ok (next, following)
  pub before : IsBefore tail following
  pub comment_is : following.comment ≡ s.comment
