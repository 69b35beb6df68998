-- A row of cells as a set of numbers: each cell holds a word of 32 bits, and v is bit v mod 32 of word v / 32.
use Rattle.std.specs.Prelude.{◌≡◌, ℕ, zero, suc, ◌+◌, ◌*◌, ◌/◌, ◌%◌, ◌^◌, ◌<◌, ◌≤◌, ℤ, pos, negsuc, ◌≤ℤ◌, unsigned_abs, Bool, true, false, cond, not, ◌&&◌, ◌||◌, nat_eq, nat_lt, List, [], ◌∷◌, length, get_or}
use Rattle.std.specs.Int.{bit_at}
use Rattle.node_sets.specs.Sums.{all_below}

-- a cell that holds a word of 32 bits
pub record IsWord (cell : ℤ) : Type 0 where
  pub low : pos 0 ≤ℤ cell
  pub high : cell ≤ℤ pos 4294967295

-- every cell of the row holds a word
abbrev pub AreWords : List ℤ → Type 0
AreWords row = (i : ℕ) → IsWord (get_or row i (pos 0))

-- the word of a row at an index, and 0 past its end
unfoldable pub row_word : List ℤ → ℕ → ℕ
row_word row i = unsigned_abs (get_or row i (pos 0))

-- v is a member of the row
unfoldable pub has : List ℤ → ℕ → Bool
has row v = nat_eq (bit_at (unsigned_abs (get_or row (v / 32) (pos 0))) (v % 32)) 1

-- the members of the row are the numbers that pass
abbrev pub HasMembers : List ℤ → (ℕ → Bool) → Type 0
HasMembers row test = (v : ℕ) → has row v ≡ test v

-- how many words hold the numbers below n
abbrev pub words_for : ℕ → ℕ
words_for n = (n + 31) / 32

-- the test of a word
abbrev pub is_word : ℤ → Bool
is_word (pos n) = nat_lt n 4294967296
is_word (negsuc n) = false

-- whether each cell is a word
abbrev pub are_words : List ℤ → Bool
are_words [] = true
are_words (cell ∷ row) = is_word cell && are_words row

-- a row of words for the numbers below n that has no other member
abbrev pub is_set : ℕ → List ℤ → Bool
is_set n row = nat_eq (length row) (words_for n) && (are_words row && all_below (32 * length row) (λ v. nat_lt v n || not (has row v)))

-- that test, as facts
pub record IsSet (n : ℕ) (row : List ℤ) : Type 0 where
  pub words : length row ≡ words_for n
  pub cells : AreWords row
  pub within : (v : ℕ) → n ≤ v → has row v ≡ false

-- the word of the numbers that pass among this many from the first on
unfoldable pub word_of : (ℕ → Bool) → ℕ → ℕ → ℕ
word_of test first zero = 0
word_of test first (suc k) = word_of test first k + cond (test (first + k)) (2 ^ k) 0

-- the words of the numbers from a first one on that pass a test
abbrev pub rows_from : ℕ → ℕ → (ℕ → Bool) → List ℤ
rows_from zero first test = []
rows_from (suc words) first test = pos (word_of test first 32) ∷ rows_from words (first + 32) test

-- the row of this many words whose members are the numbers that pass
abbrev pub row_of : ℕ → (ℕ → Bool) → List ℤ
row_of words test = rows_from words 0 test

-- the least number from `from` on that passes, or none below the limit
pub record IsLeastFrom (test : ℕ → Bool) (from v : ℕ) : Type 0 where
  pub reached : from ≤ v
  pub passes : test v ≡ true
  pub skipped : (u : ℕ) → from ≤ u → u < v → test u ≡ false
