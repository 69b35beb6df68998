-- Folds of rows: numbers of 64 bits by which equal rows are found.
use Rattle.std.specs.Prelude.{ℕ, ◌+◌, ◌*◌, ◌%◌, ◌^◌, ℤ, List, [], ◌∷◌}
use Rattle.std.specs.Int.{w64, cast_unsigned, rotate_left}

-- 2^64 divided by the golden ratio, made odd: a product with it spreads small numbers over all 64 bits
abbrev pub spread : ℕ → ℕ
spread n = n * 0x9e3779b97f4a7c15 % 2 ^ 64

-- one cell more
abbrev pub folded : ℕ → ℤ → ℕ
folded so_far cell = (rotate_left w64 so_far 27 + spread (cast_unsigned w64 cell)) % 2 ^ 64

-- the fold of a row, seeded with a number. At the end the upper half, which all cells reach, becomes the lower one
unfoldable pub fold_of : ℕ → List ℤ → ℕ
fold_of begun [] = rotate_left w64 (spread begun) 32
fold_of begun (cell ∷ rest) = fold_of (folded begun cell) rest
