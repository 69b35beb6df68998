-- A fold fits 64 bits.
use Rattle.std.proofs.Common.{ℕ, ◌*◌, ◌/◌, ◌%◌, ◌^◌, ◌<◌, ℤ, List, [], ◌∷◌, arith}
use Rattle.std.specs.Int.{w64, rotate_left}
use Rattle.dp_model.specs.Folds.{fold_of, folded, spread}
use lib.Bits.{or_lt}

turned_small : (n : ℕ) → n < 2 ^ 64 → rotate_left w64 n 32 < 2 ^ 64
turned_small n small = or_lt 64 ((n * 2 ^ 32) % 2 ^ 64) (n / 2 ^ 32) (omega arith) (omega arith)

pub fold_small : (begun : ℕ) (row : List ℤ) → fold_of begun row < 2 ^ 64
unfolding fold_of
fold_small begun [] = turned_small (spread begun) (omega arith)
fold_small begun (cell ∷ rest) = fold_small (folded begun cell) rest
