-- What is made of two sets: of two words, and of two tests.
use Rattle.std.specs.Prelude.{ℕ, Bool, not, ◌&&◌, ◌||◌}
use Rattle.std.specs.Int.{bit_not, w32}
use Rattle.std.specs.Int.Bits.{bit_and, bit_or}
use Rattle.node_sets.specs.declared.pairing.Pairing.{Pairing}
use Rattle.node_sets.specs.declared.pairing.Pairing.TheVariants.{Union, Intersection, Difference}

-- the word that is made of two
abbrev pub made_word : Pairing → ℕ → ℕ → ℕ
made_word Union a b = bit_or a b
made_word Intersection a b = bit_and a b
made_word Difference a b = bit_and a (bit_not w32 b)

-- whether a number is in what is made, by whether it is in the first and in the second
abbrev pub made : Pairing → Bool → Bool → Bool
made Union a b = a || b
made Intersection a b = a && b
made Difference a b = a && not b
