-- What holds of the words and the sets that are made of two.
use Rattle.std.proofs.Common.{◌≡◌, ◌≢◌, ℕ, ◌/◌, ◌%◌, ◌^◌, ◌<◌, ◌≤◌, ℤ, false, ◌&&◌, List, length, refl, sym, ap, ap₂, ◌∙◌, arith, inl, inr}
use Rattle.std.specs.Int.{bit_not, w32}
use Rattle.std.proofs.lemmas.Bool.{cases_lt}
use lib.Bits.{or_lt, and_lt}
use Rattle.node_sets.specs.declared.pairing.Pairing.{Pairing}
use Rattle.node_sets.specs.declared.pairing.Pairing.TheVariants.{Union, Intersection, Difference}
use Rattle.node_sets.specs.Sets.{AreWords, row_word, has}
use Rattle.node_sets.specs.Pairs.{made, made_word}
use Rattle.node_sets.proofs.Bits.{on, on_or, on_and, on_not}
use Rattle.node_sets.proofs.Words.{has-on, has-past, has_in, none_bad, some_bad, row_word-lt}

-- the bits of the word are made of those of both words
pub made_bits : (p : Pairing) (a b k : ℕ) → b < 2 ^ 32 → k < 32 → on (made_word p a b) k ≡ made p (on a k) (on b k)
made_bits Union a b k small low = on_or a b k
made_bits Intersection a b k small low = on_and a b k
made_bits Difference a b k small low = on_and a (bit_not w32 b) k ∙ ap (λ x. on a k && x) (on_not b k small low)

pub made_small : (p : Pairing) (a b : ℕ) → a < 2 ^ 32 → b < 2 ^ 32 → made_word p a b < 2 ^ 32
made_small Union a b g h = or_lt 32 a b g h
made_small Intersection a b g h = and_lt 32 a b g h
made_small Difference a b g h = and_lt 32 a (bit_not w32 b) g (omega arith)

pub made_none : (p : Pairing) → made p false false ≡ false
made_none Union = refl
made_none Intersection = refl
made_none Difference = refl

pub made_has : (p : Pairing) (left right : List ℤ) (v : ℕ) → AreWords right → on (made_word p (row_word left (v / 32)) (row_word right (v / 32))) (v % 32) ≡ made p (has left v) (has right v)
made_has p left right v cells =
    made_bits p (row_word left (v / 32)) (row_word right (v / 32)) (v % 32) (row_word-lt right (v / 32) cells) (omega arith) ∙ sym (ap₂ (made p) (has-on left v) (has-on right v))

-- where no word has a bit, no number is in what is made
pub none_made : (p : Pairing) (left right : List ℤ) (i : ℕ) → AreWords right → length left ≡ length right → length left ≤ i →
    ((k : ℕ) → k < i → made_word p (row_word left k) (row_word right k) ≡ 0) → (v : ℕ) → made p (has left v) (has right v) ≡ false
none_made p left right i cells same all zeros v =
    elim (cases_lt (v / 32) i) [
      | inl m ↦ none_bad (λ k. made_word p (row_word left k) (row_word right k)) (λ u. made p (has left u) (has right u)) i (λ u l. made_has p left right u cells) zeros v m
      | inr m ↦ ap₂ (made p) (has-past left v (omega arith)) (has-past right v (omega arith)) ∙ made_none p
    ]

-- where a word has a bit, some number is
pub some_made : (p : Pairing) (left right : List ℤ) (i a b : ℕ) → AreWords left → AreWords right → a ≡ row_word left i → b ≡ row_word right i → made_word p a b ≢ 0 →
    ((v : ℕ) → made p (has left v) (has right v) ≡ false) → ⊥
some_made p left right i a b cells others e f n h =
    some_bad (made_word p (row_word left i) (row_word right i)) (λ v. made p (has left v) (has right v)) i
    (made_small p (row_word left i) (row_word right i) (row_word-lt left i cells) (row_word-lt right i others))
    (λ j l. made_bits p (row_word left i) (row_word right i) j (row_word-lt right i others) l ∙ ap₂ (made p) (has_in left i j l) (has_in right i j l))
    (λ z. n (ap₂ (made_word p) e f ∙ z)) h
