-- Seats that are numbered from 0, as `new` makes them: what holds of each seat holds of each number.
use Rattle.std.proofs.Common.{◌≡◌, ℕ, zero, suc, ◌+◌, ◌<◌, ◌≤◌, List, [], ◌∷◌, map, length, get_or, drop, Option, None, subst, sym, ap, ◌∙◌, arith}
use mathlib.Core.Logic.{dite}
use native.Mathlib.Decide.{ℕ_discrete, dec_lt}
use Rattle.std.specs.List.{All, AllByRecursion, range_with_len}
use Rattle.std.proofs.lemmas.List.{length-map}
use Rattle.std.proofs.lemmas.List.FromFn.{length-range_with_len}
use Rattle.std.proofs.lemmas.List.Elements.{recursion_from_All, All-from_recursion}
use Rattle.turn.specs.Seats.{number_of, out_of}
use Rattle.turn.specs.declared.turn.Seat.{Seat}

module _ {V : Type 0} where
  pub length_is : (items : List (Seat V)) (a n : ℕ) → map number_of items ≡ range_with_len a n → length items ≡ n
  length_is items a n e = sym (length-map items number_of) ∙ (ap length e ∙ length-range_with_len a n)

  within : (items : List (Seat V)) (a n most : ℕ) → map number_of items ≡ range_with_len a n → a + n ≤ most → AllByRecursion (λ (s : Seat V). s.number < most) items
  within [] a n most e h = tt
  within (x ∷ xs) a zero most e h = absurd (let l = ap length e in omega arith)
  within (x ∷ xs) a (suc n) most e h = (let first : x.number ≡ a = ap (λ l. get_or l 0 0) e in omega arith, within xs (a + 1) n most (ap (drop 1) e) (omega arith))

  -- each number is below the count
  pub all_within : (items : List (Seat V)) (n : ℕ) → map number_of items ≡ range_with_len 0 n → All (λ s. s.number < n) items
  all_within items n e = All-from_recursion (λ (s : Seat V). s.number < n) items (within items 0 n n e (omega arith))

  reaches : (P : ℕ → Type 0) (items : List (Seat V)) (a n : ℕ) → map number_of items ≡ range_with_len a n → AllByRecursion (λ (s : Seat V). P s.number) items → (m : ℕ) → a ≤ m → m < a + n → P m
  reaches P [] a n e h m low high = absurd (let l = length_is [] a n e in omega arith)
  reaches P (x ∷ xs) a zero e h m low high = absurd (omega arith)
  reaches P (x ∷ xs) a (suc n) e h m low high = dite (ℕ_discrete m a)
      (λ here. let first : x.number ≡ a = ap (λ l. get_or l 0 0) e in subst P (first ∙ sym here) h.0)
      (λ later. reaches P xs (a + 1) n (ap (drop 1) e) h.1 m (omega arith) (omega arith))

  -- what holds of the number of each seat holds of each number below the count
  pub each_number : (P : ℕ → Type 0) (items : List (Seat V)) (n : ℕ) → map number_of items ≡ range_with_len 0 n → All (λ s. P s.number) items → (m : ℕ) → m < n → P m
  each_number P items n e h m high = reaches P items 0 n e (recursion_from_All (λ (s : Seat V). P s.number) items h) m (omega arith) (omega arith)

  -- a value in which each seat has out what the seat says, which is nothing, has nothing out
  pub nothing_out : (out : V → ℕ → Option (List ℕ)) (value : V) (items : List (Seat V)) (n : ℕ) → map number_of items ≡ range_with_len 0 n
      → All (λ s. out value s.number ≡ out_of s) items → All (λ s. out_of s ≡ None) items → ((m : ℕ) → n ≤ m → out value m ≡ None) → (m : ℕ) → out value m ≡ None
  nothing_out out value items n e h none rest m = dite (dec_lt m n)
      (λ here. each_number (λ k. out value k ≡ None) items n e (λ k d lt. h k d lt ∙ none k d lt) m here)
      (λ there. rest m (omega arith))
