-- A row whose words are written one after another.
use Rattle.std.proofs.Common.{◌≡◌, ℕ, ◌+◌, ◌/◌, ◌%◌, ◌^◌, ◌<◌, ◌≤◌, ℤ, pos, Bool, true, false, not, ◌&&◌, ◌||◌, List, length, set, refl, sym, ap, ap₂, ◌∙◌, subst, arith, inl, inr, bit_and, bit_or, below_more}
use Rattle.std.specs.Int.{bit_not, w32}
use Rattle.std.proofs.lemmas.Bool.{cases_lt}
use lib.Bits.{or_lt, and_lt}
use Rattle.node_sets.specs.declared.pairing.Pairing.{Pairing}
use Rattle.node_sets.specs.declared.pairing.Pairing.TheVariants.{Intersection}
use Rattle.node_sets.specs.Sets.{AreWords, HasMembers, row_word, has}
use Rattle.node_sets.specs.Pairs.{made, made_word}
use Rattle.node_sets.proofs.Bits.{on, on_zero, on_or, on_and, on_not}
use Rattle.node_sets.proofs.Words.{has-on, has-past, row_word-lt, row_word-past, row_word-set_same, row_word-set_other, AreWords-set}
use Rattle.node_sets.proofs.Pairings.{made_small, made_has, made_none}

-- the words below the i-th are the new ones, and the others are as before
pub record IsRewritten (new : ℕ → ℕ) (old now : List ℤ) (i : ℕ) : Type 0 where
  pub done : (k : ℕ) → k < i → row_word now k ≡ new k
  pub rest : (k : ℕ) → i ≤ k → row_word now k ≡ row_word old k
  pub cells : AreWords now

pub IsRewritten-more : (new : ℕ → ℕ) (old now : List ℤ) (i w : ℕ) → IsRewritten new old now i → i < length now → w ≡ new i → w < 2 ^ 32 → IsRewritten new old (set now i (pos w)) (i + 1)
IsRewritten-more new old now i w h l e p = record {
  done = below_more _ _
      (λ k m. row_word-set_other now i k w (omega arith) ∙ h.done k m)
      (row_word-set_same now i w l ∙ e);
  rest = λ k m. row_word-set_other now i k w (omega arith) ∙ h.rest k (omega arith);
  cells = AreWords-set now i w h.cells p;
}

pub HasMembers-rewritten : (new : ℕ → ℕ) (test : ℕ → Bool) (old now : List ℤ) → length now ≡ length old → ((v : ℕ) → v / 32 < length old → on (new (v / 32)) (v % 32) ≡ test v) → ((v : ℕ) → length old ≤ v / 32 → test v ≡ false) → IsRewritten new old now (length old) → HasMembers now test
HasMembers-rewritten new test old now kept bits past h v =
    elim (cases_lt (v / 32) (length old)) [
      | inl l ↦ has-on now v ∙ ap (λ w. on w (v % 32)) (h.done (v / 32) l) ∙ bits v l
      | inr l ↦ has-on now v ∙ ap (λ w. on w (v % 32)) (row_word-past now (v / 32) (omega arith)) ∙ on_zero (v % 32) ∙ sym (past v l)
    ]

-- ---- words that are made of those of two rows

abbrev pub combined : Pairing → List ℤ → List ℤ → ℕ → ℕ
combined p old other k = made_word p (row_word old k) (row_word other k)

pub combined_more : (p : Pairing) (old other now : List ℤ) (i a b : ℕ) → IsRewritten (combined p old other) old now i → AreWords other → i < length now → a ≡ row_word now i → b ≡ row_word other i → IsRewritten (combined p old other) old (set now i (pos (made_word p a b))) (i + 1)
combined_more p old other now i a b h cells l e f =
    IsRewritten-more (combined p old other) old now i (made_word p a b) h l (ap₂ (made_word p) (e ∙ h.rest i (omega arith)) f)
    (made_small p a b (rw e (row_word-lt now i h.cells)) (rw f (row_word-lt other i cells)))

pub combined_members : (p : Pairing) (old other now : List ℤ) (i : ℕ) → AreWords other → length old ≡ length other → length now ≡ length old → i ≡ length old → IsRewritten (combined p old other) old now i → HasMembers now (λ v. made p (has old v) (has other v))
combined_members p old other now i cells same kept all h =
    HasMembers-rewritten (combined p old other) (λ v. made p (has old v) (has other v)) old now kept
    (λ v l. made_has p old other v cells)
    (λ v l. ap₂ (made p) (has-past old v l) (has-past other v (omega arith)) ∙ made_none p)
    (subst (IsRewritten (combined p old other) old now) all h)

-- ---- words that are made of those of four rows

-- what is in one of four words but not in both the first and the third
abbrev pub joined_word : ℕ → ℕ → ℕ → ℕ → ℕ
joined_word a b c d = bit_and (bit_or (bit_or (bit_or a b) c) d) (bit_not w32 (bit_and a c))

abbrev pub joined_may : List ℤ → List ℤ → List ℤ → List ℤ → ℕ → ℕ
joined_may must may other_must other_may k = joined_word (row_word must k) (row_word may k) (row_word other_must k) (row_word other_may k)

regroup : (x c d : Bool) → ((x || c) || d) ≡ (x || (c || d))
regroup true c d = refl
regroup false c d = refl

joined_bits : (a b c d k : ℕ) → a < 2 ^ 32 → c < 2 ^ 32 → k < 32 → on (joined_word a b c d) k ≡ (((on a k || on b k) || (on c k || on d k)) && not (on a k && on c k))
joined_bits a b c d k p q l =
    on_and (bit_or (bit_or (bit_or a b) c) d) (bit_not w32 (bit_and a c)) k
    ∙ ap₂ ◌&&◌
    (on_or (bit_or (bit_or a b) c) d k ∙ ap (λ x. x || on d k) (on_or (bit_or a b) c k ∙ ap (λ x. x || on c k) (on_or a b k)) ∙ regroup (on a k || on b k) (on c k) (on d k))
    (on_not (bit_and a c) k (and_lt 32 a c p q) l ∙ ap not (on_and a c k))

joined_small : (a b c d : ℕ) → a < 2 ^ 32 → b < 2 ^ 32 → c < 2 ^ 32 → d < 2 ^ 32 → joined_word a b c d < 2 ^ 32
joined_small a b c d p q r s =
    and_lt 32 (bit_or (bit_or (bit_or a b) c) d) (bit_not w32 (bit_and a c)) (or_lt 32 (bit_or (bit_or a b) c) d (or_lt 32 (bit_or a b) c (or_lt 32 a b p q) r) s) (omega arith)

pub joined_more : (must may other_must other_may must_now may_now : List ℤ) (i a b c d : ℕ) → IsRewritten (combined Intersection must other_must) must must_now i → IsRewritten (joined_may must may other_must other_may) may may_now i → AreWords other_must → AreWords other_may → i < length may_now
    → a ≡ row_word must_now i → b ≡ row_word may_now i → c ≡ row_word other_must i → d ≡ row_word other_may i → IsRewritten (joined_may must may other_must other_may) may (set may_now i (pos (joined_word a b c d))) (i + 1)
joined_more must may other_must other_may must_now may_now i a b c d g h other_cells more_cells l ea eb ec ed =
    IsRewritten-more (joined_may must may other_must other_may) may may_now i (joined_word a b c d) h l
    (ap₂ (λ x y. joined_word x y c d) (ea ∙ g.rest i (omega arith)) (eb ∙ h.rest i (omega arith)) ∙ ap₂ (λ x y. joined_word (row_word must i) (row_word may i) x y) ec ed)
    (joined_small a b c d (rw ea (row_word-lt must_now i g.cells)) (rw eb (row_word-lt may_now i h.cells)) (rw ec (row_word-lt other_must i other_cells)) (rw ed (row_word-lt other_may i more_cells)))

pub joined_members : (must may other_must other_may now : List ℤ) (i : ℕ) → AreWords must → AreWords other_must → length must ≡ length may → length must ≡ length other_must → length must ≡ length other_may → length now ≡ length may → i ≡ length must → IsRewritten (joined_may must may other_must other_may) may now i
    → HasMembers now (λ v. ((has must v || has may v) || (has other_must v || has other_may v)) && not (has must v && has other_must v))
joined_members must may other_must other_may now i cells other_cells same other_same more_same kept all h =
    HasMembers-rewritten (joined_may must may other_must other_may) (λ v. ((has must v || has may v) || (has other_must v || has other_may v)) && not (has must v && has other_must v)) may now kept
    (λ v l. joined_bits (row_word must (v / 32)) (row_word may (v / 32)) (row_word other_must (v / 32)) (row_word other_may (v / 32)) (v % 32) (row_word-lt must (v / 32) cells) (row_word-lt other_must (v / 32) other_cells) (omega arith)
    ∙ sym (ap₂ ◌&&◌ (ap₂ ◌||◌ (ap₂ ◌||◌ (has-on must v) (has-on may v)) (ap₂ ◌||◌ (has-on other_must v) (has-on other_may v))) (ap not (ap₂ ◌&&◌ (has-on must v) (has-on other_must v)))))
    (λ v l. ap₂ ◌&&◌ (ap₂ ◌||◌ (ap₂ ◌||◌ (has-past must v (omega arith)) (has-past may v l)) (ap₂ ◌||◌ (has-past other_must v (omega arith)) (has-past other_may v (omega arith)))) (refl {a = not (has must v && has other_must v)}))
    (subst (IsRewritten (joined_may must may other_must other_may) may now) (all ∙ same) h)
