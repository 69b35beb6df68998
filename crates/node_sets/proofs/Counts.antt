-- The members of a row are counted word by word, and a row is tested by its words.
use Rattle.std.proofs.Common.{◌≡◌, ℕ, zero, suc, ◌+◌, ◌*◌, ◌/◌, ◌%◌, ◌^◌, ◌<◌, ◌≤◌, ℤ, pos, negsuc, Bool, true, false, cond, not, ◌&&◌, ◌||◌, nat_eq, nat_lt, List, [], ◌∷◌, length, refl, sym, ap, ap₂, ◌∙◌, arith, inl, inr, eq-eqb}
use Rattle.std.proofs.lemmas.Int.{ints}
use Rattle.std.specs.Int.Count.{ones, ones_cat}
use Rattle.std.proofs.lemmas.Bool.{cases_lt, false≢true, and_parts}
use Rattle.std.proofs.lemmas.Bool.Decides.{nat_tests, same_from_decides}
use Rattle.std.proofs.lemmas.Nat.Bits.{bit_at_cat_low}
use Rattle.std.proofs.lemmas.Nat.{div-add-mod'}
use Rattle.std.proofs.Math.Nat.{div-lt_iff_lt-mul, pow-suc, add_comm}
use lib.Pow.{pow_pos}
use Rattle.node_sets.specs.Sums.{all_below, count_below}
use Rattle.node_sets.specs.Sets.{IsWord, AreWords, IsSet, is_word, are_words, is_set, words_for, row_word, has}
use Rattle.node_sets.proofs.Bits.{on}
use Rattle.node_sets.proofs.Words.{IsWord-pos}
use Rattle.node_sets.proofs.Words.{has_in, has-past}
use Rattle.node_sets.proofs.Below.{all_below-gives, all_below-from, sum_below-same, sum_below-add}

small_ones : (n : ℕ) → n < 2 → ones n ≡ cond (nat_eq n 1) 1 0
unfolding ones
small_ones zero p = refl
small_ones (suc zero) p = refl
small_ones (suc (suc n)) p = absurd (omega arith)

small_mod : (x : ℕ) → x < 2 → cond {A = ℕ} (nat_eq x 1) 1 0 ≡ cond (nat_eq (x % 2) 1) 1 0
small_mod zero p = refl
small_mod (suc zero) p = refl
small_mod (suc (suc x)) p = absurd (omega arith)

low_bits : (k n : ℕ) → n / 2 ^ k * 2 ^ k + n % 2 ^ k ≡ n → count_below k (on (n % 2 ^ k)) ≡ count_below k (on n)
low_bits k n e = sum_below-same k (on (n % 2 ^ k)) (on n) (λ _. 1) (λ v l. ap (λ x. nat_eq x 1) (sym (bit_at_cat_low (n / 2 ^ k) k (n % 2 ^ k) v l)) ∙ ap (λ x. on x v) e)

-- the ones of a number of k bits are its bits that are set
pub ones_counted : (k n : ℕ) → n < 2 ^ k → ones n ≡ count_below k (on n)
unfolding ones
ones_counted zero n p = let e : n ≡ 0 = omega arith in ap ones e
ones_counted (suc k) n p =
    let positive : 0 < 2 ^ k = pow_pos k in
    let doubled : 2 ^ suc k ≡ 2 ^ k * 2 = pow-suc 2 k in
    let top : n / 2 ^ k < 2 = (div-lt_iff_lt-mul positive).1 (omega arith) in
    let rest : n % 2 ^ k < 2 ^ k = omega arith in
    let parts : n / 2 ^ k * 2 ^ k + n % 2 ^ k ≡ n = div-add-mod' n (2 ^ k) in
    ap ones (sym parts) ∙ ones_cat k (n / 2 ^ k) (n % 2 ^ k) rest ∙ add_comm (ones (n / 2 ^ k)) (ones (n % 2 ^ k))
    ∙ ap₂ ◌+◌ (ones_counted k (n % 2 ^ k) rest ∙ low_bits k n parts) (small_ones (n / 2 ^ k) top ∙ small_mod (n / 2 ^ k) top)

pub count_more : (row : List ℤ) (i a : ℕ) → a ≡ row_word row i → a < 2 ^ 32 → count_below (32 * (i + 1)) (has row) ≡ count_below (32 * i) (has row) + ones a
count_more row i a e p =
    let limit : 32 * (i + 1) ≡ 32 * i + 32 = omega arith in
    ap (λ k. count_below k (has row)) limit ∙ sum_below-add (32 * i) 32 (has row) (λ _. 1)
    ∙ ap (λ s. count_below (32 * i) (has row) + s) (sum_below-same 32 (λ v. has row (32 * i + v)) (on a) (λ _. 1) (λ v l. sym (has_in row i v l) ∙ ap (λ w. on w v) (sym e)) ∙ sym (ones_counted 32 a p))

pub count_next : (row : List ℤ) (i a total : ℕ) → a ≡ row_word row i → a < 2 ^ 32 → total ≡ count_below (32 * i) (has row) → total + ones a ≡ count_below (32 * (i + 1)) (has row)
count_next row i a total e p t = ap (λ x. x + ones a) t ∙ sym (count_more row i a e p)

-- the test of words

is_word-gives : (cell : ℤ) → is_word cell ≡ true → IsWord cell
is_word-gives (pos n) e = IsWord-pos n (grind (arith, nat_tests))
is_word-gives (negsuc n) e = absurd (false≢true e)

is_word-from : (cell : ℤ) → IsWord cell → is_word cell ≡ true
is_word-from (pos n) w = let l : n < 4294967296 = omega (arith, ints) in grind (arith, nat_tests)
is_word-from (negsuc n) w = absurd (omega (arith, ints))

pub are_words-gives : (row : List ℤ) → are_words row ≡ true → AreWords row
are_words-gives [] e i = IsWord-pos 0 (omega arith)
are_words-gives (cell ∷ row) e zero = is_word-gives cell (grind arith)
are_words-gives (cell ∷ row) e (suc i) = are_words-gives row (grind arith) i

pub are_words-from : (row : List ℤ) → AreWords row → are_words row ≡ true
are_words-from [] w = refl
are_words-from (cell ∷ row) w = ap₂ ◌&&◌ (is_word-from cell (w 0)) (are_words-from row (λ i. w (suc i)))

-- the test of a set

beyond : (a b : Bool) → (a || not b) ≡ true → a ≡ false → b ≡ false
beyond true b e f = absurd (false≢true (sym f))
beyond false true e f = absurd (false≢true e)
beyond false false e f = refl

beyond-from : (a b : Bool) → (a ≡ false → b ≡ false) → (a || not b) ≡ true
beyond-from true b h = refl
beyond-from false true h = absurd (false≢true (sym (h refl)))
beyond-from false false h = refl

pub set_last : (n : ℕ) (row : List ℤ) (last : Bool) → length row ≡ words_for n → are_words row ≡ true → (last ≡ true → (v : ℕ) → n ≤ v → has row v ≡ false) → (((v : ℕ) → n ≤ v → has row v ≡ false) → last ≡ true) → last ≡ is_set n row
set_last n row last l cells to from =
    same_from_decides {P = (v : ℕ) → n ≤ v → has row v ≡ false} last (is_set n row) (to, from) (
      (λ e v m. elim (cases_lt v (32 * length row)) [
        | inl k ↦ beyond (nat_lt v n) (has row v) (all_below-gives (32 * length row) (λ v. nat_lt v n || not (has row v)) (sym tests ∙ e) v k) (grind (arith, nat_tests))
        | inr k ↦ has-past row v (omega arith)
      ]),
      (λ h. tests ∙ all_below-from (32 * length row) (λ v. nat_lt v n || not (has row v)) (λ v k. beyond-from (nat_lt v n) (has row v) (λ f. h v (reached v f)))),
    )
  where
    reached : (v : ℕ) → nat_lt v n ≡ false → n ≤ v
    reached v f = grind (arith, nat_tests)

    tests : is_set n row ≡ all_below (32 * length row) (λ v. nat_lt v n || not (has row v))
    tests = ap₂ (λ a b. a && (b && all_below (32 * length row) (λ v. nat_lt v n || not (has row v)))) (eq-eqb (length row) (words_for n) l) cells

-- the test of a set means what it says
pub is_set-gives : (n : ℕ) (row : List ℤ) → is_set n row ≡ true → IsSet n row
is_set-gives n row e =
    let l : length row ≡ words_for n = grind (arith, nat_tests) in
    let cells : are_words row ≡ true = (and_parts (are_words row) (all_below (32 * length row) (λ v. nat_lt v n || not (has row v))) (and_parts (nat_eq (length row) (words_for n)) (are_words row && all_below (32 * length row) (λ v. nat_lt v n || not (has row v))) e).1).0 in
    let rest = (and_parts (are_words row) (all_below (32 * length row) (λ v. nat_lt v n || not (has row v))) (and_parts (nat_eq (length row) (words_for n)) (are_words row && all_below (32 * length row) (λ v. nat_lt v n || not (has row v))) e).1).1 in
    record {
      words = l;
      cells = are_words-gives row cells;
      within = λ v m. elim (cases_lt v (32 * length row)) [
        | inl k ↦ beyond (nat_lt v n) (has row v) (all_below-gives (32 * length row) (λ v. nat_lt v n || not (has row v)) rest v k) (grind (arith, nat_tests))
        | inr k ↦ has-past row v (omega arith)
      ];
    }

pub is_set-from : (n : ℕ) (row : List ℤ) → IsSet n row → is_set n row ≡ true
is_set-from n row s = sym (set_last n row true s.words (are_words-from row s.cells) (λ _. s.within) (λ _. refl))
