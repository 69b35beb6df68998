-- The digits of short numbers.
use Rattle.std.proofs.Common.{◌≡◌, ℕ, zero, suc, ◌+◌, ◌<◌, ◌≤◌, List, [], ◌∷◌, ◌++◌, refl, ap, sym, ◌∙◌, append_assoc, arith}
use Rattle.std.specs.Prelude.{◌/◌, ◌%◌, decimal, pos, neg_ℤ}
use Rattle.std.proofs.lemmas.Fmt.{decimal_digit, decimal_step}
use Rattle.tokens.specs.Decimal.{decimal_of}

-- one digit after bytes
pub one_digit : (n : ℕ) (before : List ℕ) → n < 10 → before ++ (48 + n) ∷ [] ≡ before ++ decimal n
one_digit n before h = ap (λ d. before ++ d) (sym (decimal_digit n h))

-- the last digit after the others
pub two_digits : (n : ℕ) (before : List ℕ) → 10 ≤ n → n < 100 → (before ++ (48 + n / 10) ∷ []) ++ (48 + n % 10) ∷ [] ≡ before ++ decimal n
two_digits n before low high =
    let front : decimal (n / 10) ≡ (48 + n / 10) ∷ [] = decimal_digit (n / 10) (omega arith) in
    append_assoc before ((48 + n / 10) ∷ []) ((48 + n % 10) ∷ []) ∙ ap (λ d. before ++ d) (ap (λ d. d ++ (48 + n % 10) ∷ []) (sym front) ∙ sym (decimal_step n low (omega arith)))

-- the last two digits after the others
pub last_digits : (n : ℕ) (before : List ℕ) → 100 ≤ n → n < 10000 → ((before ++ decimal (n / 10 / 10)) ++ (48 + n / 10 % 10) ∷ []) ++ (48 + n % 10) ∷ [] ≡ before ++ decimal n
last_digits n before low high =
    let front : decimal (n / 10) ≡ decimal (n / 10 / 10) ++ (48 + n / 10 % 10) ∷ [] = decimal_step (n / 10) (omega arith) (omega arith) in
    ap (λ d. d ++ (48 + n % 10) ∷ []) (append_assoc before (decimal (n / 10 / 10)) ((48 + n / 10 % 10) ∷ []) ∙ ap (λ d. before ++ d) (sym front))
    ∙ (append_assoc before (decimal (n / 10)) ((48 + n % 10) ∷ []) ∙ ap (λ d. before ++ d) (sym (decimal_step n (omega arith) (omega arith))))

-- a minus before the digits
pub minus : (n : ℕ) → 0 < n → decimal_of (neg_ℤ (pos n)) ≡ 45 ∷ decimal n
minus zero some = absurd (omega arith)
minus (suc n) some = refl
