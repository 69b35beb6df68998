-- Eight zeros, printed.
use Rattle.std.proofs.Common.{◌≡◌, ℕ, ◌+◌, ◌*◌, List, [], ◌++◌, refl, sym, ap, ◌∙◌, append_assoc, drop, replicate, subst, arith}
use Rattle.std.specs.Prelude.{ℤ, pos, codes, flat_map}
use Rattle.std.proofs.lemmas.Grind.{flat_map-append}
use Rattle.std.proofs.lemmas.List.{drop-drop}
use Rattle.std.proofs.lemmas.Fmt.{decimal_digit}
use Rattle.dp_model.specs.Lists.{Each}
use Rattle.cover_text.specs.Printed.{printed_number}
use Rattle.cover_text.specs.Written.{IsWord}

-- what comes after eight words
after_eight : (i : ℕ) (words : List ℤ) → drop 8 (drop (8 * i) words) ≡ drop (8 * (i + 1)) words
after_eight i words = drop-drop 8 (8 * i) words ∙ ap (λ n. drop n words) (omega arith)

-- the words from a place on, where these begin with eight zeros
from_eight : (i : ℕ) (words : List ℤ) → drop (8 * i) words ≡ replicate 8 (pos 0) ++ drop 8 (drop (8 * i) words)
    → drop (8 * i) words ≡ replicate 8 (pos 0) ++ drop (8 * (i + 1)) words
from_eight i words zeros = zeros ∙ ap (λ rest. replicate 8 (pos 0) ++ rest) (after_eight i words)

-- eight numbers that are printed alike
eight_alike : (bytes : List ℕ) → printed_number (pos 0) ≡ bytes
    → flat_map printed_number (replicate 8 (pos 0)) ≡ bytes ++ (bytes ++ (bytes ++ (bytes ++ (bytes ++ (bytes ++ (bytes ++ (bytes ++ [])))))))
eight_alike bytes e = subst (λ b. flat_map printed_number (replicate 8 (pos 0)) ≡ b ++ (b ++ (b ++ (b ++ (b ++ (b ++ (b ++ (b ++ [])))))))) e refl

-- eight zeros
eight_printed : flat_map printed_number (replicate 8 (pos 0)) ≡ codes " 0 0 0 0 0 0 0 0"
eight_printed = eight_alike (codes " 0") (ap (λ d. codes " " ++ d) (decimal_digit 0 (omega arith)))

-- eight zeros after bytes
pub eight_pushed : (i : ℕ) (words : List ℤ) (out : List ℕ) → drop (8 * i) words ≡ replicate 8 (pos 0) ++ drop 8 (drop (8 * i) words)
    → (out ++ codes " 0 0 0 0 0 0 0 0") ++ flat_map printed_number (drop (8 * (i + 1)) words) ≡ out ++ flat_map printed_number (drop (8 * i) words)
eight_pushed i words out zeros =
    append_assoc out (codes " 0 0 0 0 0 0 0 0") (flat_map printed_number (drop (8 * (i + 1)) words))
    ∙ ap (λ rest. out ++ rest) (sym (ap (flat_map printed_number) (from_eight i words zeros)
    ∙ (flat_map-append printed_number (replicate 8 (pos 0)) (drop (8 * (i + 1)) words) ∙ ap (λ eight. eight ++ flat_map printed_number (drop (8 * (i + 1)) words)) eight_printed)))

-- zero fits
zero_fits : IsWord (pos 0)
zero_fits = record { low = search; high = search }

-- eight zeros fit
pub eight_fit : (i : ℕ) (words : List ℤ) → drop (8 * i) words ≡ replicate 8 (pos 0) ++ drop 8 (drop (8 * i) words)
    → Each IsWord (drop (8 * (i + 1)) words) → Each IsWord (drop (8 * i) words)
eight_fit i words zeros rest = subst (Each IsWord) (sym (from_eight i words zeros)) (zero_fits, (zero_fits, (zero_fits, (zero_fits, (zero_fits, (zero_fits, (zero_fits, (zero_fits, rest))))))))
