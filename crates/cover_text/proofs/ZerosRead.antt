-- Zeros with which the words of a row begin, read several at a time.
use Rattle.std.proofs.Common.{◌≡◌, ℕ, zero, suc, ◌+◌, ◌-◌, ◌*◌, ◌^◌, ◌<◌, ◌≤◌, false, List, [], ◌∷◌, ◌++◌, ℤ, pos, neg_ℤ, refl, sym, ap, ◌∙◌, append_assoc, append-nil, replicate, arith}
use Rattle.std.specs.Prelude.{Ok, ◌/◌}
use Rattle.std.proofs.lemmas.List.{replicate-append-replicate}
use Rattle.tokens.specs.Text.{TextState, token, after_token, ends_line}
use Rattle.tokens.specs.Zeros.{passed_over, ZerosFollow}
use Rattle.tokens.proofs.Chains.{until_more}
use Rattle.tokens.proofs.Zeros.{zero_read}
use Rattle.cover_text.specs.Grammar.{until, read_then}
use Rattle.cover_text.specs.RowLines.{ends_words, state_word_at}

-- the words don't end at a zero on their line
goes_on : (s : TextState) → ends_line s ≡ false → token s ≡ 48 ∷ [] → ends_words s ≡ false
goes_on s line zero_next = rw (line, zero_next) refl

-- it is read as a word
word_read : (words : List ℤ) (s : TextState) → token s ≡ 48 ∷ [] → state_word_at words s ≡ Ok (words ++ pos 0 ∷ [], after_token s)
unfolding state_word_at
word_read words s zero_next =
    ap (λ read. read_then read (λ z. Ok (words ++ z ∷ [], after_token s))) (zero_read (neg_ℤ (pos (2 ^ 63))) (pos (2 ^ 63 - 1)) s zero_next refl)

-- this many zeros are read as this many words
zeros_read : (k most i : ℕ) (words : List ℤ) (s : TextState) → i + k ≤ most → ZerosFollow k s
    → until ends_words state_word_at (most - i) words s ≡ until ends_words state_word_at (most - (i + k)) (words ++ replicate k (pos 0)) (passed_over k s)
unfolding ZerosFollow passed_over
zeros_read zero most i words s fit follow =
    let same : most - i ≡ most - (i + 0) = omega arith in
    ap (λ n. until ends_words state_word_at n words s) same ∙ ap (λ w. until ends_words state_word_at (most - (i + 0)) w s) (sym (append-nil words))
zeros_read (suc k) most i words s fit follow =
    let left : most - (i + 1 + k) ≡ most - (i + suc k) = omega arith in
    until_more ends_words state_word_at most i words s (words ++ pos 0 ∷ []) (after_token s) (goes_on s follow.0 follow.1) (omega arith) (word_read words s follow.1)
    ∙ (zeros_read k most (i + 1) (words ++ pos 0 ∷ []) (after_token s) (omega arith) follow.2
    ∙ (ap (λ n. until ends_words state_word_at n ((words ++ pos 0 ∷ []) ++ replicate k (pos 0)) (passed_over k (after_token s))) left
    ∙ ap (λ w. until ends_words state_word_at (most - (i + suc k)) w (passed_over k (after_token s))) (append_assoc words (pos 0 ∷ []) (replicate k (pos 0)))))

-- eight zeros, where eight words may still come
pub eight_read : (most block : ℕ) (words : List ℤ) (s : TextState) → block < most / 8 → ZerosFollow 8 s
    → until ends_words state_word_at (most - 8 * (block + 1)) (words ++ replicate 8 (pos 0)) (passed_over 8 s) ≡ until ends_words state_word_at (most - 8 * block) words s
eight_read most block words s below follow =
    let places : 8 * block + 8 ≡ 8 * (block + 1) = omega arith in
    sym (zeros_read 8 most (8 * block) words s (omega arith) follow ∙ ap (λ n. until ends_words state_word_at (most - n) (words ++ replicate 8 (pos 0)) (passed_over 8 s)) places)

-- a zero is added to this many
pub zero_added : (n : ℕ) (words : List ℤ) → (words ++ replicate n (pos 0)) ++ pos 0 ∷ [] ≡ words ++ replicate (n + 1) (pos 0)
zero_added n words = append_assoc words (replicate n (pos 0)) (pos 0 ∷ []) ∙ ap (λ l. words ++ l) (replicate-append-replicate n 1 (pos 0))
