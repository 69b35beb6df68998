-- Zeros with a space between each two, and where reading stands after them.
use Rattle.std.proofs.Common.{◌≡◌, ℕ, zero, suc, ◌+◌, ◌*◌, ◌<◌, Bool, true, false, List, [], ◌∷◌, ◌++◌, length, take, drop, get_or, ◌-◌, ℤ, pos, refl, sym, ap, ◌∙◌, subst, arith}
use Rattle.std.specs.Prelude.{codes, Ok, ◌&&◌, int_le}
use Rattle.std.specs.Int.{w64, from_le_bytes, to_le_bytes}
use Rattle.std.proofs.lemmas.Nat.{le_bytes_8}
use Rattle.std.proofs.lemmas.List.{length-drop, take_all, take-append-drop}
use Rattle.tokens.specs.Text.{TextState, Place, Comment, is_blank, at_token, token, after_token, ends_line, place_of, number_of, number_in, number_at}
use Rattle.tokens.specs.Scanned.{first_token, IsNextToken}
use Rattle.tokens.specs.Zeros.{passed_over, ZerosFollow}
use Rattle.tokens.proofs.Scanning.{token_first, blank_first}

-- these bytes after more zeros, each of which stands after a space
further : ℕ → List ℕ → List ℕ
further zero bytes = bytes
further (suc n) bytes = 32 ∷ 48 ∷ further n bytes

-- where reading stands at these bytes, this many columns after a place
abbrev stand : ℕ → Comment → Place → List ℕ → TextState
stand n comment p bytes = record { rest = bytes; place = record { line = p.line; column = p.column + n }; fresh = false; comment = comment }

-- the next token is a zero, and reading stands at the blank after it
module _ (b : ℕ) (bs : List ℕ) (s : TextState) (p : Place) (blank : is_blank b ≡ true) (next : IsNextToken s (48 ∷ b ∷ bs) p) where
  one_token : token s ≡ 48 ∷ []
  unfolding token
  one_token = ap first_token next.rest_is ∙ (token_first 48 (b ∷ bs) refl ∙ ap (λ l. 48 ∷ l) (blank_first b bs (rw blank refl)))

  after_one : after_token s ≡ stand 1 s.comment p (b ∷ bs)
  unfolding after_token
  after_one = rw (one_token, next.rest_is, next.place_is, next.comment_is) refl

-- this many zeros and one more stand next
zeros_next : (n b : ℕ) (bs : List ℕ) (s : TextState) (p : Place) → is_blank b ≡ true → ends_line s ≡ false → IsNextToken s (48 ∷ further n (b ∷ bs)) p
    → ZerosFollow (suc n) s × (passed_over (suc n) s ≡ stand (2 * n + 1) s.comment p (b ∷ bs))
unfolding ZerosFollow passed_over further ends_line
zeros_next zero b bs s p blank line next = ((line, one_token b bs s p blank next, tt), after_one b bs s p blank next)
zeros_next (suc n) b bs s p blank line next =
    let after = after_one 32 (48 ∷ further n (b ∷ bs)) s p refl next in
    let t : TextState = stand 1 s.comment p (32 ∷ 48 ∷ further n (b ∷ bs)) in
    let q : Place = record { line = p.line; column = p.column + 1 + 1 } in
    let t_next : IsNextToken t (48 ∷ further n (b ∷ bs)) q = unfold at_token in record { rest_is = refl; place_is = refl; comment_is = refl } in
    let rest = zeros_next n b bs t q blank refl t_next in
    let columns : p.column + 1 + 1 + (2 * n + 1) ≡ p.column + (2 * suc n + 1) = omega arith in (
      (line, one_token 32 (48 ∷ further n (b ∷ bs)) s p refl next, subst (ZerosFollow (suc n)) (sym after) rest.0),
      ap (passed_over (suc n)) after ∙ (rest.1 ∙ ap (λ c. record { rest = b ∷ bs; place = record { line = p.line; column = c }; fresh = false; comment = s.comment }) columns),
    )

-- eight zeros stand next, and no token begins right after them
module _ (s : TextState) (p : Place) (bytes : List ℕ) (next : IsNextToken s bytes p) (line : ends_line s ≡ false) where
  eight_next : (following : List ℕ) → bytes ≡ codes "0 0 0 0 0 0 0 0" ++ following → 0 < length following → length (first_token following) ≡ 0
      → ZerosFollow 8 s × (passed_over 8 s ≡ stand 15 s.comment p following)
  unfolding further
  eight_next [] is some ends = absurd (omega arith)
  eight_next (b ∷ bs) is some ends =
      zeros_next 7 b bs s p (ends_blank (is_blank b) b bs refl ends) line (subst (λ l. IsNextToken s l p) is next) where
        ends_blank : (blank : Bool) (b : ℕ) (bs : List ℕ) → is_blank b ≡ blank → length (first_token (b ∷ bs)) ≡ 0 → is_blank b ≡ true
        ends_blank true b bs h ends = h
        ends_blank false b bs h ends = let long = ap length (token_first b bs (rw h refl)) in absurd (omega arith)

  pub eight_follow : (following : List ℕ) → bytes ≡ codes "0 0 0 0 0 0 0 0" ++ following → 0 < length following → length (first_token following) ≡ 0 → ZerosFollow 8 s
  eight_follow following is some ends = (eight_next following is some ends).0

  -- right after them
  pub eight_passed : (following : List ℕ) → bytes ≡ codes "0 0 0 0 0 0 0 0" ++ following → 0 < length following → length (first_token following) ≡ 0
      → record { rest = following; place = record { line = p.line; column = p.column + 15 }; fresh = false; comment = s.comment } ≡ passed_over 8 s
  eight_passed following is some ends = sym (eight_next following is some ends).1

pub ruleset zero_steps = (eight_follow, eight_passed)

-- the first bytes are bytes
take_fits : (n : ℕ) (bytes : List ℕ) → ((i : ℕ) → get_or bytes i 0 < 256) → (i : ℕ) → get_or (take n bytes) i 0 < 256
take_fits zero bytes fits i = omega arith
take_fits (suc n) [] fits i = omega arith
take_fits (suc n) (x ∷ xs) fits zero = fits 0
take_fits (suc n) (x ∷ xs) fits (suc i) = take_fits n xs (λ j. fits (suc j)) i

-- the first eight bytes are four zeros with a space after each where their word is the word of these
pub four_zeros : (bytes four following : List ℕ) (word : ℕ) → length four ≡ 8 → ((i : ℕ) → get_or bytes i 0 < 256) → word ≡ from_le_bytes w64 four → word ≡ from_le_bytes w64 (codes "0 0 0 0 ")
    → four ≡ take 8 bytes → following ≡ drop 8 bytes → bytes ≡ codes "0 0 0 0 " ++ following
four_zeros bytes four following word long fits is zeros head rest =
    let four_fits = subst (λ l. (i : ℕ) → get_or l i 0 < 256) (sym head) (take_fits 8 bytes fits) in
    let same : four ≡ codes "0 0 0 0 " = sym (le_bytes_8 four word long four_fits is) ∙ ap (to_le_bytes w64) zeros in
    sym (take-append-drop 8 bytes) ∙ (ap (λ l. l ++ drop 8 bytes) (sym head ∙ same) ∙ ap (λ l. codes "0 0 0 0 " ++ l) (sym rest))

-- four zeros and four more
module _ (bytes further following : List ℕ) (is : bytes ≡ codes "0 0 0 0 " ++ further) (more : further ≡ codes "0 0 0 0 " ++ following) where
  after_eight : take (length bytes - 15) (drop 15 bytes) ≡ 32 ∷ following
  after_eight =
      let same : bytes ≡ codes "0 0 0 0 0 0 0 0" ++ 32 ∷ following = is ∙ ap (λ l. codes "0 0 0 0 " ++ l) more in
      let left = length-drop 15 bytes in
      take_all (length bytes - 15) (drop 15 bytes) (omega arith) ∙ ap (drop 15) same

  pub eight_zeros : bytes ≡ codes "0 0 0 0 0 0 0 0" ++ take (length bytes - 15) (drop 15 bytes)
  eight_zeros = is ∙ (ap (λ l. codes "0 0 0 0 " ++ l) more ∙ ap (λ l. codes "0 0 0 0 0 0 0 0" ++ l) (sym after_eight))

  pub some_after : 0 < length (take (length bytes - 15) (drop 15 bytes))
  some_after = subst (λ l. 0 < length l) (sym after_eight) (omega arith)

  pub blank_after : length (first_token (take (length bytes - 15) (drop 15 bytes))) ≡ 0
  blank_after = subst (λ l. length (first_token l) ≡ 0) (sym after_eight) refl

pub ruleset eight_steps = (eight_zeros, some_after, blank_after)

-- a zero is read as the number 0, where the range has it
pub zero_read : (least greatest : ℤ) (s : TextState) → token s ≡ 48 ∷ [] → (int_le least (pos 0) && int_le (pos 0) greatest) ≡ true → number_at least greatest s ≡ Ok (pos 0)
unfolding number_at number_of
zero_read least greatest s next within = ap (number_in least greatest (place_of s)) next ∙ rw within refl
