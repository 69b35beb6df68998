-- What is read of printed tokens.
use Rattle.std.proofs.Common.{◌≡◌, ℕ, zero, suc, ◌+◌, ◌-◌, ◌<◌, ◌^◌, pos, Bool, true, false, nat_eq, List, [], ◌∷◌, ◌++◌, length, ℤ, refl, sym, ap, ◌∙◌, subst, arith, append_assoc}
use Rattle.std.specs.Prelude.{Some, None, Result, Ok, Err, ◌≤ℤ◌, nat_abs, nat_le, if◌then◌else◌, fold, flat_map}
use Rattle.std.specs.List.{list_all}
use Rattle.std.proofs.lemmas.Bool.{and_parts}
use Rattle.std.proofs.lemmas.Bool.Decides.{nat_tests}
use Rattle.std.proofs.lemmas.Int.{ints}
use Rattle.tokens.specs.Text.{TextState, is_blank, is_solid, token, place_of, number_of, number_at, word_in, word_at, after_token}
use Rattle.tokens.specs.declared.place.Place.{Place}
use Rattle.tokens.specs.declared.text_error.TextError.TheVariants.{NotAscii}
use Rattle.tokens.specs.Decimal.{decimal_of}
use Rattle.tokens.specs.Printed.{IsBefore}
use Rattle.tokens.specs.declared.comment.Comment.TheVariants.{Never}
use Rattle.tokens.proofs.Digits.{is_printed, number_of-decimal_of}
use Rattle.tokens.proofs.Printing.{before_after, reads_number, reads_word}
use Rattle.dp_model.specs.Lists.{Each}
use Rattle.problem_names.specs.ModelNames.{word_same}
use Rattle.cover_text.specs.Grammar.{CoverError, until, stands, fixed_at, small_at}

-- reading stands right before these bytes, and no line is a comment
pub record IsAt (bytes : List ℕ) (s : TextState) : Type 0 where
  pub rest_is : s.rest ≡ bytes
  pub comment_is : s.comment ≡ Never

-- the same, perhaps with blanks in between
pub record IsAhead (bytes : List ℕ) (s : TextState) : Type 0 where
  pub before : IsBefore bytes s
  pub comment_is : s.comment ≡ Never

-- a part is read as this, and reading stands there
pub record Gives {A : Type 0} (There : TextState → Type 0) (read : Result (A × TextState) CoverError) (made : A) : Type 0 where
  pub state : TextState
  pub is : read ≡ Ok (made, state)
  pub there : There state

-- the first of these bytes is a blank
pub record BeginsBlank (bytes : List ℕ) : Type 0 where
  pub blank : ℕ
  pub more : List ℕ
  pub is : bytes ≡ blank ∷ more
  pub is_blank : is_blank blank ≡ true

pub after_blank : (b : ℕ) (bytes : List ℕ) (s : TextState) → is_blank b ≡ true → IsAt (b ∷ bytes) s → IsAhead bytes s
after_blank b bytes s blank at = record { before = before_after b bytes s blank at.rest_is; comment_is = at.comment_is }

-- ---- words

pub same-self : (xs : List ℕ) → word_same xs xs ≡ true
same-self [] = refl
same-self (x ∷ xs) = let one : nat_eq x x ≡ true = grind (arith, nat_tests) in rw (one, same-self xs) refl

same-is : (xs ys : List ℕ) → word_same xs ys ≡ true → xs ≡ ys
same-is [] [] h = refl
same-is [] (y ∷ ys) h = absurd (let clash : false ≡ true = h in cc)
same-is (x ∷ xs) [] h = absurd (let clash : false ≡ true = h in cc)
same-is (x ∷ xs) (y ∷ ys) h =
    let parts : (nat_eq x y ≡ true) × (word_same xs ys ≡ true) = and_parts _ _ h in
    let one = parts.0 in
    let first : x ≡ y = grind (arith, nat_tests) in
    let rest = same-is xs ys parts.1 in
    cc

word_in-is : (place : Place) (bytes word : List ℕ) → word_in place bytes ≡ Ok word → bytes ≡ word
word_in-is place [] word e = absurd (cc)
word_in-is place (b ∷ bs) word e =
    elim (nat_le 128 b) as (λ h. (if h then Err (NotAscii place) else Ok (b ∷ bs)) ≡ Ok word → b ∷ bs ≡ word) [ true ↦ λ f. absurd (cc) | false ↦ λ f. cc ] e

token-is : (w : ℕ) (ws : List ℕ) (s : TextState) → word_at s ≡ Ok (w ∷ ws) → token s ≡ w ∷ ws
unfolding word_at
token-is w ws s read = word_in-is (place_of s) (token s) (w ∷ ws) read

-- a word is read, and it is the next token
pub record PassesWord (word more : List ℕ) (s : TextState) : Type 0 where
  pub value : word_at s ≡ Ok word
  pub token_is : token s ≡ word
  pub at : IsAt more (after_token s)

pub passes_word : (w : ℕ) (ws more : List ℕ) (s : TextState) → list_all is_solid (w ∷ ws) ≡ true → w < 128 → BeginsBlank more → IsAhead ((w ∷ ws) ++ more) s → PassesWord (w ∷ ws) more s
passes_word w ws more s solid ascii blank ahead =
    let read = reads_word w ws blank.blank blank.more s solid ascii (rw ahead.comment_is refl) blank.is_blank (subst (λ bytes. IsBefore ((w ∷ ws) ++ bytes) s) blank.is ahead.before) in
    record {
      value = read.value;
      token_is = token-is w ws s read.value;
      at = record { rest_is = read.rest_is ∙ sym blank.is; comment_is = read.comment_is ∙ ahead.comment_is };
    }

pub stands-is : (word : List ℕ) (s : TextState) → token s ≡ word → stands word s ≡ true
stands-is word s is = ap (λ t. word_same t word) is ∙ same-self word

pub passes_fixed : (w : ℕ) (ws more : List ℕ) (s : TextState) → PassesWord (w ∷ ws) more s → fixed_at (w ∷ ws) s ≡ Ok (after_token s)
unfolding fixed_at
passes_fixed w ws more s read = rw (read.value, same-self (w ∷ ws)) refl

-- ---- numbers

-- a number is read, and its digits are the next token
pub record PassesNumber (z least greatest : ℤ) (more : List ℕ) (s : TextState) : Type 0 where
  pub value : number_at least greatest s ≡ Ok z
  pub other : (word : List ℕ) → number_of word ≡ None → stands word s ≡ false
  pub at : IsAt more (after_token s)

not-number : (z : ℤ) (word : List ℕ) (s : TextState) → nat_abs z < 2 ^ 64 → token s ≡ decimal_of z → number_of word ≡ None → stands word s ≡ false
not-number z word s small is none =
    elim (word_same (token s) word) as (λ b. word_same (token s) word ≡ b → b ≡ false) [
      | true ↦ λ e. absurd (
          let same : decimal_of z ≡ word = sym is ∙ same-is (token s) word e in
          let clash : Some z ≡ None = sym (number_of-decimal_of z small) ∙ (ap number_of same ∙ none) in cc)
      | false ↦ λ _. refl
    ] refl

pub passes_number : (z least greatest : ℤ) (more : List ℕ) (s : TextState) → nat_abs z < 2 ^ 64 → least ≤ℤ z → z ≤ℤ greatest → BeginsBlank more → IsAhead (decimal_of z ++ more) s → PassesNumber z least greatest more s
passes_number z least greatest more s small low high blank ahead =
    let before = subst (λ bytes. IsBefore (decimal_of z ++ bytes) s) blank.is ahead.before in
    let read = reads_number z least greatest blank.blank blank.more s small low high blank.is_blank before in
    let p = is_printed z small in
    let word = passes_word p.first p.others more s p.solid p.ascii blank (record { before = subst (λ w. IsBefore (w ++ more) s) p.printed_is ahead.before; comment_is = ahead.comment_is }) in
    record {
      value = read.value;
      other = λ other none. not-number z other s small (word.token_is ∙ sym p.printed_is) none;
      at = record { rest_is = read.rest_is ∙ sym blank.is; comment_is = read.comment_is ∙ ahead.comment_is };
    }

-- a number of 32 bits
pub record PassesSmall (n : ℕ) (more : List ℕ) (s : TextState) : Type 0 where
  pub value : small_at s ≡ Ok (n, after_token s)
  pub other : (word : List ℕ) → number_of word ≡ None → stands word s ≡ false
  pub at : IsAt more (after_token s)

pub passes_small : (n : ℕ) (more : List ℕ) (s : TextState) → n < 2 ^ 32 → BeginsBlank more → IsAhead (decimal_of (pos n) ++ more) s → PassesSmall n more s
unfolding small_at
passes_small n more s few blank ahead =
    let read = passes_number (pos n) (pos 0) (pos (2 ^ 32 - 1)) more s (omega arith) (omega (arith, ints)) (omega (arith, ints)) blank ahead in
    record { value = rw read.value refl; other = read.other; at = read.at }

-- ---- parts after one another

module _ {A X : Type 0} (ends : TextState → Bool) (step : A → TextState → Result (A × TextState) CoverError) (print : X → List ℕ) (add : A → X → A) (P : X → Type 0) (Here : List ℕ → TextState → Type 0) (tail : List ℕ) (extra : ℕ) where
  -- each printed part is read
  abbrev pub ReadsEach : Type 0
  ReadsEach = (x : X) (xs : List X) (made : A) (s : TextState) → P x → Here (print x ++ (flat_map print xs ++ tail)) s → (ends s ≡ false) × Gives (Here (flat_map print xs ++ tail)) (step made s) (add made x)

  -- reading ends after them
  abbrev pub Stops : Type 0
  Stops = (made : A) (s : TextState) → Here tail s → until ends step extra made s ≡ Ok (made, s)

  step-one : (m : ℕ) (made next : A) (s t : TextState) → ends s ≡ false → step made s ≡ Ok (next, t) → until ends step (suc m) made s ≡ until ends step m next t
  unfolding until
  step-one m made next s t goes_on read = rw (goes_on, read) refl

  -- so all of them are
  pub until_reads : ReadsEach → Stops → (n : ℕ) (xs : List X) (made : A) (s : TextState) → n ≡ length xs + extra → Each P xs → Here (flat_map print xs ++ tail) s → Gives (Here tail) (until ends step n made s) (fold add made xs)
  until_reads each stops n [] made s count held here =
      let same : n ≡ extra = omega arith in
      record { state = s; is = ap (λ m. until ends step m made s) same ∙ stops made s here; there = here }
  until_reads each stops n (x ∷ xs) made s count held here =
      let one = each x xs made s held.0 (subst (λ bytes. Here bytes s) (append_assoc (print x) (flat_map print xs) tail) here) in
      let rest = until_reads each stops (length xs + extra) xs (add made x) one.1.state refl held.1 one.1.there in
      let more : n ≡ suc (length xs + extra) = omega arith in
      record {
        state = rest.state;
        is = ap (λ m. until ends step m made s) more ∙ (step-one (length xs + extra) made (add made x) s one.1.state one.0 one.1.is ∙ rest.is);
        there = rest.there;
      }

-- where the end is seen nothing more is read
pub until_ended : {A : Type 0} (ends : TextState → Bool) (step : A → TextState → Result (A × TextState) CoverError) (n : ℕ) (made : A) (s : TextState) → ends s ≡ true → until ends step n made s ≡ Ok (made, s)
unfolding until
until_ended ends step zero made s over = refl
until_ended ends step (suc n) made s over = rw over refl

pub until_none : {A : Type 0} (ends : TextState → Bool) (step : A → TextState → Result (A × TextState) CoverError) (made : A) (s : TextState) → until ends step 0 made s ≡ Ok (made, s)
unfolding until
until_none ends step made s = refl
