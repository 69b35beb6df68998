-- A printed clause is read.
use Rattle.std.proofs.Common.{◌≡◌, ℕ, suc, ◌+◌, ◌^◌, ◌<◌, ◌≤◌, ℤ, pos, ◌+ℤ◌, ◌≤ℤ◌, Bool, true, false, cond, List, [], ◌∷◌, ◌++◌, refl, arith, ap, subst, ◌∙◌, append_assoc}
use Rattle.std.specs.Prelude.{Ok, Option, Some, None, nat_abs, neg_ℤ, ◌==◌}
use Rattle.std.specs.Fmt.{digits}
use Rattle.std.proofs.lemmas.Int.{ints}
use Rattle.std.proofs.lemmas.Bool.{eqb-true}
use Rattle.tokens.specs.Text.{TextState, is_blank, token, after_token, number_at, number_in, number_of, place_of}
use Rattle.tokens.specs.declared.place.Place.{Place}
use Rattle.tokens.specs.Decimal.{decimal_of}
use Rattle.tokens.specs.Printed.{IsBefore, ReadsPart}
use Rattle.tokens.proofs.Printing.{passes_number}
use Rattle.dp_model.specs.NumberLaws.{int_lt-fails}
use Rattle.max_two_sat.specs.declared.clause.Literal.{Literal}
use Rattle.max_two_sat.specs.declared.clause.Literals.{Literals}
use Rattle.max_two_sat.specs.declared.clause.Literals.TheVariants.{Empty, One, Two}
use Rattle.max_two_sat.specs.declared.header.Header.{Header}
use Rattle.max_two_sat.specs.declared.header.Form.TheVariants.{Weighted}
use Rattle.max_two_sat.specs.Clauses.{Gathered, gathered_with}
use Rattle.max_two_sat.specs.Lines.{Clause}
use Rattle.max_two_sat.specs.Printed.{line_of, literal_text, literals_text, number_of_literal}
use Rattle.max_two_sat.specs.Texts.{clause_at, ends_clauses, ends_token, literal_at, literal_of, literals_at, following_first, end_of_clause, weight_at}

-- a literal is read from its number
literal_of-number : (a : Literal) → literal_of (number_of_literal a) ≡ Some a
literal_of-number a =
    let one : a.variable + 1 ≡ suc a.variable = omega arith in
    elim a.positive as (λ sign. literal_of (cond sign (pos (a.variable + 1)) (neg_ℤ (pos (a.variable + 1)))) ≡ Some (record { variable = a.variable; positive = sign })) [
      | true ↦ rw one refl
      | false ↦ rw one refl
    ]

-- the size of the number, for the type, for the grammar and for the text
pub record LiteralSize (n : ℕ) (a : Literal) : Type 0 where
  pub small : nat_abs (number_of_literal a) < 2 ^ 64
  pub digits : nat_abs (number_of_literal a) < 10 ^ 4
  pub low : neg_ℤ (pos n) ≤ℤ number_of_literal a
  pub high : number_of_literal a ≤ℤ pos n

number-size : (z : ℤ) (n v : ℕ) (sign : Bool) → n ≤ 1024 → v < n → z ≡ cond sign (pos (suc v)) (neg_ℤ (pos (suc v))) → (nat_abs z ≤ 1024) × ((neg_ℤ (pos n) ≤ℤ z) × (z ≤ℤ pos n))
number-size z n v true few fits e = rw e (omega arith, (omega (arith, ints), omega (arith, ints)))
number-size z n v false few fits e = rw e (omega arith, (omega (arith, ints), omega (arith, ints)))

pub literal-size : (n : ℕ) (a : Literal) → n ≤ 1024 → a.variable < n → LiteralSize n a
literal-size n a few fits =
    let one : a.variable + 1 ≡ suc a.variable = omega arith in
    let sizes = number-size (number_of_literal a) n a.variable a.positive few fits (ap (λ (m : ℕ). cond a.positive (pos m) (neg_ℤ (pos m))) one) in
    record { small = omega (arith, sizes.0); digits = omega (arith, sizes.0); low = sizes.1.0; high = sizes.1.1 }

-- a printed literal is read, and so is the blank after it
record ReadsLiteral (n : ℕ) (read : Option Literal) (more : List ℕ) (s : TextState) : Type 0 where
  value : literal_at n s ≡ Ok (read, after_token s)
  before : IsBefore more (after_token s)
  comment_is : (after_token s).comment ≡ s.comment

reads_literal : (n : ℕ) (a : Literal) (b : ℕ) (more : List ℕ) (s : TextState) → n ≤ 1024 → a.variable < n → is_blank b ≡ true →
    IsBefore (decimal_of (number_of_literal a) ++ b ∷ more) s → ReadsLiteral n (Some a) more s
unfolding literal_at
reads_literal n a b more s few fits blank before =
    let size = literal-size n a few fits in
    let number = passes_number (number_of_literal a) (neg_ℤ (pos n)) (pos n) b more s size.small size.low size.high blank before in
    record { value = rw (number.value, literal_of-number a) refl; before = number.before; comment_is = number.comment_is }

zero_digits : 48 ∷ [] ≡ decimal_of (pos 0)
unfolding digits
zero_digits = refl

reads_zero : (n : ℕ) (more : List ℕ) (s : TextState) → IsBefore (48 ∷ 10 ∷ more) s → ReadsLiteral n None more s
unfolding literal_at
reads_zero n more s before =
    let ahead : IsBefore (decimal_of (pos 0) ++ 10 ∷ more) s = subst (λ (zero_text : List ℕ). IsBefore (zero_text ++ 10 ∷ more) s) zero_digits before in
    let number = passes_number (pos 0) (neg_ℤ (pos n)) (pos n) 10 more s (omega arith) (omega (arith, ints)) (omega (arith, ints)) refl ahead in
    record { value = rw number.value refl; before = number.before; comment_is = number.comment_is }

-- a number that stands ahead is no end of the clauses
goes-on : (least greatest z : ℤ) (place : Place) (bytes : List ℕ) → number_in least greatest place bytes ≡ Ok z → ends_token bytes ≡ false
unfolding number_of
goes-on least greatest z place [] h = cc
goes-on least greatest z place (b ∷ bs) h =
    elim (b == 37) as (λ t. (b == 37) ≡ t → t ≡ false) [
      | true ↦ λ e.
          let percent : b ≡ 37 = eqb-true b 37 e in
          let refused = subst (λ (c : ℕ). number_in least greatest place (c ∷ bs) ≡ Ok z) percent h in
          cc
      | false ↦ λ e. refl
    ] refl

number-goes-on : (least greatest z : ℤ) (s : TextState) → number_at least greatest s ≡ Ok z → ends_clauses s ≡ false
unfolding number_at
number-goes-on least greatest z s e = goes-on least greatest z (place_of s) (token s) e

-- printed literals and the zero after them are read to the line's end
record ReadsLiterals (n : ℕ) (literals : Literals) (tail : List ℕ) (s : TextState) : Type 0 where
  following : TextState
  read : literals_at n s ≡ Ok (literals, following)
  before : IsBefore tail following
  comment_is : following.comment ≡ s.comment

reads_one : (n : ℕ) (a : Literal) (tail : List ℕ) (s : TextState) → n ≤ 1024 → a.variable < n →
    IsBefore (decimal_of (number_of_literal a) ++ (32 ∷ 48 ∷ 10 ∷ tail)) s → ReadsLiterals n (One a) tail s
unfolding literals_at following_first
reads_one n a tail s few fits before =
    let one = reads_literal n a 32 (48 ∷ 10 ∷ tail) s few fits refl before in
    let last = reads_zero n tail (after_token s) one.before in
    record {
      following = after_token (after_token s);
      read = rw (one.value, last.value) refl;
      before = last.before;
      comment_is = last.comment_is ∙ one.comment_is;
    }

reads_two : (n : ℕ) (a b : Literal) (tail : List ℕ) (s : TextState) → n ≤ 1024 → a.variable < n → b.variable < n →
    IsBefore (decimal_of (number_of_literal a) ++ (32 ∷ (decimal_of (number_of_literal b) ++ (32 ∷ 48 ∷ 10 ∷ tail)))) s → ReadsLiterals n (Two a b) tail s
unfolding literals_at following_first end_of_clause
reads_two n a b tail s few first second before =
    let t : TextState = after_token s in
    let u : TextState = after_token t in
    let one = reads_literal n a 32 (decimal_of (number_of_literal b) ++ (32 ∷ 48 ∷ 10 ∷ tail)) s few first refl before in
    let two = reads_literal n b 32 (48 ∷ 10 ∷ tail) t few second refl one.before in
    let last = reads_zero n tail u two.before in
    record {
      following = after_token u;
      read = rw (one.value, two.value, last.value) refl;
      before = last.before;
      comment_is = last.comment_is ∙ (two.comment_is ∙ one.comment_is);
    }

-- a clause of the canonical text, of n variables
abbrev pub LiteralsStand : ℕ → Literals → Type 0
LiteralsStand n Empty = ⊥
LiteralsStand n (One a) = a.variable < n
LiteralsStand n (Two a b) = (a.variable < n) × (b.variable < n)

pub record ClauseStands (n : ℕ) (x : Clause) : Type 0 where
  pub low : pos 0 ≤ℤ x.weight
  pub literals : LiteralsStand n x.literals

-- the literals with the zero, after the first blank
abbrev literals_after : Literals → List ℕ → List ℕ
literals_after Empty tail = []
literals_after (One a) tail = decimal_of (number_of_literal a) ++ (32 ∷ 48 ∷ 10 ∷ tail)
literals_after (Two a b) tail = decimal_of (number_of_literal a) ++ (32 ∷ (decimal_of (number_of_literal b) ++ (32 ∷ 48 ∷ 10 ∷ tail)))

literals-ahead : (n : ℕ) (literals : Literals) (tail : List ℕ) → LiteralsStand n literals → literals_text literals ++ (32 ∷ 48 ∷ 10 ∷ tail) ≡ 32 ∷ literals_after literals tail
literals-ahead n Empty tail h = absurd h
literals-ahead n (One a) tail h = refl
literals-ahead n (Two a b) tail h = ap (λ (bytes : List ℕ). 32 ∷ bytes) (append_assoc (decimal_of (number_of_literal a)) (literal_text b) (32 ∷ 48 ∷ 10 ∷ tail))

reads_literals : (n : ℕ) (literals : Literals) (tail : List ℕ) (s : TextState) → n ≤ 1024 → LiteralsStand n literals →
    IsBefore (literals_after literals tail) s → ReadsLiterals n literals tail s
reads_literals n Empty tail s few h before = absurd h
reads_literals n (One a) tail s few h before = reads_one n a tail s few h before
reads_literals n (Two a b) tail s few h before = reads_two n a b tail s few h.0 h.1 before

line_before : (x : Clause) (tail : List ℕ) → line_of x ++ tail ≡ decimal_of x.weight ++ (literals_text x.literals ++ (32 ∷ 48 ∷ 10 ∷ tail))
line_before x tail = simp append_assoc

-- the header that is printed
abbrev pub header_of : ℕ → ℕ → Header
header_of n m = record { variables = n; clauses = m; form = Weighted None }

-- a printed clause is read
pub reads_clause : (n m : ℕ) (x : Clause) (made : Gathered) (tail : List ℕ) (s : TextState) → n ≤ 1024 → ClauseStands n x → pos 0 ≤ℤ made.total → (made.total +ℤ x.weight) ≤ℤ pos (2 ^ 48) →
    IsBefore (line_of x ++ tail) s → ReadsPart (clause_at (header_of n m)) made (gathered_with made x.weight x.literals) tail s
unfolding clause_at weight_at
reads_clause n m x made tail s few stands low most before =
    let more : List ℕ = literals_after x.literals tail in
    let line : line_of x ++ tail ≡ decimal_of x.weight ++ (32 ∷ more) = line_before x tail ∙ ap (λ (bytes : List ℕ). decimal_of x.weight ++ bytes) (literals-ahead n x.literals tail stands.literals) in
    let weight = passes_number x.weight (pos 0) (pos (2 ^ 48)) 32 more s (omega (arith, ints, stands.low)) stands.low (omega (arith, ints)) refl (subst (λ (bytes : List ℕ). IsBefore bytes s) line before) in
    let t : TextState = after_token s in
    let starts : ends_clauses s ≡ false = number-goes-on (pos 0) (pos (2 ^ 48)) x.weight s weight.value in
    let literals = reads_literals n x.literals tail t few stands.literals weight.before in
    record {
      following = literals.following;
      read = rw (starts, weight.value, int_lt-fails (pos (2 ^ 48)) (made.total +ℤ x.weight) most, literals.read) refl;
      before = literals.before;
      comment_is = literals.comment_is ∙ weight.comment_is;
    }
