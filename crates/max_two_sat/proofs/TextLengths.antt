-- The canonical text is short.
use Rattle.std.proofs.Common.{ℕ, ◌*◌, ◌^◌, ◌<◌, ◌≤◌, ℤ, pos, negsuc, ◌≤ℤ◌, List, [], ◌∷◌, ◌++◌, length, arith}
use Rattle.std.specs.Prelude.{codes}
use Rattle.std.specs.List.{flat_map}
use Rattle.std.proofs.lemmas.Fmt.{length-decimal-le}
use Rattle.std.proofs.lemmas.Int.{ints}
use Rattle.std.proofs.lemmas.List.{length-append}
use Rattle.tokens.specs.Decimal.{decimal_of}
use Rattle.tokens.proofs.Lengths.{number_short, parts_short}
use Rattle.max_two_sat.specs.declared.clause.Literal.{Literal}
use Rattle.max_two_sat.specs.declared.clause.Literals.{Literals}
use Rattle.max_two_sat.specs.declared.clause.Literals.TheVariants.{Empty, One, Two}
use Rattle.max_two_sat.specs.Instance.{Instance}
use Rattle.max_two_sat.specs.Limits.{IsWithinLimits}
use Rattle.max_two_sat.specs.Lines.{Clause, clauses_of, line_count}
use Rattle.max_two_sat.specs.Printed.{first_line_of, line_of, literal_text, literals_text, number_of_literal, text_of}
use Rattle.max_two_sat.proofs.RoundTrip.{ClauseStands, LiteralsStand, literal-size}
use Rattle.max_two_sat.proofs.Standing.{AllStand, weights_of, clauses-stand, weights-positive}

literal_short : (a : Literal) → a.variable < 1024 → length (literal_text a) ≤ 6
literal_short a few =
    let size = literal-size 1024 a (omega arith) few in
    omega (arith, number_short 4 (number_of_literal a) (omega arith) size.digits size.small)

literals_short : (n : ℕ) (literals : Literals) → n ≤ 1024 → LiteralsStand n literals → length (literals_text literals) ≤ 12
literals_short n Empty few h = omega arith
literals_short n (One a) few h = omega (arith, literal_short a (omega arith))
literals_short n (Two a b) few h =
    let first = literal_short a (omega (arith, h.0)) in
    let second = literal_short b (omega (arith, h.1)) in
    omega (arith, first, second, length-append (literal_text a) (literal_text b))

weight_short : (w : ℤ) → pos 0 ≤ℤ w → w ≤ℤ pos (2 ^ 48) → length (decimal_of w) ≤ 15
weight_short (pos n) low high =
    let most : n ≤ 2 ^ 48 = omega (arith, ints) in
    length-decimal-le 15 n (omega arith) (omega arith) (omega arith)
weight_short (negsuc n) low high = absurd (omega (arith, ints))

-- a line has at most 15 digits, two literals, and the 0 with the line's end
line_short : (n : ℕ) (x : Clause) → n ≤ 1024 → ClauseStands n x → x.weight ≤ℤ pos (2 ^ 48) → length (line_of x) ≤ 30
line_short n x few stands most =
    omega (
      arith,
      weight_short x.weight stands.low most,
      literals_short n x.literals few stands.literals,
      length-append (decimal_of x.weight) (literals_text x.literals ++ codes " 0\n"),
      length-append (literals_text x.literals) (codes " 0\n"),
    )

-- clauses that stand, and weigh at most 2^48
record AreLight (n : ℕ) (xs : List Clause) : Type 0 where
  stand : AllStand n xs
  weight : weights_of xs ≤ℤ pos (2 ^ 48)

lines_short : (n : ℕ) (xs : List Clause) → n ≤ 1024 → AreLight n xs → length (flat_map line_of xs) ≤ 30 * length xs
lines_short n xs few light =
    parts_short line_of 30 (AreLight n)
    (λ x rest here.
    let first = here.stand.0 in
    let later = weights-positive n rest here.stand.1 in
    (line_short n x few first (omega (arith, ints, here.weight)), record { stand = here.stand.1; weight = omega (arith, ints, here.weight, first.low) }))
    xs light

first_line_short : (i : Instance) → IsWithinLimits i → length (first_line_of i) ≤ 20
unfolding first_line_of
first_line_short i kept =
    let variables = length-decimal-le 4 (length i.units) (omega arith) (omega (arith, kept.variables)) (omega arith) in
    let clauses = length-decimal-le 7 (line_count i) (omega arith) (omega (arith, kept.lines)) (omega arith) in
    omega (
      arith,
      variables,
      clauses,
      length-append (codes "p wcnf ") (decimal_of (pos (length i.units)) ++ (32 ∷ (decimal_of (pos (line_count i)) ++ 10 ∷ []))),
      length-append (decimal_of (pos (length i.units))) (32 ∷ (decimal_of (pos (line_count i)) ++ 10 ∷ [])),
      length-append (decimal_of (pos (line_count i))) (10 ∷ []),
    )

pub text_short : (i : Instance) → IsWithinLimits i → length (text_of i) ≤ 2 ^ 25
text_short i kept =
    let there = clauses-stand i kept in
    let lines = lines_short (length i.units) (clauses_of i) kept.variables (record { stand = there.stand; weight = omega (arith, ints, there.weight, kept.total) }) in
    omega (arith, first_line_short i kept, lines, there.many, kept.lines, length-append (first_line_of i) (flat_map line_of (clauses_of i)))
