-- The canonical text of an instance.
use Rattle.std.specs.Prelude.{ℕ, ◌+◌, ℤ, pos, neg_ℤ, List, [], ◌∷◌, ◌++◌, length, codes, if◌then◌else◌}
use Rattle.std.specs.List.{flat_map}
use Rattle.tokens.specs.Decimal.{decimal_of}
use Rattle.max_two_sat.specs.declared.clause.Literal.{Literal}
use Rattle.max_two_sat.specs.declared.clause.Literals.{Literals}
use Rattle.max_two_sat.specs.declared.clause.Literals.TheVariants.{Empty, One, Two}
use Rattle.max_two_sat.specs.Instance.{Instance}
use Rattle.max_two_sat.specs.Lines.{Clause, clauses_of, line_count}

-- the number that writes a literal: the variable from 1, negative where it is negated
abbrev pub number_of_literal : Literal → ℤ
number_of_literal a = if a.positive then pos (a.variable + 1) else neg_ℤ (pos (a.variable + 1))

-- a space and the number
abbrev pub literal_text : Literal → List ℕ
literal_text a = 32 ∷ decimal_of (number_of_literal a)

abbrev pub literals_text : Literals → List ℕ
literals_text Empty = []
literals_text (One a) = literal_text a
literals_text (Two a b) = literal_text a ++ literal_text b

-- the weight, the literals, 0 and the line's end
abbrev pub line_of : Clause → List ℕ
line_of c = decimal_of c.weight ++ (literals_text c.literals ++ codes " 0\n")

-- p wcnf, the number of variables and that of clauses
unfoldable pub first_line_of : Instance → List ℕ
first_line_of i = codes "p wcnf " ++ (decimal_of (pos (length i.units)) ++ (32 ∷ (decimal_of (pos (line_count i)) ++ 10 ∷ [])))

-- the first line, and a line for each clause
abbrev pub text_of : Instance → List ℕ
text_of i = first_line_of i ++ flat_map line_of (clauses_of i)
