-- The lines of a canonical text: a clause for each weight above zero.
use Rattle.std.specs.Prelude.{ℕ, ◌+◌, ℤ, pos, int_lt, List, [], ◌∷◌, ◌++◌, length, Bool, true, false, if◌then◌else◌}
use Rattle.std.specs.List.{sum_by}
use Rattle.max_two_sat.specs.declared.clause.Literal.{Literal}
use Rattle.max_two_sat.specs.declared.clause.Literals.{Literals}
use Rattle.max_two_sat.specs.declared.clause.Literals.TheVariants.{One, Two}
use Rattle.max_two_sat.specs.declared.weights.UnitWeights.{UnitWeights}
use Rattle.max_two_sat.specs.declared.weights.PairWeights.{PairWeights}
use Rattle.max_two_sat.specs.Instance.{Instance}
use Rattle.pair_rows.specs.Pairs.{rows_of}

-- a clause with its weight
pub record Clause : Type 0 where
  pub weight : ℤ
  pub literals : Literals

abbrev pub literal : ℕ → Bool → Literal
literal v sign = record { variable = v; positive = sign }

-- a clause where it has weight
abbrev pub clause_where : ℤ → Literals → List Clause
clause_where weight literals = if int_lt (pos 0) weight then record { weight = weight; literals = literals } ∷ [] else []

-- the clauses on the first variable with the literal and its negation
abbrev pub tautology_lines : ℤ → List Clause
tautology_lines weight = clause_where weight (Two (literal 0 true) (literal 0 false))

abbrev pub unit_lines : ℕ → UnitWeights → List Clause
unit_lines v u = clause_where u.positive (One (literal v true)) ++ clause_where u.negative (One (literal v false))

abbrev pub pair_lines : ℕ → ℕ → PairWeights → List Clause
pair_lines i j p =
    clause_where p.both (Two (literal i true) (literal j true)) ++ (clause_where p.first (Two (literal i true) (literal j false)) ++
    (clause_where p.second (Two (literal i false) (literal j true)) ++ clause_where p.neither (Two (literal i false) (literal j false))))

-- those of the variables from v on, of the entries of i from j on, and of the rows from i on
abbrev pub units_lines : ℕ → List UnitWeights → List Clause
units_lines v [] = []
units_lines v (u ∷ us) = unit_lines v u ++ units_lines (v + 1) us

abbrev pub row_lines : ℕ → ℕ → List PairWeights → List Clause
row_lines i j [] = []
row_lines i j (p ∷ ps) = pair_lines i j p ++ row_lines i (j + 1) ps

abbrev pub rows_lines : ℕ → List (List PairWeights) → List Clause
rows_lines i [] = []
rows_lines i (row ∷ rows) = row_lines i (i + 1) row ++ rows_lines (i + 1) rows

-- the clauses that give the instance: the tautologies, by variable the units, and by pair the clauses of the four signs
unfoldable pub clauses_of : Instance → List Clause
clauses_of i = tautology_lines i.tautologies ++ (units_lines 0 i.units ++ rows_lines 0 (rows_of (length i.units) i.pairs))

-- how many weights are above zero: of one, of an entry, and of some entries
abbrev pub weighs : ℤ → ℕ
weighs weight = if int_lt (pos 0) weight then 1 else 0

abbrev pub unit_weighing : UnitWeights → ℕ
unit_weighing u = weighs u.positive + weighs u.negative

abbrev pub pair_weighing : PairWeights → ℕ
pair_weighing p = (weighs p.both + weighs p.first) + (weighs p.second + weighs p.neither)

abbrev pub units_weighing : List UnitWeights → ℕ
units_weighing us = sum_by unit_weighing us

abbrev pub pairs_weighing : List PairWeights → ℕ
pairs_weighing ps = sum_by pair_weighing ps

abbrev pub line_count : Instance → ℕ
line_count i = weighs i.tautologies + (units_weighing i.units + pairs_weighing i.pairs)
