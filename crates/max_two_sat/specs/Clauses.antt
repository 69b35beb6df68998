-- Clauses, and what an instance keeps of them.
use Rattle.std.specs.Prelude.{ℕ, ◌+◌, ◌-◌, ◌<◌, ℤ, pos, ◌+ℤ◌, Bool, true, false, not, nat_lt, ◌==◌, length, replicate, slice_index_or, slice_set, if◌then◌else◌}
use Rattle.max_two_sat.specs.declared.clause.Literal.{Literal}
use Rattle.max_two_sat.specs.declared.clause.Literals.{Literals}
use Rattle.max_two_sat.specs.declared.clause.Literals.TheVariants.{Empty, One, Two}
use Rattle.max_two_sat.specs.declared.weights.UnitWeights.{UnitWeights}
use Rattle.max_two_sat.specs.declared.weights.PairWeights.{PairWeights}
use Rattle.max_two_sat.specs.Instance.{Instance, no_pair, no_unit}
use Rattle.pair_rows.specs.Pairs.{pair_count}
use Rattle.pair_problem.specs.Adding.{place_of}

-- an instance of this many variables without clauses
abbrev pub empty_instance : ℕ → Instance
empty_instance n = record { tautologies = pos 0; units = replicate n no_unit; pairs = replicate (pair_count n) no_pair }

-- the entry with the weight added at the sign of the literal, or at the signs of both
abbrev pub heavier_unit : UnitWeights → Bool → ℤ → UnitWeights
heavier_unit u true weight = record { positive = u.positive +ℤ weight; negative = u.negative }
heavier_unit u false weight = record { positive = u.positive; negative = u.negative +ℤ weight }

abbrev pub heavier_pair : PairWeights → Bool → Bool → ℤ → PairWeights
heavier_pair p true true weight = record { both = p.both +ℤ weight; first = p.first; second = p.second; neither = p.neither }
heavier_pair p true false weight = record { both = p.both; first = p.first +ℤ weight; second = p.second; neither = p.neither }
heavier_pair p false true weight = record { both = p.both; first = p.first; second = p.second +ℤ weight; neither = p.neither }
heavier_pair p false false weight = record { both = p.both; first = p.first; second = p.second; neither = p.neither +ℤ weight }

abbrev pub with_tautology : Instance → ℤ → Instance
with_tautology i weight = record { tautologies = i.tautologies +ℤ weight; units = i.units; pairs = i.pairs }

abbrev pub with_unit : Instance → ℤ → Literal → Instance
with_unit i weight a =
    record {
      tautologies = i.tautologies;
      units = slice_set i.units a.variable (heavier_unit (slice_index_or i.units a.variable no_unit) a.positive weight);
      pairs = i.pairs;
    }

abbrev pub with_pair : Instance → ℤ → Literal → Literal → Instance
with_pair i weight a b =
    let place = place_of (length i.units) a.variable b.variable in
    record {
      tautologies = i.tautologies;
      units = i.units;
      pairs = slice_set i.pairs place (heavier_pair (slice_index_or i.pairs place no_pair) a.positive b.positive weight);
    }

-- whether the first is true exactly where the second is
abbrev pub same_sign : Bool → Bool → Bool
same_sign true b = b
same_sign false b = not b

-- a clause with two literals: twice the same is one, a literal and its negation are a tautology, and of two variables the lesser stands first
abbrev pub with_two : Instance → ℤ → Literal → Literal → Instance
with_two i weight a b =
    if a.variable == b.variable then (if same_sign a.positive b.positive then with_unit i weight a else with_tautology i weight)
    else (if nat_lt a.variable b.variable then with_pair i weight a b else with_pair i weight b a)

-- the instance with a clause more; one without literals is never satisfied
abbrev pub with_clause : Instance → ℤ → Literals → Instance
with_clause i weight Empty = i
with_clause i weight (One a) = with_unit i weight a
with_clause i weight (Two a b) = with_two i weight a b

-- an instance while its clauses are read: what it keeps so far, the weight and the number of the clauses
pub record Gathered : Type 0 where
  pub instance : Instance
  pub total : ℤ
  pub clauses : ℕ

abbrev pub nothing_gathered : ℕ → Gathered
nothing_gathered n = record { instance = empty_instance n; total = pos 0; clauses = 0 }

abbrev pub gathered_with : Gathered → ℤ → Literals → Gathered
gathered_with g weight literals = record { instance = with_clause g.instance weight literals; total = g.total +ℤ weight; clauses = g.clauses + 1 }

-- the literal stands for one of n variables
abbrev pub FitsLiteral : ℕ → Literal → Type 0
FitsLiteral n a = a.variable < n

abbrev pub FitsLiterals : ℕ → Literals → Type 0
FitsLiterals n Empty = Unit {0}
FitsLiterals n (One a) = FitsLiteral n a
FitsLiterals n (Two a b) = FitsLiteral n a × FitsLiteral n b
