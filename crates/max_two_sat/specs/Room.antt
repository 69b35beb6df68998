-- What an instance keeps to while its clauses are read.
use Rattle.std.specs.Prelude.{◌≡◌, ℕ, ◌^◌, ◌≤◌, ℤ, pos, ◌+ℤ◌, ◌≤ℤ◌, length, Option, Some, None, IsTrue}
use Rattle.max_two_sat.specs.declared.clause.Literal.{Literal}
use Rattle.max_two_sat.specs.declared.header.Header.{Header}
use Rattle.max_two_sat.specs.declared.header.Form.{Form}
use Rattle.max_two_sat.specs.declared.header.Form.TheVariants.{Plain, Weighted}
use Rattle.max_two_sat.specs.Instance.{Instance, units_total, pairs_total}
use Rattle.pair_rows.specs.Pairs.{pair_count}
use Rattle.max_two_sat.specs.Clauses.{FitsLiteral, Gathered}
use Rattle.max_two_sat.specs.Limits.{units_are_positive, pairs_are_positive}
use Rattle.max_two_sat.specs.Lines.{line_count, weighs}

-- a clause of this weight may be added
pub record HasClauseRoom (i : Instance) (weight : ℤ) : Type 0 where
  pub variables : length i.units ≤ 1024
  pub whole : length i.pairs ≡ pair_count (length i.units)
  pub tautologies : pos 0 ≤ℤ i.tautologies
  pub units : IsTrue (units_are_positive i.units)
  pub pairs : IsTrue (pairs_are_positive i.pairs)
  pub low : pos 0 ≤ℤ weight
  pub total : ((i.tautologies +ℤ (units_total i.units +ℤ pairs_total i.pairs)) +ℤ weight) ≤ℤ pos (2 ^ 48)

-- what is kept weighs at most what was read, and has at most as many weights above zero as there were clauses
pub record IsGathered (g : Gathered) : Type 0 where
  pub variables : length g.instance.units ≤ 1024
  pub whole : length g.instance.pairs ≡ pair_count (length g.instance.units)
  pub tautologies : pos 0 ≤ℤ g.instance.tautologies
  pub units : IsTrue (units_are_positive g.instance.units)
  pub pairs : IsTrue (pairs_are_positive g.instance.pairs)
  pub weight : (g.instance.tautologies +ℤ (units_total g.instance.units +ℤ pairs_total g.instance.pairs)) ≤ℤ g.total
  pub total : g.total ≤ℤ pos (2 ^ 48)
  pub lines : line_count g.instance ≤ g.clauses
  pub some : weighs g.instance.tautologies ≤ length g.instance.units

-- where clauses have no weight, they weigh as much as there are
abbrev pub FormKeeps : Form → Gathered → Type 0
FormKeeps Plain g = g.total ≡ pos g.clauses
FormKeeps (Weighted top) g = Unit {0}

-- the weight of a clause after clauses of this total weight
abbrev pub FormGives : Form → ℤ → ℤ → Type 0
FormGives Plain total weight = weight ≡ pos 1
FormGives (Weighted top) total weight = (pos 0 ≤ℤ weight) × ((total +ℤ weight) ≤ℤ pos (2 ^ 48))

-- a literal that was read, where there is one, stands for one of n variables
abbrev pub FitsOption : ℕ → Option Literal → Type 0
FitsOption n None = Unit {0}
FitsOption n (Some a) = FitsLiteral n a

-- clauses are read after this first line, and so much is gathered of them
pub record IsGathering (h : Header) (g : Gathered) : Type 0 where
  pub gathered : IsGathered g
  pub form : FormKeeps h.form g
  pub variables : length g.instance.units ≡ h.variables
