-- What every instance keeps to.
use Rattle.std.specs.Prelude.{◌≡◌, ◌^◌, ◌≤◌, ℤ, pos, neg_ℤ, ◌+ℤ◌, ◌≤ℤ◌, Bool, ◌&&◌, int_le, List, length, IsTrue}
use Rattle.std.specs.List.{list_all}
use Rattle.pair_rows.specs.declared.values.UnitValues.{UnitValues}
use Rattle.pair_rows.specs.declared.values.PairValues.{PairValues}
use Rattle.pair_rows.specs.Pairs.{pair_count}
use Rattle.pair_rows.specs.Instance.{Instance, units_most, pairs_most}

-- whether the number is at least zero and at most the other one
abbrev pub is_up_to : ℤ → ℤ → Bool
is_up_to most z = int_le (pos 0) z && int_le z most

-- whether what the entry gives is in range
abbrev pub unit_fits : UnitValues → Bool
unit_fits u = is_up_to u.most u.if_no && is_up_to u.most u.if_yes

abbrev pub pair_fits : PairValues → Bool
pair_fits p = (is_up_to p.most p.no_no && is_up_to p.most p.no_yes) && (is_up_to p.most p.yes_no && is_up_to p.most p.yes_yes)

abbrev pub units_fit : List UnitValues → Bool
units_fit us = list_all unit_fits us

abbrev pub pairs_fit : List PairValues → Bool
pairs_fit ps = list_all pair_fits ps

-- at most 1024 variables, an entry for each two, all of them in range, and sums of at most 2^48 in size
pub record IsInstance (i : Instance) : Type 0 where
  pub variables : length i.units ≤ 1024
  pub whole : length i.pairs ≡ pair_count (length i.units)
  pub first_some : 1 ≤ i.first
  pub first_few : i.first ≤ 2
  pub units : IsTrue (units_fit i.units)
  pub pairs : IsTrue (pairs_fit i.pairs)
  pub low : neg_ℤ (pos (2 ^ 48)) ≤ℤ i.constant
  pub high : i.constant ≤ℤ pos (2 ^ 48)
  pub total : (units_most i.units +ℤ pairs_most i.pairs) ≤ℤ pos (2 ^ 48)

-- what the tests say

pub record UnitFits (u : UnitValues) : Type 0 where
  pub if_no : pos 0 ≤ℤ u.if_no
  pub if_yes : pos 0 ≤ℤ u.if_yes
  pub no_most : u.if_no ≤ℤ u.most
  pub yes_most : u.if_yes ≤ℤ u.most

pub record PairFits (p : PairValues) : Type 0 where
  pub no_no : pos 0 ≤ℤ p.no_no
  pub no_yes : pos 0 ≤ℤ p.no_yes
  pub yes_no : pos 0 ≤ℤ p.yes_no
  pub yes_yes : pos 0 ≤ℤ p.yes_yes
  pub no_no_most : p.no_no ≤ℤ p.most
  pub no_yes_most : p.no_yes ≤ℤ p.most
  pub yes_no_most : p.yes_no ≤ℤ p.most
  pub yes_yes_most : p.yes_yes ≤ℤ p.most
