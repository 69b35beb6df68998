-- Variables and pairs to which more is added, entry by entry.
use Rattle.std.specs.Prelude.{ℕ, ◌+◌, ◌-◌, ◌==◌, ◌&&◌, ℤ, pos, ◌+ℤ◌, length, replicate, slice_index_or, slice_set, if◌then◌else◌}
use Rattle.std.specs.Int.{int_min}
use Rattle.benefit_rows.specs.Benefits.{above_zero, below_zero, size_of}
use Rattle.pair_rows.specs.declared.values.UnitValues.{UnitValues}
use Rattle.pair_rows.specs.declared.values.PairValues.{PairValues}
use Rattle.pair_rows.specs.Pairs.{entries_before, pair_count}
use Rattle.pair_rows.specs.Instance.{Instance, no_unit, no_pair}

-- what two entries give together
abbrev pub unit_sum : UnitValues → UnitValues → UnitValues
unit_sum u v = record { if_no = u.if_no +ℤ v.if_no; if_yes = u.if_yes +ℤ v.if_yes; most = u.most +ℤ v.most }

abbrev pub pair_sum : PairValues → PairValues → PairValues
pair_sum p q =
    record { no_no = p.no_no +ℤ q.no_no; no_yes = p.no_yes +ℤ q.no_yes; yes_no = p.yes_no +ℤ q.yes_no; yes_yes = p.yes_yes +ℤ q.yes_yes; most = p.most +ℤ q.most }

-- this many variables that give nothing
abbrev pub nothing_of : ℕ → Instance
nothing_of n = record { constant = pos 0; first = 2; units = replicate n no_unit; pairs = replicate (pair_count n) no_pair }

-- with what is given in any case
abbrev pub with_constant : Instance → ℤ → Instance
with_constant i z = record { constant = i.constant +ℤ z; first = i.first; units = i.units; pairs = i.pairs }

-- with what a variable gives
abbrev pub with_unit : Instance → ℕ → UnitValues → Instance
with_unit i a u = record { constant = i.constant; first = i.first; units = slice_set i.units a (unit_sum (slice_index_or i.units a no_unit) u); pairs = i.pairs }

-- where the entry of variables a < b stands
abbrev pub place_of : ℕ → ℕ → ℕ → ℕ
place_of n a b = entries_before n a + (b - (a + 1))

-- with what two variables a < b give
abbrev pub with_pair : Instance → ℕ → ℕ → PairValues → Instance
with_pair i a b p =
    let place = place_of (length i.units) a b in
    record { constant = i.constant; first = i.first; units = i.units; pairs = slice_set i.pairs place (pair_sum (slice_index_or i.pairs place no_pair) p) }

-- what a weight gives beyond its negative part, where it counts only with 1: of one variable, and of two
abbrev pub unit_weight : ℤ → UnitValues
unit_weight w = record { if_no = below_zero w; if_yes = above_zero w; most = size_of w }

abbrev pub pair_weight : ℤ → PairValues
pair_weight w = record { no_no = below_zero w; no_yes = below_zero w; yes_no = below_zero w; yes_yes = above_zero w; most = size_of w }

-- with a weight that counts where the variables a ≤ b are 1; where it is negative it is given in any case, and what it spares is given where it does not count
abbrev pub with_product : Instance → ℕ → ℕ → ℤ → Instance
with_product i a b w =
    let more = with_constant i (int_min w (pos 0)) in
    if a == b then with_unit more a (unit_weight w) else with_pair more a b (pair_weight w)

-- what it adds
abbrev pub product_value : ℕ → ℕ → ℤ → ℤ
product_value x y w = if x == 1 && y == 1 then w else pos 0
