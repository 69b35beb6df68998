-- A part of a problem: the first decisions with one remainder.
use Rattle.std.specs.Prelude.{ℕ, zero, suc, ◌%◌, ℤ, pos, unsigned_abs, Bool, ◌&&◌, nat_eq, cond, List, [], ◌∷◌, Option, Some, None}
use Rattle.dp_model.specs.Dp.{Dp}
use Rattle.dp_model.specs.Rows.{row_same}

-- at layer 0 the root alone is a state
abbrev pub state_in_part : Dp → ℕ → List ℤ → Bool
state_in_part dp zero s = row_same s dp.root
state_in_part dp (suc k) s = dp.is_state (suc k) s

-- at layer 0 a decision is allowed where the problem allows it and its remainder by `of` is `index`
abbrev pub allowed_in_part : Dp → ℕ → ℕ → ℕ → List ℤ → ℕ → Bool
allowed_in_part dp index of zero s d = dp.allowed zero s d && nat_eq (d % of) index
allowed_in_part dp index of (suc k) s d = dp.allowed (suc k) s d

-- at layer 0 a merge leaves the row as it is
abbrev pub merged_in_part : Dp → ℕ → List ℤ → List ℤ → List ℤ
merged_in_part dp zero a s = a
merged_in_part dp (suc k) a s = dp.merged (suc k) a s

-- at layer 0 a row covers itself alone
abbrev pub gap_in_part : Dp → ℕ → List ℤ → List ℤ → Option ℤ
gap_in_part dp zero a s = cond (row_same a s) (Some (pos 0)) None
gap_in_part dp (suc k) a s = dp.gap (suc k) a s

-- the part with the number `index` of `of` parts
abbrev pub part_program : Dp → ℕ → ℕ → Dp
part_program dp index of = record dp {
  is_state = state_in_part dp;
  allowed = allowed_in_part dp index of;
  merged = merged_in_part dp;
  gap = gap_in_part dp;
}

-- the part that a list of numbers spells: its number, the number of parts, and the numbers of the whole problem
abbrev pub part_of_numbers : (List ℤ → Dp) → List ℤ → Dp
part_of_numbers meaning [] = meaning []
part_of_numbers meaning (index ∷ []) = meaning []
part_of_numbers meaning (index ∷ (of ∷ numbers)) = part_program (meaning numbers) (unsigned_abs index) (unsigned_abs of)

-- the numbers that spell a part
abbrev pub part_numbers : ℕ → ℕ → List ℤ → List ℤ
part_numbers index of numbers = pos index ∷ (pos of ∷ numbers)
