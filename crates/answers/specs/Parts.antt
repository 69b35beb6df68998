-- A problem or a part of it, as it is searched and checked.
use Rattle.std.specs.Prelude.{ℕ, ◌%◌, ℤ, nat_eq, cond, List, [], ◌∷◌, Option, Some, None}
use Rattle.dp_model.specs.Dp.{Dp}
use Rattle.parts.specs.Part.{part_program}
use Rattle.problem_names.specs.declared.part.PartNumber.{PartNumber}

-- a part in own words: those of the problem where there is no first decision, or where its remainder by `of` is `index`
abbrev pub part_own : ℕ → ℕ → (List ℕ → Option ℤ) → List ℕ → Option ℤ
part_own index of own [] = own []
part_own index of own (d ∷ x) = cond (nat_eq (d % of) index) (own (d ∷ x)) None

-- the program of the problem, or of the part of it that is meant
abbrev pub program_in : Option PartNumber → Dp → Dp
program_in None dp = dp
program_in (Some part) dp = part_program dp part.index part.of

-- and the own words
abbrev pub own_in : Option PartNumber → (List ℕ → Option ℤ) → List ℕ → Option ℤ
own_in None own = own
own_in (Some part) own = part_own part.index part.of own
