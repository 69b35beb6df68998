-- Which part of a problem is meant.
use Rattle.std.specs.Prelude.{◌<◌, ◌≤◌, Option, Some, None}
use Rattle.problem_names.specs.declared.part.PartNumber.{PartNumber}
use Rattle.problem_names.specs.declared.part.TheConstants.{MOST_PARTS}

-- the number of a part is below the number of parts, which is at most the greatest
pub record IsPart (part : PartNumber) : Type 0 where
  pub index : part.index < part.of
  pub few : part.of ≤ MOST_PARTS

-- a part is meant, or the whole problem
abbrev pub MayBePart : Option PartNumber → Type 0
MayBePart None = Unit {0}
MayBePart (Some part) = IsPart part
