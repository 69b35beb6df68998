-- The numbers by which the laws of a table are printed.
use Rattle.std.specs.Prelude.{ℕ}
use Rattle.table_refusal.specs.declared.failure.Law.{Law}
use Rattle.table_refusal.specs.declared.failure.Law.TheVariants.{GapIsSound, OwnGapIsZero, MergeCovers, RoughBounds, GapsAddUp}

abbrev pub number_of : Law → ℕ
number_of GapIsSound = 2
number_of OwnGapIsZero = 3
number_of MergeCovers = 4
number_of RoughBounds = 5
number_of GapsAddUp = 7
