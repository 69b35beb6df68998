-- What a region ends as after a row of it was lent.
use Rattle.std.specs.Prelude.{ℕ, ℤ, List}
use Rattle.std.specs.Borrow.{Lends, MutBor, Fml, Array, i64}
use Rattle.row_region.specs.Region.{RegionView, with_row}
use Rattle.row_region.specs.contracts.region.Region.{the_row}

-- the region ends with what was left in the row at the place
abbrev pub LendsRow : MutBor RegionView → ℕ → MutBor (List ℤ) → Fml
LendsRow r place row = Lends the_row (Array i64 0) r row (with_row r.now place)
