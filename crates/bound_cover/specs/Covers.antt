-- Covers: for each layer a list of rows.
use Rattle.std.specs.Prelude.{ℤ, List, Option}
use Rattle.bound_cover.specs.declared.cover.CoverArc.{CoverArc}

-- a row: no continuation of its state gains more than the bound, and none claims that there is no continuation; a row
-- without an arc part is a rough row
pub record CoverRow : Type 0 where
  pub bound : Option ℤ
  pub words : List ℤ
  pub arcs : Option (List CoverArc)
