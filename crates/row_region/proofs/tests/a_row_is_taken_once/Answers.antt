use Rattle.std.proofs.Common.{subst, sym}
use Rattle.row_region.specs.Region.{RegionView, IsLive}
use Rattle.row_region.proofs.Callers.{taken_live}
use Rattle.row_region.proofs.tests.a_row_is_taken_once.Goals as goal

pub row-requires : goal.row-requires
row-requires g c = subst (λ (r : RegionView). IsLive r c.in-Some.first.place) (sym c.in-None.ensures.same) (taken_live _ _ c.in-Some.first.place c.in-Some.ensures.taken)

pub row-requires-3 : goal.row-requires-3
row-requires-3 g c = taken_live _ _ c.in-Some-take.again.place c.in-Some-take.ensures.taken
