use Rattle.std.proofs.Common.{◌≡◌, count_by, is_none, arith, subst}
use Rattle.row_region.specs.Region.{RegionView}
use Rattle.row_region.proofs.Chains.{spare_few}
use Rattle.row_region.proofs.Live.{places_count}
use Rattle.row_region.proofs.region.Region.spare.Goals as goal

pub overflow_sub-result : goal.overflow_sub-result
overflow_sub-result c = let h = c.self.invariant.0.within in let e = c.self.invariant.0.enough in omega arith

pub overflow_add-result : goal.overflow_add-result
overflow_add-result c =
    let few = spare_few _ _ _ _ _ c.self.invariant.0.chained in
    let within = c.self.invariant.0.within in
    let enough = c.self.invariant.0.enough in
    let most = c.self.invariant.0.few in
    omega arith

pub returns-clause-counts : goal.returns-clause-counts
returns-clause-counts c =
    let i = c.self.inside in
    subst (λ (v : RegionView). v.spare ≡ count_by is_none v.rows) c.self.view_is (places_count i.cells.items i.words i.count i.free.fresh i.free.first i.free.given c.self.invariant.0.chained)
