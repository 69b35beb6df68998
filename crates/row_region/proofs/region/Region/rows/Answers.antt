use Rattle.std.proofs.Common.{length, sym, ap, arith, ◌∙◌}
use Rattle.row_region.specs.Region.{RegionView}
use Rattle.row_region.proofs.Live.{length-places}
use Rattle.row_region.proofs.region.Region.rows.Goals as goal

pub returns-clause-rows : goal.returns-clause-rows
returns-clause-rows c =
    let i = c.self.inside in
    sym (length-places i.cells.items i.words i.count i.free.fresh i.free.first i.free.given (let h = c.self.invariant.0.within in let e = c.self.invariant.0.enough in omega arith)) ∙ ap (λ (v : RegionView). length v.rows) c.self.view_is
