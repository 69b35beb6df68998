use Rattle.std.proofs.Common.{◌≡◌, length, refl, sym, subst}
use Rattle.std.proofs.lemmas.List.{get_or_read_under}
use Rattle.layer_candidates.specs.declared.way.Way.{Way}
use Rattle.layer_candidates.specs.Ways.{way_at}
use Rattle.row_region.specs.Region.{IsLive}
use Rattle.layer_candidates.proofs.HeldRows.{way-each}
use Rattle.layer_candidates.proofs.table.WayTable.is_at.Goals as goal

pub live_cells_of-requires-clause-row : goal.live_cells_of-requires-clause-row
live_cells_of-requires-clause-row c =
    let a = c.args in
    let is : c.index-then-index-hash.result.now ≡ way_at a.self.now.ways.items a.place = get_or_read_under a.self.now.ways.items a.place (length a.self.now.ways.items) c.index-then-index-hash.result.now _ c.index-then-index-hash.ensures c.requires.way refl in
    subst (λ (w : Way). IsLive a.region.now w.row) (sym is) (way-each (IsLive a.region.now) a.self.now.ways.items a.place c.requires.held c.requires.way)
