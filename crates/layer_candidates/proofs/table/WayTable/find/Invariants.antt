use Rattle.std.proofs.Common.{length}
use Rattle.layer_candidates.specs.Table.{IsSearched}
use Rattle.layer_candidates.specs.Ways.{way_row}
use Rattle.layer_candidates.proofs.table.WayTable.find.Given as goal

abbrev pub invariant-chain : goal.invariant-chain
invariant-chain l = IsSearched (way_row l.region l.self.ways.items) l.self.live (length l.self.ways.items) l.new l.hash l.self.hashes.items (length l.self.heads.items) l.i

abbrev pub decreases-chain : goal.decreases-chain
decreases-chain l = l.i
