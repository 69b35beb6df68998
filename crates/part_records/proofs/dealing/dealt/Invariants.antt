use Rattle.std.proofs.Common.{◌≡◌, ◌+◌, ◌++◌, length, map}
use Rattle.std.specs.Vec.Iter.{into_iter_items}
use Rattle.board_laws.specs.Starts.{chosen}
use Rattle.frontier_parts.specs.Dealing.{is_dealt}
use Rattle.journal_bytes.specs.Views.{listed_view}
use Rattle.part_records.proofs.dealing.dealt.Given as goal

abbrev pub invariant-loop-one : goal.invariant-loop-one
invariant-loop-one l = record {
  chosen : map listed_view l.part.items ++ chosen (is_dealt l.bounds l.of l.index) l.place (map listed_view (into_iter_items l.one-iterator)) ≡ chosen (is_dealt l.bounds l.of l.index) 0 (map listed_view l.fn.listed.items);
  left : l.place + length (into_iter_items l.one-iterator) ≡ length l.bounds;
}
