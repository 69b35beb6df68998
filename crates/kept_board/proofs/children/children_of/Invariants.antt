use Rattle.std.proofs.Common.{◌≡◌, ◌++◌, map}
use Rattle.std.specs.Iterator.Adapters.{zip_first, zip_second}
use Rattle.std.specs.Slice.Iter.{iter_rest}
use Rattle.journal_bytes.specs.Views.{child_view}
use Rattle.journal_replay.specs.Following.{recorded_children}
use Rattle.board.specs.Contents.{contents}
use Rattle.kept_board.proofs.children.children_of.Given as goal

abbrev pub invariant-loop-sub : goal.invariant-loop-sub
invariant-loop-sub l =
    map child_view l.children.items ++ recorded_children (contents (iter_rest (zip_first l.sub-iterator))) (iter_rest (zip_second l.sub-iterator)) ≡ recorded_children (contents l.subs) l.fates
