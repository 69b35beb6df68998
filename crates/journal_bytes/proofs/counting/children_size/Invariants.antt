use Rattle.std.proofs.Common.{map, sum_by, take}
use Rattle.journal_bytes.specs.Sizes.{IsCount}
use Rattle.journal_bytes.specs.Spelling.{child_size}
use Rattle.journal_bytes.specs.Views.{child_view}
use Rattle.journal_bytes.proofs.counting.children_size.Given as goal

abbrev pub invariant-loop-child : goal.invariant-loop-child
invariant-loop-child l = IsCount (sum_by child_size (map child_view (take l.child-index l.children))) l.size
