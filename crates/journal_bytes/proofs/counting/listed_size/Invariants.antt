use Rattle.std.proofs.Common.{map, sum_by, take}
use Rattle.journal_bytes.specs.Sizes.{IsCount}
use Rattle.journal_bytes.specs.Spelling.{listed_size}
use Rattle.journal_bytes.specs.Views.{listed_view}
use Rattle.journal_bytes.proofs.counting.listed_size.Given as goal

abbrev pub invariant-loop-one : goal.invariant-loop-one
invariant-loop-one l = IsCount (sum_by listed_size (map listed_view (take l.one-index l.listed))) l.size
