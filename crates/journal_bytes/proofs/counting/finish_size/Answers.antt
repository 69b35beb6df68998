use Rattle.std.proofs.Common.{map, refl, sum_by}
use Rattle.journal_bytes.specs.Spelling.{child_size}
use Rattle.journal_bytes.specs.Views.{child_view}
use Rattle.journal_bytes.proofs.counting.finish_size.Goals as goal

pub returns : goal.returns
returns c = c.plus.ensures 12 (sum_by child_size (map child_view c.args.children.now)) refl c.children_size.ensures
