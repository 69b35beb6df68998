use Rattle.std.proofs.Common.{◌+◌, map, option_map, refl, sum_by}
use Rattle.journal_bytes.specs.Spelling.{best_size, listed_size}
use Rattle.journal_bytes.specs.Views.{incumbent_view, listed_view}
use Rattle.journal_bytes.proofs.counting.snapshot_size.Goals as goal

pub returns : goal.returns
returns c =
    let listed = sum_by listed_size (map listed_view c.args.listed.now) in
    c.plus-2.ensures (best_size (option_map incumbent_view c.args.incumbent.now)) (12 + listed) c.best_size.ensures (c.plus.ensures 12 listed refl c.listed_size.ensures)
