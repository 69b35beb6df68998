use Rattle.pair_rows.proofs.Hashing.{cell-wraps}
use Rattle.pair_rows.proofs.hashes.with_cell.Goals as goal

pub returns : goal.returns
returns c = λ others is. cell-wraps others c.args.rest c.args.cell c.ranges.rest c.ranges.cell is
