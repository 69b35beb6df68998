use Rattle.std.proofs.Common.{ap, ◌∙◌}
use Rattle.pair_rows.specs.Hashes.{hash_of}
use Rattle.pair_rows.proofs.Writing.{tail-is}
use Rattle.pair_rows.proofs.rows.PairRows.hash.Goals as goal

pub returns : goal.returns
returns c = c.hash_of.ensures ∙ ap hash_of (tail-is c.args.k c.args.s.now)
