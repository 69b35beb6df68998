use Rattle.std.proofs.Common.{length, arith, refl}
use Rattle.pair_rows.specs.Pairs.{row_at, rows_of}
use Rattle.pair_rows.specs.Program.{words_of}
use Rattle.pair_rows.specs.Shown.{instance_in}
use Rattle.pair_rows.proofs.Layers.{row-has}
use Rattle.pair_rows.proofs.Shifting.{stakes-at, stakes-length, stakes-read}
use Rattle.pair_rows.proofs.rows.PairRows.stakes.Goals as goal

pub returns : goal.returns
returns c =
    let m = c.args.self.now in
    let row = row_at (rows_of (length (instance_in m).units) (instance_in m).pairs) c.args.k in
    let has = row-has (instance_in m) c.args.k (words_of (length (instance_in m).units)) m.kept c.requires.variable refl in
    let at = stakes-at c.args.d (length (instance_in m).units) c.args.k (instance_in m).pairs c.of_decision.result.now.stakes.items c.index.result.now c.requires.variable c.of_decision.ensures.stakes_are c.index.ensures in
    stakes-read c.args.d row c.index.result.now has.positive has.weight at

pub index-requires : goal.index-requires
index-requires c = omega (arith, c.requires.variable, stakes-length c.args.d (length (instance_in c.args.self.now).units) (instance_in c.args.self.now).pairs c.of_decision.result.now.stakes.items c.of_decision.ensures.stakes_are)
