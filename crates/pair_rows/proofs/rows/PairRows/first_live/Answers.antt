use Rattle.pair_rows.specs.Shown.{instance_in}
use Rattle.pair_rows.proofs.Layers.{none-before}
use Rattle.pair_rows.proofs.rows.PairRows.first_live.Goals as goal

pub returns-clause-zeros : goal.returns-clause-zeros
returns-clause-zeros c s state = let i = instance_in c.args.self.now in none-before i c.args.k s (state)
