use Rattle.tsp_windows.specs.Laws.Program.{state_row-gives}
use Rattle.tsp_windows.proofs.parts.positions_of.Goals as goal

pub returns-clause-set : goal.returns-clause-set
returns-clause-set c = rw c.words_for.ensures (state_row-gives c.args.nodes c.args.s.now c.requires.state).positions
