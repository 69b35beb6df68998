use Rattle.std.proofs.Common.{rules}
use Rattle.fringe.proofs.Takings.{first_taken-is}
use Rattle.fringe.proofs.fringe.Fringe.pop_best.Goals as goal

pub returns-clause-first : goal.returns-clause-first
returns-clause-first c = first_taken-is c.args.self.now.open_ones _ (search rules)
