use Rattle.board_laws.proofs.Reading.{bound-holds}
use Rattle.board_laws.proofs.boards.no_solution_exceeds_the_bound.Goals as goal

pub returns : goal.returns
returns c = bound-holds
