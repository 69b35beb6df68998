use Rattle.bound_cover.proofs.InTurn.{concluded-is}
use Rattle.bound_cover.proofs.theory.layers_in_turn_are_checked.Goals as goal

pub returns : goal.returns
returns c = concluded-is
