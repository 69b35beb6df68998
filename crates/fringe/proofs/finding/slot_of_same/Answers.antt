use Rattle.std.proofs.Common.{arith, sym, ◌∙◌}
use Rattle.fringe.proofs.Sames.{none_same}
use Rattle.fringe.proofs.finding.slot_of_same.Goals as goal

pub returns : goal.returns
returns c = none_same _ _ _ _ c.requires.entered (λ j l h. c.loop-at.invariant.none j (omega arith) l (h ∙ sym c.requires.fold))
