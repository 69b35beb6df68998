use Rattle.layer_build.proofs.Rooms.{AreEnoughTo}
use Rattle.layer_build.proofs.preparing.room_for.Given as goal

abbrev pub invariant-layers : goal.invariant-layers
invariant-layers g l = AreEnoughTo (g.M.DpModel.meaning (g.M.DpModel.numbers l.model)) l.width l.k l.room l.before
