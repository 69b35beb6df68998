use Rattle.cover_join.proofs.Faultless.{told_long, told_accepted}
use Rattle.cover_join.proofs.joining.join_checked.Goals as goal

pub joined_cover-requires-clause-parts : goal.joined_cover-requires-clause-parts
joined_cover-requires-clause-parts g c κs within =
    told_long (g.M.DpModel.meaning (g.M.DpModel.numbers c.args.model.now)) c.args.first.now c.args.parts.now c.parts_told.result c.parts_told.ensures c.requires.none

pub joined_cover-requires-clause-accepted : goal.joined_cover-requires-clause-accepted
joined_cover-requires-clause-accepted g c κs within =
    told_accepted (g.M.DpModel.meaning (g.M.DpModel.numbers c.args.model.now)) c.args.first.now c.args.parts.now c.parts_told.result c.parts_told.ensures c.requires.none
