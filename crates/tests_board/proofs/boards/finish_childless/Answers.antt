use Rattle.std.proofs.Common.{List, [], sym, subst}
use Rattle.dp_model.specs.Subproblem.{SubView}
use Rattle.board_laws.specs.Finishing.{MayFinish}
use Rattle.board.specs.Contents.{contents}
use Rattle.tests_board.proofs.Childless.{childless}
use Rattle.tests_board.proofs.boards.finish_childless.Goals as goal

pub finish-requires-clause-may : goal.finish-requires-clause-may
finish-requires-clause-may g c κs within =
    let dp = g.M.DpModel.meaning c.args.board.now.numbers in
    subst (λ (subs : List SubView). MayFinish dp c.args.board.now.board 0 _ (contents subs) []) (sym c.new-subs.ensures.items)
    (childless dp c.args.board.now.board 0 c.requires.full c.requires.closed c.facts.ensures.kept)
