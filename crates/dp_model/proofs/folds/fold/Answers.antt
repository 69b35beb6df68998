use Rattle.std.proofs.Common.{sym, ◌∙◌}
use Rattle.dp_model.proofs.FoldSteps.{fold_more, fold_end}
use Rattle.dp_model.proofs.folds.fold.Goals as goal

pub loop-cell-preserved : goal.loop-cell-preserved
loop-cell-preserved c = rw c.folded-so_far.ensures (fold_more c.loop-cell.so_far c.args.row.now c.loop-cell.cell-index c.loop-cell-test.true ∙ c.loop-cell.invariant)

pub returns : goal.returns
returns c =
    rw c.rotate_left.ensures (rw c.spread.ensures
    (sym (fold_end c.loop-cell.so_far c.args.row.now c.loop-cell.cell-index c.loop-cell-test.false) ∙ c.loop-cell.invariant))
