use Rattle.std.proofs.Common.{◌≡◌, drop}
use Rattle.dp_model.specs.Folds.{fold_of}
use Rattle.dp_model.proofs.folds.fold.Given as goal

-- the rest of the row, folded from here, gives the fold of the row
abbrev pub invariant-loop-cell : goal.invariant-loop-cell
invariant-loop-cell l = fold_of l.so_far (drop l.cell-index l.row) ≡ fold_of l.begun l.row
