use Rattle.std.proofs.Common.{drop}
use Rattle.bound_cover.specs.Exploring.{layer_of}
use Rattle.answers.proofs.Writable.{AreHeld}
use Rattle.answers.proofs.joining.is_layer_writable.Given as goal

abbrev pub invariant-loop-row : goal.invariant-loop-row
invariant-loop-row l = AreHeld (drop l.row (layer_of l.cover l.layer)) → AreHeld (layer_of l.cover l.layer)
