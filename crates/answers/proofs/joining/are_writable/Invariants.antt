use Rattle.std.proofs.Common.{drop}
use Rattle.bound_cover.specs.Clamping.{AreWritable}
use Rattle.answers.proofs.joining.are_writable.Given as goal

abbrev pub invariant-loop-layer : goal.invariant-loop-layer
invariant-loop-layer l = AreWritable (drop l.layer l.cover) → AreWritable l.cover
