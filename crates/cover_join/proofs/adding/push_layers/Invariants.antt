use Rattle.std.proofs.Common.{◌≡◌, ◌+◌, ◌-◌, ◌++◌}
use Rattle.cover_join.specs.Joined.{joined_layers}
use Rattle.cover_join.specs.Joining.{answers_in}
use Rattle.cover_join.proofs.adding.push_layers.Given as goal

abbrev pub invariant-loop-layer : goal.invariant-loop-layer
invariant-loop-layer l = l.cover ++ joined_layers (l.vars - l.layer) (l.layer + 1) (answers_in l.texts) ≡ l.initial.cover ++ joined_layers l.vars 1 (answers_in l.texts)
