use Rattle.std.proofs.Common.{◌≡◌, ◌++◌, drop}
use Rattle.dp_model.specs.Lists.{Each}
use Rattle.cover_text.specs.Printed.{printed_layers}
use Rattle.cover_text.specs.Written.{IsKeptLayer}
use Rattle.cover_text.proofs.printing.push_layers.Given as goal

abbrev pub invariant-loop-layer : goal.invariant-loop-layer
invariant-loop-layer l =
    (l.out.items ++ printed_layers l.layer (drop l.layer l.cover) ≡ l.initial.out.items ++ printed_layers 0 l.cover)
    × (Each IsKeptLayer (drop l.layer l.cover) → Each IsKeptLayer l.cover)
