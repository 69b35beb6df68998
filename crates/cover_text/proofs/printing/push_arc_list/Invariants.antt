use Rattle.std.proofs.Common.{◌≡◌, ◌++◌, drop}
use Rattle.std.specs.Prelude.{flat_map}
use Rattle.dp_model.specs.Lists.{Each}
use Rattle.cover_text.specs.Printed.{printed_arc}
use Rattle.cover_text.specs.Written.{IsArc}
use Rattle.cover_text.proofs.printing.push_arc_list.Given as goal

abbrev pub invariant-loop-arc : goal.invariant-loop-arc
invariant-loop-arc l = (l.out.items ++ flat_map printed_arc (drop l.arc-index l.arcs) ≡ l.initial.out.items ++ flat_map printed_arc l.arcs)
    × (Each IsArc (drop l.arc-index l.arcs) → Each IsArc l.arcs)
