use Rattle.std.proofs.Common.{◌≡◌, ◌++◌, drop}
use Rattle.std.specs.Prelude.{flat_map}
use Rattle.dp_model.specs.Lists.{Each}
use Rattle.bound_cover.specs.Exploring.{layer_of}
use Rattle.cover_text.specs.Printed.{printed_row}
use Rattle.cover_text.specs.Written.{IsKeptRow}
use Rattle.cover_text.proofs.printing.push_rows.Given as goal

abbrev pub invariant-loop-row : goal.invariant-loop-row
invariant-loop-row l =
    (l.out.items ++ flat_map printed_row (drop l.row (layer_of l.cover l.layer)) ≡ l.initial.out.items ++ flat_map printed_row (layer_of l.cover l.layer))
    × (Each IsKeptRow (drop l.row (layer_of l.cover l.layer)) → Each IsKeptRow (layer_of l.cover l.layer))
