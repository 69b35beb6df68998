use Rattle.std.proofs.Common.{◌≡◌, ◌*◌, ◌++◌, drop}
use Rattle.std.specs.Prelude.{flat_map}
use Rattle.dp_model.specs.Lists.{Each}
use Rattle.cover_text.specs.Printed.{printed_number}
use Rattle.cover_text.specs.Written.{IsWord}
use Rattle.cover_text.proofs.printing.push_zeros.Given as goal

abbrev pub invariant-eights : goal.invariant-eights
invariant-eights l = (l.out.items ++ flat_map printed_number (drop (8 * l.block) l.words) ≡ l.fn.out.items ++ flat_map printed_number l.words)
    × (Each IsWord (drop (8 * l.block) l.words) → Each IsWord l.words)
