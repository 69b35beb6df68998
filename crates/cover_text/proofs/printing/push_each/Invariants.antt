use Rattle.std.proofs.Common.{◌≡◌, ◌++◌, drop}
use Rattle.std.specs.Prelude.{flat_map}
use Rattle.dp_model.specs.Lists.{Each}
use Rattle.cover_text.specs.Printed.{printed_number}
use Rattle.cover_text.specs.Written.{IsWord}
use Rattle.cover_text.proofs.printing.push_each.Given as goal

abbrev pub invariant-loop-word : goal.invariant-loop-word
invariant-loop-word l = (l.out.items ++ flat_map printed_number (drop l.word-index l.words) ≡ l.initial.out.items ++ flat_map printed_number l.words)
    × (Each IsWord (drop l.word-index l.words) → Each IsWord l.words)
