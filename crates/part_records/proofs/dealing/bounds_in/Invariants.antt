use Rattle.std.proofs.Common.{◌≡◌, map, take}
use Rattle.journal_bytes.specs.Views.{listed_view}
use Rattle.part_records.specs.Parts.{bounds_in}
use Rattle.part_records.proofs.dealing.bounds_in.Given as goal

abbrev pub invariant-loop-one : goal.invariant-loop-one
invariant-loop-one l = l.bounds.items ≡ bounds_in (map listed_view (take l.one-index l.listed))
