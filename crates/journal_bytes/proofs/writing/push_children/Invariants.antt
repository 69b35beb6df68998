use Rattle.std.proofs.Common.{◌≡◌, ◌++◌, map, take}
use Rattle.std.specs.Prelude.{All}
use Rattle.std.specs.List.{flat_map}
use Rattle.journal_bytes.specs.Spelling.{child_bytes, ChildFits}
use Rattle.journal_bytes.specs.Views.{child_view}
use Rattle.journal_bytes.proofs.writing.push_children.Given as goal

abbrev pub invariant-loop-one : goal.invariant-loop-one
invariant-loop-one l = record {
  bytes : l.body.items ≡ l.initial.body.items ++ flat_map child_bytes (map child_view (take l.one-index l.children));
  fits : All (λ c. ChildFits (child_view c)) (take l.one-index l.children);
}
