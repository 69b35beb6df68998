use Rattle.std.proofs.Common.{◌≡◌, ◌++◌, map, take}
use Rattle.std.specs.Prelude.{All}
use Rattle.std.specs.List.{flat_map}
use Rattle.journal_bytes.specs.Spelling.{listed_bytes, ListedFits}
use Rattle.journal_bytes.specs.Views.{listed_view}
use Rattle.journal_bytes.proofs.writing.push_all_listed.Given as goal

abbrev pub invariant-loop-one : goal.invariant-loop-one
invariant-loop-one l = record {
  bytes : l.body.items ≡ l.initial.body.items ++ flat_map listed_bytes (map listed_view (take l.one-index l.listed));
  fits : All (λ c. ListedFits (listed_view c)) (take l.one-index l.listed);
}
