use Rattle.std.proofs.Common.{◌≡◌, ◌-◌, ◌++◌, []}
use Rattle.std.specs.Prelude.{replicate}
use Rattle.cover_join.proofs.adding.push_empty.Given as goal

abbrev pub invariant-loop : goal.invariant-loop
invariant-loop l = l.cover ++ replicate (l.count - l.counter) [] ≡ l.initial.cover ++ replicate l.count []
