use Rattle.knapsack.proofs.DrawnItems.{AreDrawn}
use Rattle.knapsack.proofs.generating.generate.Given as goal

-- this many items are drawn so far
abbrev pub invariant-loop : goal.invariant-loop
invariant-loop l = AreDrawn l.seed l.counter l.draws l.items.items l.weight
