use Rattle.max_cut.proofs.DrawnWeights.{AreDrawn}
use Rattle.max_cut.proofs.generating.generate.Given as goal

-- this many weights are drawn so far
abbrev pub invariant-loop : goal.invariant-loop
invariant-loop l = AreDrawn l.seed l.counter l.draws l.weights.items
