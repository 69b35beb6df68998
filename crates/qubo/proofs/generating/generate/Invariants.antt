use Rattle.qubo.proofs.DrawnLines.{AreDrawn}
use Rattle.qubo.proofs.generating.generate.Given as goal

-- this many lines are drawn so far
abbrev pub invariant-loop : goal.invariant-loop
invariant-loop l = AreDrawn l.n l.seed l.counter l.draws l.lines.items
