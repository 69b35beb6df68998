use Rattle.max_two_sat.specs.Drafted.{gathered_in}
use Rattle.max_two_sat.proofs.DrawnClauses.{AreDrawn}
use Rattle.max_two_sat.proofs.generating.generate.Given as goal

-- this many clauses are drawn so far
abbrev pub invariant-loop : goal.invariant-loop
invariant-loop l = AreDrawn l.n l.seed l.counter l.draws (gathered_in l.draft)
