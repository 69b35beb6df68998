use Rattle.one_machine.proofs.Drawn.{AreDrawn}
use Rattle.one_machine.proofs.generating.generate.Given as goal

-- this many jobs are drawn so far
abbrev pub invariant-loop : goal.invariant-loop
invariant-loop l = AreDrawn l.n l.seed l.counter l.draws l.jobs.items
