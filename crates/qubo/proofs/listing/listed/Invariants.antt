use Rattle.pair_rows.specs.Shown.{instance_of}
use Rattle.qubo.specs.Program.{rows_in}
use Rattle.qubo.proofs.Passes.{ListsSoFar}
use Rattle.qubo.proofs.listing.listed.Given as goal

abbrev pub invariant-loop-line : goal.invariant-loop-line
invariant-loop-line l = ListsSoFar l.variables l.lines l.line-index (instance_of l.list) (rows_in (record { variables = l.variables; lines = l.lines }))
