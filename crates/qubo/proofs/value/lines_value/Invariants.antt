use Rattle.qubo.proofs.Passes.{Sums}
use Rattle.qubo.proofs.value.lines_value.Given as goal

abbrev pub invariant-loop-line : goal.invariant-loop-line
invariant-loop-line l = Sums l.decisions l.lines l.line-index l.total
