use Rattle.std.proofs.Common.{◌≡◌, ◌++◌, take}
use Rattle.solver_report.specs.Report.{spaced}
use Rattle.solver_report.proofs.report.push_spaced.Given as goal

abbrev pub invariant-loop-d : goal.invariant-loop-d
invariant-loop-d l = l.out.items ≡ l.fn.out.items ++ spaced (take l.d-index l.numbers)
