use Rattle.std.proofs.Common.{◌∙◌, w64, rules, arith}
use Rattle.std.proofs.lemmas.Int.{to_z-of_z}
use mir.Val.{SFits}
use Rattle.max_two_sat.proofs.Weighing.{left-both, left-first}
use Rattle.max_two_sat.proofs.value.unsatisfied.Goals as goal

pub returns-then-second-eq0 : goal.returns-then-second-eq0
returns-then-second-eq0 c =
    let fits : SFits w64 c.args.pair.both = search rules in
    to_z-of_z w64 c.args.pair.both fits ∙ left-both c.args.pair c.args.first c.args.second (omega arith) (omega arith)

pub returns-else-second-eq0 : goal.returns-else-second-eq0
returns-else-second-eq0 c =
    let fits : SFits w64 c.args.pair.first = search rules in
    to_z-of_z w64 c.args.pair.first fits ∙ left-first c.args.pair c.args.first c.args.second (omega arith) (λ e. omega arith)
