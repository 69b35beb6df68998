use Rattle.std.proofs.Common.{◌∙◌, w64, rules, arith}
use Rattle.std.proofs.lemmas.Int.{to_z-of_z}
use mir.Val.{SFits}
use Rattle.max_two_sat.proofs.Weighing.{unit_value-false, unit_value-true}
use Rattle.max_two_sat.proofs.value.value_of_unit.Goals as goal

pub returns-then-value-eq0 : goal.returns-then-value-eq0
returns-then-value-eq0 c =
    let fits : SFits w64 c.args.unit.negative = search rules in
    to_z-of_z w64 c.args.unit.negative fits ∙ unit_value-false c.args.unit c.args.value (omega arith)

pub returns-else-value-eq0 : goal.returns-else-value-eq0
returns-else-value-eq0 c =
    let fits : SFits w64 c.args.unit.positive = search rules in
    to_z-of_z w64 c.args.unit.positive fits ∙ unit_value-true c.args.unit c.args.value (λ e. omega arith)
