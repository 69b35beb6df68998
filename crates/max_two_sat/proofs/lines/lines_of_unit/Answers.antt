use Rattle.std.proofs.Common.{w64, rules, refl}
use Rattle.std.proofs.lemmas.Int.{to_z-of_z}
use mir.Val.{SFits}
use Rattle.max_two_sat.proofs.lines.lines_of_unit.Goals as goal

pub returns : goal.returns
returns c =
    let fits : SFits w64 c.args.unit.positive = search rules in
    let fits_too : SFits w64 c.args.unit.negative = search rules in
    let positive = to_z-of_z w64 c.args.unit.positive fits in
    let negative = to_z-of_z w64 c.args.unit.negative fits_too in
    rw (c.weighs.ensures.lines, c.weighs-2.ensures.lines, positive, negative) refl
