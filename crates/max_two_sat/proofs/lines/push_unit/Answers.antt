use Rattle.std.proofs.Common.{w64, rules}
use Rattle.std.proofs.lemmas.Int.{to_z-of_z}
use mir.Val.{SFits}
use Rattle.max_two_sat.proofs.PrintedLines.{two-printed}
use Rattle.max_two_sat.proofs.lines.push_unit.Goals as goal

pub returns : goal.returns
returns c =
    let fits : SFits w64 c.args.unit.positive = search rules in
    let fits_too : SFits w64 c.args.unit.negative = search rules in
    two-printed c.args.out.now.items c.push_clause.new.out.items c.push_clause-2.new.out.items _ _
    (rw (to_z-of_z w64 c.args.unit.positive fits) at c.in_ok-push_clause.ensures) (rw (to_z-of_z w64 c.args.unit.negative fits_too) at c.in_ok-push_clause-2.ensures)
