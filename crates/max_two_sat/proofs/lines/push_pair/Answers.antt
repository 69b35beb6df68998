use Rattle.std.proofs.Common.{w64, rules}
use Rattle.std.proofs.lemmas.Int.{to_z-of_z}
use mir.Val.{SFits}
use Rattle.max_two_sat.proofs.PrintedLines.{pair-printed}
use Rattle.max_two_sat.proofs.lines.push_pair.Goals as goal

pub returns : goal.returns
returns c =
    let fits_both : SFits w64 c.args.pair.both = search rules in
    let fits_first : SFits w64 c.args.pair.first = search rules in
    let fits_second : SFits w64 c.args.pair.second = search rules in
    let fits_neither : SFits w64 c.args.pair.neither = search rules in
    pair-printed c.args.i c.args.j c.args.pair c.args.out.now.items c.push_clause.new.out.items c.push_clause-2.new.out.items c.push_clause-3.new.out.items c.push_clause-4.new.out.items
    (rw (to_z-of_z w64 c.args.pair.both fits_both) at c.in_ok-push_clause.ensures) (rw (to_z-of_z w64 c.args.pair.first fits_first) at c.in_ok-push_clause-2.ensures)
    (rw (to_z-of_z w64 c.args.pair.second fits_second) at c.in_ok-push_clause-3.ensures) (rw (to_z-of_z w64 c.args.pair.neither fits_neither) at c.in_ok-push_clause-4.ensures)
