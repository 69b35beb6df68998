use Rattle.std.proofs.Common.{w64, rules, refl}
use Rattle.std.proofs.lemmas.Int.{to_z-of_z}
use mir.Val.{SFits}
use Rattle.max_two_sat.proofs.lines.lines_of_pair.Goals as goal

pub returns : goal.returns
returns c =
    let fits_both : SFits w64 c.args.pair.both = search rules in
    let fits_first : SFits w64 c.args.pair.first = search rules in
    let fits_second : SFits w64 c.args.pair.second = search rules in
    let fits_neither : SFits w64 c.args.pair.neither = search rules in
    rw (
      c.weighs.ensures.lines,
      c.weighs-2.ensures.lines,
      c.weighs-3.ensures.lines,
      c.weighs-4.ensures.lines,
      to_z-of_z w64 c.args.pair.both fits_both,
      to_z-of_z w64 c.args.pair.first fits_first,
      to_z-of_z w64 c.args.pair.second fits_second,
      to_z-of_z w64 c.args.pair.neither fits_neither,
    ) refl
