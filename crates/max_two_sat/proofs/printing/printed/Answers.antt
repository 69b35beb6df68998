use Rattle.std.proofs.Common.{arith, ◌≡◌, to_z, of_z, w64}
use Rattle.std.proofs.lemmas.Int.{ints}
use Rattle.max_two_sat.specs.Instance.{Instance}
use Rattle.max_two_sat.specs.Shown.{instance_in}
use Rattle.max_two_sat.specs.Laws.Totals.{units_total-positive, pairs_total-positive}
use Rattle.max_two_sat.proofs.PrintedLines.{text-printed}
use Rattle.max_two_sat.proofs.printing.printed.Goals as goal

pub returns : goal.returns
returns c =
    let i : Instance = instance_in c.args.model.now in
    let read : to_z w64 (of_z w64 c.args.model.now.tautologies) ≡ c.args.model.now.tautologies =
    omega (arith, ints, c.args.model.now.kept.total, c.args.model.now.kept.tautologies, units_total-positive i.units c.args.model.now.kept.units, pairs_total-positive i.pairs c.args.model.now.kept.pairs) in
    text-printed i c.new-out.result.items c.push_first_line.new.out.items c.push_clause.new.out.items c.push_units.new.out.items c.push_rows.new.out.items c.new-out.ensures.items
    c.in_ok-push_first_line.ensures (rw read at c.in_ok-push_clause.ensures) (rw c.as_slice.ensures.value at c.in_ok-push_units.ensures) c.in_ok-push_rows.ensures
