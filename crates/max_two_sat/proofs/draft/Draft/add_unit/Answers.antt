use Rattle.std.proofs.Common.{arith, subst, sym, ◌≤ℤ◌}
use Rattle.std.proofs.lemmas.Int.{ints}
use Rattle.max_two_sat.specs.declared.weights.UnitWeights.{UnitWeights}
use Rattle.max_two_sat.specs.Drafted.{instance_gathered}
use Rattle.max_two_sat.specs.Instance.{unit_total, units_total}
use Rattle.max_two_sat.specs.Limits.{UnitIsPositive}
use Rattle.max_two_sat.proofs.Entries.{unit-at, unit_total-at}
use Rattle.max_two_sat.proofs.Gathering.{room-leaves}
use Rattle.max_two_sat.proofs.draft.Draft.add_unit.Goals as goal

pub unit_with-requires-clause-positive : goal.unit_with-requires-clause-positive
unit_with-requires-clause-positive c =
    subst (λ (u : UnitWeights). UnitIsPositive u) (sym c.index.ensures) (unit-at c.args.self.now.units.items c.args.a.variable c.index.result.now c.requires.variable c.requires.room.units)

pub unit_with-requires-clause-room : goal.unit_with-requires-clause-room
unit_with-requires-clause-room c =
    let most : unit_total c.index.result.now ≤ℤ units_total c.args.self.now.units.items =
    subst (λ (u : UnitWeights). unit_total u ≤ℤ units_total c.args.self.now.units.items) (sym c.index.ensures)
    (unit_total-at c.args.self.now.units.items c.args.a.variable c.index.result.now c.requires.variable c.requires.room.units) in
    omega (arith, ints, (room-leaves (instance_gathered c.args.self.now) c.args.weight c.requires.room).units)
