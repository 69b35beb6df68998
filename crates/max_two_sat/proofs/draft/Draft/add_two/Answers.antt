use Rattle.std.proofs.Common.{arith, ◌≡◌, ◌∙◌, sym, to_z, of_z, w64, ◌+ℤ◌}
use Rattle.std.proofs.lemmas.Int.{ints}
use Rattle.max_two_sat.specs.Clauses.{same_sign}
use Rattle.max_two_sat.specs.Drafted.{instance_gathered}
use Rattle.max_two_sat.proofs.Gathering.{room-leaves, two-opposite}
use Rattle.max_two_sat.proofs.draft.Draft.add_two.Goals as goal

pub overflow_add-self : goal.overflow_add-self
overflow_add-self c =
    let leaves = room-leaves (instance_gathered c.args.self.now) c.args.weight c.requires.room in
    omega (arith, ints)

pub returns-else-has_same_sign-clause-instance : goal.returns-else-has_same_sign-clause-instance
returns-else-has_same_sign-clause-instance c =
    let leaves = room-leaves (instance_gathered c.args.self.now) c.args.weight c.requires.room in
    let read : to_z w64 (of_z w64 (to_z w64 (of_z w64 c.args.self.now.tautologies) +ℤ to_z w64 (of_z w64 c.args.weight))) ≡ c.args.self.now.tautologies +ℤ c.args.weight = omega (arith, ints) in
    let opposite : same_sign c.args.a.positive c.args.b.positive ≡ _ = sym c.has_same_sign.ensures ∙ c.if-has_same_sign.false in
    rw read (sym (two-opposite (instance_gathered c.args.self.now) c.args.weight c.args.a c.args.b c.if-a-b.true opposite))
