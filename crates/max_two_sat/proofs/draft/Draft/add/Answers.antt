use Rattle.std.proofs.Common.{◌≡◌, ℕ, ℤ, w64, arith, refl, ◌∙◌}
use Rattle.std.proofs.lemmas.Int.{to_z-of_z}
use Rattle.max_two_sat.specs.Clauses.{Gathered}
use Rattle.max_two_sat.specs.Instance.{Instance}
use Rattle.pair_rows.proofs.RunningSums.{words-add}
use Rattle.max_two_sat.proofs.draft.Draft.add.Goals as goal

abbrev gathered : Instance → ℤ → ℕ → Gathered
gathered i t n = record { instance = i; total = t; clauses = n }

same : (i j : Instance) (t u : ℤ) (m n : ℕ) → i ≡ j → t ≡ u → m ≡ n → gathered i t m ≡ gathered j u n
same i j t u m n instance total clauses = rw (instance, total, clauses) refl

pub overflow_add-self : goal.overflow_add-self
overflow_add-self c = (words-add c.args.self.now.total c.args.weight c.requires.low c.requires.room.low c.requires.total).fits

pub overflow_add-self-2 : goal.overflow_add-self-2
overflow_add-self-2 c = record { fits = omega (arith, c.requires.clauses) }

pub add_unit-requires-clause-room : goal.add_unit-requires-clause-room
add_unit-requires-clause-room c = rw (to_z-of_z w64 c.args.weight (record { sfits = c.ranges.weight.sfits })) c.requires.room

pub add_unit-requires-clause-variable : goal.add_unit-requires-clause-variable
add_unit-requires-clause-variable c = rw c.in-One.is at c.requires.variables

pub add_two-requires-clause-room : goal.add_two-requires-clause-room
add_two-requires-clause-room c = rw (to_z-of_z w64 c.args.weight (record { sfits = c.ranges.weight.sfits })) c.requires.room

pub add_two-requires-clause-first : goal.add_two-requires-clause-first
add_two-requires-clause-first c = (rw c.in-Two.is at c.requires.variables).0

pub add_two-requires-clause-second : goal.add_two-requires-clause-second
add_two-requires-clause-second c = (rw c.in-Two.is at c.requires.variables).1

pub returns-in-Empty : goal.returns-in-Empty
returns-in-Empty c = same _ _ _ _ _ _ (rw c.in-Empty.is refl) (words-add c.args.self.now.total c.args.weight c.requires.low c.requires.room.low c.requires.total).is refl

pub returns-in-One : goal.returns-in-One
returns-in-One c =
    let read = to_z-of_z w64 c.args.weight (record { sfits = c.ranges.weight.sfits }) in
    same _ _ _ _ _ _ (rw c.in-One.is (rw read at c.add_unit.ensures.instance))
    (c.add_unit.ensures.total ∙ (words-add c.args.self.now.total c.args.weight c.requires.low c.requires.room.low c.requires.total).is) c.add_unit.ensures.clauses

pub returns-in-Two : goal.returns-in-Two
returns-in-Two c =
    let read = to_z-of_z w64 c.args.weight (record { sfits = c.ranges.weight.sfits }) in
    same _ _ _ _ _ _ (rw c.in-Two.is (rw read at c.add_two.ensures.instance))
    (c.add_two.ensures.total ∙ (words-add c.args.self.now.total c.args.weight c.requires.low c.requires.room.low c.requires.total).is) c.add_two.ensures.clauses
