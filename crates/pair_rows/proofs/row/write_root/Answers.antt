use Rattle.std.proofs.Common.{arith, ◌≡◌, length, eqb-true, ◌∙◌, sym}
use Rattle.std.proofs.lemmas.Int.{ints}
use Rattle.pair_rows.specs.Instance.{no_unit}
use Rattle.pair_rows.specs.Laws.Rows.{words_of-some}
use Rattle.pair_rows.proofs.Cells.{unit-at, unit_most-at}
use Rattle.pair_rows.proofs.Writing.{root-written, root-done, root_of-none}
use Rattle.pair_rows.proofs.row.write_root.Goals as goal

pub unit_benefit-requires-clause-positive : goal.unit_benefit-requires-clause-positive
unit_benefit-requires-clause-positive c = unit-at c.args.units.now c.loop-i.i no_unit c.loop-i-test.true c.requires.positive

pub unit_benefit-requires-clause-weight : goal.unit_benefit-requires-clause-weight
unit_benefit-requires-clause-weight c = omega (arith, ints, unit_most-at c.args.units.now c.loop-i.i no_unit c.loop-i-test.true c.requires.positive)

pub returns-then-is_empty : goal.returns-then-is_empty
returns-then-is_empty c = root_of-none c.args.units.now c.args.out.now (eqb-true _ 0 (sym c.is_empty.ensures ∙ c.if-is_empty.true)) c.requires.cells

pub loop-i-preserved : goal.loop-i-preserved
loop-i-preserved c =
    let some : length c.loop-i.out ≡ length c.args.units.now = omega (arith, words_of-some (length c.args.units.now) c.loop-i.i c.loop-i-test.true, c.requires.cells) in
    root-written c.args.units.now c.loop-i.out _ c.loop-i.i c.unit_benefit.result c.loop-i-test.true some c.requires.positive c.requires.weight c.unit_benefit.ensures c.loop-i.invariant

pub returns : goal.returns
returns c = root-done c.args.units.now c.loop-i.out c.loop-i.i c.loop-i-test.false (sym c.is_empty.ensures ∙ c.if-is_empty.false) (c.loop-i.auto.out ∙ c.requires.cells) c.loop-i.invariant
