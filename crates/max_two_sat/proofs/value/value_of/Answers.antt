use Rattle.max_two_sat.specs.Shown.{instance_in}
use Rattle.max_two_sat.specs.Laws.Totals.{parts-small}
use Rattle.max_two_sat.proofs.Weighing.{assigned, own-none, value-none, ValueIs, value-is}
use Rattle.max_two_sat.proofs.value.value_of.Goals as goal

pub value_of_units-units_part-requires-clause-weight : goal.value_of_units-units_part-requires-clause-weight
value_of_units-units_part-requires-clause-weight c = rw c.as_slice-units.ensures.value (parts-small (instance_in c.args.model.now) c.args.model.now.kept).units

pub returns-then-not-is_assignment-clause-solution : goal.returns-then-not-is_assignment-clause-solution
returns-then-not-is_assignment-clause-solution c =
    value-none (instance_in c.args.model.now) c.args.decisions.now c.is_assignment.result c.args.model.now.kept (rw c.as_slice-units.ensures.value at c.is_assignment.ensures) c.if-not-is_assignment.true

pub returns-then-not-is_assignment-clause-own_words : goal.returns-then-not-is_assignment-clause-own_words
returns-then-not-is_assignment-clause-own_words c =
    own-none (instance_in c.args.model.now) c.args.decisions.now c.is_assignment.result (rw c.as_slice-units.ensures.value at c.is_assignment.ensures) c.if-not-is_assignment.true

pub value_of_units-units_part-requires-clause-lengths : goal.value_of_units-units_part-requires-clause-lengths
value_of_units-units_part-requires-clause-lengths c =
    rw c.as_slice-units.ensures.value
    (assigned (instance_in c.args.model.now) c.args.decisions.now c.is_assignment.result (rw c.as_slice-units.ensures.value at c.is_assignment.ensures) c.if-not-is_assignment.false)

pub value_of_units-units_part-requires-clause-positive : goal.value_of_units-units_part-requires-clause-positive
value_of_units-units_part-requires-clause-positive c = rw c.as_slice-units.ensures.value c.args.model.now.kept.units

pub value_of_pairs-pairs_part-requires-clause-few : goal.value_of_pairs-pairs_part-requires-clause-few
value_of_pairs-pairs_part-requires-clause-few c =
    rw (assigned (instance_in c.args.model.now) c.args.decisions.now c.is_assignment.result (rw c.as_slice-units.ensures.value at c.is_assignment.ensures) c.if-not-is_assignment.false)
    c.args.model.now.kept.variables

pub value_of_pairs-pairs_part-requires-clause-pairs : goal.value_of_pairs-pairs_part-requires-clause-pairs
value_of_pairs-pairs_part-requires-clause-pairs c =
    rw (c.as_slice.ensures.value, assigned (instance_in c.args.model.now) c.args.decisions.now c.is_assignment.result (rw c.as_slice-units.ensures.value at c.is_assignment.ensures) c.if-not-is_assignment.false)
    c.args.model.now.kept.whole

pub value_of_pairs-pairs_part-requires-clause-positive : goal.value_of_pairs-pairs_part-requires-clause-positive
value_of_pairs-pairs_part-requires-clause-positive c = rw c.as_slice.ensures.value c.args.model.now.kept.pairs

pub value_of_pairs-pairs_part-requires-clause-weight : goal.value_of_pairs-pairs_part-requires-clause-weight
value_of_pairs-pairs_part-requires-clause-weight c = rw c.as_slice.ensures.value (parts-small (instance_in c.args.model.now) c.args.model.now.kept).pairs

is : (c : goal.After-result-1) → ValueIs (instance_in c.args.model.now) c.args.decisions.now c.value_of_units-units_part.result c.value_of_pairs-pairs_part.result
is c =
    value-is (instance_in c.args.model.now) c.args.decisions.now c.is_assignment.result c.value_of_units-units_part.result c.value_of_pairs-pairs_part.result c.args.model.now.kept
    (rw c.as_slice-units.ensures.value at c.is_assignment.ensures) c.if-not-is_assignment.false
    (rw c.as_slice-units.ensures.value at c.value_of_units-units_part.ensures.value) (rw c.as_slice.ensures.value at c.value_of_pairs-pairs_part.ensures.value)

pub overflow_add-result : goal.overflow_add-result
overflow_add-result c = (is c).parts_fit

pub overflow_add-result-2 : goal.overflow_add-result-2
overflow_add-result-2 c = (is c).sum_fits

pub returns : goal.returns
returns c = let is = is c in record { own_words = rw is.read is.value; solution = rw is.read is.solution }
