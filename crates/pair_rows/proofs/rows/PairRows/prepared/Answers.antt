use Rattle.std.proofs.Common.{◌≡◌, ◌+ℤ◌, ap, refl, ◌∙◌}
use Rattle.pair_rows.specs.Program.{lesser_units}
use Rattle.pair_rows.specs.Shown.{instance_of}
use Rattle.pair_rows.proofs.Layers.{units-most, pairs-most, RootValueReads, root-value-reads}
use Rattle.pair_rows.proofs.rows.PairRows.prepared.Goals as goal

pub root_row-requires-clause-weight : goal.root_row-requires-clause-weight
root_row-requires-clause-weight c = rw c.as_slice-units.ensures.value (units-most (instance_of c.args.source.now) c.requires)

pub lesser_sum-requires-clause-weight : goal.lesser_sum-requires-clause-weight
lesser_sum-requires-clause-weight c = rw c.as_slice-units.ensures.value (units-most (instance_of c.args.source.now) c.requires)

reads : (c : goal.After-lesser_sum) → RootValueReads c.args.source.now.constant c.lesser_sum.result
reads c = root-value-reads (instance_of c.args.source.now) c.lesser_sum.result c.requires (rw c.as_slice-units.ensures.value at c.lesser_sum.ensures)

pub overflow_add-root_value : goal.overflow_add-root_value
overflow_add-root_value c = (reads c).fits

pub sums_from-requires-clause-weight : goal.sums_from-requires-clause-weight
sums_from-requires-clause-weight c = rw c.as_slice-pairs.ensures.value (pairs-most (instance_of c.args.source.now) c.requires)

pub of_decision-requires-clause-weight : goal.of_decision-requires-clause-weight
of_decision-requires-clause-weight c = rw c.as_slice-pairs.ensures.value (pairs-most (instance_of c.args.source.now) c.requires)

pub of_decision-requires-2-clause-weight : goal.of_decision-requires-2-clause-weight
of_decision-requires-2-clause-weight c = rw c.as_slice-pairs.ensures.value (pairs-most (instance_of c.args.source.now) c.requires)

pub invariant_of-result : goal.invariant_of-result
invariant_of-result c =
    let lesser : c.lesser_sum.result ≡ lesser_units c.args.source.now.units.items = rw c.as_slice-units.ensures.value at c.lesser_sum.ensures in
    record {
      kept = rw c.of.ensures c.requires;
      counted = rw (c.of.ensures, c.as_slice-units.ensures.value) refl;
      firsts = rw c.of.ensures refl;
      rooted = rw c.of.ensures (rw c.as_slice-units.ensures.value at c.in_ok-root.ensures);
      valued = rw c.of.ensures ((root-value-reads (instance_of c.args.source.now) c.lesser_sum.result c.requires lesser).is ∙ ap (λ z. c.args.source.now.constant +ℤ z) lesser);
      summed = rw c.of.ensures (rw (c.as_slice-units.ensures.value, c.as_slice-pairs.ensures.value) at c.in_ok-later.ensures);
      false_shifts = rw c.of.ensures (rw (c.as_slice-units.ensures.value, c.as_slice-pairs.ensures.value) at c.in_ok-on_false.ensures);
      true_shifts = rw c.of.ensures (rw (c.as_slice-units.ensures.value, c.as_slice-pairs.ensures.value) at c.in_ok-on_true.ensures);
      limited = rw c.of.ensures (rw (c.as_slice-units.ensures.value, c.as_slice-pairs.ensures.value) at c.in_ok-limits.ensures);
    }
