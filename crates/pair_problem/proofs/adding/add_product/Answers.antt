use Rattle.std.proofs.Common.{◌≡◌, pos, ◌+ℤ◌, to_z, of_z, w64, arith, ap, sym, ◌∙◌}
use Rattle.std.specs.Int.{int_min}
use Rattle.std.proofs.lemmas.Int.{ints, clamps}
use Rattle.pair_rows.specs.Shown.{instance_of}
use Rattle.pair_problem.specs.Adding.{unit_weight, pair_weight}
use Rattle.pair_problem.specs.Laws.Products.{heavier-kept, unit_weight-fits, pair_weight-fits, product-of_one, product-of_two}
use Rattle.pair_problem.proofs.adding.add_product.Goals as goal

pub add_unit-requires-clause-kept : goal.add_unit-requires-clause-kept
add_unit-requires-clause-kept c =
    let kept = c.requires.kept in
    let high = kept.high in
    let low = c.requires.low in
    let small = c.requires.small in
    let is = c.with_weight-list.ensures in
    let read : to_z w64 (of_z w64 c.with_weight-list.result) ≡ c.args.list.now.constant +ℤ int_min c.args.weight (pos 0) = omega (arith, ints, clamps) in
    rw read (heavier-kept (instance_of c.args.list.now) c.args.a c.args.b c.args.weight c.requires)

pub add_unit-requires-clause-fits : goal.add_unit-requires-clause-fits
add_unit-requires-clause-fits c = unit_weight-fits (to_z w64 (of_z w64 c.args.weight)) c.unit_weight.result c.unit_weight.ensures

pub add_pair-requires-clause-kept : goal.add_pair-requires-clause-kept
add_pair-requires-clause-kept c =
    let kept = c.requires.kept in
    let high = kept.high in
    let low = c.requires.low in
    let small = c.requires.small in
    let is = c.with_weight-list.ensures in
    let read : to_z w64 (of_z w64 c.with_weight-list.result) ≡ c.args.list.now.constant +ℤ int_min c.args.weight (pos 0) = omega (arith, ints, clamps) in
    rw read (heavier-kept (instance_of c.args.list.now) c.args.a c.args.b c.args.weight c.requires)

pub add_pair-requires-clause-fits : goal.add_pair-requires-clause-fits
add_pair-requires-clause-fits c = pair_weight-fits (to_z w64 (of_z w64 c.args.weight)) c.pair_weight.result c.pair_weight.ensures

pub returns-then-a-b : goal.returns-then-a-b
returns-then-a-b c =
    let kept = c.requires.kept in
    let high = kept.high in
    let low = c.requires.low in
    let small = c.requires.small in
    let is = c.with_weight-list.ensures in
    let read : to_z w64 (of_z w64 c.with_weight-list.result) ≡ c.args.list.now.constant +ℤ int_min c.args.weight (pos 0) = omega (arith, ints, clamps) in
    let weight : to_z w64 (of_z w64 c.args.weight) ≡ c.args.weight = omega (arith, ints, clamps) in
    let entry : c.unit_weight.result ≡ unit_weight c.args.weight = c.unit_weight.ensures ∙ ap unit_weight weight in
    (rw (read, entry) at c.add_unit.ensures) ∙ sym (product-of_one (instance_of c.args.list.now) c.args.a c.args.b c.args.weight c.if-a-b.true)

pub returns-else-a-b : goal.returns-else-a-b
returns-else-a-b c =
    let kept = c.requires.kept in
    let high = kept.high in
    let low = c.requires.low in
    let small = c.requires.small in
    let is = c.with_weight-list.ensures in
    let read : to_z w64 (of_z w64 c.with_weight-list.result) ≡ c.args.list.now.constant +ℤ int_min c.args.weight (pos 0) = omega (arith, ints, clamps) in
    let weight : to_z w64 (of_z w64 c.args.weight) ≡ c.args.weight = omega (arith, ints, clamps) in
    let entry : c.pair_weight.result ≡ pair_weight c.args.weight = c.pair_weight.ensures ∙ ap pair_weight weight in
    (rw (read, entry) at c.add_pair.ensures) ∙ sym (product-of_two (instance_of c.args.list.now) c.args.a c.args.b c.args.weight c.if-a-b.false)
