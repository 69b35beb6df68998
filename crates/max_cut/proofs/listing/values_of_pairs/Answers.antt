use Rattle.std.proofs.Common.{arith, refl, pos, ap, ◌∙◌}
use Rattle.std.proofs.lemmas.Int.{ints}
use Rattle.benefit_rows.proofs.Steps.{read_at}
use Rattle.pair_rows.proofs.Mapped.{map-more, map-done}
use Rattle.max_cut.specs.Program.{pair_values}
use Rattle.max_cut.proofs.listing.values_of_pairs.Goals as goal

pub values_of_pair-requires : goal.values_of_pair-requires
values_of_pair-requires c = omega (arith, ints, (read_at c.args.weights.now c.loop-i.i c.loop-i-test.true (omega (arith, ints))).size)

pub loop-i-init : goal.loop-i-init
loop-i-init c = rw c.in_ok-values.ensures.items refl

pub loop-i-preserved : goal.loop-i-preserved
loop-i-preserved c =
    let at = (read_at c.args.weights.now c.loop-i.i c.loop-i-test.true (omega (arith, ints))).is in
    rw c.in_ok-push.ensures.items
    (map-more pair_values (pos 0) c.args.weights.now c.loop-i.i c.loop-i.values.items _ c.loop-i-test.true (c.values_of_pair.ensures ∙ ap pair_values at) c.loop-i.invariant)

pub returns : goal.returns
returns c = map-done pair_values c.args.weights.now c.loop-i.i c.loop-i.values.items c.loop-i-test.false c.loop-i.invariant
