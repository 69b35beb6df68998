use Rattle.std.proofs.Common.{rules, ◌≡◌, ◌+◌, ◌*◌, ◌^◌, ◌<◌, ◌≤◌, ℕ, ℤ, pos, neg_ℤ, ◌≤ℤ◌, get_or, length, Some, w64, to_z, sym, ap, subst, ◌∙◌, arith}
use Rattle.std.proofs.lemmas.Int.{ints}
use Rattle.table_model.specs.Table.{layer_at, transition_at}
use Rattle.table_model.proofs.Along.{value_with, step_on, sum_back}
use Rattle.table_model.proofs.value.summed.Goals as goal

pub steps-preserved : goal.steps-preserved
steps-preserved c =
    let m = c.args.model.now in
    let ls = m.layers.items in
    let ds = c.args.decisions.now in
    let k = c.steps.k in
    let s = c.steps.state in
    let before = c.steps.invariant in
    let v = to_z w64 c.steps.value-bits in
    let taken = c.in_ok-taken.taken in
    let is : transition_at (layer_at ls k) s (get_or ds k 0) ≡ Some taken = sym c.in_ok-taken.ensures.is in
    let small = c.in_ok-taken.ensures.small in
    let below : k < length ds = search rules in
    let most : k + 1 ≤ 66 = search rules in
    let low = before.low in
    let high = before.high in
    let under = small.low in
    let over = small.high in
    let back = sum_back v taken.gain (k + 1) most low high small in
    record {
      all = before.all ∙ step_on ls v k s ds 0 taken below is ∙ ap (λ (x : ℤ). value_with ls x (k + 1) taken.next ds) (sym back);
      here = c.in_ok-taken.ensures.next;
      low = subst (λ (x : ℤ). neg_ℤ (pos ((k + 1 + 1) * 2 ^ 50)) ≤ℤ x) (sym back) (omega (arith, ints, low, under));
      high = subst (λ (x : ℤ). x ≤ℤ pos ((k + 1 + 1) * 2 ^ 50)) (sym back) (omega (arith, ints, high, over));
    }
