use Rattle.std.proofs.Common.{◌≡◌, ◌≤◌, ℕ, length, ◌∙◌, arith}
use Rattle.serde_json.specs.View.{items_view}
use Rattle.serde_json.proofs.Views.{items_len-items_view}
use Rattle.table_model.proofs.Layered.{are_read}
use Rattle.table_model.proofs.reading.table.Goals as goal

pub tested-requires-clause-some : goal.tested-requires-clause-some
tested-requires-clause-some c =
    let vs = c.in-Some.outline.layers.now in
    let many : length c.in_ok-layers.layers.items ≡ length vs = (are_read 0 (items_view c.in-Some.outline.layers.now) c.in_ok-layers.layers.items c.in_ok-layers.ensures.ok).many ∙ items_len-items_view vs in
    let some = c.in-Some.ensures.some in
    omega (arith, many, some)

pub tested-requires-clause-few : goal.tested-requires-clause-few
tested-requires-clause-few c =
    let vs = c.in-Some.outline.layers.now in
    let many : length c.in_ok-layers.layers.items ≡ length vs = (are_read 0 (items_view c.in-Some.outline.layers.now) c.in_ok-layers.layers.items c.in_ok-layers.ensures.ok).many ∙ items_len-items_view vs in
    let few = c.in-Some.ensures.few in
    omega (arith, many, few)

pub tested-requires-clause-layered : goal.tested-requires-clause-layered
tested-requires-clause-layered c = (are_read 0 (items_view c.in-Some.outline.layers.now) c.in_ok-layers.layers.items c.in_ok-layers.ensures.ok).within
