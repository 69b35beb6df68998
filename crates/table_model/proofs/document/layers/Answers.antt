use Rattle.std.proofs.Common.{◌≡◌, ◌+◌, ◌≤◌, ℕ, List, ◌∷◌, length, Option, Some, sym, ap, ap₂, ◌∙◌, arith}
use Rattle.serde_json.specs.View.{view, items_view}
use Rattle.serde_json.specs.declared.value.Value.{Value}
use Rattle.table_model.specs.Document.{states_in, layer_of, states_after, layer_then, layers_from}
use Rattle.table_model.specs.Table.{LayerTable}
use Rattle.table_model.proofs.Layered.{onto, onto_more}
use Rattle.table_model.proofs.document.layers.Goals as goal

pub layers-preserved : goal.layers-preserved
layers-preserved c =
    let before = c.layers.layers.items in
    let k = c.layers.k in
    let value = view c.in-Some.value.now in
    let items = items_view c.in-Some.rest.now in
    let rest = layers_from (k + 1) items in
    let split : c.layers.left.now ≡ c.in-Some.value.now ∷ c.in-Some.rest.now = c.in-Some.ensures.cases.0 in
    let layer : layer_of (states_after items) (states_in value) value ≡ Some c.in-Some-2.layer =
    ap₂ (λ (a m : ℕ). layer_of a m value) (sym c.states_after.ensures) (sym c.states_in-states.ensures) ∙ sym c.in_ok-layer.ensures ∙ c.in-Some-2.is in
    let long : length c.layers.left.now ≡ length c.in-Some.rest.now + 1 = sym c.in-Some.ensures.cases.1 in
    let few = c.layers.invariant.few in
    record {
      all =
          c.layers.invariant.all
          ∙ ap (λ (vs : List Value). onto before (layers_from k (items_view vs))) split
          ∙ ap (λ (o : Option LayerTable). onto before (layer_then k o rest)) layer
          ∙ onto_more before k c.in-Some-2.layer rest
          ∙ ap (λ (ls : List LayerTable). onto ls rest) (sym c.in_ok-push.ensures.items);
      few = omega (arith, few, long);
    }
