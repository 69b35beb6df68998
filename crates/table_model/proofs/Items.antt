-- A list of this many items.
use Rattle.std.proofs.Common.{◌≡◌, ℕ, List, length, Bool, cond, Option, Some, None, sym, ap, ◌∙◌}
use Rattle.serde_json.specs.Data.{Data, Items}
use Rattle.serde_json.specs.View.{items_view}
use Rattle.serde_json.specs.declared.value.Value.{Value}
use Rattle.serde_json.proofs.Views.{items_len-items_view}
use Rattle.std.specs.Prelude.{option_and_then}
use Rattle.table_model.specs.Document.{is_layer_count, items_within}

pub items_are : (o : Option Items) (vs : List Value) → Some (items_view vs) ≡ o → option_and_then items_within o ≡ cond (is_layer_count (length vs)) (Some (items_view vs)) None
items_are o vs e =
    ap (option_and_then items_within) (sym e)
    ∙ ap (λ (n : ℕ). let r : Option Items = cond (is_layer_count n) (Some (items_view vs)) None in r) (items_len-items_view vs)
