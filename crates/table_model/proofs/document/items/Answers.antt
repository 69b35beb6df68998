use Rattle.std.proofs.Common.{rules, ◌≡◌, Bool, cond, true, false, length, Option, Some, None, sym, ap, ◌∙◌, codes}
use Rattle.std.specs.Prelude.{option_and_then}
use Rattle.serde_json.specs.Data.{Items}
use Rattle.serde_json.specs.Find.{as_array, get}
use Rattle.serde_json.specs.View.{view, items_view}
use Rattle.table_model.specs.Document.{is_layer_count}
use Rattle.table_model.proofs.Items.{items_are}
use Rattle.table_model.proofs.document.items.Goals as goal

pub returns-then-is_layer_count-clause-are : goal.returns-then-is_layer_count-clause-are
returns-then-is_layer_count-clause-are c =
    let vs = c.in_ok-items.items.now.items in
    let e : Some (items_view vs) ≡ option_and_then as_array (get (codes "layers") (view c.args.value.now)) = search rules in
    let many : is_layer_count (length vs) ≡ true = search rules in
    sym (items_are _ vs e ∙ ap (λ (b : Bool). let r : Option Items = cond b (Some (items_view vs)) None in r) many)

pub returns-else-is_layer_count-clause-are : goal.returns-else-is_layer_count-clause-are
returns-else-is_layer_count-clause-are c =
    let vs = c.in_ok-items.items.now.items in
    let e : Some (items_view vs) ≡ option_and_then as_array (get (codes "layers") (view c.args.value.now)) = search rules in
    let many : is_layer_count (length vs) ≡ false = search rules in
    sym (items_are _ vs e ∙ ap (λ (b : Bool). let r : Option Items = cond b (Some (items_view vs)) None in r) many)
