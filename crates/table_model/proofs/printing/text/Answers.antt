use Rattle.std.proofs.Common.{rules, ◌≡◌, ◌≤◌, ℕ, Bool, false, List, [], ◌∷◌, ◌++◌, cond, Option, Some, None, sym, ap, subst, ◌∙◌}
use Rattle.std.specs.Prelude.{string_bytes}
use Rattle.std.proofs.lemmas.Str.{IsUtf8-string_bytes, is_utf8-from_IsUtf8}
use Rattle.serde_json.specs.Data.{Data, depth}
use Rattle.serde_json.specs.Read.{read}
use Rattle.serde_json.specs.Written.{compact_text, has_float}
use Rattle.table_model.specs.Shown.{table_shown}
use Rattle.table_model.proofs.Trailing.{same_reading}
use Rattle.table_model.proofs.Trees.{tree_flat, tree_whole}
use Rattle.table_model.proofs.printing.text.Goals as goal

pub returns-clause-text : goal.returns-clause-text
returns-clause-text c =
    let s : List ℕ = string_bytes c.in_ok-text.text in
    let t = table_shown c.args.model.now in
    let made = c.in_ok-tree.ensures in
    let compact = c.in_ok-text.ensures.text (subst (λ (d : Data). has_float d ≡ false) (sym made) (tree_whole t)) in
    c.in_ok-push_str.ensures.bytes ∙ ap (λ (l : List ℕ). l ++ 10 ∷ []) (compact ∙ ap compact_text made)

pub returns-clause-reads_back : goal.returns-clause-reads_back
returns-clause-reads_back c =
    let s : List ℕ = string_bytes c.in_ok-text.text in
    let t = table_shown c.args.model.now in
    let made = c.in_ok-tree.ensures in
    let back = c.in_ok-text.ensures.reads_back (subst (λ (d : Data). depth d ≤ 127) (sym made) (tree_flat t)) in
    let whole : List ℕ = string_bytes c.push_str.new.self in
    let ended : whole ≡ s ++ 10 ∷ [] = c.in_ok-push_str.ensures.bytes in
    ap (λ (b : Bool). cond b (read whole) None) (is_utf8-from_IsUtf8 whole (IsUtf8-string_bytes c.push_str.new.self))
    ∙ ap read ended ∙ same_reading s c.in_ok-text.ensures.compact ∙ back ∙ ap (λ (d : Data). let o : Option Data = Some d in o) made
