-- Texts of JSON.
use Rattle.std.proofs.Common.{◌≡◌, ℕ, Bool, true, false, cond, List, Option, Some, None, refl, ap, ◌∙◌}
use Rattle.std.specs.Str.{IsUtf8, is_utf8}
use Rattle.std.proofs.lemmas.Str.{IsUtf8-from_is_utf8, is_utf8-from_IsUtf8}
use Rattle.serde_json.specs.Data.{Data}
use Rattle.serde_json.specs.Read.{read}
use Rattle.table_model.specs.Reading.{tree_of_text}

pub tree_is : (bytes : List ℕ) (d : Data) → IsUtf8 bytes → read bytes ≡ Some d → tree_of_text bytes ≡ Some d
tree_is bytes d text e = ap (λ (b : Bool). cond b (read bytes) None) (is_utf8-from_IsUtf8 bytes text) ∙ e

pub tree_is_none : (bytes : List ℕ) → (IsUtf8 bytes → read bytes ≡ None) → tree_of_text bytes ≡ None
tree_is_none bytes none =
    elim (is_utf8 bytes) as (λ b. is_utf8 bytes ≡ b → cond b (read bytes) None ≡ None) [
      | true ↦ λ e. none (IsUtf8-from_is_utf8 bytes e)
      | false ↦ λ _. refl
    ] refl
