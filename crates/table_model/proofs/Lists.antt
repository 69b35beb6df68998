-- How the reading of a list goes on to the next item.
use Rattle.std.proofs.Common.{◌≡◌, ℕ, ◌+◌, ◌<◌, ◌≤◌, List, [], ◌∷◌, ◌++◌, length, drop, get_or, Option, Some, None, refl, sym, ap, ◌∙◌, append_assoc, append-nil, arith}
use Rattle.std.specs.Prelude.{option_map}
use Rattle.std.proofs.lemmas.List.{drop_more, drop_all}
use Rattle.serde_json.specs.Data.{Data}
use Rattle.serde_json.specs.View.{view, items_view}
use Rattle.serde_json.specs.declared.value.Value.{Value}
use Rattle.table_model.specs.Document.{list_of}

module _ {X : Type 0} (f : Data → Option X) (vs : List Value) where
  -- those that are left, after those so far
  abbrev pub following : List X → ℕ → Option (List X)
  following xs i = option_map (λ (l : List X). xs ++ l) (list_of f (items_view (drop i vs)))

  onto : (o : Option (List X)) → o ≡ option_map (λ (l : List X). [] ++ l) o
  onto None = refl
  onto (Some l) = refl

  pub list_start : list_of f (items_view vs) ≡ following [] 0
  list_start = onto (list_of f (items_view vs))

  further : (xs : List X) (x : X) (o : Option (List X)) → option_map (λ (l : List X). xs ++ l) (option_map (λ (l : List X). x ∷ l) o) ≡ option_map (λ (l : List X). (xs ++ x ∷ []) ++ l) o
  further xs x None = refl
  further xs x (Some l) = ap Some (sym (append_assoc xs (x ∷ []) l))

  pub list_more : (xs : List X) (x : X) (i : ℕ) (v : Value) → i < length vs → f (view (get_or vs i v)) ≡ Some x → following xs i ≡ following (xs ++ x ∷ []) (i + 1)
  list_more xs x i v less e =
      ap (λ (l : List Value). option_map (λ (l : List X). xs ++ l) (list_of f (items_view l))) (drop_more vs i v less)
      ∙ rw e (further xs x (list_of f (items_view (drop (i + 1) vs))))

  pub list_none : (xs : List X) (i : ℕ) (v : Value) → i < length vs → f (view (get_or vs i v)) ≡ None → following xs i ≡ None
  list_none xs i v less e = ap (λ (l : List Value). option_map (λ (l : List X). xs ++ l) (list_of f (items_view l))) (drop_more vs i v less) ∙ rw e refl

  pub list_end : (xs : List X) (i : ℕ) → length vs ≤ i → following xs i ≡ Some xs
  list_end xs i past = ap (λ (l : List Value). option_map (λ (l : List X). xs ++ l) (list_of f (items_view l))) (drop_all i vs past) ∙ ap Some (append-nil xs)
