-- How the reading of the layers goes on.
use Rattle.std.proofs.Common.{◌≡◌, ℕ, ◌+◌, ◌≤◌, Bool, true, false, cond, nat_eq, List, [], ◌∷◌, ◌++◌, length, codes, Option, Some, None, refl, sym, ap, subst, ◌∙◌, append_assoc, append-nil, arith}
use Rattle.std.specs.Prelude.{Result, Ok, Err, option_and_then}
use Rattle.std.proofs.lemmas.Bool.{and_parts, and_from, cond-false, ne_eqb}
use Rattle.serde_json.specs.Data.{Data, Items, no_items, item}
use Rattle.serde_json.specs.Events.{items_len}
use Rattle.serde_json.specs.Find.{get}
use Rattle.table_model.specs.Document.{cell_of, state_of, next_of, row_of, rows_of, count_at, states_in, state_lists, with_decisions, last_lists, inner_lists, lists_of, within_limits, layer_of, states_after, layer_then, layers_from}
use Rattle.table_model.specs.Laws.Shaped.{HasStates, has_states}
use Rattle.table_model.specs.Shape.{is_layer, are_layers}
use Rattle.table_model.specs.Table.{LayerTable, states_of_first}

-- the layers that are left, after those so far
abbrev pub onto : List LayerTable → Result (List LayerTable) ℕ → Result (List LayerTable) ℕ
onto before (Ok layers) = Ok (before ++ layers)
onto before (Err k) = Err k

pub onto_start : (r : Result (List LayerTable) ℕ) → r ≡ onto [] r
onto_start (Ok layers) = refl
onto_start (Err k) = refl

pub onto_more : (before : List LayerTable) (k : ℕ) (l : LayerTable) (r : Result (List LayerTable) ℕ)
    → onto before (layer_then k (Some l) r) ≡ onto (before ++ l ∷ []) r
onto_more before k l (Ok layers) = ap (λ (ls : List LayerTable). let o : Result (List LayerTable) ℕ = Ok ls in o) (sym (append_assoc before (l ∷ []) layers))
onto_more before k l (Err j) = refl

pub onto_end : (before : List LayerTable) → onto before (Ok []) ≡ Ok before
onto_end before = ap (λ (ls : List LayerTable). let o : Result (List LayerTable) ℕ = Ok ls in o) (append-nil before)

pub onto_fails : (before : List LayerTable) (k : ℕ) (r : Result (List LayerTable) ℕ) → onto before (layer_then k None r) ≡ Err k
onto_fails before k r = refl

-- ---- what was read is within the limits

none≢some : {X : Type 0} (x : X) → None ≡ Some x → ⊥
none≢some x h = absurd (grind arith)

-- what is left of a chain has what its last step gives
then_keeps : {X Y : Type 0} (P : Y → Type 0) (f : X → Option Y) (o : Option X) → ((x : X) (y : Y) → o ≡ Some x → f x ≡ Some y → P y) → (y : Y) → option_and_then f o ≡ Some y → P y
then_keeps P f None keeps y h = absurd (none≢some y h)
then_keeps P f (Some x) keeps y h = keeps x y refl h

some_is : (l m : LayerTable) → Some l ≡ Some m → l ≡ m
some_is l m h = cc

record HasCount (m : ℕ) (l : LayerTable) : Type 0 where
  count : l.states ≡ m

count_of : (m : ℕ) (l k : LayerTable) → l.states ≡ m → Some l ≡ Some k → HasCount m k
count_of m l k e h = record { count = ap (λ (x : LayerTable). x.states) (sym (some_is l k h)) ∙ e }

lists_count : (m : ℕ) (d : Data) (l : LayerTable) → state_lists m d ≡ Some l → HasCount m l
lists_count m d l h =
    then_keeps (HasCount m) _ (option_and_then (rows_of cell_of) (get (codes "gap") d)) (λ gap k _ e.
    then_keeps (HasCount m) _ (option_and_then (rows_of state_of) (get (codes "merge") d)) (λ merge n _ f.
    then_keeps (HasCount m) _ (option_and_then (row_of cell_of) (get (codes "rough") d)) (λ rough o _ g.
    count_of m (record { states = m; choices = 0; gap = gap; merge = merge; rough = rough; next = []; gain = [] }) o refl g) n f) k e) l h

decisions_count : (m : ℕ) (d : Data) (k l : LayerTable) → HasCount m k → with_decisions d k ≡ Some l → HasCount m l
decisions_count m d k l has h =
    then_keeps (HasCount m) _ (option_and_then (rows_of next_of) (get (codes "next") d)) (λ next x _ e.
    then_keeps (HasCount m) _ (option_and_then (rows_of cell_of) (get (codes "gain") d)) (λ gain y _ f.
    count_of m (record k { choices = count_at (codes "choices") d; next = next; gain = gain }) y has.count f) x e) l h

cond_keeps : {X : Type 0} (b : Bool) (o : Option X) (x : X) → cond b o None ≡ Some x → o ≡ Some x
cond_keeps true o x h = h
cond_keeps false o x h = absurd (none≢some x h)

any_count : (after m : ℕ) (d : Data) (l : LayerTable) → lists_of after m d ≡ Some l → HasCount m l
any_count after m d l h =
    elim (nat_eq after 0) as (λ b. cond b (last_lists m d) (inner_lists m d) ≡ Some l → HasCount m l) [
      | true ↦ λ last. lists_count m d l (cond_keeps _ (state_lists m d) l last)
      | false ↦ λ inner.
          then_keeps (HasCount m) (with_decisions d) (state_lists m d) (λ k x e f. decisions_count m d k x (lists_count m d k e) f) l
          (cond_keeps _ (option_and_then (with_decisions d) (state_lists m d)) l inner)
    ] h

-- a layer that was read has the states that it says to have, and is within the limits
record IsRead (after m : ℕ) (l : LayerTable) : Type 0 where
  count : l.states ≡ m
  within : is_layer after l ≡ true

limits_keep : (after m : ℕ) (k l : LayerTable) → HasCount m k → within_limits after k ≡ Some l → IsRead after m l
limits_keep after m k l has h =
    elim (is_layer after k) as (λ b. is_layer after k ≡ b → cond b (Some k) None ≡ Some l → IsRead after m l) [
      | true ↦ λ e same. subst (IsRead after m) (some_is k l same) (record { count = has.count; within = e })
      | false ↦ λ _ none. absurd (none≢some l none)
    ] refl h

layer_is : (after m : ℕ) (d : Data) (l : LayerTable) → layer_of after m d ≡ Some l → IsRead after m l
layer_is after m d l h =
    then_keeps (IsRead after m) (within_limits after) (lists_of after m d) (λ k x e f. limits_keep after m k x (any_count after m d k e) f) l h

-- layers that were read from a list are within the limits, and as many as its items
pub record AreRead (ds : Items) (ls : List LayerTable) : Type 0 where
  pub within : are_layers ls ≡ true
  pub first : states_of_first ls ≡ states_after ds
  pub many : length ls ≡ items_len ds

abbrev ok_of : List LayerTable → Result (List LayerTable) ℕ
ok_of ls = Ok ls

abbrev err_of : ℕ → Result (List LayerTable) ℕ
err_of j = Err j

err≢ok : (j : ℕ) (ls : List LayerTable) → err_of j ≡ ok_of ls → ⊥
err≢ok j ls h = absurd (grind arith)

ok_is : (ls ms : List LayerTable) → ok_of ls ≡ ok_of ms → ls ≡ ms
ok_is ls ms h = cc

read_more : (k : ℕ) (d : Data) (ds : Items) (ls : List LayerTable) (o : Option LayerTable) (r : Result (List LayerTable) ℕ) → layer_of (states_after ds) (states_in d) d ≡ o
    → ((ms : List LayerTable) → r ≡ Ok ms → AreRead ds ms) → layer_then k o r ≡ Ok ls → AreRead (item d ds) ls
read_more k d ds ls None r e more h = absurd (err≢ok k ls h)
read_more k d ds ls (Some l) (Err j) e more h = absurd (err≢ok j ls h)
read_more k d ds ls (Some l) (Ok ms) e more h =
    let here = layer_is (states_after ds) (states_in d) d l e in
    let rest = more ms refl in
    let is : is_layer (states_of_first ms) l ≡ true = subst (λ (n : ℕ). is_layer n l ≡ true) (sym rest.first) here.within in
    let some : 1 ≤ l.states = (has_states l (and_parts _ _ is).0).some in
    let count : l.states ≡ states_in d = here.count in
    let many : length ms ≡ items_len ds = rest.many in
    subst (AreRead (item d ds)) (ok_is (l ∷ ms) ls h) (record {
      within = and_from _ _ is rest.within;
      first = count ∙ sym (cond-false _ _ _ (ne_eqb (states_in d) 0 (λ zero. let none : states_in d ≡ 0 = zero in omega (arith, some, count, none))));
      many = omega (arith, many);
    })

pub are_read : (k : ℕ) (ds : Items) (ls : List LayerTable) → layers_from k ds ≡ Ok ls → AreRead ds ls
are_read k no_items ls h = subst (AreRead no_items) (ok_is [] ls h) (record { within = refl; first = refl; many = refl })
are_read k (item d ds) ls h =
    read_more k d ds ls (layer_of (states_after ds) (states_in d) d) (layers_from (k + 1) ds) refl (λ ms e. are_read (k + 1) ds ms e) h
