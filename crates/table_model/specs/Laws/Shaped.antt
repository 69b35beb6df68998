-- What it means that a table is within the limits.
use Rattle.std.proofs.Common.{◌≡◌, ◌≢◌, ℕ, zero, suc, ◌+◌, ◌-◌, ◌<◌, ◌≤◌, ◌^◌, ℤ, pos, neg_ℤ, ◌-ℤ◌, ◌≤ℤ◌, Bool, true, false, cond, ◌&&◌, List, [], ◌∷◌, length, get_or, Option, Some, None, refl, sym, ap, subst, ◌∙◌, arith}
use Rattle.std.specs.List.{list_all}
use Rattle.std.proofs.lemmas.Bool.{and_parts, leb-true, eqb-true, eq-eqb, ne_eqb, cond-true, cond-false}
use Rattle.std.proofs.lemmas.Int.{ints}
use Rattle.std.proofs.lemmas.List.{get_or_default, get_or_past}
use Rattle.std.proofs.lemmas.List.Elements.{All-get_or}
use Rattle.std.proofs.lemmas.List.Sums.{AllPass-from_list_all}
use Rattle.dp_model.specs.NumberLaws.{int_le-is}
use Rattle.table_model.specs.Table.{LayerTable, Table, cell_at, layer_at, layer_after, no_layer, gap_at, merge_at, rough_at, states_of_first}
use Rattle.table_model.specs.Shape.{is_between, is_small, is_cell_between, is_state_between, is_next_between, is_row, is_grid, is_count, are_states, are_decisions, is_last, is_layer, are_layers}

-- ---- cells

pub row_passes : {X : Type 0} (test : X → Bool) (width : ℕ) (row : List X) (j : ℕ) (x : X) → is_row test width row ≡ true → j < width → test (get_or row j x) ≡ true
row_passes test width row j x h below =
    let parts = and_parts _ _ h in
    let long : length row ≡ width = eqb-true _ _ parts.0 in
    All-get_or (λ y. test y ≡ true) row j x (omega arith) (AllPass-from_list_all test row parts.1)

pub row_long : {X : Type 0} (test : X → Bool) (width : ℕ) (row : List X) → is_row test width row ≡ true → length row ≡ width
row_long test width row h = eqb-true _ _ (and_parts _ _ h).0

pub grid_row : {X : Type 0} (test : X → Bool) (height width : ℕ) (rows : List (List X)) (i : ℕ) → is_grid test height width rows ≡ true → i < height → is_row test width (get_or rows i []) ≡ true
grid_row test height width rows i h below =
    let parts = and_parts _ _ h in
    let long : length rows ≡ height = eqb-true _ _ parts.0 in
    All-get_or (λ row. is_row test width row ≡ true) rows i [] (omega arith) (AllPass-from_list_all (is_row test width) rows parts.1)

pub grid_passes : {X : Type 0} (test : X → Bool) (height width : ℕ) (rows : List (List X)) (i j : ℕ) (x : X) → is_grid test height width rows ≡ true → i < height → j < width
    → test (cell_at rows x i j) ≡ true
grid_passes test height width rows i j x h one two = row_passes test width (get_or rows i []) j x (grid_row test height width rows i h one) two

-- ---- numbers

pub record IsBetween (least most z : ℤ) : Type 0 where
  pub low : least ≤ℤ z
  pub high : z ≤ℤ most

pub is_between-is : (least most z : ℤ) → is_between least most z ≡ true → IsBetween least most z
is_between-is least most z h = let parts = and_parts _ _ h in record { low = int_le-is _ _ parts.0; high = int_le-is _ _ parts.1 }

pub some_between : (least most z : ℤ) (o : Option ℤ) → is_cell_between least most o ≡ true → o ≡ Some z → IsBetween least most z
some_between least most z o h e = is_between-is least most z (subst (λ (x : Option ℤ). is_cell_between least most x ≡ true) e h)

-- a number from 0 to below another is below it
below_from : (n m : ℕ) → 1 ≤ m → is_state_between (pos 0) (pos m -ℤ pos 1) n ≡ true → n < m
below_from n m some h = let b = (is_between-is (pos 0) (pos m -ℤ pos 1) (pos n) h).high in omega (arith, ints, b)

pub next_below : (n m : ℕ) (o : Option ℕ) → 1 ≤ m → is_next_between (pos 0) (pos m -ℤ pos 1) o ≡ true → o ≡ Some n → n < m
next_below n m o some h e = below_from n m some (subst (λ (x : Option ℕ). is_next_between (pos 0) (pos m -ℤ pos 1) x ≡ true) e h)

-- ---- layers

pub record HasStates (l : LayerTable) : Type 0 where
  pub some : 1 ≤ l.states
  pub few : l.states ≤ 32
  pub gap : is_grid (is_cell_between (pos 0) (pos (2 ^ 50))) l.states l.states l.gap ≡ true
  pub merges : is_grid (is_state_between (pos 0) (pos l.states -ℤ pos 1)) l.states l.states l.merge ≡ true
  pub merge : (x s : ℕ) → x < l.states → s < l.states → merge_at l x s < l.states
  pub rough : is_row (is_cell_between (neg_ℤ (pos (2 ^ 50))) (pos (2 ^ 50))) l.states l.rough ≡ true

pub has_states : (l : LayerTable) → are_states l ≡ true → HasStates l
has_states l h =
    let three = and_parts _ _ h in
    let two = and_parts _ _ three.0 in
    let one = and_parts _ _ two.0 in
    let count = and_parts _ _ one.0 in
    let some : 1 ≤ l.states = leb-true _ _ count.0 in
    record {
      some = some;
      few = leb-true _ _ count.1;
      gap = one.1;
      merges = two.1;
      merge = λ x s first second. below_from _ _ some (grid_passes _ _ _ l.merge x s 0 two.1 first second);
      rough = three.1;
    }

pub record HasDecisions (after : ℕ) (l : LayerTable) : Type 0 where
  pub some : 1 ≤ l.choices
  pub few : l.choices ≤ 32
  pub next : is_grid (is_next_between (pos 0) (pos after -ℤ pos 1)) l.states l.choices l.next ≡ true
  pub gain : is_grid (is_cell_between (neg_ℤ (pos (2 ^ 50))) (pos (2 ^ 50))) l.states l.choices l.gain ≡ true

pub has_decisions : (after : ℕ) (l : LayerTable) → are_decisions after l ≡ true → HasDecisions after l
has_decisions after l h =
    let three = and_parts _ _ h in
    let two = and_parts _ _ three.0 in
    let one = and_parts _ _ two.0 in
    let count = and_parts _ _ one.0 in
    record { some = leb-true _ _ count.0; few = leb-true _ _ count.1; next = one.1; gain = two.1 }

first_states : (ls : List LayerTable) → states_of_first ls ≡ (layer_at ls 0).states
first_states [] = refl
first_states (l ∷ ls) = refl

layer_from : (ls : List LayerTable) (k : ℕ) → are_layers ls ≡ true → k < length ls → is_layer (layer_at ls (suc k)).states (layer_at ls k) ≡ true
layer_from [] k h below = absurd (omega arith)
layer_from (l ∷ ls) zero h below = subst (λ (n : ℕ). is_layer n l ≡ true) (first_states ls) (and_parts _ _ h).0
layer_from (l ∷ ls) (suc k) h below = layer_from ls k (and_parts _ _ h).1 (omega arith)

-- each layer is within the limits, by the states of the one after it
pub layer_passes : (ls : List LayerTable) (k : ℕ) → are_layers ls ≡ true → k < length ls → is_layer (layer_at ls (k + 1)).states (layer_at ls k) ≡ true
layer_passes ls k h below = let same : suc k ≡ k + 1 = omega arith in subst (λ (n : ℕ). is_layer (layer_at ls n).states (layer_at ls k) ≡ true) same (layer_from ls k h below)

pub states_at : (ls : List LayerTable) (k : ℕ) → are_layers ls ≡ true → k < length ls → HasStates (layer_at ls k)
states_at ls k h below = has_states _ (and_parts _ _ (layer_passes ls k h below)).0

pub decisions_at : (ls : List LayerTable) (k : ℕ) → are_layers ls ≡ true → k + 1 < length ls → HasDecisions (layer_at ls (k + 1)).states (layer_at ls k)
decisions_at ls k h below =
    let after = (layer_at ls (k + 1)).states in
    let some = (states_at ls (k + 1) h below).some in
    has_decisions after (layer_at ls k) (
    sym (cond-false _ _ _ (ne_eqb after 0 (λ e. let none : after ≡ 0 = e in omega (arith, some, none))))
    ∙ (and_parts _ _ (layer_passes ls k h (omega arith))).1
    )

-- the layer after a layer that is not the last
pub after_is : (ls : List LayerTable) (k : ℕ) → k + 1 < length ls → layer_after ls k ≡ layer_at ls (k + 1)
after_is ls k below = get_or_default ls (k + 1) _ _ below

pub record IsLast (l : LayerTable) : Type 0 where
  pub choices : l.choices ≡ 0
  pub next : length l.next ≡ 0
  pub gain : length l.gain ≡ 0

pub last_is : (ls : List LayerTable) (k : ℕ) → are_layers ls ≡ true → k + 1 ≡ length ls → IsLast (layer_at ls k)
last_is ls k h last =
    let none : (layer_at ls (k + 1)).states ≡ 0 = ap (λ (l : LayerTable). l.states) (get_or_past ls (k + 1) no_layer (omega arith)) in
    let whole : is_last (layer_at ls k) ≡ true =
    sym (cond-true _ _ _ (eq-eqb (layer_at ls (k + 1)).states 0 none)) ∙ (and_parts _ _ (layer_passes ls k h (omega arith))).1 in
    let two = and_parts _ _ whole in
    let one = and_parts _ _ two.0 in
    record { choices = eqb-true _ _ one.0; next = eqb-true _ _ one.1; gain = eqb-true _ _ two.1 }

pub record IsTable (t : Table) : Type 0 where
  pub root_value : is_small t.root_value ≡ true
  pub some : 1 ≤ length t.layers
  pub few : length t.layers ≤ 65
  pub layers : are_layers t.layers ≡ true
