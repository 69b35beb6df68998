-- The tree of a table spells it.
use Rattle.std.proofs.Common.{◌≡◌, ℕ, zero, suc, ◌+◌, ◌-◌, ◌<◌, ◌≤◌, ◌^◌, ℤ, pos, negsuc, neg_ℤ, ◌-ℤ◌, ◌≤ℤ◌, Bool, true, false, cond, nat_eq, nat_lt, nat_le, List, [], ◌∷◌, map, length, codes, Option, Some, None, refl, sym, ap, ap₂, ◌∙◌, arith, inl, inr}
use Rattle.std.specs.Prelude.{Result, Ok, Err, option_map, option_and_then, unwrap_or, ◌&&◌}
use Rattle.std.specs.List.{list_all}
use Rattle.std.proofs.lemmas.Bool.{and_parts, and_from, cond-true, cond-false, cond_both, cases_eq, eqb-true, eq-eqb, ne_eqb, lt-ltb, le-leb}
use Rattle.std.proofs.lemmas.Int.{ints}
use Rattle.serde_json.specs.Data.{Data, Items, item}
use Rattle.serde_json.specs.Events.{items_len}
use Rattle.serde_json.specs.View.{items_of}
use Rattle.table_model.specs.Document.{natural_of, whole_of, cell_of, state_of, next_of, list_of, row_of, rows_of, count_at, states_in, state_lists, with_decisions, last_lists, inner_lists, lists_of, within_limits, layer_of, states_or_most, states_after, layer_then, layers_from, root_value_of, items_in, Outline, outline_of}
use Rattle.table_model.specs.Laws.Shaped.{is_between-is, IsTable, HasStates, has_states, HasDecisions, has_decisions}
use Rattle.table_model.specs.Printing.{cell_tree, state_tree, next_tree, row_tree, rows_tree, last_tree, inner_tree, layer_tree, tree_of}
use Rattle.table_model.specs.Reading.{table_of, table_with, table_in, tested, tested_by}
use Rattle.table_model.specs.Shape.{is_between, is_small, is_cell_between, is_state_between, is_next_between, is_row, is_grid, are_states, are_decisions, is_last, is_layer, are_layers}
use Rattle.table_model.specs.Table.{LayerTable, Table, states_of_first}
use Rattle.table_model.specs.Tests.{first_failure}
use Rattle.table_refusal.specs.declared.refusal.TableError.{TableError}

-- ---- lists

-- what spells each member spells the list
list_back : {X : Type 0} (f : Data → Option X) (tree : X → Data) (test : X → Bool) → ((x : X) → test x ≡ true → f (tree x) ≡ Some x) → (xs : List X) → list_all test xs ≡ true
    → list_of f (items_of (map tree xs)) ≡ Some xs
list_back f tree test back [] h = refl
list_back {X} f tree test back (x ∷ xs) h =
    let parts = and_parts _ _ h in
    ap (λ (o : Option X). option_and_then (λ y. option_map (λ ys. y ∷ ys) (list_of f (items_of (map tree xs)))) o) (back x parts.0)
    ∙ ap (λ (o : Option (List X)). option_map (λ ys. x ∷ ys) o) (list_back f tree test back xs parts.1)

row_back : {X : Type 0} (f : Data → Option X) (tree : X → Data) (test : X → Bool) (width : ℕ) → ((x : X) → test x ≡ true → f (tree x) ≡ Some x) → (row : List X) → is_row test width row ≡ true
    → row_of f (row_tree tree row) ≡ Some row
row_back f tree test width back row h = list_back f tree test back row (and_parts _ _ h).1

rows_back : {X : Type 0} (f : Data → Option X) (tree : X → Data) (test : X → Bool) (height width : ℕ) → ((x : X) → test x ≡ true → f (tree x) ≡ Some x) → (rows : List (List X))
    → is_grid test height width rows ≡ true → rows_of f (rows_tree tree rows) ≡ Some rows
rows_back f tree test height width back rows h = list_back (row_of f) (row_tree tree) (is_row test width) (row_back f tree test width back) rows (and_parts _ _ h).1

-- ---- cells

small_natural : (n : ℕ) → pos n ≤ℤ pos (2 ^ 50) → n < 2 ^ 63
small_natural n h = omega (arith, ints, h)

whole_back : (z : ℤ) → z ≤ℤ pos (2 ^ 50) → cell_of (cell_tree (Some z)) ≡ Some (Some z)
whole_back (pos n) h =
    ap (λ (b : Bool). option_map Some (cond b (Some (pos n)) None)) (lt-ltb n (2 ^ 63) (small_natural n h))
whole_back (negsuc n) h = refl

cell_back : (least : ℤ) (c : Option ℤ) → is_cell_between least (pos (2 ^ 50)) c ≡ true → cell_of (cell_tree c) ≡ Some c
cell_back least None h = refl
cell_back least (Some z) h = whole_back z (is_between-is least _ z h).high

state_back : (m : ℕ) → m ≤ 32 → (n : ℕ) → is_state_between (pos 0) (pos m -ℤ pos 1) n ≡ true → state_of (state_tree n) ≡ Some n
state_back m few n h =
    let high = (is_between-is (pos 0) (pos m -ℤ pos 1) (pos n) h).high in
    ap (λ (b : Bool). let o : Option ℕ = cond b (Some n) None in o) (le-leb n 31 (omega (arith, ints, high, few)))

next_back : (m : ℕ) → m ≤ 32 → (c : Option ℕ) → is_next_between (pos 0) (pos m -ℤ pos 1) c ≡ true → next_of (next_tree c) ≡ Some c
next_back m few None h = refl
next_back m few (Some n) h = ap (λ (o : Option ℕ). option_map Some o) (state_back m few n h)

count_back : (n : ℕ) → n ≤ 32 → natural_of 32 (state_tree n) ≡ Some n
count_back n few = ap (λ (b : Bool). let o : Option ℕ = cond b (Some n) None in o) (le-leb n 32 few)

-- ---- layers

within : (after : ℕ) (l : LayerTable) → is_layer after l ≡ true → within_limits after l ≡ Some l
within after l h = ap (λ (b : Bool). let o : Option LayerTable = cond b (Some l) None in o) h

no_rows : {X : Type 0} (rows : List X) → length rows ≡ 0 → rows ≡ []
no_rows [] h = refl
no_rows (x ∷ xs) h = absurd (omega (arith, h))

-- a layer without its decisions
blank : LayerTable → LayerTable
blank l = record { states = l.states; choices = 0; gap = l.gap; merge = l.merge; rough = l.rough; next = []; gain = [] }

-- what the three lists of each layer are read as
three_lists : (l : LayerTable) (gap : Option (List (List (Option ℤ)))) (merge : Option (List (List ℕ))) (rough : Option (List (Option ℤ)))
    → gap ≡ Some l.gap → merge ≡ Some l.merge → rough ≡ Some l.rough
    → option_and_then (λ g. option_and_then (λ m. option_and_then (λ r.
    let o : Option LayerTable = Some (record { states = l.states; choices = 0; gap = g; merge = m; rough = r; next = []; gain = [] }) in o) rough) merge) gap
    ≡ Some (blank l)
unfolding blank
three_lists l gap merge rough e f h =
    ap (λ (o : Option (List (List (Option ℤ)))). option_and_then (λ g. option_and_then (λ m. option_and_then (λ r.
    let q : Option LayerTable = Some (record { states = l.states; choices = 0; gap = g; merge = m; rough = r; next = []; gain = [] }) in q) rough) merge) o) e
    ∙ ap (λ (o : Option (List (List ℕ))). option_and_then (λ m. option_and_then (λ r.
    let q : Option LayerTable = Some (record { states = l.states; choices = 0; gap = l.gap; merge = m; rough = r; next = []; gain = [] }) in q) rough) o) f
    ∙ ap (λ (o : Option (List (Option ℤ))). option_and_then (λ r.
    let q : Option LayerTable = Some (record { states = l.states; choices = 0; gap = l.gap; merge = l.merge; rough = r; next = []; gain = [] }) in q) o) h

-- what the lists of the decisions are read as
two_lists : (l : LayerTable) (choices : ℕ) (next : Option (List (List (Option ℕ)))) (gain : Option (List (List (Option ℤ))))
    → choices ≡ l.choices → next ≡ Some l.next → gain ≡ Some l.gain
    → option_and_then (λ n. option_and_then (λ g. let o : Option LayerTable = Some (record (blank l) { choices = choices; next = n; gain = g }) in o) gain) next ≡ Some l
unfolding blank
two_lists l choices next gain e f h =
    ap (λ (o : Option (List (List (Option ℕ)))). option_and_then (λ n. option_and_then (λ g.
    let q : Option LayerTable = Some (record (blank l) { choices = choices; next = n; gain = g }) in q) gain) o) f
    ∙ ap (λ (o : Option (List (List (Option ℤ)))). option_and_then (λ g.
    let q : Option LayerTable = Some (record (blank l) { choices = choices; next = l.next; gain = g }) in q) o) h
    ∙ ap (λ (c : ℕ). let q : Option LayerTable = Some (record (blank l) { choices = c; next = l.next; gain = l.gain }) in q) e

-- a layer within the limits, by the states of the next one
module _ (after : ℕ) (l : LayerTable) (h : is_layer after l ≡ true) where
  gap_back : rows_of cell_of (rows_tree cell_tree l.gap) ≡ Some l.gap
  gap_back = rows_back cell_of cell_tree _ l.states l.states (cell_back (pos 0)) l.gap (has_states l (and_parts _ _ h).0).gap

  merge_back : rows_of state_of (rows_tree state_tree l.merge) ≡ Some l.merge
  merge_back = let s = has_states l (and_parts _ _ h).0 in rows_back state_of state_tree _ l.states l.states (state_back l.states s.few) l.merge s.merges

  rough_back : row_of cell_of (row_tree cell_tree l.rough) ≡ Some l.rough
  rough_back = row_back cell_of cell_tree _ l.states (cell_back (neg_ℤ (pos (2 ^ 50)))) l.rough (has_states l (and_parts _ _ h).0).rough

  count_is : natural_of 32 (state_tree l.states) ≡ Some l.states
  count_is = count_back l.states (has_states l (and_parts _ _ h).0).few

  last_lists_back : state_lists l.states (last_tree l) ≡ Some (blank l)
  last_lists_back = three_lists l (rows_of cell_of (rows_tree cell_tree l.gap)) (rows_of state_of (rows_tree state_tree l.merge)) (row_of cell_of (row_tree cell_tree l.rough)) gap_back merge_back rough_back

  inner_lists_back : state_lists l.states (inner_tree l) ≡ Some (blank l)
  inner_lists_back = three_lists l (rows_of cell_of (rows_tree cell_tree l.gap)) (rows_of state_of (rows_tree state_tree l.merge)) (row_of cell_of (row_tree cell_tree l.rough)) gap_back merge_back rough_back

  last_is_blank : is_last l ≡ true → blank l ≡ l
  unfolding blank
  last_is_blank last =
      let two = and_parts _ _ last in
      let one = and_parts _ _ two.0 in
      let none : l.choices ≡ 0 = eqb-true _ _ one.0 in
      let next = no_rows l.next (eqb-true _ _ one.1) in
      let gain = no_rows l.gain (eqb-true _ _ two.1) in
      ap (λ (c : ℕ). let r : LayerTable = record { states = l.states; choices = c; gap = l.gap; merge = l.merge; rough = l.rough; next = []; gain = [] } in r) (sym none)
      ∙ ap₂ (λ (n : List (List (Option ℕ))) (g : List (List (Option ℤ))). let r : LayerTable = record { states = l.states; choices = l.choices; gap = l.gap; merge = l.merge; rough = l.rough; next = n; gain = g } in r) (sym next) (sym gain)

  kept : (d : Data) → lists_of after l.states d ≡ Some l → layer_of after l.states d ≡ Some l
  kept d e = ap (λ (o : Option LayerTable). option_and_then (within_limits after) o) e ∙ within after l h

  last_back : after ≡ 0 → layer_of after l.states (layer_tree l) ≡ Some l
  last_back none =
      let last : is_last l ≡ true = sym (cond-true _ _ _ (eq-eqb after 0 none)) ∙ (and_parts _ _ h).1 in
      let no_choices : l.choices ≡ 0 = eqb-true _ _ (and_parts _ _ (and_parts _ _ last).0).0 in
      let tree : layer_tree l ≡ last_tree l = cond-true _ _ _ (eq-eqb l.choices 0 no_choices) in
      kept (layer_tree l) (
      ap (lists_of after l.states) tree
      ∙ cond-true _ _ _ (eq-eqb after 0 none)
      ∙ last_lists_back
      ∙ ap (λ (k : LayerTable). let o : Option LayerTable = Some k in o) (last_is_blank last)
      )

  inner_back : (after ≡ 0 → ⊥) → after ≤ 32 → layer_of after l.states (layer_tree l) ≡ Some l
  inner_back some few =
      let inner : are_decisions after l ≡ true = sym (cond-false _ _ _ (ne_eqb after 0 some)) ∙ (and_parts _ _ h).1 in
      let decisions = has_decisions after l inner in
      let one : 1 ≤ l.choices = decisions.some in
      let tree : layer_tree l ≡ inner_tree l = cond-false _ _ _ (ne_eqb l.choices 0 (λ e. omega (arith, one, e))) in
      let choices : count_at (codes "choices") (inner_tree l) ≡ l.choices = ap (λ (o : Option ℕ). unwrap_or o 0) (count_back l.choices decisions.few) in
      let next = rows_back next_of next_tree _ l.states l.choices (next_back after few) l.next decisions.next in
      let gain = rows_back cell_of cell_tree _ l.states l.choices (cell_back (neg_ℤ (pos (2 ^ 50)))) l.gain decisions.gain in
      kept (layer_tree l) (
      ap (lists_of after l.states) tree
      ∙ cond-false _ _ _ (ne_eqb after 0 some)
      ∙ ap (λ (o : Option LayerTable). option_and_then (with_decisions (inner_tree l)) o) inner_lists_back
      ∙ two_lists l (count_at (codes "choices") (inner_tree l)) (rows_of next_of (rows_tree next_tree l.next)) (rows_of cell_of (rows_tree cell_tree l.gain)) choices next gain
      )

-- ---- the list of the layers

states_are : (l : LayerTable) → l.states ≤ 32 → states_in (layer_tree l) ≡ l.states
states_are l few =
    cond_both (nat_eq l.choices 0) (last_tree l) (inner_tree l) (λ d. states_in d ≡ l.states)
    (λ _. ap (λ (o : Option ℕ). unwrap_or o 0) (count_back l.states few))
    (λ _. ap (λ (o : Option ℕ). unwrap_or o 0) (count_back l.states few))

-- how many states the next layer says to have
after_are : (ls : List LayerTable) → are_layers ls ≡ true → states_after (items_of (map layer_tree ls)) ≡ states_of_first ls
after_are [] h = refl
after_are (l ∷ ls) h =
    let s = has_states l (and_parts _ _ (and_parts _ _ h).0).0 in
    let some : 1 ≤ l.states = s.some in
    ap states_or_most (states_are l s.few) ∙ cond-false _ _ _ (ne_eqb l.states 0 (λ e. omega (arith, some, e)))

pub first_few : (ls : List LayerTable) → are_layers ls ≡ true → states_of_first ls ≤ 32
first_few [] h = omega arith
first_few (l ∷ ls) h = (has_states l (and_parts _ _ (and_parts _ _ h).0).0).few

layer_back : (after : ℕ) (l : LayerTable) → is_layer after l ≡ true → after ≤ 32 → layer_of after (states_in (layer_tree l)) (layer_tree l) ≡ Some l
layer_back after l h few =
    ap (λ (m : ℕ). layer_of after m (layer_tree l)) (states_are l (has_states l (and_parts _ _ h).0).few)
    ∙ elim (cases_eq after 0) [ inl none ↦ last_back after l h none | inr some ↦ inner_back after l h some few ]

layers_back : (k : ℕ) (ls : List LayerTable) → are_layers ls ≡ true → layers_from k (items_of (map layer_tree ls)) ≡ Ok ls
layers_back k [] h = refl
layers_back k (l ∷ ls) h =
    let parts = and_parts _ _ h in
    let d = layer_tree l in
    ap (λ (m : ℕ). layer_then k (layer_of m (states_in d) d) (layers_from (k + 1) (items_of (map layer_tree ls)))) (after_are ls parts.1)
    ∙ ap₂ (λ (o : Option LayerTable) (r : Result (List LayerTable) ℕ). layer_then k o r) (layer_back (states_of_first ls) l parts.0 (first_few ls parts.1)) (layers_back (k + 1) ls parts.1)

-- ---- the document

count_items : (ls : List LayerTable) → items_len (items_of (map layer_tree ls)) ≡ length ls
count_items [] = refl
count_items (l ∷ ls) = let rest = count_items ls in omega (arith, rest)

root_back : (z : ℤ) → is_small z ≡ true → option_and_then (λ y. let o : Option ℤ = cond (is_small y) (Some y) None in o) (whole_of (cell_tree (Some z))) ≡ Some z
root_back (pos n) h =
    ap (λ (b : Bool). option_and_then (λ (y : ℤ). let o : Option ℤ = cond (is_small y) (Some y) None in o) (cond b (Some (pos n)) None)) (lt-ltb n (2 ^ 63) (small_natural n (is_between-is (neg_ℤ (pos (2 ^ 50))) (pos (2 ^ 50)) (pos n) h).high))
    ∙ cond-true _ _ _ h
root_back (negsuc n) h = cond-true _ _ _ h

outline_back : (t : Table) → IsTable t → outline_of (tree_of t) ≡ Some (record { root_value = t.root_value; layers = items_of (map layer_tree t.layers) })
outline_back t h =
    let ds = items_of (map layer_tree t.layers) in
    let count : items_len ds ≡ length t.layers = count_items t.layers in
    let some = h.some in
    let few = h.few in
    let both : (nat_le 1 (items_len ds) && nat_le (items_len ds) 65) ≡ true = and_from _ _ (le-leb 1 (items_len ds) (omega (arith, count, some))) (le-leb (items_len ds) 65 (omega (arith, count, few))) in
    ap (λ (o : Option ℤ). option_and_then (λ z. option_map (λ xs. let r : Outline = record { root_value = z; layers = xs } in r) (items_in (tree_of t))) o) (root_back t.root_value h.root_value)
    ∙ ap (λ (b : Bool). option_map (λ xs. let r : Outline = record { root_value = t.root_value; layers = xs } in r) (cond b (Some ds) None)) both

-- the tree of a table whose tests hold spells it
pub table_back : (t : Table) → IsTable t → first_failure t.layers ≡ None → table_of (tree_of t) ≡ Ok t
table_back t h tests =
    ap table_in (outline_back t h)
    ∙ ap (table_with t.root_value) (layers_back 0 t.layers h.layers)
    ∙ ap (tested_by t) tests
