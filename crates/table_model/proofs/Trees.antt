-- The tree of a table has no float and is shallow.
use Rattle.std.proofs.Common.{◌≡◌, ℕ, ◌≤◌, ℤ, pos, negsuc, Bool, true, false, cond, nat_eq, List, [], ◌∷◌, map, Option, Some, None, refl, ap, ap₂, arith}
use Rattle.std.specs.Prelude.{◌||◌, max}
use Rattle.std.proofs.lemmas.Bool.{cond_both}
use Rattle.serde_json.specs.Data.{Data, depth, items_depth}
use Rattle.serde_json.specs.View.{items_of}
use Rattle.serde_json.specs.Written.{has_float, items_have_float}
use Rattle.table_model.specs.Table.{LayerTable, Table}
use Rattle.table_model.specs.Printing.{cell_tree, state_tree, next_tree, row_tree, rows_tree, last_tree, inner_tree, layer_tree, tree_of}

pub map_twice : {A B C : Type 0} (f : B → C) (g : A → B) (xs : List A) → map (λ x. f (g x)) xs ≡ map f (map g xs)
map_twice f g [] = refl
map_twice {A} {B} {C} f g (x ∷ xs) = ap (λ (l : List C). f (g x) ∷ l) (map_twice f g xs)

-- ---- no float

cell_whole : (c : Option ℤ) → has_float (cell_tree c) ≡ false
cell_whole None = refl
cell_whole (Some (pos n)) = refl
cell_whole (Some (negsuc n)) = refl

next_whole : (c : Option ℕ) → has_float (next_tree c) ≡ false
next_whole None = refl
next_whole (Some n) = refl

list_whole : {X : Type 0} (tree : X → Data) → ((x : X) → has_float (tree x) ≡ false) → (xs : List X) → items_have_float (items_of (map tree xs)) ≡ false
list_whole tree whole [] = refl
list_whole tree whole (x ∷ xs) = ap₂ (λ a b. a || b) (whole x) (list_whole tree whole xs)

rows_whole : {X : Type 0} (tree : X → Data) → ((x : X) → has_float (tree x) ≡ false) → (rows : List (List X)) → has_float (rows_tree tree rows) ≡ false
rows_whole tree whole rows = list_whole (row_tree tree) (list_whole tree whole) rows

last_whole : (l : LayerTable) → has_float (last_tree l) ≡ false
last_whole l =
    ap₂ (λ a b. a || b) (rows_whole cell_tree cell_whole l.gap)
    (ap₂ (λ a b. a || b) (rows_whole state_tree (λ n. refl) l.merge)
    (ap (λ a. a || (false || false)) (list_whole cell_tree cell_whole l.rough)))

inner_whole : (l : LayerTable) → has_float (inner_tree l) ≡ false
inner_whole l =
    ap₂ (λ a b. a || b) (rows_whole cell_tree cell_whole l.gain)
    (ap₂ (λ a b. a || b) (rows_whole cell_tree cell_whole l.gap)
    (ap₂ (λ a b. a || b) (rows_whole state_tree (λ n. refl) l.merge)
    (ap₂ (λ a b. a || b) (rows_whole next_tree next_whole l.next)
    (ap (λ a. a || (false || false)) (list_whole cell_tree cell_whole l.rough)))))

layer_whole : (l : LayerTable) → has_float (layer_tree l) ≡ false
layer_whole l = cond_both (nat_eq l.choices 0) (last_tree l) (inner_tree l) (λ d. has_float d ≡ false) (λ _. last_whole l) (λ _. inner_whole l)

root_whole : (z : ℤ) → has_float (cell_tree (Some z)) ≡ false
root_whole z = cell_whole (Some z)

pub tree_whole : (t : Table) → has_float (tree_of t) ≡ false
tree_whole t = ap₂ (λ a b. a || (b || false)) (list_whole layer_tree layer_whole t.layers) (root_whole t.root_value)

-- ---- shallow

cell_flat : (c : Option ℤ) → depth (cell_tree c) ≤ 0
cell_flat None = omega arith
cell_flat (Some z) = omega arith

next_flat : (c : Option ℕ) → depth (next_tree c) ≤ 0
next_flat None = omega arith
next_flat (Some n) = omega arith

list_flat : {X : Type 0} (tree : X → Data) (most : ℕ) → ((x : X) → depth (tree x) ≤ most) → (xs : List X) → items_depth (items_of (map tree xs)) ≤ most
list_flat tree most flat [] = omega arith
list_flat tree most flat (x ∷ xs) = let one = flat x in let rest = list_flat tree most flat xs in omega (arith, one, rest)

row_flat : {X : Type 0} (tree : X → Data) → ((x : X) → depth (tree x) ≤ 0) → (row : List X) → depth (row_tree tree row) ≤ 1
row_flat tree flat row = let most = list_flat tree 0 flat row in omega (arith, most)

rows_flat : {X : Type 0} (tree : X → Data) → ((x : X) → depth (tree x) ≤ 0) → (rows : List (List X)) → depth (rows_tree tree rows) ≤ 2
rows_flat tree flat rows = let most = list_flat (row_tree tree) 1 (row_flat tree flat) rows in omega (arith, most)

last_flat : (l : LayerTable) → depth (last_tree l) ≤ 3
last_flat l =
    let gap = rows_flat cell_tree cell_flat l.gap in
    let merge = rows_flat state_tree (λ n. omega arith) l.merge in
    let rough = row_flat cell_tree cell_flat l.rough in
    omega (arith, gap, merge, rough)

inner_flat : (l : LayerTable) → depth (inner_tree l) ≤ 3
inner_flat l =
    let gain = rows_flat cell_tree cell_flat l.gain in
    let gap = rows_flat cell_tree cell_flat l.gap in
    let merge = rows_flat state_tree (λ n. omega arith) l.merge in
    let next = rows_flat next_tree next_flat l.next in
    let rough = row_flat cell_tree cell_flat l.rough in
    omega (arith, gain, gap, merge, next, rough)

layer_flat : (l : LayerTable) → depth (layer_tree l) ≤ 3
layer_flat l = cond_both (nat_eq l.choices 0) (last_tree l) (inner_tree l) (λ d. depth d ≤ 3) (λ _. last_flat l) (λ _. inner_flat l)

pub tree_flat : (t : Table) → depth (tree_of t) ≤ 127
tree_flat t = let layers = list_flat layer_tree 3 layer_flat t.layers in omega (arith, layers)
