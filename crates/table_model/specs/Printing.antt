-- The document of a table as a tree, and its text.
use Rattle.std.specs.Prelude.{ℕ, zero, suc, ℤ, codes, List, [], ◌∷◌, ◌++◌, map, nat_eq, cond, Option, Some, None}
use Rattle.serde_json.specs.Data.{Data, Items, Members, no_members, member, number, unsigned, null, array, object}
use Rattle.serde_json.specs.Find.{of_integer}
use Rattle.serde_json.specs.View.{items_of}
use Rattle.serde_json.specs.Written.{compact_text}
use Rattle.table_model.specs.Table.{LayerTable, Table}

abbrev pub cell_tree : Option ℤ → Data
cell_tree None = null
cell_tree (Some z) = number (of_integer z)

abbrev pub state_tree : ℕ → Data
state_tree n = number (unsigned n)

abbrev pub next_tree : Option ℕ → Data
next_tree None = null
next_tree (Some n) = state_tree n

abbrev pub row_tree : {X : Type 0} → (X → Data) → List X → Data
row_tree tree row = array (items_of (map tree row))

abbrev pub rows_tree : {X : Type 0} → (X → Data) → List (List X) → Data
rows_tree tree rows = array (items_of (map (row_tree tree) rows))

-- the last layer, which has four keys
abbrev pub last_tree : LayerTable → Data
last_tree l =
    object (member (codes "gap") (rows_tree cell_tree l.gap)
    (member (codes "merge") (rows_tree state_tree l.merge)
    (member (codes "rough") (row_tree cell_tree l.rough)
    (member (codes "states") (state_tree l.states) no_members))))

-- any other layer, which has seven
abbrev pub inner_tree : LayerTable → Data
inner_tree l =
    object (member (codes "choices") (state_tree l.choices)
    (member (codes "gain") (rows_tree cell_tree l.gain)
    (member (codes "gap") (rows_tree cell_tree l.gap)
    (member (codes "merge") (rows_tree state_tree l.merge)
    (member (codes "next") (rows_tree next_tree l.next)
    (member (codes "rough") (row_tree cell_tree l.rough)
    (member (codes "states") (state_tree l.states) no_members)))))))

abbrev pub layer_tree : LayerTable → Data
layer_tree l = cond (nat_eq l.choices 0) (last_tree l) (inner_tree l)

-- the keys in the order of their bytes
abbrev pub tree_of : Table → Data
tree_of t =
    object (member (codes "layers") (array (items_of (map layer_tree t.layers)))
    (member (codes "root_value") (number (of_integer t.root_value)) no_members))

-- the compact text of the tree with a final line feed
abbrev pub text_of : Table → List ℕ
text_of t = compact_text (tree_of t) ++ 10 ∷ []
