-- The document of a table: which trees of JSON are tables.
use Rattle.std.specs.Prelude.{ℕ, zero, suc, ◌+◌, ◌^◌, ◌-◌, ◌&&◌, nat_eq, nat_le, ℤ, codes, List, [], ◌∷◌, length, Bool, cond, true, false, Option, Some, None, option_map, option_and_then, is_some, unwrap_or, Result, Ok, Err}
use Rattle.serde_json.specs.Data.{Data, Items, no_items, item}
use Rattle.serde_json.specs.Events.{items_len, members_len}
use Rattle.serde_json.specs.Find.{as_null, as_number, as_u64, as_i64, as_array, as_object, get}
use Rattle.table_model.specs.Shape.{is_layer, is_small}
use Rattle.table_model.specs.Table.{LayerTable, Table}

-- the number where it is there and at most the other
abbrev pub at_most : ℕ → Option ℕ → Option ℕ
at_most most None = None
at_most most (Some n) = cond (nat_le n most) (Some n) None

-- a whole number from 0 to `most`
abbrev pub natural_of : ℕ → Data → Option ℕ
natural_of most d = at_most most (option_and_then as_u64 (as_number d))

-- a whole number
abbrev pub whole_of : Data → Option ℤ
whole_of d = option_and_then as_i64 (as_number d)

-- a whole number or null
abbrev pub cell_of : Data → Option (Option ℤ)
cell_of d = cond (is_some (as_null d)) (Some None) (option_map Some (whole_of d))

-- the number of a state
abbrev pub state_of : Data → Option ℕ
state_of d = natural_of 31 d

-- the number of a state, or null
abbrev pub next_of : Data → Option (Option ℕ)
next_of d = cond (is_some (as_null d)) (Some None) (option_map Some (state_of d))

-- what each item is read as, where each is of the form
abbrev pub list_of : {X : Type 0} → (Data → Option X) → Items → Option (List X)
list_of f no_items = Some []
list_of f (item d ds) = option_and_then (λ x. option_map (λ xs. x ∷ xs) (list_of f ds)) (f d)

-- a list of such cells
abbrev pub row_of : {X : Type 0} → (Data → Option X) → Data → Option (List X)
row_of f d = option_and_then (list_of f) (as_array d)

-- a list of lists of such cells
abbrev pub rows_of : {X : Type 0} → (Data → Option X) → Data → Option (List (List X))
rows_of f d = option_and_then (list_of (row_of f)) (as_array d)

-- an object with this many members
abbrev pub has_members : ℕ → Data → Bool
has_members many d = unwrap_or (option_map (λ ms. nat_eq (members_len ms) many) (as_object d)) false

-- a number from 1 to 32 that stands at the key, and 0 where there is none
abbrev pub count_at : List ℕ → Data → ℕ
count_at key d = unwrap_or (option_and_then (natural_of 32) (get key d)) 0

-- the number of states that a layer says to have
abbrev pub states_in : Data → ℕ
states_in d = count_at (codes "states") d

-- the members that every layer has
abbrev pub state_lists : ℕ → Data → Option LayerTable
state_lists m d =
    option_and_then (λ gap.
    option_and_then (λ merge.
    option_and_then (λ rough.
    Some (record { states = m; choices = 0; gap = gap; merge = merge; rough = rough; next = []; gain = [] }))
    (option_and_then (row_of cell_of) (get (codes "rough") d)))
    (option_and_then (rows_of state_of) (get (codes "merge") d)))
    (option_and_then (rows_of cell_of) (get (codes "gap") d))

-- the layer with the members that each layer but the last has
abbrev pub with_decisions : Data → LayerTable → Option LayerTable
with_decisions d l =
    option_and_then (λ next.
    option_and_then (λ gain.
    Some (record l { choices = count_at (codes "choices") d; next = next; gain = gain }))
    (option_and_then (rows_of cell_of) (get (codes "gain") d)))
    (option_and_then (rows_of next_of) (get (codes "next") d))

-- a last layer: an object with exactly its four keys
abbrev pub last_lists : ℕ → Data → Option LayerTable
last_lists m d = cond (has_members 4 d) (state_lists m d) None

-- any other layer: an object with exactly its seven keys
abbrev pub inner_lists : ℕ → Data → Option LayerTable
inner_lists m d = cond (has_members 7 d) (option_and_then (with_decisions d) (state_lists m d)) None

abbrev pub lists_of : ℕ → ℕ → Data → Option LayerTable
lists_of after m d = cond (nat_eq after 0) (last_lists m d) (inner_lists m d)

abbrev pub within_limits : ℕ → LayerTable → Option LayerTable
within_limits after l = cond (is_layer after l) (Some l) None

-- a layer with this many states, where the next one has this many, and 0 says that there is none
abbrev pub layer_of : ℕ → ℕ → Data → Option LayerTable
layer_of after m d = option_and_then (within_limits after) (lists_of after m d)

-- how many states the layer after has at most: what it says, 32 where it says nothing right, and 0 where there is none
abbrev pub states_or_most : ℕ → ℕ
states_or_most m = cond (nat_eq m 0) 32 m

abbrev pub states_after : Items → ℕ
states_after no_items = 0
states_after (item d ds) = states_or_most (states_in d)

abbrev pub layer_then : ℕ → Option LayerTable → Result (List LayerTable) ℕ → Result (List LayerTable) ℕ
layer_then k None rest = Err k
layer_then k (Some l) (Ok ls) = Ok (l ∷ ls)
layer_then k (Some l) (Err j) = Err j

-- the layers of a list whose first has the number k, or the number of the first that is none
abbrev pub layers_from : ℕ → Items → Result (List LayerTable) ℕ
layers_from k no_items = Ok []
layers_from k (item d ds) = layer_then k (layer_of (states_after ds) (states_in d) d) (layers_from (k + 1) ds)

-- a root value of at most 2^50 in size
abbrev pub root_value_of : Data → Option ℤ
root_value_of d = option_and_then (λ z. cond (is_small z) (Some z) None) (option_and_then whole_of (get (codes "root_value") d))

-- from 1 to 65
abbrev pub is_layer_count : ℕ → Bool
is_layer_count n = nat_le 1 n && nat_le n 65

abbrev pub items_within : Items → Option Items
items_within ds = cond (is_layer_count (items_len ds)) (Some ds) None

-- a list of 1 to 65 items
abbrev pub items_in : Data → Option Items
items_in d = option_and_then items_within (option_and_then as_array (get (codes "layers") d))

-- a document without the contents of its layers
pub record Outline : Type 0 where
  pub root_value : ℤ
  pub layers : Items

-- the outline of an object with exactly its two keys
abbrev pub outline_of : Data → Option Outline
outline_of d = cond (has_members 2 d) (option_and_then (λ z. option_map (λ ds. record { root_value = z; layers = ds }) (items_in d)) (root_value_of d)) None
