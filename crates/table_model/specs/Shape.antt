-- The limits of a table: each list has its length, and each number its range.
use Rattle.std.specs.Prelude.{ℕ, ◌^◌, ℤ, pos, neg_ℤ, ◌-ℤ◌, int_le, nat_eq, nat_le, Bool, true, false, cond, ◌&&◌, List, [], ◌∷◌, length, Option, Some, None}
use Rattle.std.specs.List.{list_all}
use Rattle.table_model.specs.Places.{holds_at_all}
use Rattle.table_model.specs.Table.{LayerTable, cell_at, states_of_first}

abbrev pub is_between : ℤ → ℤ → ℤ → Bool
is_between least most z = int_le least z && int_le z most

-- at most 2^50 in size
abbrev pub is_small : ℤ → Bool
is_small z = is_between (neg_ℤ (pos (2 ^ 50))) (pos (2 ^ 50)) z

-- null, or a number between two others
abbrev pub is_cell_between : ℤ → ℤ → Option ℤ → Bool
is_cell_between least most None = true
is_cell_between least most (Some z) = is_between least most z

-- the number of a state between two others
abbrev pub is_state_between : ℤ → ℤ → ℕ → Bool
is_state_between least most n = is_between least most (pos n)

-- null, or such a number of a state
abbrev pub is_next_between : ℤ → ℤ → Option ℕ → Bool
is_next_between least most None = true
is_next_between least most (Some n) = is_state_between least most n

-- this many cells, each of which passes
abbrev pub is_row : {X : Type 0} → (X → Bool) → ℕ → List X → Bool
is_row test width row = nat_eq (length row) width && list_all test row

-- this many rows of this many cells, each of which passes
abbrev pub is_grid : {X : Type 0} → (X → Bool) → ℕ → ℕ → List (List X) → Bool
is_grid test height width rows = nat_eq (length rows) height && list_all (is_row test width) rows

-- from 1 to 32
abbrev pub is_count : ℕ → Bool
is_count n = nat_le 1 n && nat_le n 32

-- gaps are from 0 to 2^50
abbrev pub has_gaps : LayerTable → Bool
has_gaps l = is_grid (is_cell_between (pos 0) (pos (2 ^ 50))) l.states l.states l.gap

-- merges are states of the layer
abbrev pub has_merges : LayerTable → Bool
has_merges l = is_grid (is_state_between (pos 0) (pos l.states -ℤ pos 1)) l.states l.states l.merge

-- rough bounds are small
abbrev pub has_rough_bounds : LayerTable → Bool
has_rough_bounds l = is_row (is_cell_between (neg_ℤ (pos (2 ^ 50))) (pos (2 ^ 50))) l.states l.rough

abbrev pub are_states : LayerTable → Bool
are_states l = is_count l.states && has_gaps l && has_merges l && has_rough_bounds l

-- both or none of the two are null
abbrev pub are_alike : Option ℕ → Option ℤ → Bool
are_alike None None = true
are_alike None (Some z) = false
are_alike (Some n) None = false
are_alike (Some n) (Some z) = true

-- the decision d of the state s has a gain exactly where it has a next state
abbrev pub alike_at : LayerTable → ℕ → ℕ → Bool
alike_at l s d = are_alike (cell_at l.next None s d) (cell_at l.gain None s d)

abbrev pub row_alike : LayerTable → ℕ → Bool
row_alike l s = holds_at_all (alike_at l s) 0 l.choices

-- null stands at the same places of both
abbrev pub are_all_alike : LayerTable → Bool
are_all_alike l = holds_at_all (row_alike l) 0 l.states

-- next states are among this many
abbrev pub has_nexts : ℕ → LayerTable → Bool
has_nexts after l = is_grid (is_next_between (pos 0) (pos after -ℤ pos 1)) l.states l.choices l.next

-- gains are small
abbrev pub has_gains : LayerTable → Bool
has_gains l = is_grid (is_cell_between (neg_ℤ (pos (2 ^ 50))) (pos (2 ^ 50))) l.states l.choices l.gain

abbrev pub are_decisions : ℕ → LayerTable → Bool
are_decisions after l = is_count l.choices && has_nexts after l && has_gains l && are_all_alike l

-- the last layer has no decisions
abbrev pub is_last : LayerTable → Bool
is_last l = nat_eq l.choices 0 && nat_eq (length l.next) 0 && nat_eq (length l.gain) 0

-- a layer is within the limits; the next one has this many states, and 0 says that there is none
abbrev pub is_layer : ℕ → LayerTable → Bool
is_layer after l = are_states l && cond (nat_eq after 0) (is_last l) (are_decisions after l)

-- each layer is within the limits
abbrev pub are_layers : List LayerTable → Bool
are_layers [] = true
are_layers (l ∷ ls) = is_layer (states_of_first ls) l && are_layers ls
