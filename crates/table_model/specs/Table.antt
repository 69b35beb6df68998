-- A table: layers of states, and what is said of the states of each layer.
use Rattle.std.specs.Prelude.{ℕ, ◌+◌, ℤ, List, [], ◌∷◌, Option, Some, None, slice_index_or}
use Rattle.table_model.specs.declared.transition.Transition.{Transition}

-- a layer, with a row for each of its states; the last one has no choices
pub record LayerTable : Type 0 where
  pub states : ℕ
  pub choices : ℕ
  pub gap : List (List (Option ℤ))
  pub merge : List (List ℕ)
  pub rough : List (Option ℤ)
  pub next : List (List (Option ℕ))
  pub gain : List (List (Option ℤ))

pub record Table : Type 0 where
  pub root_value : ℤ
  pub layers : List LayerTable

-- a cell of a table, and x outside
abbrev pub cell_at : {X : Type 0} → List (List X) → X → ℕ → ℕ → X
cell_at rows x i j = slice_index_or (slice_index_or rows i []) j x

-- the gap of the state a to the state s
abbrev pub gap_at : LayerTable → ℕ → ℕ → Option ℤ
gap_at l a s = cell_at l.gap None a s

-- the state that stands for both x and s
abbrev pub merge_at : LayerTable → ℕ → ℕ → ℕ
merge_at l x s = cell_at l.merge 0 x s

-- the rough bound of the state
abbrev pub rough_at : LayerTable → ℕ → Option ℤ
rough_at l s = slice_index_or l.rough s None

-- a next state and a gain, where both are there
abbrev pub transition_of : Option ℕ → Option ℤ → Option Transition
transition_of None gain = None
transition_of (Some next) None = None
transition_of (Some next) (Some gain) = Some (record { next = next; gain = gain })

-- what the decision d makes of the state s
abbrev pub transition_at : LayerTable → ℕ → ℕ → Option Transition
transition_at l s d = transition_of (cell_at l.next None s d) (cell_at l.gain None s d)

abbrev pub no_layer : LayerTable
no_layer = record { states = 0; choices = 0; gap = []; merge = []; rough = []; next = []; gain = [] }

-- the layer k, and one without states after the last
abbrev pub layer_at : List LayerTable → ℕ → LayerTable
layer_at layers k = slice_index_or layers k no_layer

-- the layer after the layer k; the last layer, which has no decisions, stands for its own
abbrev pub layer_after : List LayerTable → ℕ → LayerTable
layer_after layers k = slice_index_or layers (k + 1) (layer_at layers k)

-- how many states the first of the layers has, and 0 where there is none
abbrev pub states_of_first : List LayerTable → ℕ
states_of_first [] = 0
states_of_first (l ∷ ls) = l.states
