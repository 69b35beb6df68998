-- The rows of a diagram's last exact layer, which are kept apart from the diagram.
use Rattle.std.specs.Prelude.{◌≡◌, ℕ, zero, suc, ◌-◌, ◌*◌, ◌^◌, ◌<◌, ◌≤◌, ℤ, List, [], ◌∷◌, length, map, take, drop, Some}
use Rattle.dp_model.specs.Dp.{Dp}
use Rattle.dp_laws.specs.Diagrams.Nodes.{DdNode, DdLayers}
use Rattle.relaxed_dd.specs.Shown.{layer_in}

-- the cells of a row, the rows in the order of their nodes, and how many rows there is room for
pub record CutView : Type 0 where
  pub words : ℕ
  pub rows : List (List ℤ)
  pub room : ℕ

-- this many rows of cells that stand one after another
abbrev pub rows_in : ℕ → ℕ → List ℤ → List (List ℤ)
rows_in words zero cells = []
rows_in words (suc n) cells = take words cells ∷ rows_in words n (drop words cells)

-- the cells are those of this many rows, and there is room for as many as `room` says
pub record HasRoomFor (words room len : ℕ) (cells : List ℤ) (capacity : ℕ) : Type 0 where
  pub short : words ≤ 1024
  pub few : room ≤ 2 ^ 24
  pub low : len ≤ room
  pub whole : length cells ≡ len * words
  pub cells_fit : room * words ≤ capacity

-- this many nodes are as many as a layer of the width has at most, and as one below a single node of the first n layers
pub record IsWideEnough (dp : Dp) (w n wide : ℕ) : Type 0 where
  pub width : w ≤ wide
  pub choices : (k : ℕ) → k < n → dp.choices k ≤ wide

-- there is room for the rows of any layer above the last one, in a diagram of the program and the width
pub record HasCutRoom (dp : Dp) (w : ℕ) (c : CutView) : Type 0 where
  pub words : c.words ≡ dp.words
  pub enough : IsWideEnough dp w dp.vars c.room

-- the rows of a layer
abbrev pub rows_of : List DdNode → List (List ℤ)
rows_of layer = map (λ (node : DdNode). node.row) layer

-- where a layer was reduced, the rows are those of the layer above the first such one, which is the last exact layer
abbrev pub AreCutOf : DdLayers → CutView → Type 0
AreCutOf d c = (reduced : ℕ) → d.first_reduced ≡ Some reduced → c.rows ≡ rows_of (layer_in d (reduced - 1))
