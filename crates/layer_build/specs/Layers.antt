-- What is seen of a workspace: the layers of a diagram that is under way.
use Rattle.std.specs.Prelude.{◌≡◌, ℕ, ◌+◌, ◌-◌, ◌*◌, ◌^◌, ◌<◌, ◌≤◌, List, [], ◌∷◌, length, map, drop, sum_by, Option, Some, None, unwrap_or, slice_get}
use Rattle.dp_model.specs.Dp.{Dp}
use Rattle.dp_model.specs.Decisions.{below}
use Rattle.dp_laws.specs.Width.{FitsWidth}
use Rattle.dp_laws.specs.Diagrams.Nodes.{DdNode, DdLayers}
use Rattle.dp_laws.specs.Rules.Compiling.{TwoLayers}
use Rattle.layer_nodes.specs.Nodes.{Told}

-- the sizes that it was prepared for, with room for this many candidates a layer; the prefix with its decisions, the layers from
-- the prefix's depth to the last one that was made, the ranks and hashes of the states of that one, the least depth at which one was
-- reduced, and the depth from which on rows are held; and the decisions of the last beam or first exact node
pub record SpaceView : Type 0 where
  pub vars : ℕ
  pub words : ℕ
  pub choices : List ℕ
  pub width : ℕ
  pub room : ℕ
  pub prefix : List ℕ
  pub layers : List (List DdNode)
  pub told : List Told
  pub first_reduced : Option ℕ
  pub held : ℕ
  pub path : List ℕ

-- a width that is positive and fits
pub record IsWidth (dp : Dp) (w : ℕ) : Type 0 where
  pub positive : 1 ≤ w
  pub fits : FitsWidth dp w

-- this many candidates are enough for each of the first n layers, and there are few of them
pub record AreEnough (dp : Dp) (w n room : ℕ) : Type 0 where
  pub some : 1 ≤ room
  pub first : (k : ℕ) → k < n → dp.choices k ≤ room
  pub second : (k : ℕ) → k + 1 < n → dp.choices k * dp.choices (k + 1) ≤ room
  pub later : (k : ℕ) → k < n → w * dp.choices k ≤ room
  pub few : room ≤ 2 ^ 25

-- the workspace was prepared for the sizes of the program
pub record IsPreparedFor (dp : Dp) (s : SpaceView) : Type 0 where
  pub vars : s.vars ≡ dp.vars
  pub words : s.words ≡ dp.words
  pub choices : s.choices ≡ map dp.choices (below dp.vars)
  pub width : IsWidth dp s.width
  pub enough : AreEnough dp s.width dp.vars s.room
  pub path : length s.path ≡ dp.vars

-- the diagram that is seen
abbrev pub diagram_of : SpaceView → DdLayers
diagram_of s = record { first = length s.prefix; layers = s.layers; first_reduced = s.first_reduced }

-- the depth of the last layer
abbrev pub last_depth : SpaceView → ℕ
last_depth s = length s.prefix + (length s.layers - 1)

-- the nodes at the depth
abbrev pub layer_at : SpaceView → ℕ → List DdNode
layer_at s depth = unwrap_or (slice_get s.layers (depth - length s.prefix)) []

-- the last layer
abbrev pub last_layer : List (List DdNode) → List DdNode
last_layer [] = []
last_layer (layer ∷ []) = layer
last_layer (layer ∷ next ∷ rest) = last_layer (next ∷ rest)

-- the layers with the last one expanded
abbrev pub expand_last : (List DdNode → TwoLayers) → List (List DdNode) → List (List DdNode)
expand_last rule [] = []
expand_last rule (layer ∷ []) = (rule layer).above ∷ (rule layer).next ∷ []
expand_last rule (layer ∷ next ∷ rest) = layer ∷ expand_last rule (next ∷ rest)

-- the layers with a rule on the last two of them; the first layer has none above it
abbrev pub on_last_two : (TwoLayers → TwoLayers) → List (List DdNode) → List (List DdNode)
on_last_two rule [] = []
on_last_two rule (layer ∷ []) = (rule (record { above = []; next = layer })).next ∷ []
on_last_two rule (above ∷ next ∷ []) = (rule (record { above = above; next = next })).above ∷ (rule (record { above = above; next = next })).next ∷ []
on_last_two rule (layer ∷ above ∷ next ∷ rest) = layer ∷ on_last_two rule (above ∷ next ∷ rest)

-- the least depth that was reduced, once this one is
abbrev pub reduced_first : Option ℕ → ℕ → Option ℕ
reduced_first None depth = Some depth
reduced_first (Some first) depth = Some first

-- how many nodes the layers have whose rows are held
abbrev pub live_in : SpaceView → ℕ
live_in s = sum_by (λ (layer : List DdNode). length layer) (drop (s.held - length s.prefix) s.layers)
