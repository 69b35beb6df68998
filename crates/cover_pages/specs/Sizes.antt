-- How many words diagrams count for.
use Rattle.std.specs.Prelude.{◌≡◌, ℕ, ◌+◌, ◌*◌, ◌<◌, List, [], ◌∷◌, length, sum_by, Option, Some, None}
use Rattle.dp_laws.specs.Diagrams.Nodes.{DdNode}
use Rattle.cover_pages.specs.Pages.{node_of, node_size}

-- a node of a diagram
abbrev pub node_words : ℕ → DdNode → ℕ
node_words words n = node_size words (node_of n)

-- a layer
abbrev pub layer_words : ℕ → List DdNode → ℕ
layer_words words layer = sum_by (node_words words) layer

-- all layers
abbrev pub words_of : ℕ → List (List DdNode) → ℕ
words_of words layers = sum_by (layer_words words) layers

-- how many nodes the layers have
abbrev pub nodes_of : List (List DdNode) → ℕ
nodes_of [] = 0
nodes_of (layer ∷ layers) = length layer + nodes_of layers

-- what a size leaves of this many words, and none where these are too few
abbrev pub Leaves : ℕ → ℕ → Option ℕ → Type 0
Leaves left size None = left < size
Leaves left size (Some rest) = rest + size ≡ left

-- what the node leaves
abbrev pub LeavesAt : ℕ → ℕ → Option DdNode → Option ℕ → Type 0
LeavesAt words left None rest = ⊥
LeavesAt words left (Some n) rest = Leaves left (node_words words n) rest
