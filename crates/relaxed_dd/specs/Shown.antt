-- What is seen of a diagram in memory.
use Rattle.std.specs.Prelude.{◌≡◌, ℕ, ◌+◌, ◌-◌, ◌<◌, ℤ, List, [], length, slice_get, Option, unwrap_or}
use Rattle.dp_model.specs.Dp.{Dp}
use Rattle.dp_model.specs.Prefixes.{IsPrefix}
use Rattle.dp_model.specs.Reached.{reached}
use Rattle.dp_laws.specs.Diagrams.Nodes.{DdNode, DdLayers}
use Rattle.dp_laws.specs.Rules.Compiling.{relaxed}
use Rattle.layer_build.specs.Layers.{IsWidth, diagram_of}
use Rattle.relaxed_dd.specs.declared.diagram.Diagram.{Diagram}

-- its layers
abbrev pub layers_of : Diagram → DdLayers
layers_of d = diagram_of d.space.now

-- the nodes at the depth
abbrev pub layer_in : DdLayers → ℕ → List DdNode
layer_in d depth = unwrap_or (slice_get d.layers (depth - d.first)) []

-- the depth of the last layer
abbrev pub last_of : DdLayers → ℕ
last_of d = d.first + (length d.layers - 1)

-- its width
abbrev pub width_of : Diagram → ℕ
width_of d = d.space.now.width

-- the layers are those of a prefix of the program, for the width and some threshold
pub record IsRelaxed (dp : Dp) (w : ℕ) (d : DdLayers) : Type 0 where
  pub prefix : List ℕ
  pub threshold : Option ℤ
  pub is_prefix : IsPrefix dp prefix
  pub shorter : length prefix < dp.vars
  pub width : IsWidth dp w
  pub layers : d ≡ relaxed dp (reached dp prefix) w threshold

-- a diagram of the program
abbrev pub IsDiagramOf : Dp → Diagram → Type 0
IsDiagramOf dp d = IsRelaxed dp (width_of d) (layers_of d)
