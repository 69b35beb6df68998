-- A diagram that is compiled while the rows of few of its layers are held.
use Rattle.std.specs.Prelude.{◌≡◌, ℕ, ◌-◌, ◌<◌, ◌≤◌, ℤ, Bool, ◌&&◌, cond, List, length, Option, Some, is_some}
use Rattle.dp_model.specs.Dp.{Dp}
use Rattle.dp_model.specs.Lists.{Each}
use Rattle.dp_model.specs.Reached.{reached}
use Rattle.dp_laws.specs.Diagrams.Nodes.{DdNode, DdLayers}
use Rattle.dp_laws.specs.Rules.Compiling.{relaxed}
use Rattle.layer_build.specs.Layers.{SpaceView, IsPreparedFor, diagram_of, last_depth, layer_at}
use Rattle.relaxed_dd.specs.Building.{HasBuilt, HasCompiled}
use Rattle.relaxed_dd.specs.Cut.{CutView, HasCutRoom, AreCutOf, rows_of}
use Rattle.relaxed_dd.specs.Shown.{layer_in}

-- the rows of the layer above the last one
abbrev pub rows_above : SpaceView → List (List ℤ)
rows_above s = rows_of (layer_at s (last_depth s - 1))

-- the kept rows, once the last layer is built: where it is the first reduced one they are those of the layer above it
abbrev pub cut_at : Bool → SpaceView → CutView → CutView
cut_at whole s c = cond (whole && is_some s.first_reduced) (record c { rows = rows_above s }) c

-- the rows of the layer above the last one are held, and there is room for them
pub record MayCopy (s : SpaceView) (c : CutView) : Type 0 where
  pub above : length s.prefix < last_depth s
  pub held : s.held < last_depth s
  pub words : Each (λ (node : DdNode). length node.row ≡ c.words) (layer_at s (last_depth s - 1))
  pub room : length (layer_at s (last_depth s - 1)) ≤ c.room

-- the rows are those of the layer above a reduced one, and that layer is there
pub record IsCutAbove (d : DdLayers) (c : CutView) (reduced : ℕ) : Type 0 where
  pub low : reduced - 1 - d.first < length d.layers
  pub rows : c.rows ≡ rows_of (layer_in d (reduced - 1))

-- where a layer was reduced so far, the rows are those of the layer above the first such one
abbrev pub HoldsCut : DdLayers → CutView → Type 0
HoldsCut d c = (reduced : ℕ) → d.first_reduced ≡ Some reduced → IsCutAbove d c reduced

-- the next layer is built as ever, the rows of no layer above it are held, and the kept rows follow
pub record HasBuiltLean (dp : Dp) (t : Option ℤ) (old new : SpaceView) (before after : CutView) : Type 0 where
  pub whole : HasBuilt dp t old (record new { held = old.held })
  pub held : new.held ≡ last_depth new
  pub cut : HoldsCut (diagram_of old) before → HoldsCut (diagram_of new) after
  pub room : HasCutRoom dp old.width after

-- all layers are built as ever, and the kept rows are those of the last exact layer
pub record HasCompiledLean (dp : Dp) (t : Option ℤ) (old new : SpaceView) (kept : CutView) : Type 0 where
  pub whole : HasCompiled dp t old (record new { held = old.held })
  pub cut : HoldsCut (diagram_of new) kept
  pub room : HasCutRoom dp old.width kept

-- the diagram of the prefix is made, and the rows of its last exact layer are kept
pub record IsMadeLean (dp : Dp) (p : List ℕ) (t : Option ℤ) (old new : SpaceView) (kept : CutView) : Type 0 where
  pub layers : diagram_of new ≡ relaxed dp (reached dp p) old.width t
  pub width : new.width ≡ old.width
  pub prepared : IsPreparedFor dp new
  pub cut : AreCutOf (diagram_of new) kept
  pub room : HasCutRoom dp old.width kept
