-- Where the rows of exact nodes are read.
use Rattle.std.specs.Prelude.{◌≡◌, ℕ, ◌≤◌, length}
use Rattle.layer_build.specs.Layers.{SpaceView, diagram_of}
use Rattle.relaxed_dd.specs.Cut.{AreCutOf, rows_of}
use Rattle.relaxed_dd.specs.Shown.{layer_in}
use Rattle.exact_cutset.specs.declared.rows.Rows.{Rows}
use Rattle.exact_cutset.specs.declared.rows.Rows.TheVariants.{Held, Copied}

-- the rows of the layer at the depth are there: the workspace holds them, or they are copied
abbrev pub HasRowsAt : SpaceView → ℕ → Rows → Type 0
HasRowsAt s depth Held = s.held ≤ depth
HasRowsAt s depth (Copied cut) = cut.now.rows ≡ rows_of (layer_in (diagram_of s) depth)

-- the rows of the last exact layer are there: the workspace holds those of all layers, or they are copied
abbrev pub HasRows : SpaceView → Rows → Type 0
HasRows s Held = s.held ≡ length s.prefix
HasRows s (Copied cut) = AreCutOf (diagram_of s) cut.now
