-- What a list of children is prepared for.
use Rattle.std.specs.Prelude.{◌≡◌, ℕ, ◌*◌, ◌≤◌, Result, Ok, Err}
use Rattle.dp_model.specs.Dp.{Dp}
use Rattle.dp_model.specs.declared.cut_kind.CutKind.{CutKind}
use Rattle.dp_model.specs.declared.cut_kind.CutKind.TheVariants.{LastExactLayer, Frontier}
use Rattle.layer_build.specs.Layers.{IsWidth}
use Rattle.relaxed_dd.specs.Cut.{IsWideEnough}
use Rattle.layer_build.specs.declared.workspace.PrepareError.{PrepareError}
use Rattle.layer_build.specs.declared.workspace.PrepareError.TheVariants.{Width, OutOfMemory}
use Rattle.exact_cutset.specs.Seen.{ChildrenView}

-- how many children a diagram leaves at most: of the last exact layer as many as a layer has nodes, of the frontier as many as all
-- layers have
abbrev pub room_for : Dp → CutKind → ℕ → ℕ
room_for dp LastExactLayer wide = wide
room_for dp Frontier wide = dp.vars * wide

-- it was prepared for the sizes of the program, and for the children of the kind of diagrams of the width
pub record IsListPreparedFor (dp : Dp) (w : ℕ) (kind : CutKind) (c : ChildrenView) : Type 0 where
  pub is_width : IsWidth dp w
  pub width : c.width ≡ w
  pub vars : c.vars ≡ dp.vars
  pub words : c.words ≡ dp.words
  pub enough : IsWideEnough dp w dp.vars c.wide
  pub room : room_for dp kind c.wide ≤ c.room

-- a list for the width; a refused width exactly where it is not positive or does not fit
abbrev pub IsListPrepared : Dp → ℕ → CutKind → Result ChildrenView PrepareError → Type 0
IsListPrepared dp w kind (Ok c) = IsListPreparedFor dp w kind c
IsListPrepared dp w kind (Err Width) = IsWidth dp w → ⊥
IsListPrepared dp w kind (Err OutOfMemory) = IsWidth dp w
