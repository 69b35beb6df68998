-- What a workspace is prepared for.
use Rattle.std.specs.Prelude.{◌≡◌, ℕ, Result, Ok, Err}
use Rattle.dp_model.specs.Dp.{Dp}
use Rattle.layer_build.specs.Layers.{SpaceView, IsWidth, IsPreparedFor}
use Rattle.layer_build.specs.declared.workspace.PrepareError.{PrepareError}
use Rattle.layer_build.specs.declared.workspace.PrepareError.TheVariants.{Width, OutOfMemory}

-- a workspace of the width; a refused width exactly where it is not positive or does not fit
abbrev pub IsSpacePrepared : Dp → ℕ → Result SpaceView PrepareError → Type 0
IsSpacePrepared dp w (Ok s) = IsPreparedFor dp s × (s.width ≡ w)
IsSpacePrepared dp w (Err Width) = IsWidth dp w → ⊥
IsSpacePrepared dp w (Err OutOfMemory) = IsWidth dp w
