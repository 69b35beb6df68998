-- What becomes of a workspace when the diagram or the beam that lies in it is let go.
use Rattle.std.specs.Prelude.{◌≡◌, ⊤}
use Rattle.std.specs.Borrow.{follows_so, MutBor, Fml}
use mathlib.Core.Option.{none}
use Rattle.dp_model.specs.Dp.{Dp}
use Rattle.layer_build.specs.Layers.{SpaceView, IsPreparedFor}
use Rattle.layer_build.specs.contracts.workspace.Workspace.{the_row}

-- it stays prepared for the program, with its width
pub record StaysAs (dp : Dp) (old new : SpaceView) : Type 0 where
  pub prepared : IsPreparedFor dp new
  pub width : new.width ≡ old.width

-- once the borrow is over, the workspace is prepared for the program
abbrev pub StaysPrepared : Dp → MutBor SpaceView → Fml
StaysPrepared dp s = follows_so the_row the_row s.ghost_name none (λ _ _. ⊤) (λ n. StaysAs dp s.now n)
