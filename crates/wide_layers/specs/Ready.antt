-- A workspace whose last layer may be expanded from candidates.
use Rattle.std.specs.Prelude.{◌<◌}
use Rattle.dp_model.specs.Dp.{Dp}
use Rattle.layer_build.specs.Layers.{SpaceView, last_depth}
use Rattle.layer_build.specs.UnderWay.{IsUnderWay}

-- there are layers below the last one
pub record MayMake (dp : Dp) (s : SpaceView) : Type 0 where
  pub under_way : IsUnderWay dp s
  pub below : last_depth s < dp.vars
