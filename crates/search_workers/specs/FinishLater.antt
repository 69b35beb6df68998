-- What a worker proves of its children before it holds to finish, against the reach by what its seat has seen.
use Rattle.std.specs.Prelude.{◌≡◌, ℕ, ℤ, List, Option, Some}
use Rattle.dp_model.specs.Dp.{Dp}
use Rattle.dp_model.specs.Subproblem.{Subproblem}
use Rattle.board_laws.specs.Board.{reach_of}
use Rattle.board_laws.specs.declared.settings.Settings.{Settings}
use Rattle.search_workers.specs.Branched.{AreBranched}

-- it may finish with these children of a diagram of the settings' width and this threshold, on each board of the settings whose
-- incumbent is no less than what was seen: they may take the place of what is out where all that is at most the reach by what was
-- seen is left out
pub record MayFinishLater (dp : Dp) (settings : Settings) (out : Option (List ℕ)) (seen threshold : Option ℤ) (cs : List Subproblem) : Type 0 where
  pub decisions : List ℕ
  pub out_is : out ≡ Some decisions
  pub branched : AreBranched dp settings.width (reach_of settings.within seen) decisions threshold cs
