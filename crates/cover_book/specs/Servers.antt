-- Rows that serve others of their layer.
use Rattle.std.specs.Prelude.{◌≡◌, ℕ}
use Rattle.dp_model.specs.Dp.{Dp}
use Rattle.dp_model.specs.Gaps.{IsStateOf}
use Rattle.cover_book.specs.declared.serving.Server.{Server}

-- the row is a state of the layer, with its rank
pub record IsServer (dp : Dp) (k : ℕ) (server : Server) : Type 0 where
  pub state : IsStateOf dp k server.words.items
  pub rank : server.rank ≡ dp.rank k server.words.items
