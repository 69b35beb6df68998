-- Solutions that are offered to a kept board before a search goes on from it.
use Rattle.std.specs.Prelude.{◌≡◌, is_some}
use Rattle.dp_model.specs.Dp.{Dp}
use Rattle.kept_board.specs.View.{KeptView, tag_of}
use Rattle.search_workers.specs.Later.{IsLater}

-- a kept board after some offers: a run leads to it, the slots have what they had, and what stays through a search stays
pub record IsAfterOffers {D : Type 0} (dp : Dp) (before now : KeptView D) : Type 0 where
  pub later : IsLater dp before.board.board now.board.board
  pub tag : tag_of now ≡ tag_of before
  pub made : now.made ≡ before.made
  pub has : is_some now.tail ≡ is_some before.tail
