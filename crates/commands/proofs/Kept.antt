-- A kept board after moves.
use Rattle.std.proofs.Common.{◌≡◌, ℕ, ℤ, List, [], ◌∷◌, is_some, sym, ap, subst, ◌∙◌}
use Rattle.disk.specs.declared.disk.Disk.{Ghosts}
use Rattle.dp_model.specs.Dp.{Dp}
use Rattle.turn.specs.History.{Moved, HasMoved}
use Rattle.board_laws.specs.GoodBoard.{IsGood}
use Rattle.kept_board.specs.Kept.{IsKept}
use Rattle.kept_board.specs.Moves.{IsMove}
use Rattle.kept_board.specs.View.{KeptView, tag_of}
use Rattle.kept_board.specs.declared.tag.KeptTag.{KeptTag}
use Rattle.board.specs.View.{BoardView, tag_of as board_tag_of}
use Rattle.board.specs.declared.tag.BoardTag.{BoardTag}
use Rattle.search_workers.specs.Later.{IsLater, NoRoundFollows, IsComplete}
use Rattle.commands.specs.Searches.{HasExplored, IsKeptOn}

module _ {D : Type 0} (on : Ghosts D) (meaning : List ℤ → Dp) where
  -- the disk at the making stays, and whether there is a journal
  stays : (first : KeptView D) (line : List (ℕ × KeptView D)) (last : KeptView D) → Moved (IsMove on meaning) first line last → (last.made ≡ first.made) × (is_some last.tail ≡ is_some first.tail)
  stays first [] last same = (ap (λ (k : KeptView D). k.made) (sym same), ap (λ (k : KeptView D). is_some k.tail) (sym same))
  stays first (m ∷ later) last moved =
      let rest = stays m.1 later last moved.1 in
      (rest.0 ∙ moved.0.made, rest.1 ∙ moved.0.has)

  -- so the board is kept as the first one was made
  pub kept-on : (dp : Dp) (first last : KeptView D) → HasMoved (IsMove on meaning) first last → IsKept on dp last.board.board last.made last.disk last.tail → IsKeptOn on dp (is_some first.tail) first.made last.disk last.board.board
  kept-on dp first last moved kept =
      let same = stays first moved.line last moved.moved in
      record { tail = last.tail; same = same.1; kept = subst (λ made. IsKept on dp last.board.board made last.disk last.tail) same.0 kept }

  -- a search whose last board is this one
  pub explored : (ns : List ℤ) (first last : KeptView D) (now : D) (b : BoardView) → first.board.numbers ≡ ns → tag_of last ≡ tag_of first → HasMoved (IsMove on meaning) first last → IsLater (meaning ns) first.board.board last.board.board → NoRoundFollows last.board.board
      → (IsGood (meaning ns) first.board.first → IsComplete (meaning ns) last.board.board) → b ≡ last.board → now ≡ last.disk → IsKept on (meaning last.board.numbers) last.board.board last.made last.disk last.tail → HasExplored on (meaning ns) first now b
  explored ns first last now b numbers tag moved later ended complete board disk kept =
      let same : board_tag_of last.board ≡ board_tag_of first.board = ap (λ (t : KeptTag D). t.board) tag in
      let here : last.board.numbers ≡ ns = ap (λ (t : BoardTag). t.numbers) same ∙ numbers in
      let keeps = kept-on (meaning ns) first last moved (subst (λ n. IsKept on (meaning n) last.board.board last.made last.disk last.tail) here kept) in
      subst (HasExplored on (meaning ns) first now) (sym board)
      (subst (λ d. HasExplored on (meaning ns) first d last.board) (sym disk) (record { tag = same; later = later; ended = ended; complete = complete; keeps = keeps }))
