-- Moves of a kept board: one after the other, and that of one holding.
use Rattle.std.proofs.Common.{◌≡◌, ◌∙◌, ℕ, ℤ, List, [], ◌∷◌, ◌++◌, Option, ◌⊎◌, ⊎_elim, inr, sym, ap, subst}
use Rattle.turn.specs.History.{Moved, HasMoved}
use Rattle.turn.specs.Order.{NoLess}
use Rattle.turn.proofs.History.{not_moved, moved_once}
use Rattle.disk.specs.declared.disk.Disk.{Ghosts}
use Rattle.dp_model.specs.Dp.{Dp}
use Rattle.board_laws.specs.Board.{incumbent_value, reach, reach_of}
use Rattle.board_laws.proofs.Running.{option-then}
use Rattle.kept_board.specs.Laws.MoveLaw.{keeps-kept-move}
use Rattle.kept_board.specs.Moves.{IsMove}
use Rattle.kept_board.specs.View.{KeptView, tag_of}
use Rattle.kept_board.specs.declared.tag.KeptTag.{KeptTag}
use Rattle.search_workers.proofs.FinishLater.{at-most-of, no-less-of}

module _ {V : Type 0} (moves : V → V → ℕ → Type 0) where
  pub moved_by : (first next : V) (number : ℕ) → moves first next number → HasMoved moves first next
  moved_by first next number one = moved_once moves first first next number (not_moved moves first) (inr one)

  moved-following : (first : V) (line : List (ℕ × V)) (middle : V) (more : List (ℕ × V)) (last : V) → Moved moves first line middle → Moved moves middle more last → Moved moves first (line ++ more) last
  moved-following first [] middle more last h k = subst (λ v. Moved moves v more last) (sym h) k
  moved-following first (m ∷ line) middle more last h k = (h.0, moved-following m.1 line middle more last h.1 k)

  pub moved_then : (a b c : V) → HasMoved moves a b → HasMoved moves b c → HasMoved moves a c
  moved_then a b c h k = record { line = h.line ++ k.line; moved = moved-following a h.line b k.line c h.moved k.moved }

pub no-less-then : (a b c : Option ℤ) → NoLess a b → NoLess b c → NoLess a c
no-less-then a b c h k = no-less-of a c (option-then a b c (at-most-of a b h) (at-most-of b c k))

module _ {D : Type 0} (on : Ghosts D) (meaning : List ℤ → Dp) where
  -- what a guard's value may be when its holder leaves
  abbrev pub MayLeave : KeptView D → KeptView D → ℕ → Type 0
  MayLeave found now who = (now ≡ found) ⊎ IsMove on meaning found now who

  -- a move from what is another name of what was found
  pub may_leave : (found before now : KeptView D) (number who : ℕ) → before ≡ found → who ≡ number → MayLeave before now who → MayLeave found now number
  may_leave found before now number who same is m = subst (λ f. MayLeave f now number) same (subst (MayLeave before now) is m)

  -- what was seen is no less after a move
  pub still-no-less : (before now : KeptView D) (who : ℕ) (seen : Option ℤ) → NoLess seen (incumbent_value before.board.board) → MayLeave before now who → NoLess seen (incumbent_value now.board.board)
  still-no-less before now who seen less m = ⊎_elim
      (λ (same : now ≡ before). subst (λ (v : KeptView D). NoLess seen (incumbent_value v.board.board)) (sym same) less)
      (λ (one : IsMove on meaning before now who). no-less-then seen (incumbent_value before.board.board) (incumbent_value now.board.board) less (keeps-kept-move on meaning before now who one).1) m

  -- after a move the tag is that of what was found
  pub still-tagged : (before now : KeptView D) (who : ℕ) → MayLeave before now who → tag_of now ≡ tag_of before
  still-tagged before now who m = ⊎_elim (λ (same : now ≡ before). ap tag_of same) (λ (one : IsMove on meaning before now who). (keeps-kept-move on meaning before now who one).0) m

  -- the reach after a move is by the distance that the turn began with
  pub reach-left : (first before now : KeptView D) (who : ℕ) → tag_of before ≡ tag_of first → MayLeave before now who → reach now.board.board ≡ reach_of first.board.board.settings.within (incumbent_value now.board.board)
  reach-left first before now who tag m = ap (λ (t : KeptTag D). reach_of t.board.settings.within (incumbent_value now.board.board)) (still-tagged before now who m ∙ tag)
