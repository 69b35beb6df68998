-- What a worker proved of its children holds on each kept board that it finds later.
use Rattle.std.proofs.Common.{◌≡◌, ℕ, ℤ, List, Option, sym, ap, subst, ◌∙◌}
use Rattle.turn.specs.Order.{NoLess}
use Rattle.dp_model.specs.Dp.{Dp}
use Rattle.dp_model.specs.Subproblem.{Subproblem}
use Rattle.board_laws.specs.Board.{incumbent_value}
use Rattle.kept_board.specs.View.{KeptView, tag_of}
use Rattle.kept_board.specs.declared.tag.KeptTag.{KeptTag}
use Rattle.board.specs.Moves.{out_at}
use Rattle.search_workers.specs.FinishLater.{MayFinishLater}
use Rattle.search_workers.proofs.FinishLater.{later-seen}

module _ {D : Type 0} (meaning : List ℤ → Dp) where
  pub later-at : (first v : KeptView D) (who number : ℕ) (out : Option (List ℕ)) (seen threshold : Option ℤ) (cs : List Subproblem)
      → MayFinishLater (meaning first.board.numbers) first.board.board.settings out seen threshold cs → tag_of v ≡ tag_of first → out_at v.board.board number ≡ out → NoLess seen (incumbent_value v.board.board) → who ≡ number
      → MayFinishLater (meaning v.board.numbers) v.board.board.settings (out_at v.board.board who) (incumbent_value v.board.board) threshold cs
  later-at first v who number out seen threshold cs m tag at less is =
      let now = incumbent_value v.board.board in
      let here : out_at v.board.board who ≡ out = ap (λ (k : ℕ). out_at v.board.board k) is ∙ at in
      let one = later-seen (meaning first.board.numbers) first.board.board.settings out seen now threshold cs less m in
      let two = subst (λ o. MayFinishLater (meaning first.board.numbers) first.board.board.settings o now threshold cs) (sym here) one in
      let three = subst (λ s. MayFinishLater (meaning first.board.numbers) s (out_at v.board.board who) now threshold cs) (sym (ap (λ (t : KeptTag D). t.board.settings) tag)) two in
      subst (λ ns. MayFinishLater (meaning ns) v.board.board.settings (out_at v.board.board who) now threshold cs) (sym (ap (λ (t : KeptTag D). t.board.numbers) tag)) three
