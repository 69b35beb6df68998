-- A move keeps what a turn asks of it.
use Rattle.std.specs.Prelude.{◌≡◌, ◌≢◌, ℕ, ℤ, List, Option, Some, None, is_some, refl}
use Rattle.std.proofs.Common.{sym, ap, subst, ⊎_elim, inl, inr}
use Rattle.disk.specs.declared.disk.Disk.{Ghosts}
use Rattle.turn.specs.Order.{NoLess}
use Rattle.dp_model.specs.Dp.{Dp}
use Rattle.board_laws.specs.Board.{BoardState, incumbent_value}
use Rattle.board_laws.specs.Steps.{halted}
use Rattle.board_laws.specs.declared.cause.Cause.TheVariants.{Journal}
use Rattle.journal_bytes.specs.declared.tail.Tail.{Tail}
use Rattle.board.specs.Laws.MoveLaw.{KeepsMove, keeps-move}
use Rattle.board.specs.Moves.{out_at}
use Rattle.board.specs.View.{BoardView}
use Rattle.kept_board.specs.Moves.{Stays, Snaps, Steps, Fails, IsMove}
use Rattle.kept_board.specs.View.{KeptView, journal_made, tag_of}

-- a halt changes the cause alone
keeps-halt : (meaning : List ℤ → Dp) (before now : BoardView) (who : ℕ) → now.numbers ≡ before.numbers → now.first ≡ before.first → now.board ≡ halted before.board Journal → KeepsMove before now who
keeps-halt meaning before now who numbers first halts =
    let same : KeepsMove before before who = keeps-move meaning before before who (record { numbers = refl; first = refl; step = inl refl }) in (
      (λ i. record { numbers = numbers i; settings = (halts i).settings; first = first i }),
      subst (λ (x : BoardState). NoLess (incumbent_value before.board) (incumbent_value x)) (sym halts) same.1,
      λ other differ. ap (λ (x : BoardState). out_at x other) halts,
    )

module _ {D : Type 0} (on : Ghosts D) where
  abbrev pub KeepsKeptMove : KeptView D → KeptView D → ℕ → Type 0
  KeepsKeptMove before now who =
      (tag_of now ≡ tag_of before) × NoLess (incumbent_value before.board.board) (incumbent_value now.board.board)
      × ((other : ℕ) → other ≢ who → out_at now.board.board other ≡ out_at before.board.board other)

  same_made : (now before : Option Tail) (m n : D) → is_some now ≡ is_some before → m ≡ n → journal_made now m ≡ journal_made before n
  same_made None None m n has e = refl
  same_made None (Some t) m n has e = absurd (cc)
  same_made (Some t) None m n has e = absurd (cc)
  same_made (Some t) (Some u) m n has e = ap Some e

  -- a move of the board, a snapshot, or a halt by the journal
  board-moves : (meaning : List ℤ → Dp) (before now : KeptView D) (who : ℕ) → IsMove on meaning before now who → KeepsMove before.board now.board who
  board-moves meaning before now who m = ⊎_elim
      (λ (s : Stays on before now). keeps-move meaning before.board now.board who (record { numbers = m.numbers; first = m.first; step = inl s.board }))
      (λ others. ⊎_elim
      (λ (s : Snaps on before now). keeps-move meaning before.board now.board who (record { numbers = m.numbers; first = m.first; step = inl s.board }))
      (λ rest. ⊎_elim
      (λ (s : Steps on (meaning before.board.numbers) who before now). keeps-move meaning before.board now.board who (record { numbers = m.numbers; first = m.first; step = inr s.made }))
      (λ (f : Fails on (meaning before.board.numbers) who before now). keeps-halt meaning before.board now.board who m.numbers m.first f.halts) rest) others) m.step

  pub keeps-kept-move : (meaning : List ℤ → Dp) (before now : KeptView D) (who : ℕ) → IsMove on meaning before now who → KeepsKeptMove before now who
  keeps-kept-move meaning before now who m =
      let k = board-moves meaning before now who m in
      ((λ i. record { board = k.0 i; made = same_made now.tail before.tail now.made before.made m.has m.made i }), k.1, k.2)
