-- A move keeps what a turn asks of it.
use Rattle.std.specs.Prelude.{◌≡◌, ◌≢◌, ℕ, ℤ, List, Option, Some, None, option_map, refl}
use Rattle.std.proofs.Common.{sym, ap, subst, ⊎_elim}
use Rattle.turn.specs.Order.{NoLess}
use Rattle.dp_model.specs.Dp.{Dp}
use Rattle.dp_model.specs.Numbers.{OptionAtMost}
use Rattle.board_laws.proofs.Running.{follows-self, step-follows, step-others}
use Rattle.board_laws.specs.Board.{BoardState, incumbent_value}
use Rattle.board_laws.specs.Runs.{worker_of, IsLaterInRun}
use Rattle.board.specs.Moves.{out_at, IsOf, IsStepOf, IsMove}
use Rattle.board.specs.View.{BoardView, tag_of}

-- what a step of one worker keeps of the board
pub record KeepsStep (who : ℕ) (b later : BoardState) : Type 0 where
  pub settings : later.settings ≡ b.settings
  pub better : NoLess (incumbent_value b) (incumbent_value later)
  pub others : (other : ℕ) → other ≢ who → out_at later other ≡ out_at b other

abbrev pub KeepsMove : BoardView → BoardView → ℕ → Type 0
KeepsMove before now who =
    (tag_of now ≡ tag_of before) × NoLess (incumbent_value before.board) (incumbent_value now.board)
    × ((other : ℕ) → other ≢ who → out_at now.board other ≡ out_at before.board other)

no-less : (a b : Option ℤ) → OptionAtMost a b → NoLess a b
no-less None b h = tt
no-less (Some z) None h = h
no-less (Some z) (Some y) h = h

or-zero : Option ℕ → ℕ
or-zero None = 0
or-zero (Some n) = n

other-worker : (who other : ℕ) (worker : Option ℕ) → IsOf who worker → other ≢ who → worker ≢ Some other
unfolding or-zero
other-worker who other None of differ e = absurd (cc)
other-worker who other (Some worker) of differ e = differ (let same = ap or-zero e in cc)

keeps-none : (who : ℕ) (b : BoardState) → KeepsStep who b b
keeps-none who b = record { settings = refl; better = no-less (incumbent_value b) (incumbent_value b) ((follows-self b).better); others = λ other differ. refl }

keeps-step : (dp : Dp) (who : ℕ) (b later : BoardState) → IsStepOf dp who b later → KeepsStep who b later
keeps-step dp who b later s =
    let follows : IsLaterInRun b later = subst (IsLaterInRun b) (sym s.is) (step-follows dp b s.step) in
    record {
      settings = follows.settings;
      better = no-less (incumbent_value b) (incumbent_value later) follows.better;
      others = λ other differ. subst (λ (x : BoardState). out_at x other ≡ out_at b other) (sym s.is)
          (ap (λ o. option_map (λ o. o.subproblem.decisions) o) (step-others dp b s.step other (other-worker who other (worker_of s.step) s.of differ)));
    }

tags : (now before : BoardView) → now.numbers ≡ before.numbers → now.board.settings ≡ before.board.settings → now.first ≡ before.first → tag_of now ≡ tag_of before
tags now before e f h = λ i. record { numbers = e i; settings = f i; first = h i }

pub keeps-move : (meaning : List ℤ → Dp) (before now : BoardView) (who : ℕ) → IsMove meaning before now who → KeepsMove before now who
keeps-move meaning before now who m =
    let k : KeepsStep who before.board now.board = ⊎_elim
    (λ same. subst (KeepsStep who before.board) (sym same) (keeps-none who before.board))
    (λ step. keeps-step (meaning before.numbers) who before.board now.board step)
    m.step in
    (tags now before m.numbers k.settings m.first, k.better, k.others)
