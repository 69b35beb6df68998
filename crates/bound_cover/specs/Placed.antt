-- What is known of a row at its place, of the layer that its arcs lead to, and of what a decision leads to.
use Rattle.std.specs.Prelude.{◌≡◌, ℕ, ◌+◌, ◌<◌, ℤ, Bool, true, List, IsTrue}
use Rattle.dp_model.specs.Dp.{Dp}
use Rattle.bound_cover.specs.declared.placed.PlacedRow.{PlacedRow}
use Rattle.bound_cover.specs.declared.placed.Transition.{Transition}
use Rattle.bound_cover.specs.Covers.{CoverRow}
use Rattle.bound_cover.specs.Tests.{are_states}

-- where it is known, all rows are states of the layer
abbrev pub AreStatesIf : Bool → Dp → ℕ → List CoverRow → Type 0
AreStatesIf known dp k rows = known ≡ true → are_states dp k rows ≡ true

-- the row is below the last layer, and its words are a state of this rank
pub record IsInner (dp : Dp) (at : PlacedRow) : Type 0 where
  pub below : at.layer < dp.vars
  pub state : IsTrue (dp.is_state at.layer at.row.words.now)
  pub rank_is : at.rank ≡ dp.rank at.layer at.row.words.now

-- the decision leads from the words to this state of this rank, with this gain
pub record IsTransition (dp : Dp) (k : ℕ) (words : List ℤ) (transition : Transition) : Type 0 where
  pub gain_is : transition.gain ≡ dp.gain k words transition.decision
  pub state_is : transition.state.now ≡ dp.step k words transition.decision
  pub rank_is : transition.rank ≡ dp.rank (k + 1) (dp.step k words transition.decision)
