-- Subproblems: prefixes with their state, their value and a bound.
use Rattle.std.specs.Prelude.{◌≡◌, ℕ, ◌<◌, ℤ, List, length, IsTrue}
use Rattle.dp_model.specs.Dp.{Dp}
use Rattle.dp_model.specs.Decisions.{begins}
use Rattle.dp_model.specs.Prefixes.{IsPrefix, state_of, value_of}

-- decisions, their state and value, and a bound
pub record Subproblem : Type 0 where
  pub decisions : List ℕ
  pub row : List ℤ
  pub value : ℤ
  pub bound : ℤ

-- a `Sub`: a subproblem in memory, with the number of decisions that it has room for
pub record SubView : Type 0 where
  pub subproblem : Subproblem
  pub room : ℕ

-- a prefix shorter than the number of variables, with its own state and value
pub record IsOwn (dp : Dp) (c : Subproblem) : Type 0 where
  pub prefix : IsPrefix dp c.decisions
  pub row : c.row ≡ state_of dp c.decisions
  pub value : c.value ≡ value_of dp c.decisions
  pub shorter : length c.decisions < dp.vars

-- such a prefix that properly extends p
pub record IsChild (dp : Dp) (p : List ℕ) (c : Subproblem) : Type 0 where
  pub own : IsOwn dp c
  pub extends : IsTrue (begins p c.decisions)
  pub deeper : length p < length c.decisions
