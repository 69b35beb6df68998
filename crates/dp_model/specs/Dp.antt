-- A discrete maximisation problem as a dynamic program.
use Rattle.std.specs.Prelude.{ℕ, ℤ, Bool, List, Option, ◌<◌, IsTrue}

-- an instance: layer k decides variable k; a state is a row of numbers
pub record Dp : Type 0 where
  pub vars : ℕ
  pub words : ℕ
  pub choices : ℕ → ℕ
  pub root : List ℤ
  pub root_value : ℤ
  pub is_state : ℕ → List ℤ → Bool
  pub allowed : ℕ → List ℤ → ℕ → Bool
  pub step : ℕ → List ℤ → ℕ → List ℤ
  pub gain : ℕ → List ℤ → ℕ → ℤ
  pub merged : ℕ → List ℤ → List ℤ → List ℤ
  pub gap : ℕ → List ℤ → List ℤ → Option ℤ
  pub rough : ℕ → List ℤ → Option ℤ
  pub rank : ℕ → List ℤ → ℤ
  pub bucket : ℕ → List ℤ → ℕ
  pub hash : ℕ → List ℤ → ℕ

-- the decision may be taken at the layer in the state
pub record IsAllowed (dp : Dp) (k : ℕ) (s : List ℤ) (d : ℕ) : Type 0 where
  pub layer : k < dp.vars
  pub choice : d < dp.choices k
  pub test : IsTrue (dp.allowed k s d)
