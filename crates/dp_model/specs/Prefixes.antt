-- Prefixes, their states and values, feasible solutions, completions and continuations.
use Rattle.std.specs.Prelude.{◌≡◌, ℕ, ◌+◌, ℤ, pos, ◌+ℤ◌, ◌≤ℤ◌, List, [], ◌∷◌, ◌++◌, length}
use Rattle.dp_model.specs.Dp.{Dp, IsAllowed}

-- the decisions are allowed one after another from the state at the layer
abbrev pub IsPath : Dp → ℕ → List ℤ → List ℕ → Type 0
IsPath dp k s [] = Unit {0}
IsPath dp k s (d ∷ ds) = IsAllowed dp k s d × IsPath dp (k + 1) (dp.step k s d) ds

-- the state that the decisions reach
abbrev pub end_of : Dp → ℕ → List ℤ → List ℕ → List ℤ
end_of dp k s [] = s
end_of dp k s (d ∷ ds) = end_of dp (k + 1) (dp.step k s d) ds

-- the sum of the decisions' gains
abbrev pub gain_of : Dp → ℕ → List ℤ → List ℕ → ℤ
gain_of dp k s [] = pos 0
gain_of dp k s (d ∷ ds) = dp.gain k s d +ℤ gain_of dp (k + 1) (dp.step k s d) ds

-- a prefix: decisions that are allowed one after another from the root
abbrev pub IsPrefix : Dp → List ℕ → Type 0
IsPrefix dp p = IsPath dp 0 dp.root p

-- the state that a prefix reaches
abbrev pub state_of : Dp → List ℕ → List ℤ
state_of dp p = end_of dp 0 dp.root p

-- the value of a prefix: the root value and its gains
abbrev pub value_of : Dp → List ℕ → ℤ
value_of dp p = dp.root_value +ℤ gain_of dp 0 dp.root p

-- a feasible solution: a prefix that decides every variable
pub record IsSolution (dp : Dp) (x : List ℕ) : Type 0 where
  pub prefix : IsPrefix dp x
  pub whole : length x ≡ dp.vars

-- a feasible solution that begins with the prefix
pub record IsCompletion (dp : Dp) (p x : List ℕ) : Type 0 where
  pub solution : IsSolution dp x
  pub rest : List ℕ
  pub begins : x ≡ p ++ rest

-- some completion of the prefix has at least this value
pub record Reaches (dp : Dp) (value : ℤ) (p : List ℕ) : Type 0 where
  pub by : List ℕ
  pub completion : IsCompletion dp p by
  pub least : value ≤ℤ value_of dp by

-- the solution is matched by the prefix: some completion of it has no less value
abbrev pub IsMatched : Dp → List ℕ → List ℕ → Type 0
IsMatched dp x p = Reaches dp (value_of dp x) p

-- the decisions lead from the state at the layer to the last layer
pub record IsContinuation (dp : Dp) (k : ℕ) (s : List ℤ) (c : List ℕ) : Type 0 where
  pub path : IsPath dp k s c
  pub whole : k + length c ≡ dp.vars
