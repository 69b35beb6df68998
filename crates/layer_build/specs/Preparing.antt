-- The layers of a workspace before a compilation.
use Rattle.std.specs.Prelude.{◌≡◌, ℕ, ◌+◌, ◌*◌, ◌<◌, ◌≤◌, [], ◌∷◌, ◌++◌, map, replicate, None}
use Rattle.dp_model.specs.Decisions.{below}
use Rattle.dp_model.specs.Dp.{Dp}
use Rattle.layer_build.specs.Stacked.{empty_layer, rows_below}
use Rattle.layer_build.specs.declared.stack.Stack.{Stack}

-- none of the first n layers has more choices
pub record IsMost (dp : Dp) (n most : ℕ) : Type 0 where
  pub choices : (k : ℕ) → k < n → dp.choices k ≤ most
  pub few : most ≤ 1024

-- the layers are without nodes and have their rooms: as many nodes as the width for each depth, as many as there are choices just
-- below the first layer, none above it, and this many for all candidates; and there are rows for all of them, and for a beam
pub record IsReady (dp : Dp) (width room : ℕ) (s : Stack) : Type 0 where
  pub nodes : ℕ
  pub arcs : ℕ
  pub vars : s.vars ≡ dp.vars
  pub first : s.first ≡ 0
  pub last : s.last ≡ 0
  pub layers : s.layers.items ≡ map (λ k. empty_layer dp.words width (width * dp.choices k)) (below dp.vars) ++ empty_layer dp.words nodes arcs ∷ empty_layer dp.words 0 0 ∷ []
  pub choices : (k : ℕ) → k < dp.vars → dp.choices k ≤ nodes
  pub pairs : (k : ℕ) → k + 1 < dp.vars → dp.choices k * dp.choices (k + 1) ≤ arcs
  pub newest : s.newest ≡ empty_layer dp.words room 0
  pub region : s.region ≡ record { words = dp.words; rows = replicate (dp.vars * width + nodes + rows_below width room) None; spare = dp.vars * width + nodes + rows_below width room }
