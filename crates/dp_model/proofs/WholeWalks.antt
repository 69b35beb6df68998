-- Walks of all decisions.
use Rattle.std.proofs.Common.{ℕ, ◌<◌, ◌≤◌, ℤ, List, length, subst, arith}
use Rattle.std.proofs.lemmas.List.{take_all}
use Rattle.dp_model.specs.Dp.{Dp}
use Rattle.dp_model.specs.Prefixes.{IsPrefix}
use Rattle.dp_model.specs.Walked.{IsWalked}
use Rattle.dp_model.proofs.Paths.{IsPrefix-length}
use Rattle.dp_model.proofs.Walks.{IsWalkedTo}

-- where no decision is left, all of them were walked
pub walked_whole : (dp : Dp) (ds : List ℕ) (k : ℕ) (s : List ℤ) (v : ℤ) → length ds ≤ k → IsWalkedTo dp ds k s v → IsWalked dp ds s v
walked_whole dp ds k s v done w = subst (λ p. IsWalked dp p s v) (take_all k ds done) w.walked

-- more decisions than variables are no prefix
pub too_many : (dp : Dp) (ds : List ℕ) → dp.vars < length ds → IsPrefix dp ds → ⊥
too_many dp ds many prefix = let short = IsPrefix-length dp ds prefix in omega arith
