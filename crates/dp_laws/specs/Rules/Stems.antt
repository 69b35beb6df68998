-- The nodes that the kept paths of exact nodes lead through.
use Rattle.std.specs.Prelude.{◌≡◌, ℕ, ◌+◌, ◌<◌, ◌≤◌, ℤ, List, length, take, Option, Some, IsTrue}
use Rattle.dp_model.specs.Dp.{Dp}
use Rattle.dp_model.specs.Reached.{reached}
use Rattle.dp_laws.specs.Diagrams.Nodes.{DdNode, node_at}
use Rattle.dp_laws.specs.Rules.Compiling.{relaxed}

-- a node of a compiled diagram is exact where the kept path of an exact node of the next layer leads through it
abbrev pub ExactStemFromExact : Dp → Type 0
ExactStemFromExact dp = (p : List ℕ) (w : ℕ) (t : Option ℤ) (depth i j : ℕ) (x y : DdNode) → length p ≤ depth → depth < dp.vars
    → node_at (relaxed dp (reached dp p) w t) depth i ≡ Some x → node_at (relaxed dp (reached dp p) w t) (depth + 1) j ≡ Some y
    → IsTrue y.exact → length y.path ≡ depth + 1 → x.path ≡ take depth y.path → IsTrue x.exact
