-- The numbers of a diagram stay small: how far values, lengthenings and suffixes go at each depth, in units of 2^50.
use Rattle.std.specs.Prelude.{ℕ, ◌+◌, ◌-◌, ◌*◌, ◌^◌, ◌<◌, ◌≤◌, ℤ, pos, ◌+ℤ◌, ◌≤ℤ◌, List, [], length, slice_get, Option, Some, None}
use lib.IntN.{neg_ℤ}
use Rattle.dp_model.specs.Dp.{Dp}
use Rattle.dp_model.specs.Gaps.{IsStateOf}
use Rattle.dp_model.specs.Lists.{Each}
use Rattle.dp_model.specs.Numbers.{IsSmall}
use Rattle.dp_model.specs.Prefixes.{IsPrefix}
use Rattle.dp_model.specs.Reached.{reached}
use Rattle.dp_laws.specs.declared.arc.DdArc.{DdArc}
use Rattle.dp_laws.specs.Diagrams.Nodes.{DdNode}
use Rattle.dp_laws.specs.Diagrams.Seen.{suffix_from}
use Rattle.dp_laws.specs.Rules.Compiling.{TwoLayers, expand, prune, keep_first, merge_rest, start_layer}

-- the units below zero and above it between which the number lies
pub record IsBetween (below above : ℕ) (z : ℤ) : Type 0 where
  pub low : neg_ℤ (pos (below * 2 ^ 50)) ≤ℤ z
  pub high : z ≤ℤ pos (above * 2 ^ 50)

-- a layer at depth k of a diagram of this width: its rows are states; its values lie between k + 1 units below zero and 2k + 1
-- above it, and 2k above it while it is wider than the width, since a merge adds no more than one
pub record IsLayerWithin (dp : Dp) (k w : ℕ) (layer : List DdNode) : Type 0 where
  pub states : Each (λ node. IsStateOf dp k node.row) layer
  pub values : Each (λ node. IsBetween (k + 1) (2 * k + 1) node.value) layer
  pub wide : w < length layer → Each (λ node. IsBetween (k + 1) (2 * k) node.value) layer

-- the length to the target is at most its value
abbrev pub ReachesWithin : ℤ → Option DdNode → Type 0
ReachesWithin reached None = ⊥
ReachesWithin reached (Some target) = reached ≤ℤ target.value

-- an arc leads to a node whose value is not below what is reached
abbrev pub LeadsWithin : ℤ → List DdNode → Option ℕ → Type 0
LeadsWithin reached next None = Unit {0}
LeadsWithin reached next (Some place) = ReachesWithin reached (slice_get next place)

-- an arc from a node at depth k: it is lengthened by at most 3k + 5 units, and leads to a value that is no less than its length
pub record IsArcWithin (k : ℕ) (next : List DdNode) (source : DdNode) (arc : DdArc) : Type 0 where
  pub gain : IsSmall arc.gain
  pub longer : IsBetween 0 (3 * k + 5) arc.longer
  pub leads : LeadsWithin (source.value +ℤ (arc.gain +ℤ arc.longer)) next arc.target

-- a layer at depth k with its arcs, and the next one
pub record AreWithin (dp : Dp) (k w : ℕ) (two : TwoLayers) : Type 0 where
  pub above : IsLayerWithin dp k w two.above
  pub next : IsLayerWithin dp (k + 1) w two.next
  pub arcs : Each (λ node. Each (IsArcWithin k two.next node) node.arcs) two.above

-- every step of the rules keeps the numbers small
pub record NumbersStaySmall (dp : Dp) : Type 0 where
  pub start : (p : List ℕ) (w : ℕ) → IsPrefix dp p → length p ≤ dp.vars → 1 ≤ w → IsLayerWithin dp (length p) w (start_layer (reached dp p))
  pub expand : (k w : ℕ) (layer : List DdNode) → k < dp.vars → IsLayerWithin dp k w layer → AreWithin dp k w (expand dp k layer)
  pub prune : (k w : ℕ) (t : Option ℤ) (two : TwoLayers) → AreWithin dp k w two → AreWithin dp k w (prune dp (k + 1) t two)
  pub keep_first : (k w : ℕ) (two : TwoLayers) → AreWithin dp k w two → AreWithin dp k w (keep_first w two)
  pub merge_rest : (k w : ℕ) (two : TwoLayers) → 1 ≤ w → w < length two.next → AreWithin dp k w two → AreWithin dp k w (merge_rest dp (k + 1) w two)

-- a suffix of a node at depth k: value and suffix together are at most 2n + 1 units, and no suffix is less than n - k below zero
abbrev pub IsSuffixWithin : Dp → ℕ → DdNode → Option ℤ → Type 0
IsSuffixWithin dp k node None = Unit {0}
IsSuffixWithin dp k node (Some s) = (neg_ℤ (pos ((dp.vars - k) * 2 ^ 50)) ≤ℤ s) × ((node.value +ℤ s) ≤ℤ pos ((2 * dp.vars + 1) * 2 ^ 50))

-- so suffixes stay small, from the last layer up
pub record SuffixesStaySmall (dp : Dp) : Type 0 where
  pub last : (w : ℕ) (layer : List DdNode) → IsLayerWithin dp dp.vars w layer → Each (λ node. IsSuffixWithin dp dp.vars node (suffix_from dp dp.vars [] node.arcs)) layer
  pub above : (k : ℕ) (layer next : List DdNode) → k < dp.vars → Each (λ node. Each (IsArcWithin k next node) node.arcs) layer → Each (λ node. IsSuffixWithin dp (k + 1) node node.suffix) next
      → Each (λ node. IsSuffixWithin dp k node (suffix_from dp k next node.arcs)) layer
