-- How the exact nodes of a compiled diagram stand, and the children that it leaves.
use Rattle.std.specs.Prelude.{◌≡◌, ℕ, suc, ◌+◌, ◌<◌, ◌≤◌, ℤ, false, List, length, slice_get, Option, Some, IsTrue, ◌⊎◌}
use Rattle.dp_model.specs.Dp.{Dp}
use Rattle.dp_model.specs.Gaps.{is_struck_by}
use Rattle.dp_model.specs.Lists.{Each}
use Rattle.dp_model.specs.Prefixes.{IsPrefix}
use Rattle.dp_model.specs.Reached.{Reached, reached}
use Rattle.dp_model.specs.Subproblem.{Subproblem}
use Rattle.dp_model.specs.declared.cut_kind.CutKind.{CutKind}
use Rattle.dp_laws.specs.Pairs.{EachTwo}
use Rattle.dp_laws.specs.Restricted.ReductionOrder.{stands_before}
use Rattle.dp_laws.specs.Diagrams.Nodes.{DdNode}
use Rattle.dp_laws.specs.Diagrams.Cutsets.{children_of}
use Rattle.dp_laws.specs.Rules.Pruning.{is_struck}
use Rattle.dp_laws.specs.Rules.Compiling.{relaxed}

-- a subproblem without its bound
abbrev pub as_reached : Subproblem → Reached
as_reached c = record { decisions = c.decisions; row = c.row; value = c.value }

-- the first subproblem is shallower, or stands before the other of its depth in the reduction order
abbrev pub ComesFirst : Dp → Subproblem → Subproblem → Type 0
ComesFirst dp a b = (length a.decisions < length b.decisions)
    ⊎ ((length a.decisions ≡ length b.decisions) × IsTrue (stands_before dp (length a.decisions) (as_reached a) (as_reached b)))

-- children stand by depth and within a depth in the reduction order, and none of them is struck
pub record ChildrenStand (dp : Dp) (t : Option ℤ) (cs : List Subproblem) : Type 0 where
  pub order : EachTwo (ComesFirst dp) cs
  pub unstruck : Each (λ c. is_struck_by c.value (dp.rough (length c.decisions) c.row) t ≡ false) cs

-- the children of a relaxed diagram that the rules build stand
abbrev pub RelaxedChildrenStand : Dp → Type 0
RelaxedChildrenStand dp = (p : List ℕ) (w : ℕ) (t : Option ℤ) (kind : CutKind) → IsPrefix dp p → length p < dp.vars → 1 ≤ w → ChildrenStand dp t (children_of dp (relaxed dp (reached dp p) w t) kind)

-- an exact node below the first layer is not struck: it has a rough bound, so that it leaves no child only for want of a suffix
abbrev pub ExactAreUnstruck : Dp → Type 0
ExactAreUnstruck dp = (p : List ℕ) (w : ℕ) (t : Option ℤ) (m : ℕ) (layer : List DdNode) → slice_get (relaxed dp (reached dp p) w t).layers (suc m) ≡ Some layer
    → Each (λ node. IsTrue node.exact → is_struck dp (length p + suc m) t node ≡ false) layer
