-- The nodes of a diagram's children, and that the children are few and their numbers bounded.
use Rattle.std.specs.Prelude.{◌≡◌, ℕ, ◌-◌, ◌^◌, ◌<◌, ◌≤◌, ℤ, List, length, Option, Some, IsTrue}
use Rattle.dp_model.specs.Dp.{Dp}
use Rattle.dp_model.specs.declared.limits.TheConstants.{MOST_WIDTH}
use Rattle.dp_model.specs.Lists.{Each}
use Rattle.dp_model.specs.Numbers.{IsFar}
use Rattle.dp_model.specs.declared.cut_kind.CutKind.{CutKind}
use Rattle.dp_model.specs.declared.cut_kind.CutKind.TheVariants.{LastExactLayer}
use Rattle.dp_laws.specs.Children.{children_size}
use Rattle.dp_laws.specs.Width.{FitsWidth}
use Rattle.dp_laws.specs.Diagrams.Nodes.{DdNode, DdLayers, node_at}
use Rattle.dp_laws.specs.Diagrams.Seen.{IsDiagram}
use Rattle.dp_laws.specs.Diagrams.Cutsets.{ChildAt, bound_of, children_at, children_of}

-- the child's place has an exact node, below the first layer and above the last one, with the child's bound
pub record IsChildPlaced (dp : Dp) (d : DdLayers) (c : ChildAt) : Type 0 where
  pub node : DdNode
  pub is : node_at d c.depth c.place ≡ Some node
  pub exact : IsTrue node.exact
  pub below : d.first < c.depth
  pub above : c.depth < dp.vars
  pub bound : bound_of dp c.depth node ≡ Some c.bound

-- each child of a diagram stands at an exact node
abbrev pub ChildrenArePlaced : Dp → Type 0
ChildrenArePlaced dp = (p : List ℕ) (w : ℕ) (t : Option ℤ) (d : DdLayers) (kind : CutKind) → length p < dp.vars → IsDiagram dp p w t d → Each (IsChildPlaced dp d) (children_at dp d kind)

-- bounds are at most 2^62 in size; where the width fits there are at most as many children as the greatest width, and a record that names all children of
-- the last exact layer has at most 2^32 - 1 bytes
pub record ChildrenFit (dp : Dp) (w : ℕ) (d : DdLayers) : Type 0 where
  pub far : (kind : CutKind) → Each (λ c. IsFar c.bound) (children_of dp d kind)
  pub few : (kind : CutKind) → FitsWidth dp w → length (children_of dp d kind) ≤ MOST_WIDTH
  pub size : FitsWidth dp w → children_size (children_of dp d LastExactLayer) ≤ 2 ^ 32 - 1
