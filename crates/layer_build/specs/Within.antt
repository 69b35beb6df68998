-- Layers that are expanded within the width.
use Rattle.std.specs.Prelude.{◌≡◌, ℕ, ◌+◌, ◌<◌, nat_lt, Bool, true, false, cond, List, length}
use Rattle.dp_model.specs.Dp.{Dp}
use Rattle.dp_model.specs.Lists.{Each}
use Rattle.dp_laws.specs.Diagrams.Nodes.{DdNode}
use Rattle.dp_laws.specs.Rules.Compiling.{TwoLayers, merge_rest}
use Rattle.layer_nodes.specs.Sifting.{expand_sifted, expanded_by}
use Rattle.layer_build.specs.declared.stack.Making.{Making}
use Rattle.layer_build.specs.declared.stack.Making.TheVariants.{By, Within}

-- the next layer, at depth k, is merged to the width where it is wider
abbrev pub within_width : Dp → ℕ → ℕ → TwoLayers → TwoLayers
within_width dp w k two = cond (nat_lt w (length two.next)) (merge_rest dp k w two) two

-- the layer at depth k with its arcs, and the next one as it is made, merged to the width where it is wider, or as it is
abbrev pub expanded_as : Making → Bool → Dp → ℕ → ℕ → List DdNode → TwoLayers
expanded_as (By strikes) merged dp w k = expanded_by strikes dp k
expanded_as (Within t) true dp w k = λ layer. within_width dp w (k + 1) (expand_sifted dp k t layer)
expanded_as (Within t) false dp w k = expand_sifted dp k t

-- the nodes are more than the width, and none of them is exact
pub record AreMergeable (w : ℕ) (nodes : List DdNode) : Type 0 where
  pub wide : w < length nodes
  pub inexact : Each (λ (node : DdNode). node.exact ≡ false) nodes

-- the layer below the one at depth k may be merged as soon as it is made
abbrev pub MayMerge : Making → Dp → ℕ → ℕ → List DdNode → Type 0
MayMerge (By strikes) dp w k layer = ⊥
MayMerge (Within t) dp w k layer = AreMergeable w (expand_sifted dp k t layer).next
