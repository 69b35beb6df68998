-- Nodes that are struck or dominated are taken out in memory, and the others close up.
use Rattle.std.specs.Prelude.{◌≡◌, ℕ, ◌≤◌, ℤ, pos, false, cond, List, [], ◌++◌, length, map, take, drop, Option, Some, None}
use Rattle.dp_model.specs.Dp.{Dp}
use Rattle.dp_model.specs.Lists.{Each}
use Rattle.dp_laws.specs.Diagrams.Nodes.{DdNode}
use Rattle.dp_laws.specs.Rules.Compiling.{TwoLayers, prune}
use Rattle.dp_laws.specs.Rules.Redirects.{Redirect}
use Rattle.dp_laws.specs.Rules.Pruning.{Leader, at_leader, is_struck, pruned_nodes, prune_redirects}
use Rattle.layer_candidates.specs.HeldRows.{HasExchanged, held_row}
use Rattle.row_region.specs.Region.{RegionView}
use Rattle.layer_nodes.specs.declared.node.Node.{Node}
use Rattle.layer_nodes.specs.declared.redirecting.LeaderAt.{LeaderAt}
use Rattle.layer_nodes.specs.declared.striking.Strikes.{Strikes}
use Rattle.layer_nodes.specs.declared.striking.Strikes.TheVariants.{AtMost, Nothing}
use Rattle.layer_nodes.specs.Leading.{IsLeaderBy, leaders_of}
use Rattle.layer_nodes.specs.Nodes.{NodeView}
use Rattle.layer_nodes.specs.Redirecting.{IsShort}
use Rattle.layer_nodes.specs.Steps.{AreAmong}
use Rattle.layer_nodes.specs.Holding.{HaveRows}
use Rattle.layer_nodes.specs.Stored.{rows_in}

-- what a node in memory is shown as has its row, its value, and whether it is exact
pub record Shows (row : ℕ → List ℤ) (show : Node → DdNode) : Type 0 where
  pub rows_are : (node : Node) → (show node).row ≡ row node.row
  pub values_are : (node : Node) → (show node).value ≡ node.value
  pub exact_are : (node : Node) → (show node).exact ≡ node.exact

-- the program with a rough bound for each state: without a threshold no node is struck
abbrev pub unstruck : Dp → Dp
unstruck dp = record dp { rough = λ k row. Some (pos 0) }

-- what a leader dominates is taken out of the next layer, at depth k, and nothing is struck
abbrev pub drop_dominated : Dp → ℕ → TwoLayers → TwoLayers
drop_dominated dp k two = prune (unstruck dp) k None two

-- none of the nodes is exact
abbrev pub AreInexact : List NodeView → Type 0
AreInexact nodes = Each (λ (node : NodeView). node.exact ≡ false) nodes

-- the threshold by which nodes are struck
abbrev pub threshold_of : Strikes → Option ℤ
threshold_of (AtMost t) = t
threshold_of Nothing = None

-- the rough bound that is asked; where none is, one by which no node is struck
abbrev pub rough_for : Strikes → Option ℤ → Option ℤ
rough_for (AtMost t) rough = rough
rough_for Nothing rough = Some (pos 0)

-- the program with the rough bounds that are asked
abbrev pub asking : Strikes → Dp → Dp
asking strikes dp = record dp { rough = λ k row. rough_for strikes (dp.rough k row) }

-- where a node goes that a leader takes out
abbrev pub led_out : Option Redirect → Option (Option Redirect)
led_out None = None
led_out (Some l) = Some (Some l)

-- where a node goes that is taken out, and none where it stays
abbrev pub taken_out : Dp → ℕ → Strikes → List Leader → DdNode → Option (Option Redirect)
taken_out dp k strikes leaders node = cond (is_struck (asking strikes dp) k (threshold_of strikes) node) (Some None) (led_out (at_leader dp k leaders node))

-- the first i nodes were looked at, and those of them that stay are the first ones, this many
pub record ArePruned (dp : Dp) (k : ℕ) (strikes : Strikes) (row : ℕ → List ℤ) (old : List Node) (leaders : List LeaderAt) (now : List Node) (redirects : List (Option Redirect)) (stay i : ℕ) : Type 0 where
  pub left : drop i now ≡ drop i old
  pub size : length now ≡ length old
  pub few : stay ≤ i
  pub count : length redirects ≡ i
  pub leading : Each (IsLeaderBy dp k row) leaders
  pub short : Each IsShort redirects
  pub among : AreAmong old now
  pub nodes : (show : Node → DdNode) → Shows row show
      → map show (take stay now) ++ pruned_nodes (asking strikes dp) k (threshold_of strikes) (leaders_of row leaders) stay (map show (drop i old)) ≡ pruned_nodes (asking strikes dp) k (threshold_of strikes) [] 0 (map show old)
  pub targets : (show : Node → DdNode) → Shows row show
      → redirects ++ prune_redirects (asking strikes dp) k (threshold_of strikes) (leaders_of row leaders) stay (map show (drop i old)) ≡ prune_redirects (asking strikes dp) k (threshold_of strikes) [] 0 (map show old)

-- the first nodes, this many, are those that stay
pub record HasPruned (dp : Dp) (k : ℕ) (strikes : Strikes) (row : ℕ → List ℤ) (old now : List Node) (redirects : List (Option Redirect)) (stay : ℕ) : Type 0 where
  pub size : length now ≡ length old
  pub few : stay ≤ length old
  pub short : Each IsShort redirects
  pub among : AreAmong old now
  pub nodes : (show : Node → DdNode) → Shows row show → map show (take stay now) ≡ pruned_nodes (asking strikes dp) k (threshold_of strikes) [] 0 (map show old)
  pub targets : (show : Node → DdNode) → Shows row show → redirects ≡ prune_redirects (asking strikes dp) k (threshold_of strikes) [] 0 (map show old)

-- of the rows of the old nodes the region has those of the ones that are left, and the others were given back
pub record HasGiven (base : RegionView) (old : List Node) (region : RegionView) (left : List Node) : Type 0 where
  pub exchanged : HasExchanged base (rows_in old) region (rows_in left)
  pub held : HaveRows region (held_row base) (rows_in left)
