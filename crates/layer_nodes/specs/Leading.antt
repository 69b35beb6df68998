-- Leaders of a layer in memory.
use Rattle.std.specs.Prelude.{ℕ, nat_le, ℤ, not, cond, ◌&&◌, List, [], ◌∷◌, ◌++◌, length, map, None}
use Rattle.dp_model.specs.Dp.{Dp}
use Rattle.dp_model.specs.Fingerprints.{IsFingerprint}
use Rattle.dp_model.specs.Gaps.{IsStateOf}
use Rattle.dp_model.specs.declared.limits.TheConstants.{MOST_LEADERS}
use Rattle.dp_model.specs.declared.model.Fingerprint.{Fingerprint}
use Rattle.dp_laws.specs.Diagrams.Nodes.{DdNode}
use Rattle.dp_laws.specs.Rules.Pruning.{Leader}
use Rattle.layer_candidates.specs.HeldRows.{held_row}
use Rattle.layer_candidates.specs.Ways.{IsNearly}
use Rattle.layer_nodes.specs.declared.node.Node.{Node}
use Rattle.layer_nodes.specs.declared.redirecting.LeaderAt.{LeaderAt}
use Rattle.row_region.specs.Region.{RegionView, IsRow}

-- the rank and the hash of the node's state
abbrev pub print_of : Node → Fingerprint
print_of node = record { rank = node.rank; hash = node.hash }

-- a row is a state of the layer at depth k, with its rank and its hash, and the value leaves room for gaps and rough bounds
pub record IsRowWith (dp : Dp) (k : ℕ) (row : List ℤ) (number : ℤ) (print : Fingerprint) : Type 0 where
  pub state : IsStateOf dp k row
  pub printed : IsFingerprint dp k row print
  pub near : IsNearly number

-- a node of the layer at depth k, whose row is found at its place
abbrev pub IsNodeBy : Dp → ℕ → (ℕ → List ℤ) → Node → Type 0
IsNodeBy dp k row node = IsRowWith dp k (row node.row) node.value (print_of node)

-- a leader is such a node
abbrev pub IsLeaderBy : Dp → ℕ → (ℕ → List ℤ) → LeaderAt → Type 0
IsLeaderBy dp k row leader = IsRowWith dp k (row leader.row) leader.value leader.print

-- the region has a row at the place, with such a number, rank and hash
pub record IsIn (dp : Dp) (k : ℕ) (region : RegionView) (place : ℕ) (number : ℤ) (print : Fingerprint) : Type 0 where
  pub found : IsRow region place (held_row region place)
  pub with_row : IsRowWith dp k (held_row region place) number print

-- the region has the row of the node
abbrev pub IsNodeIn : Dp → ℕ → RegionView → Node → Type 0
IsNodeIn dp k region node = IsIn dp k region node.row node.value (print_of node)

-- or of the leader
abbrev pub IsLeaderIn : Dp → ℕ → RegionView → LeaderAt → Type 0
IsLeaderIn dp k region leader = IsIn dp k region leader.row leader.value leader.print

-- the leader with its row
abbrev pub leader_of : (ℕ → List ℤ) → LeaderAt → Leader
leader_of row leader = record { place = leader.place; row = row leader.row; value = leader.value }

-- the leaders with their rows
abbrev pub leaders_of : (ℕ → List ℤ) → List LeaderAt → List Leader
leaders_of row leaders = map (leader_of row) leaders

-- the leaders after the node stays at the place: an exact one becomes a leader while there are fewer than `MOST_LEADERS`
abbrev pub led_at : List LeaderAt → ℕ → Node → List LeaderAt
led_at leaders place node =
    cond (node.exact && not (nat_le MOST_LEADERS (length leaders))) (leaders ++ record { place = place; row = node.row; value = node.value; print = print_of node } ∷ []) leaders

-- a node of which only the row, the value and whether it is exact are known
abbrev pub bare : (ℕ → List ℤ) → Node → DdNode
bare row node = record { row = row node.row; value = node.value; exact = node.exact; arcs = []; path = []; suffix = None }
