-- A layer is expanded: what its nodes are tried by, and what comes of it.
use Rattle.std.specs.Prelude.{◌≡◌, ℕ, ◌+◌, ◌*◌, ◌<◌, ◌≤◌, nat_eq, ℤ, pos, Bool, true, false, not, ◌&&◌, ◌||◌, List, [], ◌∷◌, ◌++◌, length, map, set, slice_index_or, Option, Some, None, IsPermutation, IsSortedBy}
use Rattle.dp_model.specs.Decisions.{below}
use Rattle.dp_model.specs.Dp.{Dp}
use Rattle.dp_model.specs.Lists.{Each}
use Rattle.dp_model.specs.Rows.{row_same}
use Rattle.dp_laws.specs.Rules.Compiling.{TwoLayers}
use Rattle.dp_laws.specs.Diagrams.Nodes.{DdNode}
use Rattle.dp_laws.specs.declared.arc.DdArc.{DdArc}
use Rattle.layer_candidates.specs.declared.key.Key.{Key}
use Rattle.layer_candidates.specs.declared.member.Member.{Member}
use Rattle.layer_candidates.specs.declared.way.Way.{Way}
use Rattle.layer_candidates.specs.Extending.{all_allowed}
use Rattle.layer_candidates.specs.KeyOrder.{keys_of, goes_before}
use Rattle.layer_candidates.specs.Ways.{way_at}
use Rattle.layer_nodes.specs.declared.node.Node.{Node}
use Rattle.layer_nodes.specs.declared.routing.Route.{Route}
use Rattle.layer_nodes.specs.Nodes.{shown_layer, shown_below, without_arcs}
use Rattle.layer_nodes.specs.Packed.{no_place}
use Rattle.layer_nodes.specs.Routing.{route_at, IsPlain}
use Rattle.layer_nodes.specs.Steps.{IsRanked}
use Rattle.layer_nodes.specs.Stored.{node_view_by, rows_in, HasArcsIn}

-- a node as a member of a layer, reached by the step of its place
abbrev pub member_of : Node → ℕ → Member
member_of node i = record { value = node.value; rank = node.rank; hash = node.hash; row = node.row; step = i }

-- the nodes from the place i on as members
abbrev pub members_from : ℕ → List Node → List Member
members_from i [] = []
members_from i (node ∷ nodes) = member_of node i ∷ members_from (i + 1) nodes

-- the node at the place
abbrev pub node_in : List Node → ℕ → Node
node_in nodes i = slice_index_or nodes i (record { value = pos 0; rank = pos 0; hash = 0; suffix = None; parent = None; row = 0; decision = 0; first_arc = 0; arcs = 0; exact = false })

-- a node's state and mark, with a decision
pub record Trial : Type 0 where
  pub state : List ℤ
  pub exact : Bool
  pub decision : ℕ

-- the trial by a decision
abbrev pub trial : List ℤ → Bool → ℕ → Trial
trial s exact d = record { state = s; exact = exact; decision = d }

-- the row that it makes
abbrev pub made_by : Dp → ℕ → Trial → List ℤ
made_by dp k t = dp.step k t.state t.decision

-- the trials by those of the decisions that are allowed
abbrev pub trials_by : Dp → ℕ → List ℤ → Bool → List ℕ → List Trial
trials_by dp k s exact decisions = map (trial s exact) (all_allowed dp k s decisions)

-- those of a node, where places have these rows
abbrev pub trials_at : Dp → ℕ → (ℕ → List ℤ) → Node → List Trial
trials_at dp k held node = trials_by dp k (held node.row) node.exact (below (dp.choices k))

-- those of some nodes
abbrev pub trials_of : Dp → ℕ → (ℕ → List ℤ) → List Node → List Trial
trials_of dp k held [] = []
trials_of dp k held (node ∷ nodes) = trials_at dp k held node ++ trials_of dp k held nodes

-- a node's arcs are this many from the place on
abbrev pub spanned : ℕ → ℕ → Node → Node
spanned first count node = record node { first_arc = first; arcs = count }

-- the nodes' arcs are those of their trials, one node's after another's
abbrev pub all_spanned : Dp → ℕ → (ℕ → List ℤ) → ℕ → List Node → List Node
all_spanned dp k held first [] = []
all_spanned dp k held first (node ∷ nodes) =
    spanned first (length (trials_at dp k held node)) node
    ∷ all_spanned dp k held (first + length (trials_at dp k held node)) nodes

-- the arc of a trial to a place
abbrev pub arc_to : Dp → ℕ → Trial → ℕ → DdArc
arc_to dp k t place = record { decision = t.decision; target = Some place; gain = dp.gain k t.state t.decision; longer = pos 0 }

-- the arc leads to the place of the way whose row the trial makes, one of this many
pub record LeadsToRow (dp : Dp) (k : ℕ) (row : ℕ → List ℤ) (count : ℕ) (t : Trial) (arc : DdArc) : Type 0 where
  pub place : ℕ
  pub is : arc ≡ arc_to dp k t place
  pub within : place < count
  pub made : row place ≡ made_by dp k t

-- each trial has its arc
abbrev pub AreArcsOf : Dp → ℕ → (ℕ → List ℤ) → ℕ → List Trial → List DdArc → Type 0
AreArcsOf dp k row count [] [] = Unit {0}
AreArcsOf dp k row count [] (arc ∷ arcs) = ⊥
AreArcsOf dp k row count (t ∷ ts) [] = ⊥
AreArcsOf dp k row count (t ∷ ts) (arc ∷ arcs) = LeadsToRow dp k row count t arc × AreArcsOf dp k row count ts arcs

-- whether each trial that makes the row is one of an exact node
abbrev pub all_exact : Dp → ℕ → List Trial → List ℤ → Bool
all_exact dp k [] row = true
all_exact dp k (t ∷ ts) row = (t.exact || not (row_same (made_by dp k t) row)) && all_exact dp k ts row

-- the mark at the place
abbrev pub mark_at : List Bool → ℕ → Bool
mark_at marks i = slice_index_or marks i true

-- the marks after one more trial, whose row stands at the place: a new row after this many, or one of them
abbrev pub marked : List Bool → ℕ → ℕ → Bool → List Bool
marked marks count place exact = set marks place (exact && (nat_eq place count || mark_at marks place))

-- some trials were made: each has its arc, and each of this many ways its mark
pub record AreTried (dp : Dp) (k : ℕ) (row : ℕ → List ℤ) (count : ℕ) (ts : List Trial) (marks : List Bool) (arcs : List DdArc) : Type 0 where
  pub arcs_are : AreArcsOf dp k row count ts arcs
  pub marks_are : (i : ℕ) → i < count → mark_at marks i ≡ all_exact dp k ts (row i)

-- the key at the place
abbrev pub key_in : List Key → ℕ → Key
key_in keys i = slice_index_or keys i (record { value = pos 0; rank = pos 0; place = 0; row = 0 })

-- the number of the way at the place p, or none
abbrev pub number_at : List Route → ℕ → Option ℕ
number_at routes p = (route_at routes p).target

-- the way at the place p has a number, which is the place of its key among the first n
pub record IsNumbered (n : ℕ) (keys : List Key) (routes : List Route) (p : ℕ) : Type 0 where
  pub number : ℕ
  pub is : number_at routes p ≡ Some number
  pub within : number < n
  pub same : (key_in keys number).place ≡ p

-- the place of each way's parent is less than the number that stands for none
abbrev pub HaveParents : List Way → Type 0
HaveParents ways = (i : ℕ) → i < length ways → (way_at ways i).parent < no_place

-- the node of a key's way, with its mark
abbrev pub node_of : List Way → List Bool → Key → Node
node_of ways marks key = record {
  value = key.value;
  rank = key.rank;
  hash = (way_at ways key.place).hash;
  suffix = None;
  parent = Some (way_at ways key.place).parent;
  row = key.row;
  decision = (way_at ways key.place).decision;
  first_arc = 0;
  arcs = 0;
  exact = mark_at marks key.place;
}

-- the ways in the reduction order became the nodes, and their routes lead to the places of these; places have these rows
pub record AreArranged (held : ℕ → List ℤ) (ways : List Way) (marks : List Bool) (routes : List Route) (nodes : List Node) : Type 0 where
  pub keys : List Key
  pub all : IsPermutation (keys_of ways) keys
  pub sorted : IsSortedBy (goes_before held) keys
  pub numbered : (j : ℕ) → j < length keys → IsNumbered (length keys) keys routes (key_in keys j).place
  pub plain : Each IsPlain routes
  pub nodes_are : nodes ≡ map (node_of ways marks) keys

-- the nodes of the layer at depth k are extended by the rule, and those below are the next layer, whatever the paths are, and
-- whatever arcs there were before; places have the rows `above` for the nodes above, and `held` for those below
pub record IsExpanded (rule : List DdNode → TwoLayers) (dp : Dp) (k : ℕ) (above : ℕ → List ℤ) (old new : List Node) (arcs : List DdArc) (held : ℕ → List ℤ) (below : List Node) : Type 0 where
  pub above_is : (before : List DdArc) (paths : ℕ → List ℕ) → shown_layer paths (map (node_view_by above arcs) new)
      ≡ (rule (shown_layer paths (map (node_view_by above before) old))).above
  pub next_is : (before any : List DdArc) (paths : ℕ → List ℕ) → shown_below paths (map (node_view_by held any) below)
      ≡ (rule (shown_layer paths (map (node_view_by above before) old))).next
  pub rest : (before : List DdArc) → map without_arcs (map (node_view_by above arcs) new) ≡ map without_arcs (map (node_view_by above before) old)
  pub places : rows_in new ≡ rows_in old
  pub ranked : (any : List DdArc) → Each (IsRanked dp (k + 1)) (map (node_view_by held any) below)
  pub arcs_lie : Each (HasArcsIn arcs) new
  pub bare : (any : List DdArc) → Each (HasArcsIn any) below
  pub same : length new ≡ length old
  pub few : length below ≤ length old * dp.choices k
  pub few_arcs : length arcs ≤ length old * dp.choices k
