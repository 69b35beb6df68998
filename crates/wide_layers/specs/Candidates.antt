-- The candidates of a layer, by earlier parent and then by lesser decision.
use Rattle.std.specs.Prelude.{◌≡◌, ℕ, zero, suc, ◌+◌, ◌-◌, ℤ, true, List, [], ◌++◌, map, slice_get, option_map, unwrap_or}
use Rattle.dp_model.specs.Dp.{Dp}
use Rattle.dp_model.specs.Decisions.{below}
use Rattle.dp_laws.specs.Diagrams.Nodes.{DdNode}
use Rattle.layer_candidates.specs.Extending.{all_allowed}

-- a candidate: the place of its parent in the layer and the parent's state, the decision with what it gains, and the state that it
-- leads to with its rank
pub record Candidate : Type 0 where
  pub parent : ℕ
  pub state : List ℤ
  pub decision : ℕ
  pub gain : ℤ
  pub row : List ℤ
  pub rank : ℤ

-- a candidate for the layer below depth k: the parent stands at the place i and has the state s
abbrev pub candidate : Dp → ℕ → ℕ → List ℤ → ℕ → Candidate
candidate dp k i s d = record { parent = i; state = s; decision = d; gain = dp.gain k s d; row = dp.step k s d; rank = dp.rank (k + 1) (dp.step k s d) }

-- the candidates of a parent by those of the decisions that are allowed
abbrev pub candidates_by : Dp → ℕ → ℕ → List ℤ → List ℕ → List Candidate
candidates_by dp k i s decisions = map (candidate dp k i s) (all_allowed dp k s decisions)

-- all candidates of a parent
abbrev pub candidates_of : Dp → ℕ → ℕ → List ℤ → List Candidate
candidates_of dp k i s = candidates_by dp k i s (below (dp.choices k))

-- those of n parents from the place `from` on, where the places have these states
abbrev pub candidates_from : Dp → ℕ → (ℕ → List ℤ) → ℕ → ℕ → List Candidate
candidates_from dp k state from zero = []
candidates_from dp k state from (suc n) = candidates_from dp k state from n ++ candidates_of dp k (from + n) (state (from + n))

-- the state of the node at the place
abbrev pub state_at : List DdNode → ℕ → List ℤ
state_at nodes i = unwrap_or (option_map (λ (node : DdNode). node.row) (slice_get nodes i)) []

-- those of the nodes from the place `from` to the one before `to`
abbrev pub candidates_between : Dp → ℕ → List DdNode → ℕ → ℕ → List Candidate
candidates_between dp k nodes from to = candidates_from dp k (state_at nodes) from (to - from)

-- the decision is allowed in the state s of layer k, and gains so much and leads to the row with the rank
pub record IsMade (dp : Dp) (k : ℕ) (s : List ℤ) (d : ℕ) (gain rank : ℤ) (row : List ℤ) : Type 0 where
  pub allowed : dp.allowed k s d ≡ true
  pub gain_is : gain ≡ dp.gain k s d
  pub row_is : row ≡ dp.step k s d
  pub rank_is : rank ≡ dp.rank (k + 1) (dp.step k s d)

-- the candidate is one by its decision from its parent's state
abbrev pub IsRight : Dp → ℕ → Candidate → Type 0
IsRight dp k c = IsMade dp k c.state c.decision c.gain c.rank c.row
