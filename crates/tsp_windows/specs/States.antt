-- The states of a tour on its way: where it may stand, and which nodes it must and may still visit, at a time.
use Rattle.std.specs.Prelude.{ℕ, ◌+◌, ℤ, max, Bool, cond, not, ◌&&◌, ◌||◌, nat_eq, nat_lt, nat_le, List, ◌++◌, take, drop, Option, is_some, unwrap_or}
use Rattle.node_sets.specs.Sums.{all_below, sum_below, count_below, least_amount}
use Rattle.node_sets.specs.Sets.{has, is_set, row_of, words_for}
use Rattle.pending_rows.specs.Pending as rows
pub use Rattle.pending_rows.specs.Pending.{Pending, is_open, is_within, done}
use Rattle.tsp_windows.specs.Instance.{Instance, distance, opening, closing, near}

pub record TourState : Type 0 where
  pub positions : ℕ → Bool
  pub pending : Pending

-- the parts of a row: the set of positions, and the row of what must and may be visited
abbrev pub positions_of : ℕ → List ℤ → List ℤ
positions_of words s = take words s

abbrev pub pending_of : ℕ → List ℤ → List ℤ
pending_of words s = drop words s

-- the state that a row stands for
unfoldable pub shown : ℕ → List ℤ → TourState
shown words s = record { positions = has (positions_of words s); pending = rows.shown words (pending_of words s) }

-- the row that stands for a state
abbrev pub row_for : ℕ → TourState → List ℤ
row_for words t = row_of words t.positions ++ rows.row_for words t.pending

-- there is a position other than the node
abbrev pub from_elsewhere : TourState → ℕ → ℕ → Bool
from_elsewhere t d p = t.positions p && not (nat_eq p d)

-- the least distance to a node from a position other than it, or none where there is no such position
unfoldable pub leg : Instance → TourState → ℕ → Option ℕ
leg i t d = least_amount i.nodes (from_elsewhere t d) (λ p. distance i p d)

-- when a node is reached at the earliest
abbrev pub arrival : Instance → TourState → ℕ → ℕ
arrival i t d = t.pending.time + unwrap_or (leg i t d) 0

-- when a node is left at the earliest: an early arrival waits for the opening
abbrev pub departure : Instance → TourState → ℕ → ℕ
departure i t d = max (arrival i t d) (opening i d)

-- a node other than 0 that must or may be visited is reached in time
abbrev pub may_visit : Instance → TourState → ℕ → Bool
may_visit i t d = not (nat_eq d 0) && (is_open t.pending d && (is_some (leg i t d) && nat_le (arrival i t d) (closing i d)))

-- node 0 is reached in time, and no other node must be visited
abbrev pub may_return : Instance → TourState → ℕ → Bool
may_return i t d = nat_eq d 0 && (all_below i.nodes (λ v. not (t.pending.must v)) && ((is_some (leg i t d) || nat_eq i.nodes 1) && nat_le (arrival i t d) (closing i d)))

-- the last decision returns to node 0, and each other one visits a node
abbrev pub may_go : Instance → ℕ → TourState → ℕ → Bool
may_go i k t d = cond (nat_lt (k + 1) i.nodes) (may_visit i t d) (may_return i t d)

-- the state after a visit: at the node, which is done by when it is left
unfoldable pub moved : Instance → TourState → ℕ → TourState
moved i t d = record { positions = λ p. nat_eq p d; pending = done t.pending d (departure i t d) }

-- what two states have together: all positions, and what is pending in both
unfoldable pub joined : TourState → TourState → TourState
joined a b = record { positions = λ p. a.positions p || b.positions p; pending = rows.joined a.pending b.pending }

-- whether each way on from b is one from a, and no later
abbrev pub covers : ℕ → TourState → TourState → Bool
covers n a b = rows.covers n a.pending b.pending && is_within n b.positions a.positions

-- whether no tour can be completed from the state, as far as the number of nodes and the least ways to them tell
abbrev pub is_lost : Instance → ℕ → TourState → Bool
is_lost i k t =
    nat_lt i.nodes (count_below i.nodes t.pending.must + k + 1)
    || (not (all_below i.nodes (λ v. nat_le (t.pending.time + near i v) (closing i v) || not (t.pending.must v)))
    || nat_lt (closing i 0) (t.pending.time + near i 0))

-- the least ways to all nodes that must be visited, and home
abbrev pub way_left : Instance → TourState → ℕ
way_left i t = sum_below i.nodes t.pending.must (near i) + near i 0

-- the tour at its start: all nodes must be visited, of which node 0 is done when it opens
unfoldable pub start : Instance → TourState
start i = record { positions = λ p. nat_eq p 0; pending = done (rows.start i.nodes) 0 (opening i 0) }

-- a state: some position, and node 0 is neither to be visited nor may it be
abbrev pub is_sound : ℕ → TourState → Bool
is_sound n t = not (all_below n (λ p. not (t.positions p))) && (not (t.pending.must 0) && not (t.pending.may 0))

-- whether a row is a state: a set of positions, and a row of what must and may be visited
abbrev pub is_state_row : ℕ → List ℤ → Bool
is_state_row n s = is_set n (positions_of (words_for n) s) && (rows.is_pending_row n (pending_of (words_for n) s) && is_sound n (shown (words_for n) s))
