-- Problems that are drawn from a seed.
use Rattle.std.specs.Prelude.{◌≡◌, ℕ, zero, suc, ◌+◌, ◌-◌, ◌*◌, ◌/◌, ◌%◌, ◌<◌, ◌≤◌, Bool, cond, nat_eq, List, [], ◌∷◌, ◌++◌, length, map, get_or}
use Rattle.std.specs.List.{range_with_len}
use Rattle.draws.specs.Draws.{next, drawn, steps}
use Rattle.tsp_windows.specs.Instance.{Instance, Window}

-- whether a place in the rows is that of a node's distance to itself
abbrev pub is_home : ℕ → ℕ → Bool
is_home n place = nat_eq (place / n) (place % n)

-- the distance at that place: 0 from a node to itself, and by a draw from 10 to 50 else
abbrev pub distance_drawn : ℕ → ℕ → ℕ → ℕ
distance_drawn n place x = cond (is_home n place) 0 (10 + drawn x % 41)

-- the draws that it leaves
abbrev pub following_distance : ℕ → ℕ → ℕ → ℕ
following_distance n place x = cond (is_home n place) x (next x)

-- the distances with one more
abbrev pub with_distance : ℕ → List ℕ → ℕ → List ℕ × ℕ
with_distance n ds x = (ds ++ distance_drawn n (length ds) x ∷ [], following_distance n (length ds) x)

-- the distances by row
abbrev pub distances_drawn : ℕ → ℕ → List ℕ
distances_drawn n seed = (steps (with_distance n) (n * n) [] seed).0

-- this many distances by row, of at most 50, and 0 from a node to itself
pub record AreDistances (n count : ℕ) (ds : List ℕ) : Type 0 where
  pub long : length ds ≡ count
  pub short : (k : ℕ) → get_or ds k 0 ≤ 50
  pub home : (k : ℕ) → k < length ds → k / n ≡ k % n → get_or ds k 0 ≡ 0

-- the distance from a node to the one that is numbered after it
abbrev pub way_on : ℕ → List ℕ → ℕ → ℕ
way_on n ds v = get_or ds (v * n + (v + 1)) 0

-- when a node is reached on the way from node to node, in the order of their numbers, from time 0
abbrev pub reached_along : ℕ → List ℕ → ℕ → ℕ
reached_along n ds zero = 0
reached_along n ds (suc v) = reached_along n ds v + way_on n ds v

-- when node 0 is reached again on that way
abbrev pub home_again : ℕ → List ℕ → ℕ
home_again n ds = reached_along n ds (n - 1) + get_or ds ((n - 1) * n) 0

-- the window of a node: from 40 before it is reached, but not before 0, to 40 after; for node 0 from 0 to 40 after its second time
abbrev pub window_along : ℕ → List ℕ → ℕ → Window
window_along n ds zero = record { opening = 0; closing = home_again n ds + 40 }
window_along n ds (suc v) = record { opening = reached_along n ds (suc v) - 40; closing = reached_along n ds (suc v) + 40 }

abbrev pub windows_along : ℕ → List ℕ → List Window
windows_along n ds = map (window_along n ds) (range_with_len 0 n)

-- the instance of n nodes from a seed
abbrev pub generated : ℕ → ℕ → Instance
generated n seed = record { nodes = n; distances = distances_drawn n seed; windows = windows_along n (distances_drawn n seed) }
