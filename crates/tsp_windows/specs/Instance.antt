-- An instance of the travelling salesman with time windows, and the whole numbers that stand for it.
use Rattle.std.specs.Prelude.{ℕ, ◌+◌, ◌*◌, ◌<◌, ◌≤◌, ◌≡◌, ℤ, pos, Bool, not, ◌&&◌, nat_le, nat_eq, List, [], ◌∷◌, ◌++◌, length, take, drop, map, get_or, unwrap_or, unsigned_abs}
use Rattle.std.specs.List.{list_all}
use Rattle.node_sets.specs.Sums.{all_below, least_amount}
pub use Rattle.tsp_windows.specs.declared.window.Window.{Window}

-- this many nodes, the distances between them by row, and a window for each
pub record Instance : Type 0 where
  pub nodes : ℕ
  pub distances : List ℕ
  pub windows : List Window

-- the distance from a node to another
abbrev pub distance : Instance → ℕ → ℕ → ℕ
distance i from to = get_or i.distances (from * i.nodes + to) 0

-- a window that opens and closes at 0, which stands for a node that is none
abbrev pub no_window : Window
no_window = record { opening = 0; closing = 0 }

abbrev pub opening : Instance → ℕ → ℕ
opening i v = (get_or i.windows v no_window).opening

abbrev pub closing : Instance → ℕ → ℕ
closing i v = (get_or i.windows v no_window).closing

-- the least of the distances, by row, to a node from another one, and 0 where there is no other
unfoldable pub least_way : ℕ → List ℕ → ℕ → ℕ
least_way n distances v = unwrap_or (least_amount n (λ u. not (nat_eq u v)) (λ u. get_or distances (u * n + v) 0)) 0

-- the least distance to a node from another one
abbrev pub near : Instance → ℕ → ℕ
near i v = least_way i.nodes i.distances v

-- a window that does not close before it opens, at most 10^12
abbrev pub is_window : Window → Bool
is_window w = nat_le w.opening w.closing && nat_le w.closing 1000000000000

-- an instance within the limits: 1 to 300 nodes, distances of at most 10^9 and 0 from a node to itself, and windows
unfoldable pub is_small : Instance → Bool
is_small i = nat_le 1 i.nodes && (nat_le i.nodes 300 && (nat_eq (length i.distances) (i.nodes * i.nodes) && (list_all (λ d. nat_le d 1000000000) i.distances && (all_below i.nodes (λ v. nat_eq (distance i v v) 0) && (nat_eq (length i.windows) i.nodes && list_all is_window i.windows)))))

-- that test, as facts
pub record IsTourInstance (i : Instance) : Type 0 where
  pub some : 1 ≤ i.nodes
  pub few : i.nodes ≤ 300
  pub square : length i.distances ≡ i.nodes * i.nodes
  pub short : (k : ℕ) → get_or i.distances k 0 ≤ 1000000000
  pub home : (v : ℕ) → v < i.nodes → distance i v v ≡ 0
  pub each_window : length i.windows ≡ i.nodes
  pub opens : (v : ℕ) → opening i v ≤ closing i v
  pub closes : (v : ℕ) → closing i v ≤ 1000000000000

-- the numbers of windows: opening and closing of each
abbrev pub window_numbers : List Window → List ℤ
window_numbers [] = []
window_numbers (w ∷ ws) = pos w.opening ∷ (pos w.closing ∷ window_numbers ws)

-- the numbers of an instance: the nodes, the distances, the windows
unfoldable pub numbers_of : Instance → List ℤ
numbers_of i = pos i.nodes ∷ (map pos i.distances ++ window_numbers i.windows)

-- the windows that a list of numbers spells
abbrev pub windows_of : List ℤ → List Window
windows_of (a ∷ (b ∷ rest)) = record { opening = unsigned_abs a; closing = unsigned_abs b } ∷ windows_of rest
windows_of _ = []

-- the instance with this many nodes that the numbers after spell
abbrev pub instance_with : ℕ → List ℤ → Instance
instance_with n rest = record { nodes = n; distances = map unsigned_abs (take (n * n) rest); windows = windows_of (drop (n * n) rest) }

-- the instance that a list of numbers spells
unfoldable pub instance_of : List ℤ → Instance
instance_of [] = record { nodes = 0; distances = []; windows = [] }
instance_of (n ∷ rest) = instance_with (unsigned_abs n) rest
