-- The windows round the times of a way.
use Rattle.std.proofs.Common.{◌≡◌, ◌∙◌, ℕ, zero, suc, ◌+◌, ◌-◌, ◌*◌, ◌<◌, ◌≤◌, true, nat_le, List, [], ◌∷◌, ◌++◌, length, map, get_or, refl, sym, ap, arith}
use Rattle.std.specs.List.{list_all, range_with_len}
use Rattle.std.proofs.lemmas.Bool.{and_from, le-leb}
use Rattle.std.proofs.lemmas.List.FromFn.{length-map-range_with_len, map-range_with_len_more}
use Rattle.tsp_windows.specs.Instance.{Window, is_small, is_window}
use Rattle.tsp_windows.specs.Generating.{AreDistances, home_again, reached_along, way_on, window_along, windows_along}
use Rattle.tsp_windows.proofs.Readings.{small_from}

-- the time so far, and one node later
pub reached_next : (n v : ℕ) (ds : List ℕ) (time way : ℕ) → 1 ≤ v → time ≡ reached_along n ds (v - 1) → way ≡ way_on n ds (v - 1) → time + way ≡ reached_along n ds v
reached_next n zero ds time way some is on = absurd (omega arith)
reached_next n (suc v) ds time way some is on =
    let before : suc v - 1 ≡ v = omega arith in
    let a : time ≡ reached_along n ds v = is ∙ ap (reached_along n ds) before in
    let b : way ≡ way_on n ds v = on ∙ ap (way_on n ds) before in
    λ i. a i + b i

-- the window of a node after the first
pub window_next : (n v : ℕ) (ds : List ℕ) (time : ℕ) → 1 ≤ v → time ≡ reached_along n ds v → window_along n ds v ≡ record { opening = time - 40; closing = time + 40 }
window_next n zero ds time some is = absurd (omega arith)
window_next n (suc v) ds time some is = λ i. record { opening = sym is i - 40; closing = sym is i + 40 }

reached_early : (n k v : ℕ) (ds : List ℕ) → AreDistances n k ds → reached_along n ds v ≤ 50 * v
reached_early n k zero ds a = omega arith
reached_early n k (suc v) ds a =
    let before = reached_early n k v ds a in
    let way = a.short (v * n + (v + 1)) in
    omega (arith, before, way)

pub home_early : (n k : ℕ) (ds : List ℕ) → AreDistances n k ds → 1 ≤ n → n ≤ 300 → home_again n ds ≤ 15000
home_early n k ds a some few =
    let before = reached_early n k (n - 1) ds a in
    let way = a.short ((n - 1) * n) in
    omega (arith, before, way)

one_window : (n k v : ℕ) (ds : List ℕ) → AreDistances n k ds → 1 ≤ n → n ≤ 300 → v < n → is_window (window_along n ds v) ≡ true
one_window n k zero ds a some few inside =
    let home = home_early n k ds a some few in
    and_from (nat_le 0 (home_again n ds + 40)) _ (le-leb 0 (home_again n ds + 40) (omega arith)) (le-leb (home_again n ds + 40) 1000000000000 (omega (arith, home)))
one_window n k (suc v) ds a some few inside =
    let early = reached_early n k (suc v) ds a in
    and_from (nat_le (reached_along n ds (suc v) - 40) (reached_along n ds (suc v) + 40)) _ (le-leb (reached_along n ds (suc v) - 40) (reached_along n ds (suc v) + 40) (omega arith))
    (le-leb (reached_along n ds (suc v) + 40) 1000000000000 (omega (arith, early)))

all_windows : (n k a count : ℕ) (ds : List ℕ) → AreDistances n k ds → 1 ≤ n → n ≤ 300 → a + count ≤ n → list_all is_window (map (window_along n ds) (range_with_len a count)) ≡ true
all_windows n k a zero ds d some few inside = refl
all_windows n k a (suc count) ds d some few inside =
    and_from (is_window (window_along n ds a)) _ (one_window n k a ds d some few (omega arith)) (all_windows n k (a + 1) count ds d some few (omega arith))

-- this many windows, and the time of the last node that has one
pub record AreAlong (n v time : ℕ) (ds : List ℕ) (ws : List Window) : Type 0 where
  pub windows : ws ≡ map (window_along n ds) (range_with_len 0 v)
  pub is_time : time ≡ reached_along n ds (v - 1)
  pub early : time ≤ 50 * v

pub along_next : (n v time way : ℕ) (ds : List ℕ) (ws more : List Window) → AreAlong n v time ds ws → 1 ≤ v → way ≡ way_on n ds (v - 1) → way ≤ 50
    → more ≡ ws ++ record { opening = (time + way) - 40; closing = (time + way) + 40 } ∷ [] → AreAlong n (v + 1) (time + way) ds more
along_next n v time way ds ws more a some on short pushed =
    let later = reached_next n v ds time way some a.is_time on in
    record {
      windows = pushed ∙ (λ i. a.windows i ++ sym (window_next n v ds (time + way) some later) i ∷ []) ∙ sym (map-range_with_len_more (window_along n ds) 0 v v (omega arith));
      is_time = later ∙ ap (reached_along n ds) (omega arith);
      early = let e = a.early in omega (arith, e, short);
    }

-- the instance is within the limits
pub drawn_small : (n : ℕ) (ds : List ℕ) (ws : List Window) → 1 ≤ n → n ≤ 300 → AreDistances n (n * n) ds → ws ≡ windows_along n ds
    → is_small (record { nodes = n; distances = ds; windows = ws }) ≡ true
drawn_small n ds ws some few d is =
    small_from n ds ws some few (record { short = short ds d.short; home = d.home }) d.long (ap length is ∙ length-map-range_with_len (window_along n ds) 0 n)
    (ap (list_all is_window) is ∙ all_windows n (n * n) 0 n ds d some few (omega arith))
  where
    short : (ds : List ℕ) → ((k : ℕ) → get_or ds k 0 ≤ 50) → list_all (λ d. nat_le d 1000000000) ds ≡ true
    short [] h = refl
    short (x ∷ xs) h = let first = h 0 in and_from (nat_le x 1000000000) _ (le-leb x 1000000000 (omega (arith, first))) (short xs (λ k. h (suc k)))
