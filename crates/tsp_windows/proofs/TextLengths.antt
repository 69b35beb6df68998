-- The canonical text is short.
use Rattle.std.proofs.Common.{◌≡◌, ℕ, suc, ◌+◌, ◌*◌, ◌^◌, ◌≤◌, pos, List, [], ◌∷◌, ◌++◌, length, get_or, sym, subst, arith}
use Rattle.std.proofs.Math.Nat.{mul-le-mul_left}
use Rattle.std.proofs.lemmas.Fmt.{length-decimal-le}
use Rattle.std.proofs.lemmas.List.{length-append}
use Rattle.tokens.specs.Decimal.{decimal_of}
use Rattle.tokens.proofs.Lengths.{parts_short}
use Rattle.tsp_windows.specs.Instance.{Instance, Window, IsTourInstance, no_window}
use Rattle.tsp_windows.specs.Texts.{separator, printed_distances, printed_window, printed_windows, printed}

distances_short : (n k : ℕ) (ds : List ℕ) → ((j : ℕ) → get_or ds j 0 ≤ 1000000000) → length (printed_distances n k ds) ≤ 11 * length ds
distances_short n k [] h = omega arith
distances_short n k (d ∷ ds) h =
    let here : d ≤ 1000000000 = h 0 in
    let digits : length (decimal_of (pos d)) ≤ 10 = length-decimal-le 10 d (omega arith) (omega arith) (omega arith) in
    let others = distances_short n (k + 1) ds (λ j. h (suc j)) in
    omega (arith, digits, others, length-append (decimal_of (pos d)) (separator n k ∷ printed_distances n (k + 1) ds))

window_short : (w : Window) → w.opening ≤ w.closing → w.closing ≤ 1000000000000 → length (printed_window w) ≤ 28
window_short w opens closes =
    let first : length (decimal_of (pos w.opening)) ≤ 13 = length-decimal-le 13 w.opening (omega arith) (omega arith) (omega arith) in
    let second : length (decimal_of (pos w.closing)) ≤ 13 = length-decimal-le 13 w.closing (omega arith) (omega arith) (omega arith) in
    omega (arith, first, second, length-append (decimal_of (pos w.opening)) (32 ∷ (decimal_of (pos w.closing) ++ 10 ∷ [])), length-append (decimal_of (pos w.closing)) (10 ∷ []))

record AreClosed (ws : List Window) : Type 0 where
  opens : (v : ℕ) → (get_or ws v no_window).opening ≤ (get_or ws v no_window).closing
  closes : (v : ℕ) → (get_or ws v no_window).closing ≤ 1000000000000

windows_short : (ws : List Window) → AreClosed ws → length (printed_windows ws) ≤ 28 * length ws
windows_short ws closed =
    parts_short printed_window 28 AreClosed
    (λ w rest h. (window_short w (h.opens 0) (h.closes 0), record { opens = λ v. h.opens (suc v); closes = λ v. h.closes (suc v) })) ws closed

printed_short : (i : Instance) → IsTourInstance i → length (printed i) ≤ 2 ^ 30
unfolding printed
printed_short i small =
    let few = small.few in
    let nodes : length (decimal_of (pos i.nodes)) ≤ 3 = length-decimal-le 3 i.nodes (omega arith) (omega arith) (omega arith) in
    let square = mul-le-mul_left i.nodes few in
    let distances = distances_short i.nodes 0 i.distances small.short in
    let windows = windows_short i.windows (record { opens = small.opens; closes = small.closes }) in
    omega (arith, nodes, square, distances, windows, small.square, small.each_window, length-append (decimal_of (pos i.nodes)) (10 ∷ (printed_distances i.nodes 0 i.distances ++ printed_windows i.windows)), length-append (printed_distances i.nodes 0 i.distances) (printed_windows i.windows))

pub printed_is_short : (i : Instance) (text : List ℕ) → IsTourInstance i → text ≡ printed i → length text ≤ 2 ^ 30
printed_is_short i text small e = subst (λ (bytes : List ℕ). length bytes ≤ 2 ^ 30) (sym e) (printed_short i small)
