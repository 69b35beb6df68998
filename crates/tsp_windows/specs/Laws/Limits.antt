-- Instances within the limits, and the numbers that stand for them.
use Rattle.std.proofs.Common.{◌≡◌, ℕ, zero, suc, ◌*◌, ◌≤◌, pos, nat_abs, true, ◌&&◌, nat_eq, nat_le, List, [], ◌∷◌, length, map, get_or, refl, sym, ap, ap₂, ◌∙◌, subst, arith}
use Rattle.std.specs.List.{list_all}
use Rattle.std.proofs.lemmas.Bool.{eqb-true, and_parts, leb-true}
use Rattle.std.proofs.lemmas.List.{take_at, drop_at, length-map}
use Rattle.node_sets.specs.Sums.{all_below}
use Rattle.node_sets.proofs.Below.{all_below-gives}
use Rattle.dp_model.specs.Laws.{IsLawful, IsChained}
use Rattle.tsp_windows.specs.Instance.{Instance, IsTourInstance, Window, distance, no_window, is_window, is_small, window_numbers, numbers_of, windows_of, instance_of}
use Rattle.tsp_windows.specs.Program.{program, program_of}
use Rattle.tsp_windows.specs.Laws.Program.{lawful_program, chained_program}

short_all : (ds : List ℕ) → list_all (λ d. nat_le d 1000000000) ds ≡ true → (k : ℕ) → get_or ds k 0 ≤ 1000000000
short_all [] e k = omega arith
short_all (d ∷ ds) e zero = leb-true d 1000000000 (and_parts (nat_le d 1000000000) (list_all (λ d. nat_le d 1000000000) ds) e).0
short_all (d ∷ ds) e (suc k) = short_all ds (and_parts (nat_le d 1000000000) (list_all (λ d. nat_le d 1000000000) ds) e).1 k

record IsOpen (w : Window) : Type 0 where
  opens : w.opening ≤ w.closing
  closes : w.closing ≤ 1000000000000

open_one : (w : Window) → is_window w ≡ true → IsOpen w
open_one w e = record {
  opens = leb-true w.opening w.closing (and_parts (nat_le w.opening w.closing) (nat_le w.closing 1000000000000) e).0;
  closes = leb-true w.closing 1000000000000 (and_parts (nat_le w.opening w.closing) (nat_le w.closing 1000000000000) e).1;
}

open_all : (ws : List Window) → list_all is_window ws ≡ true → (v : ℕ) → IsOpen (get_or ws v no_window)
open_all [] e v = record { opens = omega arith; closes = omega arith }
open_all (w ∷ ws) e zero = open_one w (and_parts (is_window w) (list_all is_window ws) e).0
open_all (w ∷ ws) e (suc v) = open_all ws (and_parts (is_window w) (list_all is_window ws) e).1 v

pub is_small-gives : (i : Instance) → is_small i ≡ true → IsTourInstance i
unfolding is_small
is_small-gives i e0 =
    let e1 = (and_parts (nat_le 1 i.nodes) (nat_le i.nodes 300 && (nat_eq (length i.distances) (i.nodes * i.nodes) && (list_all (λ d. nat_le d 1000000000) i.distances && (all_below i.nodes (λ v. nat_eq (distance i v v) 0) && (nat_eq (length i.windows) i.nodes && list_all is_window i.windows))))) e0).1 in
    let e2 = (and_parts (nat_le i.nodes 300) (nat_eq (length i.distances) (i.nodes * i.nodes) && (list_all (λ d. nat_le d 1000000000) i.distances && (all_below i.nodes (λ v. nat_eq (distance i v v) 0) && (nat_eq (length i.windows) i.nodes && list_all is_window i.windows)))) e1).1 in
    let e3 = (and_parts (nat_eq (length i.distances) (i.nodes * i.nodes)) (list_all (λ d. nat_le d 1000000000) i.distances && (all_below i.nodes (λ v. nat_eq (distance i v v) 0) && (nat_eq (length i.windows) i.nodes && list_all is_window i.windows))) e2).1 in
    let e4 = (and_parts (list_all (λ d. nat_le d 1000000000) i.distances) (all_below i.nodes (λ v. nat_eq (distance i v v) 0) && (nat_eq (length i.windows) i.nodes && list_all is_window i.windows)) e3).1 in
    let e5 = (and_parts (all_below i.nodes (λ v. nat_eq (distance i v v) 0)) (nat_eq (length i.windows) i.nodes && list_all is_window i.windows) e4).1 in
    let square = eqb-true (length i.distances) (i.nodes * i.nodes) (and_parts (nat_eq (length i.distances) (i.nodes * i.nodes)) _ e2).0 in
    let windows = (and_parts (nat_eq (length i.windows) i.nodes) (list_all is_window i.windows) e5).1 in
    record {
      some = leb-true 1 i.nodes (and_parts (nat_le 1 i.nodes) _ e0).0;
      few = leb-true i.nodes 300 (and_parts (nat_le i.nodes 300) _ e1).0;
      square = square;
      short = short_all i.distances (and_parts (list_all (λ d. nat_le d 1000000000) i.distances) _ e3).0;
      home = λ v l. eqb-true (distance i v v) 0 (all_below-gives i.nodes (λ v. nat_eq (distance i v v) 0) (and_parts (all_below i.nodes (λ v. nat_eq (distance i v v) 0)) _ e4).0 v l);
      each_window = eqb-true (length i.windows) i.nodes (and_parts (nat_eq (length i.windows) i.nodes) _ e5).0;
      opens = λ v. (open_all i.windows windows v).opens;
      closes = λ v. (open_all i.windows windows v).closes;
    }

windows_of-numbers : (ws : List Window) → windows_of (window_numbers ws) ≡ ws
windows_of-numbers [] = refl
windows_of-numbers (w ∷ ws) = ap (λ (l : List Window). w ∷ l) (windows_of-numbers ws)

naturals : (ds : List ℕ) → map nat_abs (map pos ds) ≡ ds
naturals [] = refl
naturals (d ∷ ds) = ap (λ (l : List ℕ). d ∷ l) (naturals ds)

-- the numbers of an instance spell it
pub instance_of-numbers_of : (i : Instance) → length i.distances ≡ i.nodes * i.nodes → instance_of (numbers_of i) ≡ i
unfolding instance_of numbers_of
instance_of-numbers_of i l =
    let square : length (map pos i.distances) ≡ i.nodes * i.nodes = length-map i.distances pos ∙ l in
    ap₂ (λ (ds : List ℕ) (ws : List Window). let j : Instance = record { nodes = i.nodes; distances = ds; windows = ws } in j)
    (ap (map nat_abs) (take_at (map pos i.distances) (window_numbers i.windows) (i.nodes * i.nodes) square) ∙ naturals i.distances)
    (ap windows_of (drop_at (map pos i.distances) (window_numbers i.windows) (i.nodes * i.nodes) square) ∙ windows_of-numbers i.windows)

pub lawful_numbers : (i : Instance) → is_small i ≡ true → instance_of (numbers_of i) ≡ i → IsLawful (program (numbers_of i))
lawful_numbers i small spelled = subst (λ (j : Instance). IsLawful (program_of j)) (sym spelled) (lawful_program i (is_small-gives i small))

pub chained_numbers : (i : Instance) → instance_of (numbers_of i) ≡ i → IsChained (program (numbers_of i))
chained_numbers i spelled = subst (λ (j : Instance). IsChained (program_of j)) (sym spelled) (chained_program i)
