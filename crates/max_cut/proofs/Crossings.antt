-- The weight across, one component or one vertex more.
use Rattle.std.proofs.Common.{◌≡◌, ℕ, suc, ◌+◌, ◌-◌, ◌^◌, ◌<◌, ◌≤◌, ℤ, FitsSigned, w64, pos, ◌+ℤ◌, ◌≤ℤ◌, List, [], ◌∷◌, length, get_or, take, drop, Bool, true, false, cond, eqb, arith, ap, ◌∙◌, sym}
use Rattle.std.proofs.lemmas.Int.{ints, clamps}
use Rattle.std.proofs.lemmas.List.{drop_more, length-drop, take-append-drop}
use Rattle.benefit_rows.specs.Benefits.{size_of, rank_of}
use Rattle.benefit_rows.specs.BenefitLaws.{size_of-positive, size_of-add, rank_of-positive, rank_of-append, rank_of-drop}
use Rattle.benefit_rows.proofs.Steps.{fits_by_size}
use Rattle.pair_rows.specs.Pairs.{pair_count}
use Rattle.max_cut.specs.Cuts.{across_from, weight_across}

crossing-size : (b : Bool) (w : ℤ) → size_of (cond b (pos 0) w) ≤ℤ size_of w
crossing-size true w = omega (arith, ints, clamps, size_of-positive w)
crossing-size false w = omega (arith, ints)

pub across_from-size : (d : ℕ) (row : List ℤ) (ds : List ℕ) → size_of (across_from d row ds) ≤ℤ rank_of row
across_from-size d [] ds = omega (arith, ints, clamps)
across_from-size d (w ∷ row) [] = rank_of-positive (w ∷ row)
across_from-size d (w ∷ row) (e ∷ ds) =
    omega (arith, ints, crossing-size (eqb d e) w, size_of-add (cond (eqb d e) (pos 0) w) (across_from d row ds), across_from-size d row ds)

rank_of-parts : (n : ℕ) (ws : List ℤ) → rank_of ws ≡ rank_of (take n ws) +ℤ rank_of (drop n ws)
rank_of-parts n ws = ap rank_of (sym (take-append-drop n ws)) ∙ rank_of-append (take n ws) (drop n ws)

pub weight_across-size : (ws : List ℤ) (ds : List ℕ) → size_of (weight_across ws ds) ≤ℤ rank_of ws
weight_across-size ws [] = omega (arith, ints, clamps, rank_of-positive ws)
weight_across-size ws (d ∷ ds) =
    omega (arith, ints, rank_of-parts (length ds) ws, size_of-add (across_from d (take (length ds) ws) ds) (weight_across (drop (length ds) ws) ds), across_from-size d (take (length ds) ws) ds, weight_across-size (drop (length ds) ws) ds)

pub across_from-drop_more : (d : ℕ) (row : List ℤ) (ds : List ℕ) (i : ℕ) → i < length row → length row ≡ length ds
    → across_from d (drop i row) (drop i ds) ≡ cond (eqb d (get_or ds i 0)) (pos 0) (get_or row i (pos 0)) +ℤ across_from d (drop (i + 1) row) (drop (i + 1) ds)
across_from-drop_more d row ds i h e =
    let under : i < length ds = omega arith in rw (drop_more row i (pos 0) h, drop_more ds i 0 under)

pub rank_of-take : (n : ℕ) (ws : List ℤ) → rank_of (take n ws) ≤ℤ rank_of ws
rank_of-take n ws = omega (arith, ints, rank_of-parts n ws, rank_of-positive (drop n ws))

-- what is counted and what is left of the weights and the sides make the weight across
pub record Crosses (ws rest : List ℤ) (sides : List ℕ) (k : ℕ) (total : ℤ) : Type 0 where
  pub so_far : total +ℤ weight_across rest (drop k sides) ≡ weight_across ws sides
  pub long : length rest ≡ pair_count (length sides - k)
  pub rank : rank_of rest ≤ℤ pos (2 ^ 50)

-- what is counted is of no great size
pub crosses-fits : (ws rest : List ℤ) (sides : List ℕ) (k : ℕ) (total : ℤ) → rank_of ws ≤ℤ pos (2 ^ 50) → Crosses ws rest sides k total → FitsSigned w64 total
crosses-fits ws rest sides k total small crosses =
    let so_far = crosses.so_far in
    let short = crosses.rank in
    let size : size_of total ≤ℤ pos (2 ^ 51) = omega (arith, ints, clamps, weight_across-size ws sides, weight_across-size rest (drop k sides)) in
    fits_by_size total (omega (arith, ints))

-- the pairs that are left are those of the next vertex and the others
pairs_left : (sides later : List ℕ) (k : ℕ) → k < length sides → later ≡ drop (k + 1) sides
    → pair_count (length sides - k) ≡ length later + pair_count (length sides - (k + 1))
pairs_left sides later k h e =
    let one : length sides - k ≡ suc (length sides - (k + 1)) = omega arith in
    ap pair_count one ∙ ap (λ n. n + pair_count (length sides - (k + 1))) (sym (ap length e ∙ length-drop (k + 1) sides))

pub row_fits : (rest : List ℤ) (sides later : List ℕ) (k : ℕ) → k < length sides → later ≡ drop (k + 1) sides → length rest ≡ pair_count (length sides - k)
    → length later ≤ length rest
row_fits rest sides later k h e long = let pairs = pairs_left sides later k h e in omega arith

-- the weight between one vertex more and the later ones is counted
pub crosses-more : (ws rest row below : List ℤ) (sides later : List ℕ) (k : ℕ) (total got : ℤ) → k < length sides → later ≡ drop (k + 1) sides
    → row ≡ take (length later) rest → below ≡ drop (length later) rest → got ≡ across_from (get_or sides k 0) row later
    → Crosses ws rest sides k total → Crosses ws below sides (k + 1) (total +ℤ got)
crosses-more ws rest row below sides later k total got h e at_row at_below is crosses =
    let d = get_or sides k 0 in
    let here : weight_across rest (drop k sides) ≡ weight_across rest (d ∷ later) = ap (weight_across rest) (drop_more sides k 0 h ∙ ap (λ ds. d ∷ ds) (sym e)) in
    let counted : across_from d (take (length later) rest) later ≡ got = ap (λ ws. across_from d ws later) (sym at_row) ∙ sym is in
    let left : weight_across (drop (length later) rest) later ≡ weight_across below (drop (k + 1) sides) = ap (λ ws. weight_across ws later) (sym at_below) ∙ ap (weight_across below) e in
    let so_far = crosses.so_far in
    let long = crosses.long in
    let short = crosses.rank in
    let pairs = pairs_left sides later k h e in
    record {
      so_far = omega (arith, ints);
      long = ap length at_below ∙ omega (arith, length-drop (length later) rest);
      rank = rw at_below (omega (arith, ints, rank_of-drop (length later) rest));
    }
