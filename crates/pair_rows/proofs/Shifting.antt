-- Shifts and stakes of decisions: their sizes, what they make of a step, and how they are gathered.
use Rattle.std.proofs.Common.{◌≡◌, ℕ, zero, suc, ◌+◌, ◌-◌, ◌^◌, ◌<◌, ◌≤◌, ℤ, pos, ◌+ℤ◌, ◌-ℤ◌, ◌≤ℤ◌, FitsSigned, to_z, of_z, w64, List, [], ◌∷◌, ◌++◌, length, take, drop, map, replicate, get_or, refl, arith, ap, sym, ◌∙◌, append_assoc}
use Rattle.std.specs.Prelude.{IsTrue}
use Rattle.std.specs.Int.RustNames.{int_div}
use Rattle.std.proofs.lemmas.Int.{ints, clamps, to_z-of_z}
use Rattle.std.proofs.lemmas.Bool.{and_parts}
use Rattle.std.proofs.lemmas.List.{drop_more, drop_all, drop-map, length-map, length-drop, append-nil}
use Rattle.std.specs.List.{take-map}
use Rattle.pair_rows.specs.Fitting.{FitsState}
use Rattle.pair_rows.specs.Pairs.{entries_before, rows_of, row_at, pair_count}
use Rattle.pair_rows.specs.Laws.Pairs.{row_at-is, length-rows_of, drop-rows, total_by-positive, all-drop}
use Rattle.benefit_rows.specs.Benefits.{size_of, choice_gain, rank_of, sums_of}
use Rattle.benefit_rows.specs.BenefitLaws.{size_of-positive, rank_of-positive, rank_of-append, rank_of-zeros, rank_of-sums_of, choice_gain-positive, choice_gain-most}
use Rattle.benefit_rows.proofs.Steps.{rank_of-drop_more}
use Rattle.pair_rows.specs.declared.values.PairValues.{PairValues}
use Rattle.pair_rows.specs.Instance.{pair_most, pairs_most, no_pair}
use Rattle.pair_rows.specs.Limits.{PairFits, pairs_fit, pair_fits}
use Rattle.pair_rows.specs.Laws.Limits.{pair-fits, size-is}
use Rattle.pair_rows.specs.Program.{cell_part, grown, row_gain, shared_gain, all_zero, is_within}
use Rattle.pair_rows.specs.Laws.Split.{sides_of}
use Rattle.pair_rows.specs.Shifts.{shift_of, shifts_of, stake_of, stakes_of, half_lost}
use Rattle.pair_rows.proofs.Cells.{pair-at, parts, benefit-read}
use Rattle.pair_rows.proofs.RunningSums.{SumGrows, sum-grows}

-- ---- sizes

shift-small : (d : ℕ) (p : PairValues) → PairFits p → size_of (shift_of d p) ≤ℤ pair_most p
shift-small d p here = let split = parts p d here in omega (arith, ints, clamps)

pub shifts-small : (d : ℕ) (ps : List PairValues) → IsTrue (pairs_fit ps) → rank_of (shifts_of d ps) ≤ℤ pairs_most ps
shifts-small d [] h = omega (arith, ints)
shifts-small d (p ∷ ps) h =
    omega (arith, ints, shift-small d p (pair-fits p (and_parts _ _ h).0), shifts-small d ps (and_parts (pair_fits p) _ h).1)

pub stake-low : (d : ℕ) (p : PairValues) → PairFits p → pos 0 ≤ℤ stake_of d p
stake-low d p here = let split = parts p d here in omega (arith, ints)

pub stake-high : (d : ℕ) (p : PairValues) → PairFits p → stake_of d p ≤ℤ (pair_most p +ℤ pair_most p)
stake-high d p here = let split = parts p d here in omega (arith, ints)

pub stakes-low : (d : ℕ) (ps : List PairValues) → IsTrue (pairs_fit ps) → pos 0 ≤ℤ stakes_of d ps
stakes-low d ps h = total_by-positive (stake_of d) pair_fits (λ p test. stake-low d p (pair-fits p test)) ps h

pub stakes-high : (d : ℕ) (ps : List PairValues) → IsTrue (pairs_fit ps) → stakes_of d ps ≤ℤ (pairs_most ps +ℤ pairs_most ps)
stakes-high d [] h = omega (arith, ints)
stakes-high d (p ∷ ps) h =
    omega (arith, ints, stake-high d p (pair-fits p (and_parts _ _ h).0), stakes-high d ps (and_parts (pair_fits p) _ h).1)

-- ---- a step

pub grown-shifts : (ps : List PairValues) (ts : List ℤ) (d : ℕ) → grown ps ts d ≡ sums_of ts (shifts_of d ps)
grown-shifts [] [] d = refl
grown-shifts [] (t ∷ ts) d = refl
grown-shifts (p ∷ ps) [] d = refl
grown-shifts (p ∷ ps) (t ∷ ts) d = ap (λ us. (t +ℤ shift_of d p) ∷ us) (grown-shifts ps ts d)

-- twice a part is the stake and what the benefit loses in size
part-twice : (p : PairValues) (t : ℤ) (d : ℕ) → cell_part p t d +ℤ cell_part p t d ≡ (size_of t +ℤ stake_of d p) -ℤ size_of (t +ℤ shift_of d p)
part-twice p t zero = let sides = sides_of p t zero in omega (arith, ints)
part-twice p t (suc d) = let sides = sides_of p t (suc d) in omega (arith, ints)

pub shared-twice : (ps : List PairValues) (ts : List ℤ) (d : ℕ) → length ps ≡ length ts
    → shared_gain ps ts d +ℤ shared_gain ps ts d ≡ (rank_of ts +ℤ stakes_of d ps) -ℤ rank_of (sums_of ts (shifts_of d ps))
shared-twice [] [] d e = refl
shared-twice [] (t ∷ ts) d e = absurd (omega arith)
shared-twice (p ∷ ps) [] d e = absurd (omega arith)
shared-twice (p ∷ ps) (t ∷ ts) d e = omega (arith, ints, part-twice p t d, shared-twice ps ts d (omega arith))

halved : (z y : ℤ) → z +ℤ z ≡ y → int_div y (pos 2) ≡ z
halved z y e = omega (arith, ints)

pub shared-half : (ps : List PairValues) (ts : List ℤ) (d : ℕ) → length ps ≡ length ts → half_lost (stakes_of d ps) ts (shifts_of d ps) ≡ shared_gain ps ts d
shared-half ps ts d e = halved (shared_gain ps ts d) _ (shared-twice ps ts d e)

-- ---- the gain as it is computed

-- as a word of 64 bits is read
abbrev pub read : ℤ → ℤ
read z = to_z w64 (of_z w64 z)

-- a number of no great size is read as it is
read-small : (z : ℤ) → size_of z ≤ℤ pos (2 ^ 52) → FitsSigned w64 z × (read z ≡ z)
read-small z small = let fits : FitsSigned w64 z = omega (arith, ints, clamps) in (fits, to_z-of_z w64 z fits)

small-between : (z : ℤ) → (pos 0 -ℤ pos (2 ^ 52)) ≤ℤ z → z ≤ℤ pos (2 ^ 52) → size_of z ≤ℤ pos (2 ^ 52)
small-between z low high = omega (arith, ints, clamps)

half-small : (z : ℤ) → (pos 0 -ℤ pos (2 ^ 52)) ≤ℤ z → z ≤ℤ pos (2 ^ 52) → ((pos 0 -ℤ pos (2 ^ 52)) ≤ℤ int_div z (pos 2)) × (int_div z (pos 2) ≤ℤ pos (2 ^ 51))
half-small z low high = (omega (arith, ints), omega (arith, ints))

pub record GainRead (rank own stakes next alone : ℤ) : Type 0 where
  pub before_fits : FitsSigned w64 (read rank -ℤ read own)
  pub sum_fits : FitsSigned w64 (read (read rank -ℤ read own) +ℤ read stakes)
  pub lost_fits : FitsSigned w64 (read (read (read rank -ℤ read own) +ℤ read stakes) -ℤ read next)
  pub half : read (int_div (read (read (read (read rank -ℤ read own) +ℤ read stakes) -ℤ read next)) (pos 2)) ≡ int_div (((rank -ℤ own) +ℤ stakes) -ℤ next) (pos 2)
  pub gain_fits : FitsSigned w64 (read alone +ℤ int_div (((rank -ℤ own) +ℤ stakes) -ℤ next) (pos 2))
  pub gain : read (read alone +ℤ int_div (((rank -ℤ own) +ℤ stakes) -ℤ next) (pos 2)) ≡ alone +ℤ int_div (((rank -ℤ own) +ℤ stakes) -ℤ next) (pos 2)

pub gain-read : (rank own stakes next alone : ℤ) → (pos 0 ≤ℤ own) × (own ≤ℤ rank) × (rank ≤ℤ pos (2 ^ 48)) → (pos 0 ≤ℤ stakes) × (stakes ≤ℤ pos (2 ^ 49)) → (pos 0 ≤ℤ next) × (next ≤ℤ pos (2 ^ 49))
    → (pos 0 ≤ℤ alone) × (alone ≤ℤ pos (2 ^ 48)) → GainRead rank own stakes next alone
gain-read rank own stakes next alone benefit stake after side =
    let rank_read = read-small rank (small-between rank (omega (arith, ints, benefit.0, benefit.1)) (omega (arith, ints, benefit.2))) in
    let own_read = read-small own (small-between own (omega (arith, ints, benefit.0)) (omega (arith, ints, benefit.1, benefit.2))) in
    let stakes_read = read-small stakes (small-between stakes (omega (arith, ints, stake.0)) (omega (arith, ints, stake.1))) in
    let next_read = read-small next (small-between next (omega (arith, ints, after.0)) (omega (arith, ints, after.1))) in
    let before = read-small (rank -ℤ own) (small-between (rank -ℤ own) (omega (arith, ints, benefit.1)) (omega (arith, ints, benefit.0, benefit.2))) in
    let sum = read-small ((rank -ℤ own) +ℤ stakes) (small-between ((rank -ℤ own) +ℤ stakes) (omega (arith, ints, benefit.1, stake.0)) (omega (arith, ints, benefit.0, benefit.2, stake.1))) in
    let lost_low : (pos 0 -ℤ pos (2 ^ 52)) ≤ℤ (((rank -ℤ own) +ℤ stakes) -ℤ next) = omega (arith, ints, benefit.1, stake.0, after.1) in
    let lost_high : (((rank -ℤ own) +ℤ stakes) -ℤ next) ≤ℤ pos (2 ^ 52) = omega (arith, ints, benefit.0, benefit.2, stake.1, after.0) in
    let lost = read-small (((rank -ℤ own) +ℤ stakes) -ℤ next) (small-between (((rank -ℤ own) +ℤ stakes) -ℤ next) lost_low lost_high) in
    let half_small = half-small (((rank -ℤ own) +ℤ stakes) -ℤ next) lost_low lost_high in
    gain-of-half rank own stakes next alone (int_div (((rank -ℤ own) +ℤ stakes) -ℤ next) (pos 2)) refl half_small side rank_read own_read stakes_read next_read before sum lost
  where
    gain-of-half : (rank own stakes next alone half : ℤ) → half ≡ int_div (((rank -ℤ own) +ℤ stakes) -ℤ next) (pos 2) → ((pos 0 -ℤ pos (2 ^ 52)) ≤ℤ int_div (((rank -ℤ own) +ℤ stakes) -ℤ next) (pos 2)) × (int_div (((rank -ℤ own) +ℤ stakes) -ℤ next) (pos 2) ≤ℤ pos (2 ^ 51))
        → (pos 0 ≤ℤ alone) × (alone ≤ℤ pos (2 ^ 48))
        → FitsSigned w64 rank × (read rank ≡ rank) → FitsSigned w64 own × (read own ≡ own) → FitsSigned w64 stakes × (read stakes ≡ stakes) → FitsSigned w64 next × (read next ≡ next)
        → FitsSigned w64 (rank -ℤ own) × (read (rank -ℤ own) ≡ rank -ℤ own) → FitsSigned w64 ((rank -ℤ own) +ℤ stakes) × (read ((rank -ℤ own) +ℤ stakes) ≡ (rank -ℤ own) +ℤ stakes)
        → FitsSigned w64 (((rank -ℤ own) +ℤ stakes) -ℤ next) × (read (((rank -ℤ own) +ℤ stakes) -ℤ next) ≡ ((rank -ℤ own) +ℤ stakes) -ℤ next) → GainRead rank own stakes next alone
    gain-of-half rank own stakes next alone half is small side rank_read own_read stakes_read next_read before sum lost =
        let half_read = read-small (int_div (((rank -ℤ own) +ℤ stakes) -ℤ next) (pos 2)) (small-between (int_div (((rank -ℤ own) +ℤ stakes) -ℤ next) (pos 2)) small.0 (omega (arith, ints, small.1))) in
        let alone_read = read-small alone (small-between alone (omega (arith, ints, side.0)) (omega (arith, ints, side.1))) in
        let gain = read-small (alone +ℤ int_div (((rank -ℤ own) +ℤ stakes) -ℤ next) (pos 2)) (small-between (alone +ℤ int_div (((rank -ℤ own) +ℤ stakes) -ℤ next) (pos 2)) (omega (arith, ints, side.0, small.0)) (omega (arith, ints, side.1, small.1))) in
        record {
          before_fits = rw (rank_read.1, own_read.1) before.0;
          sum_fits = rw (rank_read.1, own_read.1, before.1, stakes_read.1) sum.0;
          lost_fits = rw (rank_read.1, own_read.1, before.1, stakes_read.1, sum.1, next_read.1) lost.0;
          half = rw (rank_read.1, own_read.1, before.1, stakes_read.1, sum.1, next_read.1, lost.1) half_read.1;
          gain_fits = rw alone_read.1 gain.0;
          gain = rw alone_read.1 gain.1;
        }

-- the gain of a decision as it is computed, by the rows
pub record ExtendRead (shifts : List ℤ) (stakes : ℤ) (k : ℕ) (s : List ℤ) (rank : ℤ) (d : ℕ) (own next alone : ℤ) : Type 0 where
  pub facts : GainRead rank own stakes next alone
  pub is : alone +ℤ int_div (((rank -ℤ own) +ℤ stakes) -ℤ next) (pos 2) ≡ choice_gain (get_or s k (pos 0)) d +ℤ half_lost stakes (drop (k + 1) s) shifts

pub extend-read : (shifts : List ℤ) (stakes : ℤ) (k : ℕ) (s : List ℤ) (rank : ℤ) (d : ℕ) (own next alone : ℤ) → k < length s
    → rank_of shifts ≤ℤ pos (2 ^ 48) → rank_of (drop k s) ≤ℤ pos (2 ^ 48) → rank ≡ rank_of (drop k s) → pos 0 ≤ℤ stakes → stakes ≤ℤ pos (2 ^ 49)
    → own ≡ size_of (read (get_or s k (pos 0))) → next ≡ rank_of (sums_of (drop (k + 1) s) shifts) → alone ≡ choice_gain (read (get_or s k (pos 0))) d
    → ExtendRead shifts stakes k s rank d own next alone
extend-read shifts stakes k s rank d own next alone below small benefits rank_is low high own_is next_is alone_is =
    let at = (benefit-read s k below benefits).read in
    let benefit : ℤ = get_or s k (pos 0) in
    let own_size : own ≡ size_of benefit = own_is ∙ ap size_of at in
    let alone_gain : alone ≡ choice_gain benefit d = alone_is ∙ ap (λ z. choice_gain z d) at in
    let split = rank_of-drop_more s k (pos 0) below in
    let rest = rank_of-positive (drop (k + 1) s) in
    let own_low = size_of-positive benefit in
    let next_low = rank_of-positive (sums_of (drop (k + 1) s) shifts) in
    let next_high = rank_of-sums_of (drop (k + 1) s) shifts in
    let side_low = choice_gain-positive benefit d in
    let side_high = choice_gain-most benefit d in
    let lost : ((rank -ℤ own) +ℤ stakes) -ℤ next ≡ (rank_of (drop (k + 1) s) +ℤ stakes) -ℤ rank_of (sums_of (drop (k + 1) s) shifts) = omega (arith, ints) in
    record {
      facts = gain-read rank own stakes next alone (omega (arith, ints), omega (arith, ints), omega (arith, ints)) (low, high) (omega (arith, ints), omega (arith, ints)) (omega (arith, ints), omega (arith, ints));
      is = rw (alone_gain, lost) refl;
    }

-- ---- gathering

-- one more shift
pub shifts-more : (ps : List PairValues) (d i : ℕ) (items : List ℤ) (cell : ℤ) → i < length ps → cell ≡ shift_of d (get_or ps i no_pair)
    → items ++ shifts_of d (drop i ps) ≡ shifts_of d ps → (items ++ cell ∷ []) ++ shifts_of d (drop (i + 1) ps) ≡ shifts_of d ps
shifts-more ps d i items cell h is before =
    let cut : shifts_of d (drop i ps) ≡ shift_of d (get_or ps i no_pair) ∷ shifts_of d (drop (i + 1) ps) = ap (shifts_of d) (drop_more ps i no_pair h) in
    append_assoc items (cell ∷ []) (shifts_of d (drop (i + 1) ps)) ∙ rw is (rw cut at before)

pub shifts-done : (ps : List PairValues) (d i : ℕ) (items : List ℤ) → length ps ≤ i → items ++ shifts_of d (drop i ps) ≡ shifts_of d ps → items ≡ shifts_of d ps
shifts-done ps d i items h before = let none : drop i ps ≡ [] = drop_all i ps h in sym (append-nil items) ∙ rw none at before

-- one more stake of a row
pub stakes-grow : (ps : List PairValues) (d i : ℕ) (total cell : ℤ) → i < length ps → IsTrue (pairs_fit ps) → pairs_most ps ≤ℤ pos (2 ^ 48)
    → cell ≡ stake_of d (get_or ps i no_pair) → (total +ℤ stakes_of d (drop i ps) ≡ stakes_of d ps) × (pos 0 ≤ℤ total) → SumGrows (stakes_of d ps) (stakes_of d (drop (i + 1) ps)) total cell
stakes-grow ps d i total cell h positive weight is before =
    let cut : stakes_of d (drop i ps) ≡ stake_of d (get_or ps i no_pair) +ℤ stakes_of d (drop (i + 1) ps) = ap (stakes_of d) (drop_more ps i no_pair h) in
    let low : pos 0 ≤ℤ cell = rw is (stake-low d (get_or ps i no_pair) (pair-at ps i no_pair h positive)) in
    sum-grows (stakes_of d ps) (stakes_of d (drop i ps)) cell (stakes_of d (drop (i + 1) ps)) total (rw is cut) low
    (stakes-low d (drop (i + 1) ps) (all-drop pair_fits (i + 1) ps positive)) (omega (arith, ints, stakes-high d ps positive)) before

-- the stakes of one more row
pub rows-more : (ps : List PairValues) (d n k : ℕ) (items : List ℤ) (cell : ℤ) → k < n → cell ≡ stakes_of d (row_at (rows_of n ps) k)
    → items ++ map (stakes_of d) (drop k (rows_of n ps)) ≡ map (stakes_of d) (rows_of n ps) → (items ++ cell ∷ []) ++ map (stakes_of d) (drop (k + 1) (rows_of n ps)) ≡ map (stakes_of d) (rows_of n ps)
rows-more ps d n k items cell h is before =
    let rows : List (List PairValues) = rows_of n ps in
    let one : suc k ≡ k + 1 = omega arith in
    let cut : map (stakes_of d) (drop k rows) ≡ stakes_of d (row_at rows k) ∷ map (stakes_of d) (drop (suc k) rows) = ap (map (stakes_of d)) (drop-rows rows k (omega (arith, length-rows_of n ps))) in
    let next : map (stakes_of d) (drop (suc k) rows) ≡ map (stakes_of d) (drop (k + 1) rows) = ap (λ m. map (stakes_of d) (drop m rows)) one in
    append_assoc items (cell ∷ []) (map (stakes_of d) (drop (k + 1) rows)) ∙ rw is (rw (cut, next) at before)

pub rows-done : (ps : List PairValues) (d n k : ℕ) (items : List ℤ) → n ≤ k → items ++ map (stakes_of d) (drop k (rows_of n ps)) ≡ map (stakes_of d) (rows_of n ps) → items ≡ map (stakes_of d) (rows_of n ps)
rows-done ps d n k items h before =
    let none : drop k (rows_of n ps) ≡ [] = drop_all k (rows_of n ps) (omega (arith, length-rows_of n ps)) in
    sym (append-nil items) ∙ rw none at before

-- ---- what is kept, read

-- the shifts of a variable among those of all pairs
pub shifts-row : (d n k : ℕ) (ps : List PairValues) (cells : List ℤ) → k < n → cells ≡ shifts_of d ps → take (n - suc k) (drop (entries_before n k) cells) ≡ shifts_of d (row_at (rows_of n ps) k)
shifts-row d n k ps cells h is =
    rw is (ap (take (n - suc k)) (drop-map (shift_of d) (entries_before n k) ps) ∙ (take-map (shift_of d) (n - suc k) (drop (entries_before n k) ps) ∙ ap (shifts_of d) (sym (row_at-is n k ps h))))

-- the stakes of a variable among those of all
at-rows : (f : List PairValues → ℤ) (rows : List (List PairValues)) (k : ℕ) (z : ℤ) → k < length rows → get_or (map f rows) k z ≡ f (row_at rows k)
at-rows f [] k z h = absurd (omega arith)
at-rows f (row ∷ rows) zero z h = refl
at-rows f (row ∷ rows) (suc k) z h = at-rows f rows k z (omega arith)

pub stakes-at : (d n k : ℕ) (ps : List PairValues) (stakes : List ℤ) (z : ℤ) → k < n → stakes ≡ map (stakes_of d) (rows_of n ps) → z ≡ get_or stakes k z → z ≡ stakes_of d (row_at (rows_of n ps) k)
stakes-at d n k ps stakes z h is at = at ∙ (ap (λ zs. get_or zs k z) is ∙ at-rows (stakes_of d) (rows_of n ps) k z (omega (arith, length-rows_of n ps)))

pub stakes-length : (d n : ℕ) (ps : List PairValues) (stakes : List ℤ) → stakes ≡ map (stakes_of d) (rows_of n ps) → length stakes ≡ n
stakes-length d n ps stakes is = ap length is ∙ (length-map (rows_of n ps) (stakes_of d) ∙ length-rows_of n ps)

pub cells-length : (d n : ℕ) (ps : List PairValues) (cells : List ℤ) → cells ≡ shifts_of d ps → length ps ≡ pair_count n → length cells ≡ pair_count n
cells-length d n ps cells is whole = ap length is ∙ (length-map ps (shift_of d) ∙ whole)

-- the stakes of a row are read as they are
pub stakes-read : (d : ℕ) (row : List PairValues) (z : ℤ) → IsTrue (pairs_fit row) → pairs_most row ≤ℤ pos (2 ^ 48) → z ≡ stakes_of d row → read z ≡ stakes_of d row
stakes-read d row z positive weight is =
    let low = stakes-low d row positive in
    let high = stakes-high d row positive in
    (read-small z (small-between z (omega (arith, ints)) (omega (arith, ints)))).1 ∙ is

-- what a decision gains, by its own benefit and the later ones
pub row_gain-cut : (row : List PairValues) (s : List ℤ) (k d : ℕ) → k < length s → row_gain row (drop k s) d ≡ choice_gain (get_or s k (pos 0)) d +ℤ shared_gain row (drop (k + 1) s) d
row_gain-cut row s k d h = ap (λ us. row_gain row us d) (drop_more s k (pos 0) h)

-- the rank of the state after a decision
pub rank-stepped : (k : ℕ) (later : List ℤ) → rank_of (replicate (k + 1) (pos 0) ++ later) ≡ rank_of later
rank-stepped k later = omega (arith, ints, rank_of-append (replicate (k + 1) (pos 0)) later, rank_of-zeros (k + 1))

-- what is decided has no benefit
pub zeros-before : (k : ℕ) (s : List ℤ) → k ≤ length s → IsTrue (all_zero (take k s)) → take k s ≡ replicate k (pos 0)
zeros-before zero s h test = refl
zeros-before (suc k) [] h test = absurd (omega arith)
zeros-before (suc k) (t ∷ ts) h test =
    let own : t ≡ pos 0 = none-within t (size-is t (pos 0) (and_parts _ _ test).0) in
    let rest = zeros-before k ts (omega arith) (and_parts (is_within t (pos 0)) _ test).1 in
    rw (own, rest) refl
  where
    none-within : (t : ℤ) → size_of t ≤ℤ pos 0 → t ≡ pos 0
    none-within t h = omega (arith, ints, clamps)

-- what a step asks of the shifts
pub record ShiftsFit (row : List PairValues) (k : ℕ) (s : List ℤ) (d : ℕ) (shifts : List ℤ) : Type 0 where
  pub below : k < length s
  pub entries : length shifts + suc k ≡ length s
  pub later : length row ≡ length (drop (k + 1) s)
  pub sizes : rank_of shifts ≤ℤ pos (2 ^ 48)
  pub stakes_low : pos 0 ≤ℤ stakes_of d row
  pub stakes_high : stakes_of d row ≤ℤ pos (2 ^ 49)

pub shifts-fit : (row : List PairValues) (k : ℕ) (s : List ℤ) (d : ℕ) (shifts : List ℤ) → FitsState row k s → shifts ≡ shifts_of d row → ShiftsFit row k s d shifts
shifts-fit row k s d shifts fits is =
    let many : length shifts ≡ length row = ap length is ∙ length-map row (shift_of d) in
    let small = shifts-small d row fits.positive in
    let same : rank_of shifts ≡ rank_of (shifts_of d row) = ap rank_of is in
    record {
      below = omega (arith, fits.entries);
      entries = omega (arith, fits.entries);
      later = omega (arith, fits.entries, length-drop (k + 1) s);
      sizes = omega (arith, ints, fits.weight);
      stakes_low = stakes-low d row fits.positive;
      stakes_high = omega (arith, ints, stakes-high d row fits.positive, fits.weight);
    }
