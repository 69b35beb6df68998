-- Differences of rows, cell by cell and in blocks.
use Rattle.std.proofs.Common.{◌≡◌, ℕ, zero, suc, ◌+◌, ◌*◌, ◌^◌, ◌<◌, ℤ, pos, ◌+ℤ◌, ◌-ℤ◌, ◌*ℤ◌, ◌≤ℤ◌, FitsSigned, to_z, of_z, w64, List, [], ◌∷◌, length, get_or, take, drop, int_le, int_lt, true, false, Some, None, arith, ap, sym, ◌∙◌, refl}
use Rattle.std.specs.Prelude.{◌<ℤ◌}
use Rattle.std.proofs.lemmas.Int.{ints, clamps, to_z-of_z}
use Rattle.std.specs.Int.{int_max, int_min}
use Rattle.std.specs.Int.RustNames.{int_div as quot_z}
use Rattle.std.proofs.lemmas.List.{take-append-drop, drop-drop}
use Rattle.benefit_rows.specs.Benefits.{size_of, rank_of, gap_of, differences, where_at_most}
use Rattle.benefit_rows.specs.BenefitLaws.{size_of-sub, rank_of-positive, rank_of-append, rank_of-drop, differences-most, rank_of-differences, gap_of-positive, gap_of-most, gap_of-by_sizes}
use Rattle.benefit_rows.proofs.Steps.{fits_by_size, read_by_size, read_at, size_of-at}

pub differences-at : (as_ ss : List ℤ) (i : ℕ) → i < length as_ → length as_ ≡ length ss → get_or (differences as_ ss) i (pos 0) ≡ get_or ss i (pos 0) -ℤ get_or as_ i (pos 0)
differences-at [] ss i h p = absurd (omega arith)
differences-at (a ∷ as_) [] i h p = absurd (omega arith)
differences-at (a ∷ as_) (s ∷ ss) zero h p = refl
differences-at (a ∷ as_) (s ∷ ss) (suc i) h p = differences-at as_ ss i (omega arith) (omega arith)

differences-none : (as_ : List ℤ) → differences as_ [] ≡ []
differences-none [] = refl
differences-none (a ∷ as_) = refl

pub differences-drop : (n : ℕ) (as_ ss : List ℤ) → differences (drop n as_) (drop n ss) ≡ drop n (differences as_ ss)
differences-drop zero as_ ss = refl
differences-drop (suc n) [] ss = refl
differences-drop (suc n) (a ∷ as_) [] = differences-none (drop n as_)
differences-drop (suc n) (a ∷ as_) (s ∷ ss) = differences-drop n as_ ss

pub differences-take : (n : ℕ) (as_ ss : List ℤ) → differences (take n as_) (take n ss) ≡ take n (differences as_ ss)
differences-take zero as_ ss = refl
differences-take (suc n) [] ss = refl
differences-take (suc n) (a ∷ as_) [] = refl
differences-take (suc n) (a ∷ as_) (s ∷ ss) = ap (λ zs. (s -ℤ a) ∷ zs) (differences-take n as_ ss)

-- a difference as it is read, with what it adds to the sum of the sizes
pub record DifferenceAt (from to : List ℤ) (i : ℕ) : Type 0 where
  pub fits : FitsSigned w64 (to_z w64 (of_z w64 (get_or to i (pos 0))) -ℤ to_z w64 (of_z w64 (get_or from i (pos 0))))
  pub is : to_z w64 (of_z w64 (to_z w64 (of_z w64 (get_or to i (pos 0))) -ℤ to_z w64 (of_z w64 (get_or from i (pos 0))))) ≡ get_or (differences from to) i (pos 0)
  pub size : size_of (get_or (differences from to) i (pos 0)) ≤ℤ pos (2 ^ 61)

pub difference_at : (from to : List ℤ) (i : ℕ) → i < length from → length from ≡ length to → rank_of from ≤ℤ pos (2 ^ 60) → rank_of to ≤ℤ pos (2 ^ 60) → DifferenceAt from to i
difference_at from to i h p small large =
    let below : i < length to = omega arith in
    let first = size_of-at from i (pos 0) h in
    let second = size_of-at to i (pos 0) below in
    let read_first = (read_at from i h (omega (arith, ints))).is in
    let read_second = (read_at to i below (omega (arith, ints))).is in
    let total = size_of-sub (get_or to i (pos 0)) (get_or from i (pos 0)) in
    let is = differences-at from to i h p in
    record {
      fits = rw (read_first, read_second) (fits_by_size _ (omega (arith, ints)));
      is = rw (read_first, read_second) (read_by_size _ (omega (arith, ints)) ∙ sym is);
      size = rw is (omega (arith, ints));
    }

-- a part of a row has no greater rank
pub rank_of-take : (n : ℕ) (ss : List ℤ) → rank_of (take n ss) ≤ℤ rank_of ss
rank_of-take n ss =
    let split = rank_of-append (take n ss) (drop n ss) in
    let whole = ap rank_of (take-append-drop n ss) in
    let rest = rank_of-positive (drop n ss) in
    omega (arith, ints)

pub part_small : (n i : ℕ) (ss : List ℤ) → rank_of ss ≤ℤ pos (2 ^ 60) → rank_of (take n (drop i ss)) ≤ℤ pos (2 ^ 60)
part_small n i ss small = omega (arith, ints, rank_of-take n (drop i ss), rank_of-drop i ss)

-- a block's sizes and those of what is left after it are the sizes of what was left before it
block_more : (from to : List ℤ) (i n : ℕ) (got : ℤ) → got ≡ rank_of (differences (take n (drop i from)) (take n (drop i to)))
    → got +ℤ rank_of (drop (i + n) (differences from to)) ≡ rank_of (drop i (differences from to))
block_more from to i n got is =
    let all = differences from to in
    let block : differences (take n (drop i from)) (take n (drop i to)) ≡ take n (drop i all) =
    differences-take n (drop i from) (drop i to) ∙ ap (take n) (differences-drop i from to) in
    let read : got ≡ rank_of (take n (drop i all)) = is ∙ ap rank_of block in
    let rest : rank_of (drop n (drop i all)) ≡ rank_of (drop (i + n) all) = ap rank_of (drop-drop n i all) in
    let split = rank_of-append (take n (drop i all)) (drop n (drop i all)) in
    let whole = ap rank_of (take-append-drop n (drop i all)) in
    omega (arith, ints)

-- the sum as the code adds a part to it
pub record SumMore (from to : List ℤ) (sizes got : ℤ) (left : List ℤ) : Type 0 where
  pub fits : FitsSigned w64 (sizes +ℤ to_z w64 (of_z w64 got))
  pub sum : to_z w64 (of_z w64 (sizes +ℤ to_z w64 (of_z w64 got))) ≡ sizes +ℤ got
  pub so_far : (sizes +ℤ got) +ℤ rank_of left ≡ rank_of (differences from to)
  pub low : pos 0 ≤ℤ (sizes +ℤ got)
  pub most : (sizes +ℤ got) ≤ℤ rank_of (differences from to)

sum_more : (from to before left : List ℤ) (sizes got : ℤ) → rank_of from ≤ℤ pos (2 ^ 60) → rank_of to ≤ℤ pos (2 ^ 60)
    → (sizes +ℤ rank_of before ≡ rank_of (differences from to)) × (pos 0 ≤ℤ sizes) → pos 0 ≤ℤ got → got +ℤ rank_of left ≡ rank_of before → SumMore from to sizes got left
sum_more from to before left sizes got small large so_far low more =
    let total = differences-most from to in
    let rest = rank_of-positive left in
    let read : to_z w64 (of_z w64 got) ≡ got = to_z-of_z w64 got (omega (arith, ints)) in
    let fits : FitsSigned w64 (sizes +ℤ got) = omega (arith, ints) in
    record {
      fits = rw read fits;
      sum = rw read (to_z-of_z w64 (sizes +ℤ got) fits);
      so_far = omega (arith, ints);
      low = omega (arith, ints);
      most = omega (arith, ints);
    }

-- after one more block
pub after_block : (from to : List ℤ) (block : ℕ) (sizes got : ℤ) → rank_of from ≤ℤ pos (2 ^ 60) → rank_of to ≤ℤ pos (2 ^ 60)
    → (sizes +ℤ rank_of (drop (8 * block) (differences from to)) ≡ rank_of (differences from to)) × (pos 0 ≤ℤ sizes)
    → got ≡ rank_of (differences (take 8 (drop (8 * block) from)) (take 8 (drop (8 * block) to)))
    → SumMore from to sizes got (drop (8 * (block + 1)) (differences from to))
after_block from to block sizes got small large so_far is =
    let more = block_more from to (8 * block) 8 got is in
    let at : 8 * block + 8 ≡ 8 * (block + 1) = omega arith in
    let next = ap (λ n. rank_of (drop n (differences from to))) at in
    let low = rank_of-positive (differences (take 8 (drop (8 * block) from)) (take 8 (drop (8 * block) to))) in
    sum_more from to (drop (8 * block) (differences from to)) _ sizes got small large so_far (omega (arith, ints)) (omega (arith, ints))

-- after what follows the blocks
pub after_rest : (from to : List ℤ) (i : ℕ) (sizes got : ℤ) → rank_of from ≤ℤ pos (2 ^ 60) → rank_of to ≤ℤ pos (2 ^ 60)
    → (sizes +ℤ rank_of (drop i (differences from to)) ≡ rank_of (differences from to)) × (pos 0 ≤ℤ sizes)
    → got ≡ rank_of (differences (drop i from) (drop i to)) → SumMore from to sizes got []
after_rest from to i sizes got small large so_far is =
    let rest = ap rank_of (differences-drop i from to) in
    let low = rank_of-positive (differences (drop i from) (drop i to)) in
    sum_more from to (drop i (differences from to)) [] sizes got small large so_far (omega (arith, ints)) (omega (arith, ints))

-- ---- a number where it is at most another one

pub within_most : (most z : ℤ) → z ≤ℤ most → where_at_most most z ≡ Some z
within_most most z h = let test : int_le z most ≡ true = grind (arith, ints) in rw test refl

pub beyond_most : (most z : ℤ) → most <ℤ z → where_at_most most z ≡ None
beyond_most most z h = let test : int_le z most ≡ false = grind (arith, ints) in rw test refl

-- a sum so far that exceeds, where the rest adds at least zero
pub exceeds : (most sum z code : ℤ) → FitsSigned w64 most → code ≡ sum → sum ≤ℤ z → int_lt (to_z w64 (of_z w64 most)) code ≡ true → None ≡ where_at_most most z
exceeds most sum z code fits is less test =
    let read = to_z-of_z w64 most fits in
    let more : most <ℤ code = let t : int_lt most code ≡ true = rw read at test in grind (arith, ints) in
    sym (beyond_most most z (omega (arith, ints)))

-- the whole sum that does not exceed
pub keeps_within : (most z code : ℤ) → FitsSigned w64 most → code ≡ z → int_lt (to_z w64 (of_z w64 most)) code ≡ false → Some code ≡ where_at_most most z
keeps_within most z code fits is test =
    let read = to_z-of_z w64 most fits in
    let less : code ≤ℤ most = let t : int_lt most code ≡ false = rw read at test in grind (arith, ints) in
    ap Some is ∙ sym (within_most most z (omega (arith, ints)))

-- ---- a gap by the ranks of its rows

-- how much greater the second rank is
abbrev pub more_of : List ℤ → List ℤ → ℤ
more_of from to = rank_of to -ℤ rank_of from

-- what is known of a gap before a cell is read, and with the sizes of the differences
pub record GapFacts (from to : List ℤ) (from_rank to_rank : ℤ) : Type 0 where
  pub to_read : to_z w64 (of_z w64 to_rank) ≡ rank_of to
  pub fits : FitsSigned w64 (to_z w64 (of_z w64 to_rank) -ℤ to_z w64 (of_z w64 from_rank))
  pub more : to_z w64 (of_z w64 (to_z w64 (of_z w64 to_rank) -ℤ to_z w64 (of_z w64 from_rank))) ≡ more_of from to
  pub small : (more_of from to ≤ℤ pos (2 ^ 60)) × (pos 0 ≤ℤ (more_of from to +ℤ pos (2 ^ 60)))
  pub to_low : pos 0 ≤ℤ rank_of to
  pub low : pos 0 ≤ℤ gap_of from to
  pub above : more_of from to ≤ℤ gap_of from to
  pub most : gap_of from to ≤ℤ rank_of to
  pub twice : gap_of from to +ℤ gap_of from to ≡ more_of from to +ℤ rank_of (differences from to)

pub gap_facts : (from to : List ℤ) (from_rank to_rank : ℤ) → length from ≡ length to → from_rank ≡ rank_of from → to_rank ≡ rank_of to
    → rank_of from ≤ℤ pos (2 ^ 60) → rank_of to ≤ℤ pos (2 ^ 60) → GapFacts from to from_rank to_rank
gap_facts from to from_rank to_rank long from_is to_is small large =
    let from_low = rank_of-positive from in
    let to_low = rank_of-positive to in
    let twice = gap_of-by_sizes from to long in
    let further = rank_of-differences from to long in
    let fits : FitsSigned w64 (rank_of to -ℤ rank_of from) = omega (arith, ints) in
    let from_read : to_z w64 (of_z w64 from_rank) ≡ rank_of from = rw from_is (to_z-of_z w64 (rank_of from) (omega (arith, ints))) in
    let to_read : to_z w64 (of_z w64 to_rank) ≡ rank_of to = rw to_is (to_z-of_z w64 (rank_of to) (omega (arith, ints))) in
    record {
      to_read = to_read;
      fits = rw (from_read, to_read) fits;
      more = rw (from_read, to_read) (to_z-of_z w64 (rank_of to -ℤ rank_of from) fits);
      small = (omega (arith, ints), omega (arith, ints));
      to_low = to_low;
      low = gap_of-positive from to;
      above = omega (arith, ints);
      most = gap_of-most from to;
      twice = twice;
    }

-- the greater of a number of no great size and zero
record GreaterOfZero (z : ℤ) : Type 0 where
  low : pos 0 ≤ℤ int_max z (pos 0)
  read : to_z w64 (of_z w64 (int_max z (pos 0))) ≡ int_max z (pos 0)

greater_of_zero : (z : ℤ) → z ≤ℤ pos (2 ^ 60) → GreaterOfZero z
greater_of_zero z small =
    let low : pos 0 ≤ℤ int_max z (pos 0) = omega (arith, ints, clamps) in
    let high : int_max z (pos 0) ≤ℤ pos (2 ^ 60) = omega (arith, ints, clamps) in
    record { low = low; read = to_z-of_z w64 _ (omega (arith, ints)) }

-- a number that is at least another one and at least zero
above_both : (z y : ℤ) → z ≤ℤ y → pos 0 ≤ℤ y → int_max z (pos 0) ≤ℤ y
above_both z y h k = omega (arith, ints, clamps)

lesser_low : (a b : ℤ) → pos 0 ≤ℤ a → pos 0 ≤ℤ b → pos 0 ≤ℤ int_min a b
lesser_low a b h k = omega (arith, ints, clamps)

lesser_at_most : (a b : ℤ) → (int_min a b ≤ℤ a) × (int_min a b ≤ℤ b)
lesser_at_most a b = (omega (arith, ints, clamps), omega (arith, ints, clamps))

above_lesser : (a b z : ℤ) → int_min a b <ℤ z → z ≤ℤ b → a <ℤ z
above_lesser a b z h k = omega (arith, ints, clamps)

less_is : (a b : ℤ) → int_lt a b ≡ true → a <ℤ b
less_is a b h = grind (arith, ints)

not_less_is : (a b : ℤ) → int_lt a b ≡ false → b ≤ℤ a
not_less_is a b h = grind (arith, ints)

-- the ranks alone decide
pub by_ranks : (from to : List ℤ) (from_rank to_rank most least : ℤ) → GapFacts from to from_rank to_rank → FitsSigned w64 most
    → least ≡ int_max (to_z w64 (of_z w64 (to_z w64 (of_z w64 to_rank) -ℤ to_z w64 (of_z w64 from_rank)))) (pos 0)
    → int_lt (to_z w64 (of_z w64 most)) (to_z w64 (of_z w64 least)) ≡ true → None ≡ where_at_most most (gap_of from to)
by_ranks from to from_rank to_rank most least facts most_fits is test =
    let least_is : least ≡ int_max (more_of from to) (pos 0) = rw facts.more at is in
    let zero = greater_of_zero (more_of from to) facts.small.0 in
    let less : most <ℤ int_max (more_of from to) (pos 0) = less_is _ _ (rw (least_is, to_z-of_z w64 most most_fits, zero.read) at test) in
    let above = above_both (more_of from to) (gap_of from to) facts.above facts.low in
    sym (beyond_most most (gap_of from to) (omega (arith, ints)))

-- the limit of the sizes of the differences, as it is computed
pub record LimitFacts (from to : List ℤ) (from_rank to_rank most least : ℤ) : Type 0 where
  pub limit : ℤ
  pub product_fits : FitsSigned w64 (pos 2 *ℤ to_z w64 (of_z w64 least))
  pub fits : FitsSigned w64 (to_z w64 (of_z w64 (pos 2 *ℤ to_z w64 (of_z w64 least))) -ℤ to_z w64 (of_z w64 (to_z w64 (of_z w64 to_rank) -ℤ to_z w64 (of_z w64 from_rank))))
  pub is : to_z w64 (of_z w64 (to_z w64 (of_z w64 (pos 2 *ℤ to_z w64 (of_z w64 least))) -ℤ to_z w64 (of_z w64 (to_z w64 (of_z w64 to_rank) -ℤ to_z w64 (of_z w64 from_rank))))) ≡ limit
  pub within : rank_of (differences from to) ≤ℤ limit → gap_of from to ≤ℤ most
  pub beyond : limit <ℤ rank_of (differences from to) → most <ℤ gap_of from to

-- twice a number less another one, as it is computed
record Computed (least more : ℤ) : Type 0 where
  product_fits : FitsSigned w64 (pos 2 *ℤ to_z w64 (of_z w64 least))
  fits : FitsSigned w64 (to_z w64 (of_z w64 (pos 2 *ℤ to_z w64 (of_z w64 least))) -ℤ more)
  is : to_z w64 (of_z w64 (to_z w64 (of_z w64 (pos 2 *ℤ to_z w64 (of_z w64 least))) -ℤ more)) ≡ (pos 2 *ℤ least) -ℤ more

computed : (least more : ℤ) → pos 0 ≤ℤ least → least ≤ℤ pos (2 ^ 60) → (more ≤ℤ pos (2 ^ 60)) × (pos 0 ≤ℤ (more +ℤ pos (2 ^ 60))) → Computed least more
computed least more low high small =
    let least_read : to_z w64 (of_z w64 least) ≡ least = to_z-of_z w64 least (omega (arith, ints)) in
    let product_fits : FitsSigned w64 (pos 2 *ℤ least) = omega (arith, ints) in
    let product : to_z w64 (of_z w64 (pos 2 *ℤ least)) ≡ pos 2 *ℤ least = to_z-of_z w64 (pos 2 *ℤ least) product_fits in
    let fits : FitsSigned w64 ((pos 2 *ℤ least) -ℤ more) = omega (arith, ints) in
    record {
      product_fits = rw least_read product_fits;
      fits = rw (least_read, product) fits;
      is = rw (least_read, product) (to_z-of_z w64 ((pos 2 *ℤ least) -ℤ more) fits);
    }

-- a gap is within a limit where the sizes of the differences are within theirs, and beyond it where they are
sizes_within : (gap more sizes least : ℤ) → gap +ℤ gap ≡ more +ℤ sizes → sizes ≤ℤ ((pos 2 *ℤ least) -ℤ more) → gap ≤ℤ least
sizes_within gap more sizes least twice h = omega (arith, ints)

sizes_beyond : (gap more sizes least : ℤ) → gap +ℤ gap ≡ more +ℤ sizes → ((pos 2 *ℤ least) -ℤ more) <ℤ sizes → least <ℤ gap
sizes_beyond gap more sizes least twice h = omega (arith, ints)

le_then : (a b c : ℤ) → a ≤ℤ b → b ≤ℤ c → a ≤ℤ c
le_then a b c h k = omega (arith, ints)

limit_at : (from to : List ℤ) (from_rank to_rank most least : ℤ) → GapFacts from to from_rank to_rank → rank_of to ≤ℤ pos (2 ^ 60)
    → least ≡ int_min most (rank_of to) → pos 0 ≤ℤ int_min most (rank_of to) → LimitFacts from to from_rank to_rank most least
limit_at from to from_rank to_rank most least facts large is low =
    let bounds = lesser_at_most most (rank_of to) in
    let high = le_then _ _ _ bounds.1 large in
    let read = computed least (more_of from to) (rw is low) (rw is high) facts.small in
    record {
      limit = (pos 2 *ℤ least) -ℤ more_of from to;
      product_fits = read.product_fits;
      fits = rw facts.more read.fits;
      is = rw facts.more read.is;
      within = λ h. let least_in = sizes_within _ _ _ least facts.twice h in le_then _ _ _ least_in (rw is bounds.0);
      beyond = λ h. let least_out = sizes_beyond _ _ _ least facts.twice h in above_lesser most (rank_of to) _ (rw (sym is) least_out) facts.most;
    }

pub limit_facts : (from to : List ℤ) (from_rank to_rank most greatest least : ℤ) → GapFacts from to from_rank to_rank → rank_of to ≤ℤ pos (2 ^ 60) → FitsSigned w64 most
    → greatest ≡ int_max (to_z w64 (of_z w64 (to_z w64 (of_z w64 to_rank) -ℤ to_z w64 (of_z w64 from_rank)))) (pos 0)
    → int_lt (to_z w64 (of_z w64 most)) (to_z w64 (of_z w64 greatest)) ≡ false
    → least ≡ int_min (to_z w64 (of_z w64 most)) (to_z w64 (of_z w64 to_rank)) → LimitFacts from to from_rank to_rank most least
limit_facts from to from_rank to_rank most greatest least facts large most_fits greatest_is test least_is =
    let read = to_z-of_z w64 most most_fits in
    let more_is : greatest ≡ int_max (more_of from to) (pos 0) = rw facts.more at greatest_is in
    let zero = greater_of_zero (more_of from to) facts.small.0 in
    let at_least : int_max (more_of from to) (pos 0) ≤ℤ most = not_less_is _ _ (rw (more_is, read, zero.read) at test) in
    let is : least ≡ int_min most (rank_of to) = rw (read, facts.to_read) at least_is in
    limit_at from to from_rank to_rank most least facts large is (lesser_low most (rank_of to) (le_then _ _ _ zero.low at_least) facts.to_low)

-- what the sum of the sizes says where it is there, and where it is not
pub some_within : (most z got : ℤ) → Some got ≡ where_at_most most z → (got ≡ z) × (z ≤ℤ most)
some_within most z got is = elim (int_le z most) as (λ b. (int_le z most ≡ b) → (got ≡ z) × (z ≤ℤ most)) [
  | true ↦ λ t. let same : Some got ≡ Some z = is ∙ (rw t refl) in (cc, grind (arith, ints))
  | false ↦ λ t. absurd (let none : Some got ≡ None = is ∙ (rw t refl) in cc)
] refl

pub none_within : (most z : ℤ) → None ≡ where_at_most most z → most <ℤ z
none_within most z is = elim (int_le z most) as (λ b. (int_le z most ≡ b) → most <ℤ z) [
  | true ↦ λ t. absurd (let some : None ≡ Some z = is ∙ (rw t refl) in cc)
  | false ↦ λ t. grind (arith, ints)
] refl

-- half of twice a gap, as it is computed
pub record HalfFacts (from to : List ℤ) (from_rank to_rank sizes : ℤ) : Type 0 where
  pub fits : FitsSigned w64 (to_z w64 (of_z w64 (to_z w64 (of_z w64 to_rank) -ℤ to_z w64 (of_z w64 from_rank))) +ℤ to_z w64 (of_z w64 sizes))
  pub is : to_z w64 (of_z w64 (quot_z (to_z w64 (of_z w64 (to_z w64 (of_z w64 (to_z w64 (of_z w64 to_rank) -ℤ to_z w64 (of_z w64 from_rank))) +ℤ to_z w64 (of_z w64 sizes)))) (pos 2))) ≡ gap_of from to

half : (more sizes gap : ℤ) → gap +ℤ gap ≡ more +ℤ sizes → pos 0 ≤ℤ gap → gap ≤ℤ pos (2 ^ 60) → (more ≤ℤ pos (2 ^ 60)) × (pos 0 ≤ℤ (more +ℤ pos (2 ^ 60)))
    → FitsSigned w64 (more +ℤ to_z w64 (of_z w64 sizes))
    × (to_z w64 (of_z w64 (quot_z (to_z w64 (of_z w64 (more +ℤ to_z w64 (of_z w64 sizes)))) (pos 2))) ≡ gap)
half more sizes gap twice low high small =
    let read : to_z w64 (of_z w64 sizes) ≡ sizes = to_z-of_z w64 sizes (omega (arith, ints)) in
    let fits : FitsSigned w64 (more +ℤ sizes) = omega (arith, ints) in
    let whole : to_z w64 (of_z w64 (more +ℤ sizes)) ≡ more +ℤ sizes = to_z-of_z w64 (more +ℤ sizes) fits in
    let halved : quot_z (more +ℤ sizes) (pos 2) ≡ gap = omega (arith, ints) in
    (rw read fits, rw (read, whole, halved) (to_z-of_z w64 gap (omega (arith, ints))))

pub half_facts : (from to : List ℤ) (from_rank to_rank sizes : ℤ) → GapFacts from to from_rank to_rank → rank_of to ≤ℤ pos (2 ^ 60) → sizes ≡ rank_of (differences from to)
    → HalfFacts from to from_rank to_rank sizes
half_facts from to from_rank to_rank sizes facts large is =
    let both = half (more_of from to) sizes (gap_of from to) (rw is facts.twice) facts.low (le_then _ _ _ facts.most large) facts.small in
    record { fits = rw facts.more both.0; is = rw facts.more both.1 }
