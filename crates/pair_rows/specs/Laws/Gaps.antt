-- Gaps are sound and add up, and rough bounds bound.
use Rattle.std.specs.Prelude.{◌≡◌, ℕ, zero, suc, ◌+◌, ◌≤◌, ℤ, pos, ◌+ℤ◌, ◌≤ℤ◌, List, [], ◌∷◌, length, drop, Some, IsTrue, refl}
use Rattle.std.proofs.Common.{arith, sym, ap}
use Rattle.std.proofs.lemmas.Int.{ints}
use Rattle.std.proofs.lemmas.List.{length-drop}
use Rattle.std.proofs.lemmas.Bool.{and_parts}
use Rattle.benefit_rows.specs.Benefits.{gains_of, rank_of, gap_of}
use Rattle.benefit_rows.specs.BenefitLaws.{gap_of-self, gap_of-bounds, gap_of-chain, gains_of-most, rank_of-positive}
use Rattle.dp_model.specs.Gaps.{IsStateOf, IsSoundGap}
use Rattle.dp_model.specs.Laws.{GapsAreSound, RoughBounds, IsChained}
use Rattle.dp_model.specs.Prefixes.{IsPath, IsContinuation, gain_of}
use Rattle.pair_rows.specs.declared.values.UnitValues.{UnitValues}
use Rattle.pair_rows.specs.declared.values.PairValues.{PairValues}
use Rattle.pair_rows.specs.Pairs.{rows_of}
use Rattle.pair_rows.specs.Instance.{Instance, pair_most, pairs_most, rows_most}
use Rattle.pair_rows.specs.Limits.{IsInstance, pairs_fit, pair_fits}
use Rattle.pair_rows.specs.Laws.Limits.{pair-fits}
use Rattle.pair_rows.specs.OwnWords.{pair_value, row_value, rows_value}
use Rattle.pair_rows.specs.Program.{first_limits, limits_at, are_within, program_of}
use Rattle.pair_rows.specs.Laws.Pairs.{length-rows_of, all-drop}
use Rattle.pair_rows.specs.Laws.Rows.{words_of-some}
use Rattle.pair_rows.specs.Laws.Split.{gain_split}
use Rattle.pair_rows.specs.Laws.States.{state-is}
use Rattle.pair_rows.specs.Laws.Totals.{rows_fit, positive-rows_of, pairs_most-positive, rows_most-positive, limits, sum_of, rank_of-within}

-- the same decisions are allowed from each state
path-any : (i : Instance) (k : ℕ) (s a : List ℤ) (c : List ℕ) → IsPath (program_of i) k s c → IsPath (program_of i) k a c
path-any i k s a [] h = tt
path-any i k s a (d ∷ ds) h =
    (record { layer = h.0.layer; choice = h.0.choice; test = h.0.test }, path-any i (k + 1) ((program_of i).step k s d) ((program_of i).step k a d) ds h.1)

-- the gain of a continuation of a state
state_split : (i : Instance) (k : ℕ) (s : List ℤ) (c : List ℕ) → IsInstance i → IsStateOf (program_of i) k s → IsContinuation (program_of i) k s c →
    gain_of (program_of i) k s c ≡ gains_of (drop k s) c +ℤ rows_value (drop k (rows_of (length i.units) i.pairs)) c
state_split i k s c kept state along = gain_split i k s c kept.whole (state-is i k s state.test).cells along.whole

some-is : (g h : ℤ) → Some g ≡ Some h → g ≡ h
some-is g h e = cc

pub same-cells : (i : Instance) (k : ℕ) (a s : List ℤ) → IsStateOf (program_of i) k a → IsStateOf (program_of i) k s → length (drop k a) ≡ length (drop k s)
same-cells i k a s one other =
    omega (arith, length-drop k a, length-drop k s, (state-is i k a one.test).cells, (state-is i k s other.test).cells)

gap-sound : (i : Instance) (k : ℕ) (a s : List ℤ) (g : ℤ) → IsInstance i → IsStateOf (program_of i) k a → IsStateOf (program_of i) k s →
    gap_of (drop k a) (drop k s) ≡ g → IsSoundGap (program_of i) k a s g
gap-sound i k a s g kept one other e c along =
    let same : IsContinuation (program_of i) k a c = record { path = path-any i k s a c along.path; whole = along.whole } in
    record {
      by = c;
      continuation = same;
      enough = omega (
        arith,
        ints,
        state_split i k s c kept other along,
        state_split i k a c kept one same,
        gap_of-bounds (drop k a) (drop k s) c (same-cells i k a s one other),
      );
    }

pub gaps_are_sound : (i : Instance) → IsInstance i → GapsAreSound (program_of i)
gaps_are_sound i kept = record {
  sound = λ k a s g one other e. gap-sound i k a s g kept one other (some-is _ _ e);
  own = λ k s state. ap (λ g. Some g) (gap_of-self (drop k s));
  merge_new = λ k a s one other. record { gap = gap_of (drop k ((program_of i).merged k a s)) (drop k s); is = refl };
  merge_old = λ k a s u one other third has. record { gap = gap_of (drop k ((program_of i).merged k a s)) (drop k u); is = refl };
}

pub is_chained : (i : Instance) → IsInstance i → IsChained (program_of i)
is_chained i kept k a b c g h one two three e f = record {
  gap = gap_of (drop k a) (drop k c);
  is = refl;
  within = omega (arith, ints, gap_of-chain (drop k a) (drop k b) (drop k c) (same-cells i k a b one two) (same-cells i k b c two three), some-is _ _ e, some-is _ _ f);
}

-- what pairs give is at most what they say

pair_value-most : (p : PairValues) (x y : ℕ) → IsTrue (pair_fits p) → pair_value p x y ≤ℤ pair_most p
pair_value-most p zero zero h = (pair-fits p h).no_no_most
pair_value-most p zero (suc y) h = (pair-fits p h).no_yes_most
pair_value-most p (suc x) zero h = (pair-fits p h).yes_no_most
pair_value-most p (suc x) (suc y) h = (pair-fits p h).yes_yes_most

pub row_value-most : (ps : List PairValues) (x : ℕ) (ys : List ℕ) → IsTrue (pairs_fit ps) → row_value ps x ys ≤ℤ pairs_most ps
row_value-most [] x ys h = omega (arith, ints)
row_value-most (p ∷ ps) x [] h = pairs_most-positive (p ∷ ps) h
row_value-most (p ∷ ps) x (y ∷ ys) h =
    omega (arith, ints, pair_value-most p x y (and_parts _ _ h).0, row_value-most ps x ys (and_parts (pair_fits p) _ h).1)

pub rows_value-most : (rows : List (List PairValues)) (xs : List ℕ) → IsTrue (rows_fit rows) → rows_value rows xs ≤ℤ rows_most rows
rows_value-most [] xs h = omega (arith, ints)
rows_value-most (row ∷ rows) [] h = rows_most-positive (row ∷ rows) h
rows_value-most (row ∷ rows) (x ∷ xs) h =
    omega (arith, ints, row_value-most row x xs (and_parts _ _ h).0, rows_value-most rows xs (and_parts (pairs_fit row) _ h).1)

rough-bounds : (i : Instance) (k : ℕ) (s : List ℤ) (c : List ℕ) → IsInstance i → IsStateOf (program_of i) k s → IsContinuation (program_of i) k s c →
    gain_of (program_of i) k s c ≤ℤ (rank_of (drop k s) +ℤ rows_most (drop k (rows_of (length i.units) i.pairs)))
rough-bounds i k s c kept state along =
    let rows : List (List PairValues) = rows_of (length i.units) i.pairs in
    omega (
      arith,
      ints,
      state_split i k s c kept state along,
      gains_of-most (drop k s) c,
      rows_value-most (drop k rows) c (all-drop pairs_fit k rows (positive-rows_of (length i.units) i.pairs kept.pairs)),
    )

drop-past : {X : Type 0} (n : ℕ) (xs : List X) → length xs ≤ n → drop n xs ≡ []
drop-past zero [] h = refl
drop-past zero (x ∷ xs) h = absurd (omega arith)
drop-past (suc n) [] h = refl
drop-past (suc n) (x ∷ xs) h = drop-past n xs (omega arith)

-- nothing is left at the last layer

sum_of-none : (ls : List ℤ) → length ls ≡ 0 → sum_of ls ≡ pos 0
sum_of-none [] h = refl
sum_of-none (l ∷ ls) h = absurd (omega arith)

first-last : (us : List UnitValues) → length us ≡ 0 → sum_of (first_limits us) ≡ pos 0
first-last [] h = refl
first-last (u ∷ us) h = absurd (omega arith)

limits-last : (i : Instance) (k : ℕ) → IsInstance i → k ≡ length i.units → sum_of (limits_at i.units i.pairs k) ≡ pos 0
limits-last i zero kept e = first-last i.units (sym e)
limits-last i (suc k) kept e =
    sum_of-none (limits_at i.units i.pairs (suc k)) (omega (arith, (limits i (suc k) kept (omega arith)).count, words_of-some (length i.units) k (omega arith)))

rough-last : (i : Instance) (s : List ℤ) → IsInstance i → IsStateOf (program_of i) (length i.units) s →
    rank_of (drop (length i.units) s) +ℤ rows_most (drop (length i.units) (rows_of (length i.units) i.pairs)) ≡ pos 0
rough-last i s kept state =
    let n : ℕ = length i.units in
    let rows : List (List PairValues) = rows_of n i.pairs in
    let after : IsTrue (are_within (drop n s) (limits_at i.units i.pairs n)) = (state-is i n s state.test).after in
    let gone : rows_most (drop n rows) ≡ pos 0 = ap rows_most (drop-past n rows (omega (arith, length-rows_of n i.pairs))) in
    omega (
      arith,
      ints,
      rank_of-positive (drop n s),
      limits-last i n kept refl,
      gone,
      rank_of-within (drop n s) (limits_at i.units i.pairs n) (limits i n kept (omega arith)).positive after,
    )

pub rough_bounds : (i : Instance) → IsInstance i → RoughBounds (program_of i)
rough_bounds i kept = record {
  bounds = λ k s c state along. rough-bounds i k s c kept state along;
  last = λ s state. ap (λ r. Some r) (rough-last i s kept state);
}
