-- The root and what steps and merges give are states.
use Rattle.std.specs.Prelude.{◌≡◌, ℕ, zero, suc, ◌+◌, ◌<◌, ◌≤◌, ℤ, pos, ◌+ℤ◌, ◌-ℤ◌, ◌≤ℤ◌, ◌&&◌, ◌==◌, List, [], ◌∷◌, ◌++◌, length, take, drop, map, IsTrue, refl}
use Rattle.std.proofs.Common.{arith, sym, ◌∙◌, get_or, add-one, eq-eqb}
use Rattle.std.proofs.Math.Seq.{drop-cons}
use Rattle.std.proofs.lemmas.Bool.{eqb-true, and_parts, and_from}
use Rattle.std.proofs.lemmas.Int.{ints, clamps}
use Rattle.benefit_rows.specs.Benefits.{size_of, benefit_merged, merged_of}
use Rattle.benefit_rows.specs.BenefitLaws.{benefit_merged-left, length-merged_of}
use Rattle.dp_model.specs.Laws.{StepsAreStates}
use Rattle.pair_rows.specs.declared.values.UnitValues.{UnitValues}
use Rattle.pair_rows.specs.declared.values.PairValues.{PairValues}
use Rattle.pair_rows.specs.Pairs.{rows_of, row_at}
use Rattle.pair_rows.specs.Instance.{Instance, unit_most, pair_most}
use Rattle.pair_rows.specs.Limits.{IsInstance, units_fit, unit_fits, pairs_fit, pair_fits}
use Rattle.pair_rows.specs.Laws.Limits.{size-is, is-size, unit-fits, pair-fits}
use Rattle.pair_rows.specs.Program.{is_within, given_yes, given_no, grown, row_step, words_of, root_of, raised_limits, first_limits, limits_at, all_zero, are_within, is_state_of, program_of}
use Rattle.pair_rows.specs.Laws.Pairs.{length-row_at}
use Rattle.pair_rows.specs.Laws.Rows.{words_of-some, length-step, drop-step}
use Rattle.pair_rows.specs.Laws.Totals.{positive-rows_of, positive-row_at}

-- what the test of a state says
pub record IsSatState (i : Instance) (k : ℕ) (s : List ℤ) : Type 0 where
  pub cells : length s ≡ words_of (length i.units)
  pub before : IsTrue (all_zero (take k s))
  pub after : IsTrue (are_within (drop k s) (limits_at i.units i.pairs k))

pub state-is : (i : Instance) (k : ℕ) (s : List ℤ) → IsTrue (is_state_of i k s) → IsSatState i k s
state-is i k s h =
    let rest : IsTrue (all_zero (take k s) && are_within (drop k s) (limits_at i.units i.pairs k)) = (and_parts (length s == words_of (length i.units)) _ h).1 in
    record {
      cells = eqb-true (length s) (words_of (length i.units)) (and_parts _ _ h).0;
      before = (and_parts _ _ rest).0;
      after = (and_parts (all_zero (take k s)) _ rest).1;
    }

pub is-state : (i : Instance) (k : ℕ) (s : List ℤ) → IsSatState i k s → IsTrue (is_state_of i k s)
is-state i k s h =
    and_from (length s == words_of (length i.units)) _ (eq-eqb (length s) (words_of (length i.units)) h.cells) (and_from (all_zero (take k s)) _ h.before h.after)

-- the root

length-root : (us : List UnitValues) → length (map (λ v. v.if_yes -ℤ v.if_no) us) ≡ length us
length-root [] = refl
length-root (u ∷ us) = omega (arith, length-root us)

length-root_of : (us : List UnitValues) → length (root_of us) ≡ words_of (length us)
length-root_of [] = refl
length-root_of (u ∷ us) = length-root (u ∷ us)

within-units : (us : List UnitValues) → IsTrue (units_fit us) → IsTrue (are_within (map (λ v. v.if_yes -ℤ v.if_no) us) (map unit_most us))
within-units [] h = refl
within-units (u ∷ us) h =
    let here = unit-fits u (and_parts _ _ h).0 in
    and_from (is_within (u.if_yes -ℤ u.if_no) (unit_most u)) _
    (is-size (u.if_yes -ℤ u.if_no) (unit_most u) (omega (arith, ints, clamps)))
    (within-units us (and_parts (unit_fits u) _ h).1)

within-root : (us : List UnitValues) → IsTrue (units_fit us) → IsTrue (are_within (root_of us) (first_limits us))
within-root [] h = refl
within-root (u ∷ us) h = within-units (u ∷ us) h

root-state : (i : Instance) → IsInstance i → IsTrue (is_state_of i 0 (root_of i.units))
root-state i kept = is-state i 0 (root_of i.units) (record {
  cells = length-root_of i.units;
  before = refl;
  after = within-root i.units kept.units;
})

-- a step

grown-within : (p : PairValues) (t l : ℤ) (d : ℕ) → IsTrue (pair_fits p) → size_of t ≤ℤ l → size_of (t +ℤ (given_yes p d -ℤ given_no p d)) ≤ℤ (l +ℤ pair_most p)
grown-within p t l zero h g = let here = pair-fits p h in omega (arith, ints, clamps)
grown-within p t l (suc d) h g = let here = pair-fits p h in omega (arith, ints, clamps)

within-grown : (ps : List PairValues) (ts ls : List ℤ) (d : ℕ) → IsTrue (pairs_fit ps) → IsTrue (are_within ts ls) → IsTrue (are_within (grown ps ts d) (raised_limits ps ls))
within-grown [] ts ls d h g = refl
within-grown (p ∷ ps) [] ls d h g = refl
within-grown (p ∷ ps) (t ∷ ts) [] d h g = absurd (grind arith)
within-grown (p ∷ ps) (t ∷ ts) (l ∷ ls) d h g =
    and_from (is_within (t +ℤ (given_yes p d -ℤ given_no p d)) (l +ℤ pair_most p)) _
    (is-size _ _ (grown-within p t l d (and_parts _ _ h).0 (size-is t l (and_parts _ _ g).0)))
    (within-grown ps ts ls d (and_parts (pair_fits p) _ h).1 (and_parts (is_within t l) _ g).1)

-- what stands after the first benefit is within the limits after the first
pub within-rest : (t : ℤ) (ts ls : List ℤ) → IsTrue (are_within (t ∷ ts) ls) → IsTrue (are_within ts (drop 1 ls))
within-rest t ts [] h = absurd (grind arith)
within-rest t ts (l ∷ ls) h = (and_parts (is_within t l) _ h).1

zero-step : (k : ℕ) (s more : List ℤ) → k ≤ length s → IsTrue (all_zero (take k s)) → IsTrue (all_zero (take (suc k) (take k s ++ pos 0 ∷ more)))
zero-step zero s more h g = refl
zero-step (suc k) [] more h g = absurd (omega arith)
zero-step (suc k) (t ∷ ts) more h g =
    and_from (is_within t (pos 0)) _ (and_parts _ _ g).0 (zero-step k ts more (omega arith) (and_parts (is_within t (pos 0)) _ g).1)

step-state : (i : Instance) (k : ℕ) (s : List ℤ) (d : ℕ) → IsInstance i → k < length i.units → IsTrue (is_state_of i k s) →
    IsTrue (is_state_of i (k + 1) (take k s ++ row_step (row_at (rows_of (length i.units) i.pairs) k) (drop k s) d))
step-state i k s d kept layer test =
    let state : IsSatState i k s = state-is i k s test in
    let rows : List (List PairValues) = rows_of (length i.units) i.pairs in
    let row : List PairValues = row_at rows k in
    let words = words_of-some (length i.units) k layer in
    let below : k < length s = omega (arith, state.cells) in
    let entries = length-row_at (length i.units) i.pairs k kept.whole layer in
    let cut : drop k s ≡ get_or s k (pos 0) ∷ drop (suc k) s = drop-cons s k (pos 0) below in
    let positive_row : IsTrue (pairs_fit row) = positive-row_at rows k (positive-rows_of (length i.units) i.pairs kept.pairs) in
    let rest : IsTrue (are_within (drop (suc k) s) (drop 1 (limits_at i.units i.pairs k))) = within-rest (get_or s k (pos 0)) (drop (suc k) s) (limits_at i.units i.pairs k) (rw cut at state.after) in
    is-state i (k + 1) (take k s ++ row_step row (drop k s) d) (record {
      cells = length-step row s k d below (omega (arith, state.cells)) ∙ state.cells;
      before = rw (add-one, cut) (zero-step k s (grown row (drop (suc k) s) d) (omega arith) state.before);
      after = rw (drop-step row s k d below) (rw add-one (within-grown row (drop (suc k) s) (drop 1 (limits_at i.units i.pairs k)) d positive_row rest));
    })

-- a merge

zero-merged : (k : ℕ) (a s : List ℤ) → IsTrue (all_zero (take k a)) → IsTrue (all_zero (take k (merged_of a s)))
zero-merged zero a s h = refl
zero-merged (suc k) [] s h = refl
zero-merged (suc k) (x ∷ a) [] h = refl
zero-merged (suc k) (x ∷ a) (y ∷ s) h =
    let smaller = benefit_merged-left x y in
    let zero_there = size-is x (pos 0) (and_parts _ _ h).0 in
    and_from (is_within (benefit_merged x y) (pos 0)) _ (is-size (benefit_merged x y) (pos 0) (omega (arith, ints, smaller, zero_there)))
    (zero-merged k a s (and_parts (is_within x (pos 0)) _ h).1)

within-merged : (k : ℕ) (a s ls : List ℤ) → IsTrue (are_within (drop k a) ls) → IsTrue (are_within (drop k (merged_of a s)) ls)
within-merged zero [] s ls h = refl
within-merged zero (x ∷ a) [] ls h = refl
within-merged zero (x ∷ a) (y ∷ s) [] h = absurd (grind arith)
within-merged zero (x ∷ a) (y ∷ s) (l ∷ ls) h =
    let smaller = benefit_merged-left x y in
    let there = size-is x l (and_parts _ _ h).0 in
    and_from (is_within (benefit_merged x y) l) _ (is-size (benefit_merged x y) l (omega (arith, ints, smaller, there)))
    (within-merged zero a s ls (and_parts (is_within x l) _ h).1)
within-merged (suc k) [] s ls h = refl
within-merged (suc k) (x ∷ a) [] ls h = refl
within-merged (suc k) (x ∷ a) (y ∷ s) ls h = within-merged k a s ls h

merged-state : (i : Instance) (k : ℕ) (a s : List ℤ) → IsTrue (is_state_of i k a) → IsTrue (is_state_of i k s) → IsTrue (is_state_of i k (merged_of a s))
merged-state i k a s p q =
    let one : IsSatState i k a = state-is i k a p in
    let other : IsSatState i k s = state-is i k s q in
    is-state i k (merged_of a s) (record {
      cells = length-merged_of a s (one.cells ∙ sym other.cells) ∙ one.cells;
      before = zero-merged k a s one.before;
      after = within-merged k a s (limits_at i.units i.pairs k) one.after;
    })

pub steps_are_states : (i : Instance) → IsInstance i → StepsAreStates (program_of i)
steps_are_states i kept = record {
  root = root-state i kept;
  step = λ k s d state allowed. step-state i k s d kept allowed.layer state.test;
  merged = λ k a s one other. merged-state i k a s one.test other.test;
}
