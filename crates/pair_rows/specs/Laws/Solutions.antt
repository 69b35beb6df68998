-- The feasible solutions of the program are the assignments, with what they give as their value.
use Rattle.std.specs.Prelude.{◌≡◌, ℕ, zero, suc, ◌+◌, ◌<◌, ◌≤◌, ℤ, ◌+ℤ◌, ◌-ℤ◌, Bool, true, false, ◌&&◌, ◌==◌, nat_lt, List, [], ◌∷◌, length, map, Some, None, IsTrue, refl, if◌then◌else◌}
use Rattle.std.specs.Int.{int_min}
use Rattle.std.proofs.Common.{arith, eq-eqb, sym}
use Rattle.std.proofs.lemmas.Bool.{eqb-true, and_parts, and_from}
use Rattle.std.proofs.lemmas.Bool.Decides.{nat_tests}
use Rattle.std.proofs.lemmas.Int.{ints, clamps}
use Rattle.benefit_rows.specs.Benefits.{choice_gain, gains_of}
use Rattle.dp_model.specs.Prefixes.{IsPath, value_of}
use Rattle.dp_model.specs.Solution.{SolutionGives}
use Rattle.pair_rows.specs.declared.values.UnitValues.{UnitValues}
use Rattle.pair_rows.specs.Instance.{Instance}
use Rattle.pair_rows.specs.Limits.{IsInstance}
use Rattle.pair_rows.specs.OwnWords.{unit_value, units_value, value_of_all, are_binary, begins_within, is_assignment, own_value}
use Rattle.pair_rows.specs.Program.{lesser_units, root_of, program_of}
use Rattle.pair_rows.specs.Laws.Split.{gain_split}
use Rattle.pair_rows.specs.Laws.States.{state-is, steps_are_states}

-- where the first variable takes both values, each list of values begins within its own
twice : (a b : Bool) → (a && b) ≡ (a && (a && b))
twice true b = refl
twice false b = refl

pub begins-binary : (xs : List ℕ) → are_binary xs ≡ (begins_within 2 xs && are_binary xs)
begins-binary [] = refl
begins-binary (x ∷ xs) = twice (nat_lt x 2) (are_binary xs)

-- paths are lists of values

later-choices : (i : Instance) (k : ℕ) → 1 ≤ k → (program_of i).choices k ≡ 2
later-choices i k h = grind (arith, nat_tests)

values-path : (i : Instance) (k : ℕ) (s : List ℤ) (ds : List ℕ) → 1 ≤ k → k + length ds ≤ length i.units → IsTrue (are_binary ds) → IsPath (program_of i) k s ds
values-path i k s [] later h g = tt
values-path i k s (d ∷ ds) later h g =
    let first : IsTrue (nat_lt d 2) = (and_parts (nat_lt d 2) _ g).0 in
    let few : d < 2 = grind (arith, nat_tests) in
    let choices = later-choices i k later in (
      record { layer = omega arith; choice = omega arith; test = refl },
      values-path i (k + 1) ((program_of i).step k s d) ds (omega arith) (omega arith) (and_parts (nat_lt d 2) _ g).1,
    )

first-path : (i : Instance) (s : List ℤ) (ds : List ℕ) → length ds ≤ length i.units → IsTrue (begins_within i.first ds) → IsTrue (are_binary ds) → IsPath (program_of i) 0 s ds
first-path i s [] h first g = tt
first-path i s (d ∷ ds) h first g =
    let few : d < i.first = grind (arith, nat_tests) in (
      record { layer = omega arith; choice = few; test = refl },
      values-path i (0 + 1) ((program_of i).step 0 s d) ds (omega arith) (omega arith) (and_parts (nat_lt d 2) _ g).1,
    )

pub few-choices : (i : Instance) (k : ℕ) → IsInstance i → (program_of i).choices k ≤ 2
few-choices i k kept = let few = kept.first_few in grind (arith, nat_tests)

path-values : (i : Instance) (k : ℕ) (s : List ℤ) (ds : List ℕ) → IsInstance i → IsPath (program_of i) k s ds → IsTrue (are_binary ds)
path-values i k s [] kept h = refl
path-values i k s (d ∷ ds) kept h =
    let choice : d < (program_of i).choices k = h.0.choice in
    let few = few-choices i k kept in
    let small : d < 2 = omega arith in
    let first : IsTrue (nat_lt d 2) = grind (arith, nat_tests) in
    and_from (nat_lt d 2) _ first (path-values i (k + 1) ((program_of i).step k s d) ds kept h.1)

path-first : (i : Instance) (s : List ℤ) (ds : List ℕ) → IsPath (program_of i) 0 s ds → IsTrue (begins_within i.first ds)
path-first i s [] h = refl
path-first i s (d ∷ ds) h =
    let choice : d < i.first = h.0.choice in
    grind (arith, nat_tests)

-- the root's benefits and the lesser values are what the variables give

unit-split : (u : UnitValues) (x : ℕ) → int_min u.if_no u.if_yes +ℤ choice_gain (u.if_yes -ℤ u.if_no) x ≡ unit_value u x
unit-split u zero = omega (arith, ints, clamps)
unit-split u (suc x) = omega (arith, ints, clamps)

units-split : (us : List UnitValues) (xs : List ℕ) → length xs ≡ length us →
    lesser_units us +ℤ gains_of (map (λ v. v.if_yes -ℤ v.if_no) us) xs ≡ units_value us xs
units-split [] [] h = refl
units-split [] (x ∷ xs) h = absurd (omega arith)
units-split (u ∷ us) [] h = absurd (omega arith)
units-split (u ∷ us) (x ∷ xs) h = omega (arith, ints, unit-split u x, units-split us xs (omega arith))

root-split : (us : List UnitValues) (xs : List ℕ) → length xs ≡ length us → lesser_units us +ℤ gains_of (root_of us) xs ≡ units_value us xs
root-split [] [] h = refl
root-split [] (x ∷ xs) h = absurd (omega arith)
root-split (u ∷ us) xs h = units-split (u ∷ us) xs h

-- the value of a solution is what all entries give
pub value_of-solution : (i : Instance) (xs : List ℕ) → IsInstance i → length xs ≡ length i.units → value_of (program_of i) xs ≡ value_of_all i xs
value_of-solution i xs kept whole =
    let cells = (state-is i 0 (root_of i.units) (steps_are_states i kept).root).cells in
    omega (arith, ints, gain_split i 0 (root_of i.units) xs kept.whole cells (omega arith), root-split i.units xs whole)

-- what an assignment is
pub record IsAssignment (i : Instance) (xs : List ℕ) : Type 0 where
  pub whole : length xs ≡ length i.units
  pub first : IsTrue (begins_within i.first xs)
  pub binary : IsTrue (are_binary xs)

pub assignment-is : (i : Instance) (xs : List ℕ) → IsTrue (is_assignment i xs) → IsAssignment i xs
assignment-is i xs h =
    let rest : IsTrue (begins_within i.first xs && are_binary xs) = (and_parts (length xs == length i.units) _ h).1 in
    record {
      whole = eqb-true (length xs) (length i.units) (and_parts _ _ h).0;
      first = (and_parts _ _ rest).0;
      binary = (and_parts (begins_within i.first xs) _ rest).1;
    }

-- a list of decisions is a feasible solution exactly where it is an assignment, of the same value
pub own_value-agrees : (i : Instance) (xs : List ℕ) → IsInstance i → SolutionGives (program_of i) xs (own_value i xs)
own_value-agrees i xs kept = cases (is_assignment i xs) refl
  where
    cases : (b : Bool) → is_assignment i xs ≡ b → SolutionGives (program_of i) xs (if b then Some (value_of_all i xs) else None)
    cases true e =
        let is = assignment-is i xs e in
        record {
          solution = record { prefix = first-path i (root_of i.units) xs (omega (arith, is.whole)) is.first is.binary; whole = is.whole };
          value = sym (value_of-solution i xs kept is.whole);
        }
    cases false e = λ solution.
        let here : IsTrue (is_assignment i xs) = and_from (length xs == length i.units) _ (eq-eqb (length xs) (length i.units) solution.whole)
        (and_from (begins_within i.first xs) _ (path-first i (root_of i.units) xs solution.prefix) (path-values i 0 (root_of i.units) xs kept solution.prefix)) in
        absurd (grind arith)
