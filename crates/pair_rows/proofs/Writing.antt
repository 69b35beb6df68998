-- What a step and the root write.
use Rattle.std.proofs.Common.{◌≡◌, ℕ, ◌+◌, ◌-◌, ◌^◌, ◌<◌, ◌≤◌, ℤ, pos, ◌-ℤ◌, ◌≤ℤ◌, List, [], ◌∷◌, ◌++◌, length, take, drop, replicate, set, get_or, refl, arith, ap, sym, ◌∙◌, append_assoc, to_z, of_z, w64, add-one, map}
use Rattle.std.specs.Prelude.{IsTrue, false, ◌==◌}
use Rattle.std.proofs.Math.Seq.{take-suc-set}
use Rattle.std.proofs.lemmas.Int.{ints}
use Rattle.std.proofs.lemmas.List.{drop_more, drop_all, take_all, append-nil, length-drop, replicate-append-replicate}
use Rattle.benefit_rows.specs.Benefits.{rank_of}
use Rattle.benefit_rows.specs.BenefitLaws.{size_of-positive}
use Rattle.pair_rows.specs.declared.values.PairValues.{PairValues}
use Rattle.pair_rows.specs.declared.values.UnitValues.{UnitValues}
use Rattle.benefit_rows.proofs.Steps.{read_by_size}
use Rattle.pair_rows.specs.Instance.{units_most, no_unit}
use Rattle.pair_rows.specs.Limits.{units_fit}
use Rattle.pair_rows.specs.Program.{row_step, root_of, words_of}
use Rattle.benefit_rows.specs.Benefits.{sums_of}
use Rattle.pair_rows.specs.Shifts.{shifts_of}
use Rattle.pair_rows.proofs.Cells.{benefit-small}
use Rattle.pair_rows.proofs.Shifting.{grown-shifts}

-- a slice to the end
pub tail-is : {X : Type 0} (k : ℕ) (s : List X) → take (length s - k) (drop k s) ≡ drop k s
tail-is k s = take_all (length s - k) (drop k s) (omega (arith, length-drop k s))

-- what stands after the first benefit has no greater rank
pub rank_of-tail : (k : ℕ) (s : List ℤ) → k < length s → rank_of (drop (k + 1) s) ≤ℤ rank_of (drop k s)
rank_of-tail k s h =
    let cut = ap rank_of (drop_more s k (pos 0) h) in
    omega (arith, ints, size_of-positive (get_or s k (pos 0)))

-- the state after a decision, by its shifts
pub step-shifts : (row : List PairValues) (s : List ℤ) (k d : ℕ) → k < length s → take k s ≡ replicate k (pos 0)
    → replicate (k + 1) (pos 0) ++ sums_of (drop (k + 1) s) (shifts_of d row) ≡ take k s ++ row_step row (drop k s) d
step-shifts row s k d h none =
    let cut : drop k s ≡ get_or s k (pos 0) ∷ drop (k + 1) s = drop_more s k (pos 0) h in
    let front : replicate (k + 1) (pos 0) ≡ replicate k (pos 0) ++ pos 0 ∷ [] = sym (replicate-append-replicate k 1 (pos 0)) in
    rw (cut, none, front, append_assoc) (ap (λ us. replicate k (pos 0) ++ pos 0 ∷ us) (sym (grown-shifts row (drop (k + 1) s) d)))

-- the root

pub root-written : (us : List UnitValues) (out whole : List ℤ) (i : ℕ) (cell : ℤ) → i < length us → length out ≡ length us →
    IsTrue (units_fit us) → units_most us ≤ℤ pos (2 ^ 48) → cell ≡ (get_or us i no_unit).if_yes -ℤ (get_or us i no_unit).if_no →
    take i out ++ map (λ v. v.if_yes -ℤ v.if_no) (drop i us) ≡ whole →
    take (i + 1) (set out i (to_z w64 (of_z w64 cell))) ++ map (λ v. v.if_yes -ℤ v.if_no) (drop (i + 1) us) ≡ whole
root-written us out whole i cell h e positive weight is before =
    let small = benefit-small us i h positive weight in
    let written : to_z w64 (of_z w64 cell) ≡ cell = read_by_size cell (rw is (omega (arith, ints))) in
    let inside : i < length out = omega arith in
    let front : take (i + 1) (set out i cell) ≡ take i out ++ cell ∷ [] = rw add-one (take-suc-set out i cell inside) in
    let more = rw (drop_more us i no_unit h) at before in
    rw (written, front, append_assoc, is) more

root_of-some : (us : List UnitValues) → (length us == 0) ≡ false → map (λ v. v.if_yes -ℤ v.if_no) us ≡ root_of us
root_of-some [] h = absurd (grind arith)
root_of-some (u ∷ us) h = refl

some-words : (us : List UnitValues) → (length us == 0) ≡ false → words_of (length us) ≡ length us
some-words [] h = absurd (grind arith)
some-words (u ∷ us) h = refl

pub root-done : (us : List UnitValues) (out : List ℤ) (i : ℕ) → length us ≤ i → (length us == 0) ≡ false → length out ≡ words_of (length us) →
    take i out ++ map (λ v. v.if_yes -ℤ v.if_no) (drop i us) ≡ map (λ v. v.if_yes -ℤ v.if_no) us → out ≡ root_of us
root-done us out i h some e before =
    let all : take i out ≡ out = take_all i out (omega (arith, some-words us some)) in
    let none : drop i us ≡ [] = drop_all i us h in
    sym (append-nil out) ∙ (rw (all, none) at before ∙ root_of-some us some)

pub root_of-none : (us : List UnitValues) (out : List ℤ) → length us ≡ 0 → length out ≡ words_of (length us) → set out 0 (pos 0) ≡ root_of us
root_of-none [] [] h e = absurd (omega arith)
root_of-none [] (x ∷ []) h e = refl
root_of-none [] (x ∷ y ∷ out) h e = absurd (omega arith)
root_of-none (u ∷ us) out h e = absurd (omega arith)
