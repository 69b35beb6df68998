-- How the sum of the gains goes on.
use Rattle.std.proofs.Common.{◌≡◌, ℕ, ◌+◌, ◌*◌, ◌^◌, ◌<◌, ◌≤◌, ℤ, pos, negsuc, neg_ℤ, ◌+ℤ◌, ◌≤ℤ◌, List, [], ◌∷◌, length, drop, get_or, Option, Some, None, refl, sym, ap, ◌∙◌, arith}
use Rattle.std.specs.Prelude.{option_map, IfSome}
use Rattle.dp_model.specs.Numbers.{IsSmall}
use Rattle.table_model.specs.Laws.Shaped.{IsTable}
use Rattle.table_model.specs.Laws.Solutions.{step_within}
use Rattle.std.proofs.lemmas.Int.{ints, to_z-of_z}
use Rattle.std.specs.Int.{w64}
use mir.Val.{SFits, of_z, to_z}
use Rattle.std.proofs.lemmas.List.{drop_more, drop_all}
use Rattle.table_model.specs.OwnWords.{gain_then, gains_along}
use Rattle.table_model.specs.Table.{LayerTable, Table, layer_at, transition_at}
use Rattle.table_model.specs.declared.transition.Transition.{Transition}

module _ (layers : List LayerTable) (value : ℤ) (k state : ℕ) (ds : List ℕ) where
  -- the value so far with what is gained from here on
  abbrev pub value_with : Option ℤ
  value_with = option_map (λ z. value +ℤ z) (gains_along layers k state (drop k ds))

  regroup : (gain : ℤ) (o : Option ℤ) → option_map (λ z. value +ℤ z) (option_map (λ z. gain +ℤ z) o) ≡ option_map (λ z. (value +ℤ gain) +ℤ z) o
  regroup gain None = refl
  regroup gain (Some z) = let same : (value +ℤ (gain +ℤ z)) ≡ ((value +ℤ gain) +ℤ z) = omega (arith, ints) in ap (λ (y : ℤ). let o : Option ℤ = Some y in o) same

  pub step_on : (d : ℕ) (w : Transition) → k < length ds → transition_at (layer_at layers k) state (get_or ds k d) ≡ Some w
      → value_with ≡ option_map (λ z. (value +ℤ w.gain) +ℤ z) (gains_along layers (k + 1) w.next (drop (k + 1) ds))
  step_on d w below e =
      ap (λ (l : List ℕ). option_map (λ z. value +ℤ z) (gains_along layers k state l)) (drop_more ds k d below)
      ∙ ap (λ (o : Option Transition). option_map (λ z. value +ℤ z) (gain_then o (λ next. gains_along layers (k + 1) next (drop (k + 1) ds)))) e
      ∙ regroup w.gain (gains_along layers (k + 1) w.next (drop (k + 1) ds))

  pub step_none : (d : ℕ) → k < length ds → transition_at (layer_at layers k) state (get_or ds k d) ≡ None → value_with ≡ None
  step_none d below e =
      ap (λ (l : List ℕ). option_map (λ z. value +ℤ z) (gains_along layers k state l)) (drop_more ds k d below)
      ∙ ap (λ (o : Option Transition). option_map (λ z. value +ℤ z) (gain_then o (λ next. gains_along layers (k + 1) next (drop (k + 1) ds)))) e

  pub step_end : length ds ≤ k → value_with ≡ Some value
  step_end past =
      ap (λ (l : List ℕ). option_map (λ z. value +ℤ z) (gains_along layers k state l)) (drop_all k ds past)
      ∙ (let same : (value +ℤ pos 0) ≡ value = omega (arith, ints) in ap (λ (y : ℤ). let o : Option ℤ = Some y in o) same)

-- what was taken is within the limits, where it is there
pub taken_next : (t : Table) → IsTable t → (k s d : ℕ) → k + 1 < length t.layers → s < (layer_at t.layers k).states → (o : Option Transition) → o ≡ transition_at (layer_at t.layers k) s d
    → IfSome o (λ w. w.next < (layer_at t.layers (k + 1)).states)
taken_next t shape k s d below one None e = tt
taken_next t shape k s d below one (Some w) e = (step_within t shape k s d w below one (sym e)).next

pub taken_small : (t : Table) → IsTable t → (k s d : ℕ) → k + 1 < length t.layers → s < (layer_at t.layers k).states → (o : Option Transition) → o ≡ transition_at (layer_at t.layers k) s d
    → IfSome o (λ w. IsSmall w.gain)
taken_small t shape k s d below one None e = tt
taken_small t shape k s d below one (Some w) e = let gain = (step_within t shape k s d w below one (sym e)).gain in record { low = gain.low; high = gain.high }

-- ---- no sum overflows

fits_far : (z : ℤ) → neg_ℤ (pos (2 ^ 62)) ≤ℤ z → z ≤ℤ pos (2 ^ 62) → SFits w64 z
fits_far (pos n) low high = record { sfits = omega (arith, ints, high) }
fits_far (negsuc n) low high = record { sfits = omega (arith, ints, low) }

pub sum_back : (v g : ℤ) (n : ℕ) → n ≤ 66 → neg_ℤ (pos (n * 2 ^ 50)) ≤ℤ v → v ≤ℤ pos (n * 2 ^ 50) → IsSmall g → to_z w64 (of_z w64 (v +ℤ to_z w64 (of_z w64 g))) ≡ v +ℤ g
sum_back v g n few low high small =
    let under = small.low in
    let over = small.high in
    let fits : SFits w64 g = fits_far g (omega (arith, ints, under)) (omega (arith, ints, over)) in
    let sum : SFits w64 (v +ℤ g) = fits_far (v +ℤ g) (omega (arith, ints, few, low, under)) (omega (arith, ints, few, high, over)) in
    ap (λ (z : ℤ). to_z w64 (of_z w64 (v +ℤ z))) (to_z-of_z w64 g fits) ∙ to_z-of_z w64 (v +ℤ g) sum
