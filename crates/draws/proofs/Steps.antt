-- Steps that draw, in a loop.
use Rattle.std.proofs.Common.{◌≡◌, ℕ, suc, ◌+◌, refl, ap, ◌∙◌, arith}
use Rattle.draws.specs.Draws.{steps}

-- before the first step
pub steps_none : {A : Type 0} (step : A → ℕ → A × ℕ) (made : A) (x : ℕ) → steps step 0 made x ≡ (made, x)
unfolding steps
steps_none step made x = refl

-- one step more
pub steps_more : {A : Type 0} (step : A → ℕ → A × ℕ) (i : ℕ) (first made next : A) (x y z : ℕ) → steps step i first x ≡ (made, y) → step made y ≡ (next, z)
    → steps step (i + 1) first x ≡ (next, z)
unfolding steps
steps_more step i first made next x y z before now =
    let count : i + 1 ≡ suc i = omega arith in
    ap (λ k. steps step k first x) count ∙ ap (λ p. step p.0 p.1) before ∙ now
