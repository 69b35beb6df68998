-- The memory of a workspace.
use Rattle.std.proofs.Common.{◌≡◌, ℕ, ◌+◌, ◌*◌, ◌^◌, ◌<◌, ◌≤◌, List, [], ◌∷◌, ◌++◌, map, length, vec_capacity, sym, ap, ◌∙◌, subst, arith, add-one}
use Rattle.dp_model.specs.Decisions.{below}
use Rattle.dp_model.specs.Dp.{Dp}
use Rattle.layer_candidates.specs.Beaming.{HasLayers}
use Rattle.layer_candidates.specs.Layering.{HasMemory}
use Rattle.layer_candidates.specs.declared.beam.Beam.{Beam}
use Rattle.layer_build.proofs.Stacks.{choice-at, length-below, map-append, map-length}

pub below-next : {X : Type 0} (f : ℕ → X) (k : ℕ) → map f (below (k + 1)) ≡ map f (below k) ++ f k ∷ []
below-next f k = ap (λ (n : ℕ). map f (below n)) (add-one k) ∙ map-append f (below k) (k ∷ [])

pub count-below : {X : Type 0} (f : ℕ → X) (k : ℕ) → length (map f (below k)) ≡ k
count-below f k = map-length f (below k) ∙ length-below k

-- a beam has memory for another program of the same sizes
pub other-layers : (dp other : Dp) (words vars width : ℕ) (choices : List ℕ) (b : Beam) → HasLayers dp width b → words ≡ dp.words → vars ≡ dp.vars → choices ≡ map dp.choices (below dp.vars)
    → words ≡ other.words → vars ≡ other.vars → choices ≡ map other.choices (below other.vars) → HasLayers other width b
other-layers dp other words vars width choices b h w v c w' v' c' =
    let same : (k : ℕ) → k < other.vars → dp.choices k ≡ other.choices k = λ k low. sym (choice-at dp choices vars k c v (omega arith)) ∙ choice-at other choices vars k c' v' (omega arith) in
    let steps = h.steps in
    let small = h.small in
    let count : dp.vars ≡ other.vars = sym v ∙ v' in
    record {
      room = h.room;
      widest = h.widest;
      enough = record {
        first = λ k low. subst (λ (n : ℕ). n ≤ h.room) (same k low) (h.enough.first k (omega arith));
        second = λ k low. subst (λ (n : ℕ). n * other.choices (k + 1) ≤ h.room) (same k (omega arith)) (subst (λ (n : ℕ). dp.choices k * n ≤ h.room) (same (k + 1) low) (h.enough.second k (omega arith)));
        later = λ k low. subst (λ (n : ℕ). width * n ≤ h.room) (same k low) (h.enough.later k (omega arith));
        members = record {
          one = h.enough.members.one;
          choices = λ k low. subst (λ (n : ℕ). n ≤ h.widest) (same k low) (h.enough.members.choices k (omega arith));
          width = h.enough.members.width;
        };
      };
      positive = h.positive;
      candidates = subst (λ (n : ℕ). HasMemory n h.room b.candidates) (sym w ∙ w') h.candidates;
      members = h.members;
      steps = subst (λ (n : ℕ). h.widest + n * width ≤ vec_capacity b.steps) count h.steps;
      small = subst (λ (n : ℕ). h.widest + n * width < 2 ^ 32) count h.small;
    }
