-- Weights that are drawn one after another.
use Rattle.std.proofs.Common.{◌≡◌, ◌∙◌, ℕ, ◌+◌, ℤ, List, [], ◌∷◌, ◌++◌, length, sym, ap, subst, arith, length-append}
use Rattle.std.specs.List.{All}
use Rattle.std.proofs.lemmas.List.Elements.{All-nil, All-push}
use Rattle.draws.specs.Draws.{steps}
use Rattle.draws.proofs.Steps.{steps_more, steps_none}
use Rattle.max_cut.specs.Graph.{IsWeight}
use Rattle.max_cut.specs.Generating.{after_weight, weight_drawn, with_weight}

-- this many weights are drawn from the seed, and these draws are left
pub record AreDrawn (seed k x : ℕ) (weights : List ℤ) : Type 0 where
  pub drawn : steps with_weight k [] seed ≡ (weights, x)
  pub count : length weights ≡ k
  pub small : All IsWeight weights

pub none_drawn : (seed x : ℕ) (weights : List ℤ) → x ≡ seed → weights ≡ [] → AreDrawn seed 0 x weights
none_drawn seed x weights from none = record {
  drawn = steps_none with_weight [] seed ∙ (λ i. (sym none i, sym from i));
  count = ap length none;
  small = subst (All IsWeight) (sym none) (All-nil IsWeight);
}

pub one_more : (seed k x y : ℕ) (weights more : List ℤ) (weight : ℤ) → AreDrawn seed k x weights → weight ≡ weight_drawn x → y ≡ after_weight x → IsWeight weight
    → more ≡ weights ++ weight ∷ [] → AreDrawn seed (k + 1) y more
one_more seed k x y weights more weight d is following small pushed = record {
  drawn = steps_more with_weight k [] weights more seed x y d.drawn (λ i. ((ap (λ a. weights ++ a ∷ []) (sym is) ∙ sym pushed) i, sym following i));
  count = ap length pushed ∙ (let c = d.count in omega (arith, length-append weights (weight ∷ [])));
  small = subst (All IsWeight) (sym pushed) (All-push IsWeight weights weight d.small small);
}
