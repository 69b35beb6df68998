-- The beams of the knapsack of three items, from the root.
use Rattle.std.proofs.Common.{◌≡◌, pos, [], ◌∷◌, Some, None, refl}
use Rattle.dp_model.proofs.Examples.{three_items}
use Rattle.dp_laws.specs.Restricted.Beams.{beam, wide, last_exact}

beam-width-one : beam three_items [] 1 None ≡ Some (record { decisions = 1 ∷ 1 ∷ 0 ∷ []; row = pos 1 ∷ []; value = pos 110 })
beam-width-one = refl

beam-width-three : beam three_items [] 3 None ≡ Some (record { decisions = 0 ∷ 1 ∷ 1 ∷ []; row = pos 0 ∷ []; value = pos 120 })
beam-width-three = refl

beam-threshold : beam three_items [] 1 (Some (pos 121)) ≡ None
beam-threshold = refl

wide-width-one : wide three_items [] 1 (Some (pos 110)) ≡ Some 2
wide-width-one = refl

last_exact-width-one : last_exact three_items [] 1 (Some (pos 110)) ≡ Some 1
last_exact-width-one = refl

-- with room for all of them nothing is taken away
wide-width-four : wide three_items [] 4 (Some (pos 110)) ≡ None
wide-width-four = refl
