-- The relaxed diagrams of the knapsack of three items, from the root.
use Rattle.std.proofs.Common.{◌≡◌, pos, [], ◌∷◌, Some, None, refl, map}
use Rattle.dp_model.proofs.Examples.{three_items}
use Rattle.dp_model.specs.Reached.{reached}
use Rattle.dp_model.specs.declared.cut_kind.CutKind.TheVariants.{LastExactLayer, Frontier}
use Rattle.dp_laws.specs.Diagrams.Nodes.{DdNode, DdLayers}
use Rattle.dp_laws.specs.Diagrams.Cutsets.{children_at, children_of, found_in}
use Rattle.dp_laws.specs.Rules.Compiling.{relaxed}

abbrev narrow : DdLayers
narrow = relaxed three_items (reached three_items []) 1 (Some (pos 110))

first_reduced-narrow : narrow.first_reduced ≡ Some 2
first_reduced-narrow = refl

-- all of layer 2 is merged into one node
values-narrow : map (map (λ (node : DdNode). node.value)) narrow.layers
    ≡ ((pos 0 ∷ []) ∷ (pos 60 ∷ pos 0 ∷ []) ∷ (pos 110 ∷ []) ∷ (pos 180 ∷ []) ∷ [])
values-narrow = refl

suffixes-narrow : map (map (λ (node : DdNode). node.suffix)) narrow.layers
    ≡ ((Some (pos 180) ∷ []) ∷ (Some (pos 120) ∷ Some (pos 120) ∷ []) ∷ (Some (pos 70) ∷ []) ∷ (Some (pos 0) ∷ []) ∷ [])
suffixes-narrow = refl

places-narrow : children_at three_items narrow LastExactLayer ≡ (record { depth = 1; place = 0; bound = pos 121 } ∷ record { depth = 1; place = 1; bound = pos 120 } ∷ [])
places-narrow = refl

children-narrow : children_of three_items narrow LastExactLayer
    ≡ (record { decisions = 1 ∷ []; row = pos 5 ∷ []; value = pos 60; bound = pos 121 }
    ∷ record { decisions = 0 ∷ []; row = pos 10 ∷ []; value = pos 0; bound = pos 120 } ∷ [])
children-narrow = refl

frontier-narrow : children_of three_items narrow Frontier ≡ children_of three_items narrow LastExactLayer
frontier-narrow = refl

found-narrow : found_in three_items narrow ≡ None
found-narrow = refl

abbrev broad : DdLayers
broad = relaxed three_items (reached three_items []) 4 (Some (pos 110))

first_reduced-broad : broad.first_reduced ≡ None
first_reduced-broad = refl

found-broad : found_in three_items broad ≡ Some (record { decisions = 0 ∷ 1 ∷ 1 ∷ []; value = pos 120 })
found-broad = refl
