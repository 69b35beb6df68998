-- The joined cover of two parts of the knapsack of one item, of profit 4 and weight 1, with capacity 1.
use Rattle.std.proofs.Common.{◌≡◌, pos, [], ◌∷◌, Some, None, refl}
use Rattle.bound_cover.proofs.Examples.{one_item}
use Rattle.cover_join.specs.Joined.{PartAnswer, joined, AreAccepted, IsAccepted}

-- without the item
abbrev without : PartAnswer
without = record {
  best = Some (pos 0);
  assignment = 0 ∷ [];
  layers = (record { bound = Some (pos 0); words = pos 1 ∷ []; arcs = Some (record { decision = 0; target = Some 0 } ∷ []) } ∷ []) ∷ (record { bound = Some (pos 0); words = pos 1 ∷ []; arcs = None } ∷ []) ∷ [];
}

-- with it
abbrev with_item : PartAnswer
with_item = record {
  best = Some (pos 4);
  assignment = 1 ∷ [];
  layers = (record { bound = Some (pos 4); words = pos 1 ∷ []; arcs = Some (record { decision = 1; target = Some 0 } ∷ []) } ∷ []) ∷ (record { bound = Some (pos 0); words = pos 0 ∷ []; arcs = None } ∷ []) ∷ [];
}

-- both are accepted, in this order alone
accepted : AreAccepted one_item 2 0 (without ∷ with_item ∷ [])
accepted = (refl, (refl, tt))

-- the rows of the second part stand after those of the first
whole : joined one_item without (with_item ∷ []) ≡ record {
  best = Some (pos 4);
  assignment = 1 ∷ [];
  layers = (record { bound = Some (pos 4); words = pos 1 ∷ []; arcs = Some (record { decision = 0; target = Some 0 } ∷ record { decision = 1; target = Some 1 } ∷ []) } ∷ [])
      ∷ (record { bound = Some (pos 0); words = pos 1 ∷ []; arcs = None } ∷ record { bound = Some (pos 0); words = pos 0 ∷ []; arcs = None } ∷ []) ∷ [];
}
whole = refl

accepted-whole : IsAccepted one_item (joined one_item without (with_item ∷ []))
accepted-whole = refl
