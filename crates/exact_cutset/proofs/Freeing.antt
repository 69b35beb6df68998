-- Whether a node is free, by the mark of its stem.
use Rattle.std.proofs.Common.{◌≡◌, ℕ, ◌<◌, Bool, true, false, List, length, slice_index_or, Option, Some, None, option_map, sym, ◌∙◌}
use Rattle.std.proofs.lemmas.Option.{slice_get-get_or}
use Rattle.dp_laws.specs.Diagrams.Nodes.{DdNode, DdLayers}
use Rattle.dp_laws.proofs.Diagrams.Places.{same-Some}
use Rattle.exact_cutset.specs.Walking.{StemsAt, IsFreeNode}

pub marked-free : (d : DdLayers) (depth : ℕ) (above : List Bool) (o : Option DdNode) (place : ℕ) → option_map (λ (n : DdNode). n.exact) o ≡ Some true → StemsAt d depth place o → place < length above → IsFreeNode d depth above o (slice_index_or above place false)
marked-free d depth above None place e stems less = absurd (let none : None ≡ Some true = e in cc)
marked-free d depth above (Some x) place e stems less = (
  (λ no. absurd (let is = same-Some x.exact true e in let clash : false ≡ true = sym no ∙ is in cc)),
  λ yes_exact. record { place = place; stems = stems; at = slice_get-get_or above place false less },
)
