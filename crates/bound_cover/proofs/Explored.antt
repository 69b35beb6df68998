-- Explorations of the knapsack of three items, with the best value 120 as threshold.
use Rattle.std.proofs.Common.{◌≡◌, ℕ, pos, nat_lt, cond, List, [], ◌∷◌, ◌++◌, length, map, take, Some, None, refl}
use Rattle.dp_model.proofs.Examples.{three_items}
use Rattle.dp_model.specs.Dp.{Dp}
use Rattle.dp_model.specs.Reached.{reached}
use Rattle.dp_laws.specs.Diagrams.Nodes.{DdNode, DdLayers}
use Rattle.dp_laws.specs.Rules.Compiling.{relaxed}
use Rattle.bound_cover.specs.declared.cover.Why.TheVariants.{Root, Rough, Terminal}
use Rattle.bound_cover.specs.Covers.{CoverRow}
use Rattle.bound_cover.specs.Verdicts.{checked_rows}
use Rattle.bound_cover.specs.Exploring.{layer_of, rest_of, Waiting, explored, waiting_after, start_cover}

abbrev root : Waiting
root = record { place = 0; prefix = [] }

-- with the rough bounds of the knapsack the root's diagram of width 1 is a cover by itself
abbrev alone : List (List CoverRow)
alone = explored three_items (Some (pos 120)) root (relaxed three_items (reached three_items []) 1 (Some (pos 120))) (start_cover three_items (Some (pos 120)))

rows-alone : map length alone ≡ (1 ∷ 1 ∷ 1 ∷ 0 ∷ [])
rows-alone = refl

accepted-alone : checked_rows three_items (Some (pos 120)) alone ≡ None
accepted-alone = refl

-- with poor ones the row of 1 waits for a diagram of its own; that of 0 has a suffix of 120 and needs none
abbrev poor : Dp
poor = record three_items { rough = λ k s. cond (nat_lt k 3) (Some (pos 1000)) (Some (pos 0)) }

abbrev diagram : List ℕ → DdLayers
diagram p = relaxed poor (reached poor p) 1 (Some (pos 120))

abbrev rows : List (List CoverRow)
rows = explored poor (Some (pos 120)) root (diagram []) (start_cover poor (Some (pos 120)))

abbrev one : Waiting
one = record { place = 0; prefix = 1 ∷ [] }

waiting-root : waiting_after (Some (pos 120)) root (diagram []) (start_cover poor (Some (pos 120))) (diagram []).first_reduced ≡ one ∷ []
waiting-root = refl

-- until it has one its rough bound is too great
refused-yet : checked_rows poor (Some (pos 120)) rows ≡ Some (Rough 1 0)
refused-yet = refl

abbrev all_rows : List (List CoverRow)
all_rows = explored poor (Some (pos 120)) one (diagram (1 ∷ [])) rows

waiting-one : waiting_after (Some (pos 120)) one (diagram (1 ∷ [])) rows (diagram (1 ∷ [])).first_reduced ≡ []
waiting-one = refl

number-of-rows : map length all_rows ≡ (1 ∷ 2 ∷ 3 ∷ 1 ∷ [])
number-of-rows = refl

accepted : checked_rows poor (Some (pos 120)) all_rows ≡ None
accepted = refl

too_low : checked_rows poor (Some (pos 119)) all_rows ≡ Some Root
too_low = refl

-- where the nodes below the last exact layer, too, claim best less their values, the cover is refused: the node of the last
-- layer of the root's diagram has the value 180
abbrev claims_best_less_value : DdNode → CoverRow
claims_best_less_value node = record { bound = rest_of (Some (pos 120)) node.value; words = node.row; arcs = None }

value-last : map (λ (node : DdNode). node.value) (layer_of (diagram []).layers 3) ≡ pos 180 ∷ []
value-last = refl

refused-below : checked_rows poor (Some (pos 120)) (take 3 all_rows ++ map claims_best_less_value (layer_of (diagram []).layers 3) ∷ []) ≡ Some (Terminal 0)
refused-below = refl
