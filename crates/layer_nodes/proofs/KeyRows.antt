-- The rows of keys, in the region that has them.
use Rattle.std.proofs.Common.{◌≡◌, ℕ, zero, suc, Bool, List, [], ◌∷◌, ◌++◌, length, map, get_or, IsPermutation, refl, sym, ◌∙◌, ap, subst}
use Rattle.std.proofs.lemmas.List.Sorted.{IsPermutation-map}
use Rattle.dp_model.specs.Lists.{Each}
use Rattle.layer_candidates.specs.declared.key.Key.{Key}
use Rattle.layer_candidates.specs.declared.way.Way.{Way}
use Rattle.layer_candidates.specs.HeldRows.{held_row, AreSame, HasExchanged}
use Rattle.layer_candidates.specs.KeyOrder.{key_at, keys_of, key_rows, IsKeyOf}
use Rattle.layer_candidates.specs.Ways.{rows_of, way_row}
use Rattle.row_region.specs.Layout.{table}
use Rattle.layer_candidates.proofs.HeldRows.{held-same, exchange-moved}
use Rattle.layer_candidates.proofs.Sorted.{map-table, key-row}
use Rattle.row_region.specs.Region.{RegionView, IsLive}
use Rattle.layer_nodes.specs.declared.node.Node.{Node}
use Rattle.layer_nodes.specs.declared.routing.Route.{Route}
use Rattle.layer_nodes.specs.Expanding.{node_of, AreArranged}
use Rattle.layer_nodes.specs.Stored.{rows_in}
use Rattle.layer_nodes.proofs.Expanded.{IsFoundBy}

pub rows-of-nodes : (ways : List Way) (marks : List Bool) (keys : List Key) → rows_in (map (node_of ways marks) keys) ≡ key_rows keys
rows-of-nodes ways marks [] = refl
rows-of-nodes ways marks (key ∷ keys) = ap (λ l. key.row ∷ l) (rows-of-nodes ways marks keys)

-- keys of ways have the rows of these
pub found-by : (old new : RegionView) (ways : List Way) (keys : List Key) → Each (IsKeyOf ways) keys → AreSame old new (key_rows keys) → Each (IsLive new) (key_rows keys) → Each (IsFoundBy (held_row new) (way_row old ways)) keys
found-by old new ways [] of same live = tt
found-by old new ways (key ∷ keys) of same live =
    (sym (key-row old ways key of.0 ∙ held-same new old key.row live.0 (sym same.0)), found-by old new ways keys of.1 same.1 live.1)

-- a table from its first value on
table-first : {X : Type 0} (f : ℕ → X) (n : ℕ) → table f (suc n) ≡ f 0 ∷ table (λ i. f (suc i)) n
table-first f zero = refl
table-first f (suc n) = ap (λ l. l ++ f (suc n) ∷ []) (table-first f n)

table-of : {X Y : Type 0} (f : X → Y) (xs : List X) (d : X) → table (λ i. f (get_or xs i d)) (length xs) ≡ map f xs
table-of f [] d = refl
table-of f (x ∷ xs) d = table-first (λ i. f (get_or (x ∷ xs) i d)) (length xs) ∙ ap (λ l. f x ∷ l) (table-of f xs d)

-- all keys have the rows of all ways
pub rows-of-keys : (ways : List Way) → key_rows (keys_of ways) ≡ rows_of ways
rows-of-keys ways = map-table (λ (key : Key). key.row) (key_at ways) (length ways) ∙ table-of (λ (w : Way). w.row) ways _

-- the nodes of all ways have their rows
pub arranged-exchanged : (old new : RegionView) (before : List ℕ) (ways : List Way) (marks : List Bool) (routes : List Route) (nodes : List Node) → AreArranged (held_row new) ways marks routes nodes
    → HasExchanged old before new (rows_of ways) → HasExchanged old before new (rows_in nodes)
arranged-exchanged old new before ways marks routes nodes h exchanged =
    subst (HasExchanged old before new) (sym (ap rows_in h.nodes_are ∙ rows-of-nodes ways marks h.keys))
    (exchange-moved old new before (rows_of ways) (key_rows h.keys) (subst (λ l. IsPermutation l (key_rows h.keys)) (rows-of-keys ways) (IsPermutation-map (λ (key : Key). key.row) (keys_of ways) h.keys h.all)) exchanged)
