-- The borders that are left from a place on.
use Rattle.std.proofs.Common.{◌≡◌, ℕ, zero, suc, ◌+◌, ◌-◌, ◌<◌, ◌≤◌, List, [], ◌∷◌, ◌++◌, length, drop, slice_get, Option, Some, None, unwrap_or, refl, sym, ◌∙◌, ap, arith}
use Rattle.std.specs.List.{cons_option}
use Rattle.dp_model.specs.Dp.{Dp}
use Rattle.dp_laws.specs.Diagrams.Nodes.{DdNode, DdLayers, node_at}
use Rattle.dp_laws.specs.Diagrams.Cutsets.{is_border, all_borders_at, places_where}
use Rattle.relaxed_dd.specs.Shown.{layer_in, last_of}
use Rattle.exact_cutset.specs.Walking.{border_at, borders_from, borders_left}
use Rattle.exact_cutset.proofs.Searched.{drop-at}
use Rattle.exact_cutset.proofs.Taken.{node-here}

cons-append : {X : Type 0} (o : Option X) (xs ys : List X) → cons_option o xs ++ ys ≡ cons_option o (xs ++ ys)
cons-append None xs ys = refl
cons-append (Some x) xs ys = refl

pub left-from : (dp : Dp) (d : DdLayers) (depth i : ℕ) (x : DdNode) → node_at d depth i ≡ Some x → borders_left dp d depth i ≡ cons_option (border_at dp d depth i x) (borders_left dp d depth (i + 1))
left-from dp d depth i x at =
    let layer = layer_in d depth in
    let test = is_border (layer_in d (depth + 1)) in
    let split = drop-at layer i x (sym (node-here d depth i) ∙ at) in
    ap (λ l. places_where test dp depth i l ++ borders_from dp d (depth + 1)) split
    ∙ cons-append (border_at dp d depth i x) (places_where test dp depth (i + 1) (drop (i + 1) layer)) (borders_from dp d (depth + 1))

drop-none : (xs : List DdNode) → drop (length xs) xs ≡ []
drop-none [] = refl
drop-none (x ∷ xs) = drop-none xs

pub left-end : (dp : Dp) (d : DdLayers) (depth i : ℕ) → i ≡ length (layer_in d depth) → borders_left dp d depth i ≡ borders_from dp d (depth + 1)
left-end dp d depth i end =
    let none : drop i (layer_in d depth) ≡ [] = ap (λ n. drop n (layer_in d depth)) end ∙ drop-none (layer_in d depth) in
    ap (λ l. places_where (is_border (layer_in d (depth + 1))) dp depth i l ++ borders_from dp d (depth + 1)) none

nth-drop : (ls : List (List DdNode)) (j : ℕ) → j < length ls → drop j ls ≡ unwrap_or (slice_get ls j) [] ∷ drop (suc j) ls
nth-drop [] j less = absurd (omega arith)
nth-drop (l ∷ ls) zero less = refl
nth-drop (l ∷ ls) (suc j) less = nth-drop ls j (omega arith)

pub from-start : (dp : Dp) (d : DdLayers) (depth : ℕ) → d.first ≤ depth → depth < last_of d → borders_from dp d depth ≡ borders_left dp d depth 0
from-start dp d depth low less =
    let j = depth - d.first in
    let next : depth + 1 - d.first ≡ suc j = omega arith in
    let here = nth-drop d.layers j (omega arith) in
    let then = nth-drop d.layers (suc j) (omega arith) in
    let below : drop (depth + 1 - d.first) d.layers ≡ unwrap_or (slice_get d.layers (suc j)) [] ∷ drop (suc (suc j)) d.layers = ap (λ n. drop n d.layers) next ∙ then in
    let layer : unwrap_or (slice_get d.layers (suc j)) [] ≡ layer_in d (depth + 1) = ap (λ n. unwrap_or (slice_get d.layers n) []) (sym next) in
    ap (all_borders_at dp depth) (here ∙ ap (λ ls. layer_in d depth ∷ ls) then)
    ∙ (ap (λ l. places_where (is_border l) dp depth 0 (layer_in d depth) ++ all_borders_at dp (depth + 1) (unwrap_or (slice_get d.layers (suc j)) [] ∷ drop (suc (suc j)) d.layers)) layer
    ∙ ap (λ ls. places_where (is_border (layer_in d (depth + 1))) dp depth 0 (layer_in d depth) ++ all_borders_at dp (depth + 1) ls) (sym below))

past : (ls : List (List DdNode)) (j : ℕ) → length ls ≤ j → drop j ls ≡ []
past [] zero low = refl
past [] (suc j) low = refl
past (l ∷ ls) zero low = absurd (omega arith)
past (l ∷ ls) (suc j) low = past ls j (omega arith)

pub from-last : (dp : Dp) (d : DdLayers) (depth : ℕ) → d.first < depth → depth ≡ last_of d → borders_from dp d depth ≡ []
from-last dp d depth low last =
    let j = depth - d.first in
    let here = nth-drop d.layers j (omega arith) in
    let end : drop (suc j) d.layers ≡ [] = past d.layers (suc j) (omega arith) in
    ap (all_borders_at dp depth) (here ∙ ap (λ ls. unwrap_or (slice_get d.layers j) [] ∷ ls) end)
