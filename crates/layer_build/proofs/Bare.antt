-- A layer is expanded in the same way whatever arcs it had.
use Rattle.std.proofs.Common.{◌≡◌, ℕ, ℤ, Bool, true, false, cond, ◌&&◌, ◌||◌, not, ◌+◌, ◌<◌, nat_lt, List, [], ◌∷◌, length, map, Option, None, refl, sym, ap, ap₂, ◌∙◌, subst, arith}
use Rattle.std.proofs.lemmas.Bool.Decides.{nat_tests}
use Rattle.dp_model.specs.Dp.{Dp}
use Rattle.dp_model.specs.Lists.{Each}
use Rattle.dp_model.specs.Reached.{Reached}
use Rattle.dp_laws.specs.Restricted.Beam.{expanded}
use Rattle.dp_laws.specs.Diagrams.Nodes.{DdNode, prefix_at}
use Rattle.dp_laws.specs.Diagrams.Seen.{decisions_at}
use Rattle.dp_laws.specs.Rules.Expanding.{makes, is_exact_row, node_for, new_layer, with_arcs, arc_of}
use Rattle.dp_laws.specs.Rules.Compiling.{TwoLayers, expand, merge_rest}
use Rattle.dp_laws.specs.Rules.Redirects.{with_redirected}
use Rattle.layer_nodes.specs.Nodes.{NodeView, shown_from, shown_layer, without_arcs}
use Rattle.layer_nodes.specs.Steps.{IsParent}
use Rattle.layer_nodes.specs.declared.striking.Strikes.{Strikes}
use Rattle.layer_nodes.specs.declared.striking.Strikes.TheVariants.{AtMost, Nothing}
use Rattle.layer_nodes.specs.Sifting.{sifted_nodes, sift_redirects, expand_sifted, expanded_by, expanded_within}
use Rattle.layer_build.specs.declared.stack.Making.TheVariants.{Within}
use Rattle.layer_build.specs.Within.{within_width, expanded_as, AreMergeable, MayMerge}

-- a node without its arcs
abbrev pub bare : DdNode → DdNode
bare node = record node { arcs = [] }

exact-bare : (dp : Dp) (k : ℕ) (layer : List DdNode) (row : List ℤ) → is_exact_row dp k (map bare layer) row ≡ is_exact_row dp k layer row
exact-bare dp k [] row = refl
exact-bare dp k (node ∷ layer) row = ap (λ (b : Bool). (node.exact || not (makes dp k node.row (decisions_at dp k node.row) row)) && b) (exact-bare dp k layer row)

prefixes-bare : (layer : List DdNode) → map prefix_at (map bare layer) ≡ map prefix_at layer
prefixes-bare [] = refl
prefixes-bare (node ∷ layer) = ap (λ (l : List Reached). prefix_at node ∷ l) (prefixes-bare layer)

nodes-bare : (dp : Dp) (k : ℕ) (layer : List DdNode) (rs : List Reached) → map (node_for dp k (map bare layer)) rs ≡ map (node_for dp k layer) rs
nodes-bare dp k layer [] = refl
nodes-bare dp k layer (r ∷ rs) =
    ap₂ (λ (b : Bool) (l : List DdNode). record { row = r.row; value = r.value; exact = b; arcs = []; path = r.decisions; suffix = None } ∷ l) (exact-bare dp k layer r.row) (nodes-bare dp k layer rs)

next-bare : (dp : Dp) (k : ℕ) (layer : List DdNode) → new_layer dp k (map bare layer) ≡ new_layer dp k layer
next-bare dp k layer = nodes-bare dp k layer (expanded dp k (map prefix_at (map bare layer))) ∙ ap (λ (l : List Reached). map (node_for dp k layer) (expanded dp k l)) (prefixes-bare layer)

arcs-bare : (dp : Dp) (k : ℕ) (next layer : List DdNode) → with_arcs dp k next (map bare layer) ≡ with_arcs dp k next layer
arcs-bare dp k next [] = refl
arcs-bare dp k next (node ∷ layer) = ap (λ (l : List DdNode). record node { arcs = map (arc_of dp k next node.row) (decisions_at dp k node.row) } ∷ l) (arcs-bare dp k next layer)

bare-next : (dp : Dp) (k : ℕ) (layer : List DdNode) → (expand dp k (map bare layer)).next ≡ (expand dp k layer).next
bare-next dp k layer = next-bare dp k layer

bare-above : (dp : Dp) (k : ℕ) (layer : List DdNode) → (expand dp k (map bare layer)).above ≡ (expand dp k layer).above
bare-above dp k layer = ap (λ (l : List DdNode). with_arcs dp k l (map bare layer)) (next-bare dp k layer) ∙ arcs-bare dp k (new_layer dp k layer) layer

-- and so it is without what is struck
by-bare-next : (strikes : Strikes) (dp : Dp) (k : ℕ) (layer : List DdNode) → (expanded_by strikes dp k (map bare layer)).next ≡ (expanded_by strikes dp k layer).next
by-bare-next (AtMost t) dp k layer = ap (sifted_nodes dp (k + 1) t) (bare-next dp k layer)
by-bare-next Nothing dp k layer = bare-next dp k layer

by-bare-above : (strikes : Strikes) (dp : Dp) (k : ℕ) (layer : List DdNode) → (expanded_by strikes dp k (map bare layer)).above ≡ (expanded_by strikes dp k layer).above
by-bare-above (AtMost t) dp k layer = ap₂ (λ next above. with_redirected (sift_redirects dp (k + 1) t 0 next) above) (bare-next dp k layer) (bare-above dp k layer)
by-bare-above Nothing dp k layer = bare-above dp k layer

shown-bare-from : (paths : ℕ → List ℕ) (i : ℕ) (nodes : List NodeView) → shown_from paths i (map without_arcs nodes) ≡ map bare (shown_from paths i nodes)
shown-bare-from paths i [] = refl
shown-bare-from paths i (n ∷ nodes) = ap₂ (λ (a : DdNode) (l : List DdNode). a ∷ l) refl (shown-bare-from paths (i + 1) nodes)

-- nodes that differ in their arcs and in the places of their rows alone
alike-shown : (paths : ℕ → List ℕ) (old new : List NodeView) → map without_arcs new ≡ map without_arcs old → map bare (shown_layer paths new) ≡ map bare (shown_layer paths old)
alike-shown paths old new e = sym (shown-bare-from paths 0 new) ∙ (ap (shown_layer paths) e ∙ shown-bare-from paths 0 old)

pub alike-next : (strikes : Strikes) (dp : Dp) (k : ℕ) (paths : ℕ → List ℕ) (old new : List NodeView) → map without_arcs new ≡ map without_arcs old
    → (expanded_by strikes dp k (shown_layer paths new)).next ≡ (expanded_by strikes dp k (shown_layer paths old)).next
alike-next strikes dp k paths old new e =
    sym (by-bare-next strikes dp k (shown_layer paths new)) ∙ (ap (λ (l : List DdNode). (expanded_by strikes dp k l).next) (alike-shown paths old new e) ∙ by-bare-next strikes dp k (shown_layer paths old))

pub alike-above : (strikes : Strikes) (dp : Dp) (k : ℕ) (paths : ℕ → List ℕ) (old new : List NodeView) → map without_arcs new ≡ map without_arcs old
    → (expanded_by strikes dp k (shown_layer paths new)).above ≡ (expanded_by strikes dp k (shown_layer paths old)).above
alike-above strikes dp k paths old new e =
    sym (by-bare-above strikes dp k (shown_layer paths new)) ∙ (ap (λ (l : List DdNode). (expanded_by strikes dp k l).above) (alike-shown paths old new e) ∙ by-bare-above strikes dp k (shown_layer paths old))

pub alike-parents : (dp : Dp) (k : ℕ) (old new : List NodeView) → map without_arcs new ≡ map without_arcs old → Each (IsParent dp k) old → Each (IsParent dp k) new
alike-parents dp k old [] e h = tt
alike-parents dp k [] (n ∷ new) e h = absurd (cc)
alike-parents dp k (o ∷ old) (n ∷ new) e h =
    let same : without_arcs n ≡ without_arcs o = cc in
    let rest : map without_arcs new ≡ map without_arcs old = cc in
    let one : IsParent dp k (without_arcs n) = subst (IsParent dp k) (sym same) (record { state = h.0.state; rank = h.0.rank; hash = h.0.hash; value = h.0.value }) in
    (record { state = one.state; rank = one.rank; hash = one.hash; value = one.value }, alike-parents dp k old new rest h.1)

-- ---- merged at once

alike-sifted : (t : Option ℤ) (dp : Dp) (k : ℕ) (paths : ℕ → List ℕ) (old new : List NodeView) → map without_arcs new ≡ map without_arcs old → expand_sifted dp k t (shown_layer paths new) ≡ expand_sifted dp k t (shown_layer paths old)
alike-sifted t dp k paths old new e =
    ap₂ (λ (above next : List DdNode). (let two : TwoLayers = record { above = above; next = next } in two)) (alike-above (AtMost t) dp k paths old new e) (alike-next (AtMost t) dp k paths old new e)

-- what is merged at once is wider than the width
pub alike-within : (t : Option ℤ) (merged : Bool) (dp : Dp) (w k : ℕ) (paths : ℕ → List ℕ) (old new : List NodeView) → map without_arcs new ≡ map without_arcs old
    → (merged ≡ true → w < length (expand_sifted dp k t (shown_layer paths new)).next)
    → expanded_within merged dp k t w (shown_layer paths new) ≡ expanded_as (Within t) merged dp w k (shown_layer paths old)
alike-within t true dp w k paths old new e wide =
    let two = expand_sifted dp k t (shown_layer paths new) in
    let more : nat_lt w (length two.next) ≡ true = (let less = wide refl in grind (arith, nat_tests)) in
    sym (ap (λ b. cond b (merge_rest dp (k + 1) w two) two) more) ∙ ap (within_width dp w (k + 1)) (alike-sifted t dp k paths old new e)
alike-within t false dp w k paths old new e wide = alike-sifted t dp k paths old new e

pub alike-merged : (t : Option ℤ) (dp : Dp) (w k : ℕ) (paths : ℕ → List ℕ) (old new : List NodeView) → map without_arcs new ≡ map without_arcs old
    → w < length (expand_sifted dp k t (shown_layer paths new)).next → Each (λ (node : DdNode). node.exact ≡ false) (expand_sifted dp k t (shown_layer paths new)).next
    → MayMerge (Within t) dp w k (shown_layer paths old)
alike-merged t dp w k paths old new e wide inexact =
    subst (λ (two : TwoLayers). AreMergeable w two.next) (alike-sifted t dp k paths old new e) (record { wide = wide; inexact = inexact })
