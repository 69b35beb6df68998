-- The layers of a diagram that is compiled, with their suffixes.
use Rattle.std.proofs.Common.{◌≡◌, ℕ, zero, suc, ◌+◌, ◌-◌, ◌<◌, ◌≤◌, nat_lt, ℤ, true, false, cond, List, [], ◌∷◌, length, map, take, drop, Option, inl, inr, IsTrue, refl, sym, ◌∙◌, ap, subst, arith}
use Rattle.std.proofs.lemmas.List.{map-id, length-map}
use Rattle.dp_model.specs.Dp.{Dp}
use Rattle.dp_model.specs.Laws.{IsLawful, IsChained}
use Rattle.dp_model.specs.Lists.{Each}
use Rattle.dp_model.proofs.Members.{Has, each-of-all, Has-map-from, Has-append-cases}
use Rattle.dp_laws.specs.Restricted.Beam.{expanded, is_reduced}
use Rattle.dp_laws.specs.declared.arc.DdArc.{DdArc}
use Rattle.dp_laws.specs.Diagrams.Nodes.{DdNode, prefix_at}
use Rattle.dp_laws.specs.Diagrams.Seen.{decisions_at, HasArcs, Leads, IsReachedBy, suffix_from, IsLayer, AreLayers}
use Rattle.dp_laws.specs.Rules.Redirects.{Redirect, with_redirected}
use Rattle.dp_laws.specs.Rules.Expanding.{node_for, new_layer, arc_of, with_arcs}
use Rattle.dp_laws.specs.Rules.Pruning.{prune_redirects}
use Rattle.dp_laws.specs.Rules.Reducing.{merged_node, merge_redirects}
use Rattle.dp_laws.specs.Rules.Compiling.{expand, prune, merge_rest, is_wide, built, compiled, first_of_layers, with_suffixes}
use Rattle.dp_laws.proofs.Rules.Linked.{AreLinked, linked-values, linked-arcs, linked-leads, linked-same}
use Rattle.dp_laws.proofs.Rules.Redirecting.{followed_node}
use Rattle.dp_laws.proofs.Rules.Pruned.{pruned-has}
use Rattle.dp_laws.proofs.Rules.Layers.{AreNodes, LooksSame, nodes-mapped, are-distinct}
use Rattle.dp_laws.proofs.Rules.Built.{in-take, built-well, built-narrow}

-- a layer is no wider than the width where it is cut
abbrev pub IsNarrow : Dp → List ℕ → ℕ → ℕ → List DdNode → Type 0
IsNarrow dp p w k layer = IsTrue (is_reduced dp (length p) k) → length layer ≤ w

-- layers from depth k on, before their suffixes are known
abbrev pub AreCompiled : Dp → List ℕ → ℕ → Option ℤ → ℕ → List (List DdNode) → Type 0
AreCompiled dp p w t k [] = Unit {0}
AreCompiled dp p w t k (layer ∷ []) = AreNodes dp p k layer × (IsNarrow dp p w k layer × ((x : DdNode) → Has x layer → x.arcs ≡ []))
AreCompiled dp p w t k (layer ∷ next ∷ rest) = AreNodes dp p k layer × (IsNarrow dp p w k layer × (AreLinked dp t k layer next × AreCompiled dp p w t (k + 1) (next ∷ rest)))

-- the compiled layers, of which the first is the given one with arcs
pub record IsCompilation (dp : Dp) (p : List ℕ) (w : ℕ) (t : Option ℤ) (k m : ℕ) (layer : List DdNode) : Type 0 where
  pub head : List DdNode
  pub rest : List (List DdNode)
  pub is : compiled dp (length p) w t k m layer ≡ head ∷ rest
  pub all : AreCompiled dp p w t k (head ∷ rest)
  pub links : (j : ℕ) (above : List DdNode) → AreLinked dp t j above layer → AreLinked dp t j above head

-- the arcs of the first layer don't count for what leads to it
linked-next : (dp : Dp) (t : Option ℤ) (j : ℕ) (above next : List DdNode) (g : DdNode → DdNode) → ((y : DdNode) → ((g y).row ≡ y.row) × ((g y).value ≡ y.value)) → AreLinked dp t j above next → AreLinked dp t j above (map g next)
linked-next dp t j above next g keeps l =
    subst (λ a. AreLinked dp t j a (map g next)) (map-id above) (linked-same dp t j above next (λ x. x) g (λ x. record { row = refl; value = refl; arcs = refl }) keeps l)

linked-redirected : (dp : Dp) (t : Option ℤ) (j : ℕ) (above layer : List DdNode) (redirects : List (Option Redirect)) → AreLinked dp t j above layer → AreLinked dp t j above (with_redirected redirects layer)
linked-redirected dp t j above layer redirects l = linked-next dp t j above layer (followed_node redirects) (λ y. (refl, refl)) l

linked-built : (dp : Dp) (first w : ℕ) (t : Option ℤ) (k : ℕ) (layer : List DdNode) (j : ℕ) (above : List DdNode) → AreLinked dp t j above layer → AreLinked dp t j above (built dp first w t k layer).above
linked-built dp first w t k layer j above l =
    let next = new_layer dp k layer in
    let one = linked-next dp t j above layer (λ (node : DdNode). record node { arcs = map (arc_of dp k next node.row) (decisions_at dp k node.row) }) (λ y. (refl, refl)) l in
    let two = prune dp (k + 1) t (expand dp k layer) in
    let pruned : AreLinked dp t j above two.above = linked-redirected dp t j above (with_arcs dp k next layer) (prune_redirects dp (k + 1) t [] 0 next) one in
    elim (is_wide dp first w (k + 1) two.next) as (λ v. AreLinked dp t j above (cond v (merge_rest dp (k + 1) w two) two).above) [
      | true ↦ linked-redirected dp t j above two.above (merge_redirects dp (k + 1) w two.next) pruned
      | false ↦ pruned
    ]

-- the next layer has no arcs yet
without-arcs : (dp : Dp) (first w : ℕ) (t : Option ℤ) (k : ℕ) (layer : List DdNode) (x : DdNode) → Has x (built dp first w t k layer).next → x.arcs ≡ []
without-arcs dp first w t k layer x has =
    let next = new_layer dp k layer in
    let two = prune dp (k + 1) t (expand dp k layer) in
    let new : (y : DdNode) → Has y next → y.arcs ≡ [] = λ y h. (let from = Has-map-from (node_for dp k layer) (expanded dp k (map prefix_at layer)) y h in ap (λ (n : DdNode). n.arcs) (sym from.2)) in
    let pruned : (y : DdNode) → Has y two.next → y.arcs ≡ [] = λ y h. new y (pruned-has dp (k + 1) t [] 0 next y h) in
    elim (is_wide dp first w (k + 1) two.next) as (λ v. Has x (cond v (merge_rest dp (k + 1) w two) two).next → x.arcs ≡ []) [
      | true ↦ λ h. elim (Has-append-cases x (take (w - 1) two.next) (merged_node dp (k + 1) (drop (w - 1) two.next) ∷ []) h) as (λ _. x.arcs ≡ []) [
        | inl front ↦ pruned x (in-take (w - 1) two.next x front)
        | inr last ↦ elim last as (λ _. x.arcs ≡ []) [ inl e ↦ ap (λ (n : DdNode). n.arcs) (sym e) | inr none ↦ absurd none ]
      ]
      | false ↦ λ h. pruned x h
    ] has

built-length : (dp : Dp) (first w : ℕ) (t : Option ℤ) (k : ℕ) (layer : List DdNode) → length (built dp first w t k layer).above ≡ length layer
built-length dp first w t k layer =
    let next = new_layer dp k layer in
    let two = prune dp (k + 1) t (expand dp k layer) in
    let one : length (with_arcs dp k next layer) ≡ length layer = length-map layer (λ (node : DdNode). record node { arcs = map (arc_of dp k next node.row) (decisions_at dp k node.row) }) in
    let pruned : length two.above ≡ length layer = length-map (with_arcs dp k next layer) (followed_node (prune_redirects dp (k + 1) t [] 0 next)) ∙ one in
    elim (is_wide dp first w (k + 1) two.next) as (λ v. length (cond v (merge_rest dp (k + 1) w two) two).above ≡ length layer) [
      | true ↦ length-map two.above (followed_node (merge_redirects dp (k + 1) w two.next)) ∙ pruned
      | false ↦ pruned
    ]

-- a layer with what is compiled below it
pub compiles : (dp : Dp) → IsLawful dp → IsChained dp → (t : Option ℤ) (p : List ℕ) (w k m : ℕ) (layer : List DdNode) → AreNodes dp p k layer → IsNarrow dp p w k layer → ((x : DdNode) → Has x layer → x.arcs ≡ []) → k + m ≡ dp.vars → length p ≤ k → 1 ≤ w → IsCompilation dp p w t k m layer
compiles dp laws chained t p w k zero layer h narrow bare e deep some = record { head = layer; rest = []; is = refl; all = (h, (narrow, bare)); links = λ j above l. l }
compiles dp laws chained t p w k (suc m) layer h narrow bare e deep some =
    let two = built dp (length p) w t k layer in
    let b = built-well dp laws chained t p (length p) w k layer h (omega arith) deep some in
    let c = compiles dp laws chained t p w (k + 1) m two.next b.next (built-narrow dp (length p) w t k layer some) (without-arcs dp (length p) w t k layer) (omega arith) (omega arith) some in
    let same-length : length two.above ≡ length layer = built-length dp (length p) w t k layer in
    record {
      head = two.above;
      rest = c.head ∷ c.rest;
      is = ap (λ ls. two.above ∷ ls) c.is;
      all = (b.above, ((λ cut. subst (λ n. n ≤ w) (sym same-length) (narrow cut)), (c.links k two.above b.linked, c.all)));
      links = λ j above l. linked-built dp (length p) w t k layer j above l;
    }

-- With suffixes.

abbrev ended : Dp → ℕ → List DdNode → DdNode → DdNode
ended dp k next node = record node { suffix = suffix_from dp k next node.arcs }

ended-looks : (dp : Dp) (k : ℕ) (next : List DdNode) (x : DdNode) → LooksSame (ended dp k next x) x
ended-looks dp k next x = record { row = refl; value = refl; exact = refl; path = refl }

suffixes-are : (dp : Dp) (k : ℕ) (next layer : List DdNode) → Each (λ (node : DdNode). node.suffix ≡ suffix_from dp k next node.arcs) (map (ended dp k next) layer)
suffixes-are dp k next [] = tt
suffixes-are dp k next (x ∷ layer) = (refl, suffixes-are dp k next layer)

length-ended : (dp : Dp) (k : ℕ) (next layer : List DdNode) → length (map (ended dp k next) layer) ≡ length layer
length-ended dp k next layer = length-map layer (ended dp k next)

last-is-layer : (dp : Dp) (p : List ℕ) (w : ℕ) (t : Option ℤ) (k : ℕ) (layer : List DdNode) → k ≡ dp.vars → AreNodes dp p k layer → IsNarrow dp p w k layer → ((x : DdNode) → Has x layer → x.arcs ≡ []) → IsLayer dp p w t k (map (ended dp k []) layer) []
last-is-layer dp p w t k layer e h narrow bare =
    let nodes = nodes-mapped dp p k layer (ended dp k []) (ended-looks dp k []) h in
    let no-arcs : (x : DdNode) → Has x (map (ended dp k []) layer) → x.arcs ≡ [] = λ x has. (let from = Has-map-from (ended dp k []) layer x has in ap (λ (n : DdNode). n.arcs) (sym from.2) ∙ bare from.0 from.1) in
    let outside : nat_lt k dp.vars ≡ false = grind arith in
    record {
      states = each-of-all (λ (x : DdNode). IsTrue (dp.is_state k x.row)) (map (ended dp k []) layer) nodes.states;
      distinct = are-distinct (map (ended dp k []) layer) nodes.differ;
      arcs = each-of-all (HasArcs dp k) (map (ended dp k []) layer) (λ x has. record { decisions = rw (no-arcs x has, outside) refl; gains = rw (no-arcs x has) tt });
      leads = each-of-all (λ (node : DdNode). Each (λ (arc : DdArc). Leads dp k t node [] arc arc.target) node.arcs) (map (ended dp k []) layer) (λ x has. rw (no-arcs x has) tt);
      values = tt;
      exact = each-of-all (λ (node : DdNode). IsTrue node.exact → IsReachedBy dp p k node) (map (ended dp k []) layer) nodes.reached;
      suffixes = suffixes-are dp k [] layer;
      narrow = λ cut. subst (λ n. n ≤ w) (sym (length-ended dp k [] layer)) (narrow cut);
    }

is-layer : (dp : Dp) (p : List ℕ) (w : ℕ) (t : Option ℤ) (k : ℕ) (layer next : List DdNode) (g : DdNode → DdNode) → ((y : DdNode) → ((g y).row ≡ y.row) × ((g y).value ≡ y.value)) → AreNodes dp p k layer → IsNarrow dp p w k layer → AreLinked dp t k layer next
    → IsLayer dp p w t k (map (ended dp k (map g next)) layer) (map g next)
is-layer dp p w t k layer next g keeps h narrow linked =
    let f = ended dp k (map g next) in
    let nodes = nodes-mapped dp p k layer f (ended-looks dp k (map g next)) h in
    let l = linked-same dp t k layer next f g (λ x. record { row = refl; value = refl; arcs = refl }) keeps linked in
    record {
      states = each-of-all (λ (x : DdNode). IsTrue (dp.is_state k x.row)) (map f layer) nodes.states;
      distinct = are-distinct (map f layer) nodes.differ;
      arcs = linked-arcs dp t k (map f layer) (map g next) l;
      leads = linked-leads dp t k (map f layer) (map g next) l;
      values = linked-values dp t k (map f layer) (map g next) l;
      exact = each-of-all (λ (node : DdNode). IsTrue node.exact → IsReachedBy dp p k node) (map f layer) nodes.reached;
      suffixes = suffixes-are dp k (map g next) layer;
      narrow = λ cut. subst (λ n. n ≤ w) (sym (length-ended dp k (map g next) layer)) (narrow cut);
    }

-- compiled layers with their suffixes are layers as their readers show them
pub are-layers : (dp : Dp) (p : List ℕ) (w : ℕ) (t : Option ℤ) (k : ℕ) (layers : List (List DdNode)) → AreCompiled dp p w t k layers → 0 < length layers → k + length layers ≡ dp.vars + 1 → AreLayers dp p w t k (with_suffixes dp k layers)
are-layers dp p w t k [] h some e = absurd (omega arith)
are-layers dp p w t k (layer ∷ []) h some e = last-is-layer dp p w t k layer (omega arith) h.0 h.1.0 h.1.1
are-layers dp p w t k (layer ∷ next ∷ rest) h some e = (
  is-layer dp p w t k layer next (ended dp (k + 1) (first_of_layers (with_suffixes dp (k + 1 + 1) rest))) (λ y. (refl, refl)) h.0 h.1.0 h.1.1.0,
  are-layers dp p w t (k + 1) (next ∷ rest) h.1.1.1 (omega arith) (omega arith),
)
