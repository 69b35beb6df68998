-- Exact nodes keep paths of their depth.
use Rattle.std.proofs.Common.{◌≡◌, ℕ, ◌+◌, ◌-◌, ◌<◌, ℤ, false, true, List, [], ◌∷◌, ◌++◌, map, take, drop, length, Option, IsTrue, refl, sym, ap, ◌∙◌, subst, arith, length-append}
use Rattle.dp_model.specs.Dp.{Dp}
use Rattle.dp_model.specs.Reached.{Reached}
use Rattle.dp_model.proofs.Members.{Each-append, Each-map, Each-then, each-has, each-of-all}
use Rattle.dp_laws.specs.Diagrams.Nodes.{DdNode}
use Rattle.dp_laws.specs.Diagrams.Seen.{decisions_at}
use Rattle.dp_laws.specs.Rules.Redirects.{Redirect, redirected, with_redirected}
use Rattle.dp_laws.specs.Rules.Expanding.{is_exact_row, new_layer, arc_of}
use Rattle.dp_laws.specs.Rules.Pruning.{pruned_nodes}
use Rattle.dp_laws.specs.Rules.Reducing.{merged_node, merged_layer}
use Rattle.dp_laws.specs.Rules.Compiling.{TwoLayers, expand, prune, keep_first, merge_rest}
use Rattle.dp_laws.proofs.Rules.Built.{in-take}
use Rattle.dp_laws.proofs.Rules.Expanded.{new-node, exact-maker, makes-by}
use Rattle.dp_laws.proofs.Rules.Pruned.{pruned-has}
use Rattle.layer_build.specs.Layers.{expand_last, on_last_two}
use Rattle.layer_build.specs.Stacked.{HaveDepth, HaveDepths}

-- a node of which not more than this changes
pub each-mapped : (f : DdNode → DdNode) → ((x : DdNode) → ((f x).exact ≡ x.exact) × ((f x).path ≡ x.path)) → (k : ℕ) (layer : List DdNode) → HaveDepth k layer → HaveDepth k (map f layer)
each-mapped f same k layer h =
    Each-map f (λ (n : DdNode). IsTrue n.exact → length n.path ≡ k) layer
    (Each-then (λ (n : DdNode). IsTrue n.exact → length n.path ≡ k) (λ (n : DdNode). IsTrue (f n).exact → length (f n).path ≡ k) layer (λ n p exact. ap length (same n).1 ∙ p (sym (same n).0 ∙ exact)) h)

pub redirected-depth : (redirects : List (Option Redirect)) (k : ℕ) (layer : List DdNode) → HaveDepth k layer → HaveDepth k (with_redirected redirects layer)
redirected-depth redirects k layer h = each-mapped (λ (n : DdNode). record n { arcs = map (redirected redirects) n.arcs }) (λ x. (refl, refl)) k layer h

pub pruned-depth : (dp : Dp) (d : ℕ) (t : Option ℤ) (k : ℕ) (layer : List DdNode) → HaveDepth k layer → HaveDepth k (pruned_nodes dp d t [] 0 layer)
pruned-depth dp d t k layer h =
    let P = λ (n : DdNode). IsTrue n.exact → length n.path ≡ k in
    each-of-all P (pruned_nodes dp d t [] 0 layer) (λ x has. each-has P layer x h (pruned-has dp d t [] 0 layer x has))

pub taken-depth : (w k : ℕ) (layer : List DdNode) → HaveDepth k layer → HaveDepth k (take w layer)
taken-depth w k layer h =
    let P = λ (n : DdNode). IsTrue n.exact → length n.path ≡ k in
    each-of-all P (take w layer) (λ x has. each-has P layer x h (in-take w layer x has))

pub merged-depth : (dp : Dp) (d w k : ℕ) (layer : List DdNode) → HaveDepth k layer → HaveDepth k (merged_layer dp d w layer)
merged-depth dp d w k layer h =
    Each-append (λ (n : DdNode). IsTrue n.exact → length n.path ≡ k) (take (w - 1) layer) (merged_node dp d (drop (w - 1) layer) ∷ []) (taken-depth (w - 1) k layer h)
    ((λ exact. absurd (let clash : false ≡ true = exact in cc)), tt)

pub expanded-above : (dp : Dp) (k : ℕ) (layer : List DdNode) → HaveDepth k layer → HaveDepth k (expand dp k layer).above
expanded-above dp k layer h =
    each-mapped (λ (n : DdNode). record n { arcs = map (arc_of dp k (new_layer dp k layer) n.row) (decisions_at dp k n.row) }) (λ x. (refl, refl)) k layer h

pub expanded-next : (dp : Dp) (k : ℕ) (layer : List DdNode) → k < dp.vars → HaveDepth k layer → HaveDepth (k + 1) (expand dp k layer).next
expanded-next dp k layer low h =
    let P = λ (n : DdNode). IsTrue n.exact → length n.path ≡ k in
    each-of-all (λ (n : DdNode). IsTrue n.exact → length n.path ≡ k + 1) (new_layer dp k layer) (λ y has exact.
    let n = new-node dp k layer y low has in
    let m = n.made in
    let path : y.path ≡ m.node.path ++ m.decision ∷ [] = ap (λ (x : DdNode). x.path) n.is ∙ ap (λ (r : Reached). r.decisions) m.is in
    let all-exact : IsTrue (is_exact_row dp k layer n.best.row) = ap (λ (x : DdNode). x.exact) (sym n.is) ∙ exact in
    let maker : IsTrue m.node.exact = exact-maker dp k layer n.best.row all-exact m.node m.has (makes-by dp k m.node.row (decisions_at dp k m.node.row) m.decision n.best.row m.listed (sym (ap (λ (r : Reached). r.row) m.is))) in
    let deep = each-has P layer m.node h m.has maker in
    ap length path ∙ (length-append m.node.path (m.decision ∷ []) ∙ ap (λ (i : ℕ). i + 1) deep))

-- ---- in all layers

pub depths-expanded : (rule : List DdNode → TwoLayers) (d : ℕ) → ((x : List DdNode) → HaveDepth d x → HaveDepth d (rule x).above) → ((x : List DdNode) → HaveDepth d x → HaveDepth (d + 1) (rule x).next)
    → (k : ℕ) (layers : List (List DdNode)) → k + length layers ≡ d + 1 → HaveDepths k layers → HaveDepths k (expand_last rule layers)
depths-expanded rule d above next k [] e h = h
depths-expanded rule d above next k (layer ∷ []) e h =
    let same : d ≡ k = omega arith in
    let here = subst (λ (j : ℕ). HaveDepth j layer) (sym same) h.0 in
    (subst (λ (j : ℕ). HaveDepth j (rule layer).above) same (above layer here), (subst (λ (j : ℕ). HaveDepth (j + 1) (rule layer).next) same (next layer here), tt))
depths-expanded rule d above next k (layer ∷ other ∷ rest) e h = (h.0, depths-expanded rule d above next (k + 1) (other ∷ rest) (omega arith) h.1)

pub depths-two : (rule : TwoLayers → TwoLayers) → ((k : ℕ) (two : TwoLayers) → HaveDepth k two.above → HaveDepth k (rule two).above) → ((k : ℕ) (two : TwoLayers) → HaveDepth k two.next → HaveDepth k (rule two).next)
    → (k : ℕ) (layers : List (List DdNode)) → HaveDepths k layers → HaveDepths k (on_last_two rule layers)
depths-two rule above next k [] h = h
depths-two rule above next k (layer ∷ []) h = (next k (record { above = []; next = layer }) h.0, tt)
depths-two rule above next k (layer ∷ other ∷ []) h = (above k (record { above = layer; next = other }) h.0, (next (k + 1) (record { above = layer; next = other }) h.1.0, tt))
depths-two rule above next k (layer ∷ other ∷ more ∷ rest) h = (h.0, depths-two rule above next (k + 1) (other ∷ more ∷ rest) h.1)

pub prune-depths : (dp : Dp) (d : ℕ) (t : Option ℤ) (k : ℕ) (layers : List (List DdNode)) → HaveDepths k layers → HaveDepths k (on_last_two (prune dp d t) layers)
prune-depths dp d t k layers h = depths-two (prune dp d t) (λ j two a. redirected-depth _ j two.above a) (λ j two a. pruned-depth dp d t j two.next a) k layers h

pub keep-depths : (w k : ℕ) (layers : List (List DdNode)) → HaveDepths k layers → HaveDepths k (on_last_two (keep_first w) layers)
keep-depths w k layers h = depths-two (keep_first w) (λ j two a. redirected-depth _ j two.above a) (λ j two a. taken-depth w j two.next a) k layers h

pub merge-depths : (dp : Dp) (d w k : ℕ) (layers : List (List DdNode)) → HaveDepths k layers → HaveDepths k (on_last_two (merge_rest dp d w) layers)
merge-depths dp d w k layers h = depths-two (merge_rest dp d w) (λ j two a. redirected-depth _ j two.above a) (λ j two a. merged-depth dp d w j two.next a) k layers h
