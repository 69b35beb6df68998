-- Where no node of a layer is exact, none leads, and all stay.
use Rattle.std.proofs.Common.{◌≡◌, ℕ, suc, ◌+◌, ◌-◌, nat_le, not, cond, ◌&&◌, List, [], ◌∷◌, ◌++◌, length, map, replicate, None, refl, sym, ◌∙◌, ap, append_assoc, append-nil, arith}
use Rattle.std.proofs.lemmas.List.{length-map}
use Rattle.dp_model.specs.Dp.{Dp}
use Rattle.dp_model.specs.declared.limits.TheConstants.{MOST_LEADERS}
use Rattle.dp_laws.specs.Diagrams.Nodes.{DdNode, path_below}
use Rattle.dp_laws.specs.Rules.Pruning.{pruned_nodes, prune_redirects}
use Rattle.dp_laws.specs.Rules.Reducing.{staying, keep_redirects}
use Rattle.layer_nodes.specs.Nodes.{NodeView, shown, shown_below}
use Rattle.layer_nodes.specs.Striking.{unstruck, AreInexact}
use Rattle.layer_nodes.proofs.Merged.{staying-more}
use Rattle.layer_nodes.proofs.Pruned.{here}

module _ (dp : Dp) (k : ℕ) (paths : ℕ → List ℕ) where
  abbrev pub see : NodeView → DdNode
  see node = shown (path_below paths node.parent node.decision) node

  nodes-stay : (nodes : List NodeView) (place : ℕ) → AreInexact nodes → pruned_nodes (unstruck dp) k None [] place (map see nodes) ≡ map see nodes
  nodes-stay [] place h = refl
  nodes-stay (node ∷ nodes) place h =
      ap (λ b. see node ∷ pruned_nodes (unstruck dp) k None (cond (b && not (nat_le MOST_LEADERS 0)) (record { place = place; row = node.row; value = node.value } ∷ []) []) (place + 1) (map see nodes)) h.0
      ∙ ap (λ l. see node ∷ l) (nodes-stay nodes (place + 1) h.1)

  targets-stay : (nodes : List NodeView) (place : ℕ) → AreInexact nodes → staying place ++ prune_redirects (unstruck dp) k None [] place (map see nodes) ≡ staying (place + length nodes)
  targets-stay [] place h = let same : place ≡ place + 0 = omega arith in append-nil (staying place) ∙ ap staying same
  targets-stay (node ∷ nodes) place h =
      let rest = prune_redirects (unstruck dp) k None [] (place + 1) (map see nodes) in
      let sum : place + 1 + length nodes ≡ place + suc (length nodes) = omega arith in
      ap (λ b. staying place ++ here place ∷ prune_redirects (unstruck dp) k None (cond (b && not (nat_le MOST_LEADERS 0)) (record { place = place; row = node.row; value = node.value } ∷ []) []) (place + 1) (map see nodes)) h.0
      ∙ (sym (append_assoc (staying place) (here place ∷ []) rest)
      ∙ (ap (λ l. l ++ rest) (sym (staying-more place)) ∙ (targets-stay nodes (place + 1) h.1 ∙ ap staying sum)))

  -- all nodes stay
  pub inexact-nodes : (nodes : List NodeView) → AreInexact nodes → shown_below paths nodes ≡ pruned_nodes (unstruck dp) k None [] 0 (shown_below paths nodes)
  inexact-nodes nodes h = sym (nodes-stay nodes 0 h)

  -- and so do the targets
  pub inexact-targets : (nodes : List NodeView) (n : ℕ) → n ≡ length nodes → AreInexact nodes → keep_redirects n (shown_below paths nodes) ≡ prune_redirects (unstruck dp) k None [] 0 (shown_below paths nodes)
  inexact-targets nodes n same h =
      let long = length-map nodes see in
      let none : length (map see nodes) - n ≡ 0 = omega arith in
      let all : n ≡ 0 + length nodes = omega arith in
      ap (λ m. staying n ++ replicate m None) none ∙ (append-nil (staying n) ∙ (ap staying all ∙ sym (targets-stay nodes 0 h)))
