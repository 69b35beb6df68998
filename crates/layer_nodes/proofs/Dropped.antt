-- A layer without its struck nodes, from which only what a leader dominates is taken out, is pruned.
use Rattle.std.proofs.Common.{◌≡◌, ℕ, ◌+◌, ℤ, pos, Bool, true, false, not, cond, ◌||◌, List, [], ◌∷◌, Option, Some, None, is_some, refl, sym, ◌∙◌, ap, ap₂, subst}
use Rattle.dp_model.specs.Dp.{Dp}
use Rattle.dp_model.specs.Lists.{Each}
use Rattle.dp_laws.specs.Diagrams.Nodes.{DdNode}
use Rattle.dp_laws.specs.Rules.Compiling.{TwoLayers, prune}
use Rattle.dp_laws.specs.Rules.Pruning.{Leader, at_leader, is_struck, leaders_past, pruned_nodes, prune_redirects}
use Rattle.dp_laws.specs.Rules.Redirects.{Redirect, with_redirected}
use Rattle.layer_nodes.specs.Sifting.{sifted_nodes, sifted}
use Rattle.layer_nodes.specs.Striking.{unstruck, drop_dominated}
use Rattle.layer_nodes.proofs.Leaders.{leader_rough}
use Rattle.layer_nodes.proofs.Sifted.{prune-sifted}

-- no node is struck
abbrev pub NoneIsStruck : Dp → ℕ → Option ℤ → List DdNode → Type 0
NoneIsStruck dp k t nodes = Each (λ node. is_struck dp k t node ≡ false) nodes

module _ (dp : Dp) (k : ℕ) (t : Option ℤ) where
  dropped-nodes : (leaders : List Leader) (place : ℕ) (nodes : List DdNode) → NoneIsStruck dp k t nodes
      → pruned_nodes (unstruck dp) k None leaders place nodes ≡ pruned_nodes dp k t leaders place nodes
  dropped-nodes leaders place [] h = refl
  dropped-nodes leaders place (node ∷ nodes) h =
      let past = leaders_past leaders place node in
      let led = is_some (at_leader dp k leaders node) in
      let out = pruned_nodes dp k t leaders place nodes in
      let stays = pruned_nodes dp k t past (place + 1) nodes in
      ap (λ o. cond (is_some o) (pruned_nodes (unstruck dp) k None leaders place nodes) (node ∷ pruned_nodes (unstruck dp) k None past (place + 1) nodes)) (leader_rough dp k (λ i row. Some (pos 0)) leaders node)
      ∙ (ap₂ (λ l m. cond led l (node ∷ m)) (dropped-nodes leaders place nodes h.1) (dropped-nodes past (place + 1) nodes h.1)
      ∙ sym (ap (λ b. cond (b || led) out (node ∷ stays)) h.0))

  dropped-redirects : (leaders : List Leader) (place : ℕ) (nodes : List DdNode) → NoneIsStruck dp k t nodes
      → prune_redirects (unstruck dp) k None leaders place nodes ≡ prune_redirects dp k t leaders place nodes
  dropped-redirects leaders place [] h = refl
  dropped-redirects leaders place (node ∷ nodes) h =
      let past = leaders_past leaders place node in
      let at = at_leader dp k leaders node in
      let here : Option Redirect = Some (record { place = place; longer = pos 0 }) in
      let out = prune_redirects dp k t leaders place nodes in
      let stays = prune_redirects dp k t past (place + 1) nodes in
      ap (λ o. cond (is_some o) (o ∷ prune_redirects (unstruck dp) k None leaders place nodes) (here ∷ prune_redirects (unstruck dp) k None past (place + 1) nodes)) (leader_rough dp k (λ i row. Some (pos 0)) leaders node)
      ∙ (ap₂ (λ l m. cond (is_some at) (at ∷ l) (here ∷ m)) (dropped-redirects leaders place nodes h.1) (dropped-redirects past (place + 1) nodes h.1)
      ∙ sym (ap (λ b. cond b (None ∷ out) (cond (is_some at) (at ∷ out) (here ∷ stays))) h.0))

  -- where no node is struck, to take out what a leader dominates is to prune
  pub dropped-pruned : (two : TwoLayers) → NoneIsStruck dp k t two.next → drop_dominated dp k two ≡ prune dp k t two
  dropped-pruned two h =
      ap₂ (λ (l : List (Option Redirect)) (n : List DdNode). record { above = with_redirected l two.above; next = n }) (dropped-redirects [] 0 two.next h) (dropped-nodes [] 0 two.next h)

  -- no node is struck of those that are left
  pub none-struck : (nodes : List DdNode) → NoneIsStruck dp k t (sifted_nodes dp k t nodes)
  none-struck [] = tt
  none-struck (node ∷ nodes) = go (is_struck dp k t node) refl (none-struck nodes)
    where
      go : (b : Bool) → is_struck dp k t node ≡ b → NoneIsStruck dp k t (sifted_nodes dp k t nodes) → NoneIsStruck dp k t (sifted_nodes dp k t (node ∷ nodes))
      go true e rest =
          let kept = sifted_nodes dp k t nodes in
          subst (λ b. NoneIsStruck dp k t (cond (not b) (node ∷ kept) kept)) (sym e) rest
      go false e rest =
          let kept = sifted_nodes dp k t nodes in
          subst (λ b. NoneIsStruck dp k t (cond (not b) (node ∷ kept) kept)) (sym e) (e, rest)

  -- a layer that is sifted first is pruned
  pub dropped-sifted : (two : TwoLayers) → drop_dominated dp k (sifted dp k t two) ≡ prune dp k t two
  dropped-sifted two = dropped-pruned (sifted dp k t two) (none-struck two.next) ∙ prune-sifted dp k t two
