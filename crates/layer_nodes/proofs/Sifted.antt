-- A layer without its struck nodes is pruned as the whole one is.
use Rattle.std.proofs.Common.{◌≡◌, ℕ, zero, suc, ◌+◌, ℤ, pos, ◌+ℤ◌, Bool, true, false, not, cond, ◌||◌, List, [], ◌∷◌, map, slice_get, Option, Some, None, is_some, option_and_then, refl, sym, ◌∙◌, ap, ap₂, subst, arith}
use Rattle.std.proofs.lemmas.Int.{ints}
use Rattle.dp_model.specs.Dp.{Dp}
use Rattle.dp_laws.specs.declared.arc.DdArc.{DdArc}
use Rattle.dp_laws.specs.Diagrams.Nodes.{DdNode}
use Rattle.dp_laws.specs.Rules.Compiling.{TwoLayers, prune}
use Rattle.dp_laws.specs.Rules.Pruning.{Leader, at_leader, is_struck, leaders_past, pruned_nodes, prune_redirects}
use Rattle.dp_laws.specs.Rules.Redirects.{Redirect, redirected_by, redirected, with_redirected}
use Rattle.layer_nodes.specs.Sifting.{sifted_nodes, sift_redirects, sifted}

-- The nodes that stay.

module _ (dp : Dp) (k : ℕ) (t : Option ℤ) where
  nodes-by : (leaders : List Leader) (place : ℕ) (node : DdNode) (nodes : List DdNode) (b : Bool) (o : Option Redirect) → is_struck dp k t node ≡ b
      → pruned_nodes dp k t leaders place (sifted_nodes dp k t nodes) ≡ pruned_nodes dp k t leaders place nodes
      → pruned_nodes dp k t (leaders_past leaders place node) (place + 1) (sifted_nodes dp k t nodes) ≡ pruned_nodes dp k t (leaders_past leaders place node) (place + 1) nodes
      → pruned_nodes dp k t leaders place (sifted_nodes dp k t (node ∷ nodes)) ≡ pruned_nodes dp k t leaders place (node ∷ nodes)
  nodes-by leaders place node nodes true o e same more =
      let kept = sifted_nodes dp k t nodes in
      let rest = pruned_nodes dp k t leaders place nodes in
      let stays = node ∷ pruned_nodes dp k t (leaders_past leaders place node) (place + 1) nodes in
      ap (λ c. pruned_nodes dp k t leaders place (cond (not c) (node ∷ kept) kept)) e
      ∙ (same ∙ sym (ap (λ c. cond (c || is_some (at_leader dp k leaders node)) rest stays) e))
  nodes-by leaders place node nodes false o e same more =
      let kept = sifted_nodes dp k t nodes in
      ap (λ c. pruned_nodes dp k t leaders place (cond (not c) (node ∷ kept) kept)) e
      ∙ ap₂ (λ l m. cond (is_struck dp k t node || is_some (at_leader dp k leaders node)) l (node ∷ m)) same more

  pub nodes-sifted : (leaders : List Leader) (place : ℕ) (nodes : List DdNode)
      → pruned_nodes dp k t leaders place (sifted_nodes dp k t nodes) ≡ pruned_nodes dp k t leaders place nodes
  nodes-sifted leaders place [] = refl
  nodes-sifted leaders place (node ∷ nodes) =
      nodes-by leaders place node nodes (is_struck dp k t node) None refl (nodes-sifted leaders place nodes) (nodes-sifted (leaders_past leaders place node) (place + 1) nodes)

-- One redirect after another.

-- the redirect at the place
abbrev redirect_at : List (Option Redirect) → ℕ → Option Redirect
redirect_at redirects i = option_and_then (λ l. l) (slice_get redirects i)

-- where the second goes from where the first one goes, when the places of the second are those after this many
pub record GoesOn (n : ℕ) (seconds : List (Option Redirect)) (first : Redirect) (whole : Option Redirect) : Type 0 where
  pub longer : first.longer ≡ pos 0
  pub place : ℕ
  pub at : first.place ≡ n + place
  pub goes : redirect_at seconds place ≡ whole

abbrev following : ℕ → List (Option Redirect) → Option Redirect → Option Redirect → Type 0
following n seconds None whole = whole ≡ None
following n seconds (Some first) whole = GoesOn n seconds first whole

following-more : (n : ℕ) (o : Option Redirect) (seconds : List (Option Redirect)) (first whole : Option Redirect) → following (n + 1) seconds first whole → following n (o ∷ seconds) first whole
following-more n o seconds None whole h = h
following-more n o seconds (Some first) whole h = record { longer = h.longer; place = suc h.place; at = (let e = h.at in omega arith); goes = h.goes }

abbrev here : ℕ → Redirect
here place = record { place = place; longer = pos 0 }

module _ (dp : Dp) (k : ℕ) (t : Option ℤ) where
  abbrev prunes : List Leader → ℕ → List DdNode → List (Option Redirect)
  prunes leaders place nodes = prune_redirects dp k t leaders place nodes

  abbrev Follows : List Leader → ℕ → ℕ → List DdNode → ℕ → Type 0
  Follows leaders place n nodes i = following n (prunes leaders place (sifted_nodes dp k t nodes)) (redirect_at (sift_redirects dp k t n nodes) i) (redirect_at (prunes leaders place nodes) i)

  module _ (leaders : List Leader) (place n : ℕ) (node : DdNode) where
    -- the redirects from a node on that is not struck
    abbrev unstruck_from : Bool → List DdNode → List (Option Redirect)
    unstruck_from led nodes = cond led (at_leader dp k leaders node ∷ prunes leaders place nodes) (Some (here place) ∷ prunes (leaders_past leaders place node) (place + 1) nodes)

    unstruck-is : (nodes : List DdNode) → is_struck dp k t node ≡ false → prunes leaders place (node ∷ nodes) ≡ unstruck_from (is_some (at_leader dp k leaders node)) nodes
    unstruck-is nodes e = ap (λ b. cond b (None ∷ prunes leaders place nodes) (unstruck_from (is_some (at_leader dp k leaders node)) nodes)) e

    module _ (nodes : List DdNode) (later : (leaders : List Leader) (place n i : ℕ) → Follows leaders place n nodes i) where
      stays : (led : Bool) (i : ℕ) → following n (unstruck_from led (sifted_nodes dp k t nodes)) (redirect_at (Some (here n) ∷ sift_redirects dp k t (n + 1) nodes) i) (redirect_at (unstruck_from led nodes) i)
      stays true zero = record { longer = refl; place = 0; at = omega arith; goes = refl }
      stays false zero = record { longer = refl; place = 0; at = omega arith; goes = refl }
      stays true (suc i) = following-more n (at_leader dp k leaders node) (prunes leaders place (sifted_nodes dp k t nodes)) (redirect_at (sift_redirects dp k t (n + 1) nodes) i) (redirect_at (prunes leaders place nodes) i) (later leaders place (n + 1) i)
      stays false (suc i) =
          let past = leaders_past leaders place node in
          following-more n (Some (here place)) (prunes past (place + 1) (sifted_nodes dp k t nodes)) (redirect_at (sift_redirects dp k t (n + 1) nodes) i) (redirect_at (prunes past (place + 1) nodes) i) (later past (place + 1) (n + 1) i)

      struck : (i : ℕ) → following n (prunes leaders place (sifted_nodes dp k t nodes)) (redirect_at (None ∷ sift_redirects dp k t n nodes) i) (redirect_at (None ∷ prunes leaders place nodes) i)
      struck zero = refl
      struck (suc i) = later leaders place n i

      by-test : (b : Bool) (i : ℕ) → is_struck dp k t node ≡ b → Follows leaders place n (node ∷ nodes) i
      by-test true i e =
          let kept = sifted_nodes dp k t nodes in
          subst (λ b. following n (prunes leaders place (cond (not b) (node ∷ kept) kept)) (redirect_at (cond b (None ∷ sift_redirects dp k t n nodes) (Some (here n) ∷ sift_redirects dp k t (n + 1) nodes)) i)
          (redirect_at (cond b (None ∷ prunes leaders place nodes) (unstruck_from (is_some (at_leader dp k leaders node)) nodes)) i)) (sym e) (struck i)
      by-test false i e =
          let kept = sifted_nodes dp k t nodes in
          let led = is_some (at_leader dp k leaders node) in
          subst (λ b. following n (prunes leaders place (cond (not b) (node ∷ kept) kept)) (redirect_at (cond b (None ∷ sift_redirects dp k t n nodes) (Some (here n) ∷ sift_redirects dp k t (n + 1) nodes)) i)
          (redirect_at (cond b (None ∷ prunes leaders place nodes) (unstruck_from led nodes)) i)) (sym e)
          (subst (λ l. following n l (redirect_at (Some (here n) ∷ sift_redirects dp k t (n + 1) nodes) i) (redirect_at (unstruck_from led nodes) i)) (sym (unstruck-is kept e)) (stays led i))

  follows : (leaders : List Leader) (place n : ℕ) (nodes : List DdNode) (i : ℕ) → Follows leaders place n nodes i
  follows leaders place n [] i = refl
  follows leaders place n (node ∷ nodes) i = by-test leaders place n node nodes (λ ls p m j. follows ls p m nodes j) (is_struck dp k t node) i refl

module _ (firsts seconds wholes : List (Option Redirect)) (h : (i : ℕ) → following 0 seconds (redirect_at firsts i) (redirect_at wholes i)) where
  arc-by : (arc old : DdArc) (o : Option Redirect) → arc.decision ≡ old.decision → arc.gain ≡ old.gain → arc.longer ≡ old.longer → redirected_by arc o ≡ redirected_by old o
  arc-by arc old None a b c = cc
  arc-by arc old (Some l) a b c = cc

  twice : (arc : DdArc) (first whole : Option Redirect) → following 0 seconds first whole → redirected seconds (redirected_by arc first) ≡ redirected_by arc whole
  twice arc None whole g = sym (ap (redirected_by arc) g)
  twice arc (Some f) whole g =
      let at : f.place ≡ g.place = (let e = g.at in omega arith) in
      let same : arc.longer +ℤ f.longer ≡ arc.longer = (let e = g.longer in omega (arith, ints)) in
      ap (redirected_by (redirected_by arc (Some f))) (ap (redirect_at seconds) at ∙ g.goes) ∙ arc-by (redirected_by arc (Some f)) arc whole refl refl same

  on-target : (target : Option ℕ) → following 0 seconds (option_and_then (redirect_at firsts) target) (option_and_then (redirect_at wholes) target)
  on-target None = refl
  on-target (Some i) = h i

  arcs-twice : (arcs : List DdArc) → map (redirected seconds) (map (redirected firsts) arcs) ≡ map (redirected wholes) arcs
  arcs-twice [] = refl
  arcs-twice (arc ∷ arcs) = ap₂ (λ a l. a ∷ l) (twice arc (option_and_then (redirect_at firsts) arc.target) (option_and_then (redirect_at wholes) arc.target) (on-target arc.target)) (arcs-twice arcs)

  layer-twice : (above : List DdNode) → with_redirected seconds (with_redirected firsts above) ≡ with_redirected wholes above
  layer-twice [] = refl
  layer-twice (node ∷ above) = ap₂ (λ as_ l. record node { arcs = as_ } ∷ l) (arcs-twice node.arcs) (layer-twice above)

-- a layer without its struck nodes is pruned as the whole one is
pub prune-sifted : (dp : Dp) (k : ℕ) (t : Option ℤ) (two : TwoLayers) → prune dp k t (sifted dp k t two) ≡ prune dp k t two
prune-sifted dp k t two =
    ap₂ (λ above next. record { above = above; next = next })
    (layer-twice (sift_redirects dp k t 0 two.next) (prune_redirects dp k t [] 0 (sifted_nodes dp k t two.next)) (prune_redirects dp k t [] 0 two.next) (follows dp k t [] 0 0 two.next) two.above)
    (nodes-sifted dp k t [] 0 two.next)
