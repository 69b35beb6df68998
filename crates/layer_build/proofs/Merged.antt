-- Layers that are merged to the width where they are wider, before or after their nodes are put in order.
use Rattle.std.proofs.Common.{◌≡◌, ℕ, ◌+◌, ◌-◌, ◌<◌, ◌≤◌, nat_le, nat_lt, ℤ, pos, Bool, true, false, not, cond, ◌||◌, ◌&&◌, List, [], ◌∷◌, length, Option, None, Some, IsSome, refl, sym, ◌∙◌, ap, ap₂, subst, arith}
use Rattle.std.proofs.lemmas.Bool.Decides.{nat_tests}
use Rattle.dp_model.specs.Dp.{Dp}
use Rattle.dp_model.specs.Lists.{Each}
use Rattle.dp_model.specs.declared.limits.TheConstants.{MOST_LEADERS}
use Rattle.dp_laws.specs.Diagrams.Nodes.{DdNode}
use Rattle.dp_laws.specs.Rules.Compiling.{TwoLayers, expand, prune, merge_rest}
use Rattle.dp_laws.specs.Rules.Pruning.{is_struck, pruned_nodes, prune_redirects}
use Rattle.dp_laws.specs.Rules.Redirects.{Redirect, with_redirected}
use Rattle.layer_nodes.specs.Nodes.{Told, NodeView, shown_layer, shown_below}
use Rattle.layer_nodes.specs.Sifting.{sifted_nodes, sift_redirects, sifted, expand_sifted}
use Rattle.layer_build.specs.declared.stack.Making.{Making}
use Rattle.layer_build.specs.declared.stack.Making.TheVariants.{By, Within}
use Rattle.layer_build.specs.Layers.{SpaceView, last_depth, last_layer, expand_last, on_last_two, reduced_first}
use Rattle.layer_build.specs.UnderWay.{IsUnderWay}
use Rattle.layer_build.specs.Within.{within_width, expanded_as, AreMergeable, MayMerge}
use Rattle.layer_build.proofs.Going.{below-length}
use Rattle.layer_build.proofs.Kept.{length-expand, last-expand, merged-length}
use Rattle.layer_build.proofs.Pruning.{two-same, two-expanded, expand-alike}

-- ---- a layer without exact nodes

-- none of the nodes is exact
abbrev pub NoneIsExact : List DdNode → Type 0
NoneIsExact nodes = Each (λ (node : DdNode). node.exact ≡ false) nodes

module _ (dp : Dp) (k : ℕ) (t : Option ℤ) where
  -- a struck node is left out, and an inexact one leads nobody
  nodes-by : (place : ℕ) (node : DdNode) (nodes : List DdNode) (b : Bool) → is_struck dp k t node ≡ b
      → ((p : ℕ) → NoneIsExact (sifted_nodes dp k t nodes) → pruned_nodes dp k t [] p nodes ≡ sifted_nodes dp k t nodes)
      → NoneIsExact (sifted_nodes dp k t (node ∷ nodes)) → pruned_nodes dp k t [] place (node ∷ nodes) ≡ sifted_nodes dp k t (node ∷ nodes)
  nodes-by place node nodes true e later h =
      let kept = sifted_nodes dp k t nodes in
      let led = cond (node.exact && not (nat_le MOST_LEADERS 0)) (record { place = place; row = node.row; value = node.value } ∷ []) [] in
      let rest : NoneIsExact kept = subst (λ b. NoneIsExact (cond (not b) (node ∷ kept) kept)) e h in
      ap (λ b. cond (b || false) (pruned_nodes dp k t [] place nodes) (node ∷ pruned_nodes dp k t led (place + 1) nodes)) e
      ∙ (later place rest ∙ sym (ap (λ b. cond (not b) (node ∷ kept) kept) e))
  nodes-by place node nodes false e later h =
      let kept = sifted_nodes dp k t nodes in
      let all : NoneIsExact (node ∷ kept) = subst (λ b. NoneIsExact (cond (not b) (node ∷ kept) kept)) e h in
      ap (λ b. cond (b || false) (pruned_nodes dp k t [] place nodes) (node ∷ pruned_nodes dp k t (cond (node.exact && not (nat_le MOST_LEADERS 0)) (record { place = place; row = node.row; value = node.value } ∷ []) []) (place + 1) nodes)) e
      ∙ (ap (λ b. node ∷ pruned_nodes dp k t (cond (b && not (nat_le MOST_LEADERS 0)) (record { place = place; row = node.row; value = node.value } ∷ []) []) (place + 1) nodes) all.0
      ∙ (ap (λ l. node ∷ l) (later (place + 1) all.1) ∙ sym (ap (λ b. cond (not b) (node ∷ kept) kept) e)))

  inexact-nodes : (place : ℕ) (nodes : List DdNode) → NoneIsExact (sifted_nodes dp k t nodes) → pruned_nodes dp k t [] place nodes ≡ sifted_nodes dp k t nodes
  inexact-nodes place [] h = refl
  inexact-nodes place (node ∷ nodes) h = nodes-by place node nodes (is_struck dp k t node) refl (λ p rest. inexact-nodes p nodes rest) h

  redirects-by : (place : ℕ) (node : DdNode) (nodes : List DdNode) (b : Bool) → is_struck dp k t node ≡ b
      → ((p : ℕ) → NoneIsExact (sifted_nodes dp k t nodes) → prune_redirects dp k t [] p nodes ≡ sift_redirects dp k t p nodes)
      → NoneIsExact (sifted_nodes dp k t (node ∷ nodes)) → prune_redirects dp k t [] place (node ∷ nodes) ≡ sift_redirects dp k t place (node ∷ nodes)
  redirects-by place node nodes true e later h =
      let kept = sifted_nodes dp k t nodes in
      let here : Option Redirect = Some (record { place = place; longer = pos 0 }) in
      let led = cond (node.exact && not (nat_le MOST_LEADERS 0)) (record { place = place; row = node.row; value = node.value } ∷ []) [] in
      let rest : NoneIsExact kept = subst (λ b. NoneIsExact (cond (not b) (node ∷ kept) kept)) e h in
      ap (λ b. cond b (None ∷ prune_redirects dp k t [] place nodes) (here ∷ prune_redirects dp k t led (place + 1) nodes)) e
      ∙ (ap (λ l. None ∷ l) (later place rest) ∙ sym (ap (λ b. cond b (None ∷ sift_redirects dp k t place nodes) (here ∷ sift_redirects dp k t (place + 1) nodes)) e))
  redirects-by place node nodes false e later h =
      let kept = sifted_nodes dp k t nodes in
      let here : Option Redirect = Some (record { place = place; longer = pos 0 }) in
      let all : NoneIsExact (node ∷ kept) = subst (λ b. NoneIsExact (cond (not b) (node ∷ kept) kept)) e h in
      ap (λ b. cond b (None ∷ prune_redirects dp k t [] place nodes) (here ∷ prune_redirects dp k t (cond (node.exact && not (nat_le MOST_LEADERS 0)) (record { place = place; row = node.row; value = node.value } ∷ []) []) (place + 1) nodes)) e
      ∙ (ap (λ b. here ∷ prune_redirects dp k t (cond (b && not (nat_le MOST_LEADERS 0)) (record { place = place; row = node.row; value = node.value } ∷ []) []) (place + 1) nodes) all.0
      ∙ (ap (λ l. here ∷ l) (later (place + 1) all.1) ∙ sym (ap (λ b. cond b (None ∷ sift_redirects dp k t place nodes) (here ∷ sift_redirects dp k t (place + 1) nodes)) e)))

  inexact-redirects : (place : ℕ) (nodes : List DdNode) → NoneIsExact (sifted_nodes dp k t nodes) → prune_redirects dp k t [] place nodes ≡ sift_redirects dp k t place nodes
  inexact-redirects place [] h = refl
  inexact-redirects place (node ∷ nodes) h = redirects-by place node nodes (is_struck dp k t node) refl (λ p rest. inexact-redirects p nodes rest) h

  -- to prune it is to leave out what is struck
  pub inexact-pruned : (two : TwoLayers) → NoneIsExact (sifted dp k t two).next → sifted dp k t two ≡ prune dp k t two
  inexact-pruned two h =
      sym (ap₂ (λ (l : List (Option Redirect)) (n : List DdNode). (let v : TwoLayers = record { above = with_redirected l two.above; next = n } in v)) (inexact-redirects 0 two.next h) (inexact-nodes 0 two.next h))

-- ---- a layer that was merged is as wide as the width

wide-merged : (making : Making) (dp : Dp) (w k : ℕ) (layer : List DdNode) → 1 ≤ w → MayMerge making dp w k layer → length (expanded_as making true dp w k layer).next ≡ w
wide-merged (By strikes) dp w k layer some may = absurd may
wide-merged (Within t) dp w k layer some may =
    let two = expand_sifted dp k t layer in
    let more : nat_lt w (length two.next) ≡ true = (let less = may.wide in grind (arith, nat_tests)) in
    ap (λ b. length (cond b (merge_rest dp (k + 1) w two) two).next) more ∙ merged-length dp (k + 1) w two.next some may.wide

-- the nodes of a layer that is wider have parents
pub unmerged-by : (making : Making) (merged : Bool) (dp : Dp) (w k : ℕ) (old new : List NodeView) → 1 ≤ w
    → ((paths : ℕ → List ℕ) → shown_below paths new ≡ (expanded_as making merged dp w k (shown_layer paths old)).next)
    → (merged ≡ true → (paths : ℕ → List ℕ) → MayMerge making dp w k (shown_layer paths old))
    → (merged ≡ false → Each (λ (node : NodeView). IsSome node.parent) new) → w < length new → Each (λ (node : NodeView). IsSome node.parent) new
unmerged-by making true dp w k old new some next may parents wide = absurd (
    let none : ℕ → List ℕ = λ i. [] in
    let long = below-length none new in
    let seen = ap (λ (l : List DdNode). length l) (next none) in
    let same = wide-merged making dp w k (shown_layer none old) some (may refl none) in
    omega arith)
unmerged-by making false dp w k old new some next may parents wide = parents refl

-- ---- the last layer

two-as-is : (ls : List (List DdNode)) → on_last_two (λ two. two) ls ≡ ls
two-as-is [] = refl
two-as-is (l ∷ []) = refl
two-as-is (l ∷ n ∷ []) = refl
two-as-is (l ∷ n ∷ m ∷ rest) = ap (λ ls. l ∷ ls) (two-as-is (n ∷ m ∷ rest))

pub wide-within : (dp : Dp) (w k : ℕ) (ls : List (List DdNode)) → nat_lt w (length (last_layer ls)) ≡ true → on_last_two (merge_rest dp k w) ls ≡ on_last_two (within_width dp w k) ls
wide-within dp w k ls wide = two-same (merge_rest dp k w) (within_width dp w k) ls (λ above.
    let two : TwoLayers = record { above = above; next = last_layer ls } in
    sym (ap (λ b. cond b (merge_rest dp k w two) two) wide))

pub narrow-within : (dp : Dp) (w k : ℕ) (ls : List (List DdNode)) → nat_lt w (length (last_layer ls)) ≡ false → ls ≡ on_last_two (within_width dp w k) ls
narrow-within dp w k ls narrow = sym (two-as-is ls) ∙ two-same (λ two. two) (within_width dp w k) ls (λ above.
    let two : TwoLayers = record { above = above; next = last_layer ls } in
    sym (ap (λ b. cond b (merge_rest dp k w two) two) narrow))

-- ---- a layer that is expanded within the width

-- the last layer is expanded and pruned
abbrev pub pruned_by : Dp → Option ℤ → ℕ → List DdNode → TwoLayers
pruned_by dp t k layer = prune dp (k + 1) t (expand dp k layer)

-- the workspace with its last layer expanded by this rule and the next one merged where it is wider than the width
abbrev pub expanded_to : Dp → (List DdNode → TwoLayers) → List Told → SpaceView → SpaceView
expanded_to dp rule told s = record s {
  layers = expand_last (λ layer. within_width dp s.width (last_depth s + 1) (rule layer)) s.layers;
  told = told;
  first_reduced = cond (nat_lt s.width (length (rule (last_layer s.layers)).next)) (reduced_first s.first_reduced (last_depth s + 1)) s.first_reduced;
}

deeper-by : (rule : List DdNode → TwoLayers) (s : SpaceView) → 1 ≤ length s.layers → length s.prefix + (length (expand_last rule s.layers) - 1) ≡ last_depth s + 1
deeper-by rule s some = let long = length-expand rule s.layers some in omega arith

-- it was merged at once
pub merged-within : (dp : Dp) (t : Option ℤ) (s s1 new : SpaceView) → 1 ≤ length s.layers → AreMergeable s.width (expand_sifted dp (last_depth s) t (last_layer s.layers)).next
    → s1 ≡ record s { layers = expand_last (expanded_as (Within t) true dp s.width (last_depth s)) s.layers; told = s1.told }
    → new ≡ record s1 { first_reduced = reduced_first s1.first_reduced (last_depth s1) } → new ≡ expanded_to dp (pruned_by dp t (last_depth s)) new.told s
merged-within dp t s s1 new some may e1 e2 =
    let k = last_depth s in
    let w = s.width in
    let L = last_layer s.layers in
    let rule = expanded_as (Within t) true dp w k in
    let pruned = inexact-pruned dp (k + 1) t (expand dp k L) may.inexact in
    let layers : expand_last rule s.layers ≡ expand_last (λ layer. within_width dp w (k + 1) (pruned_by dp t k layer)) s.layers = expand-alike rule (λ layer. within_width dp w (k + 1) (pruned_by dp t k layer)) s.layers (ap (within_width dp w (k + 1)) pruned) in
    let more : nat_lt w (length (expand_sifted dp k t L).next) ≡ true = (let less = may.wide in grind (arith, nat_tests)) in
    let wide : nat_lt w (length (pruned_by dp t k L).next) ≡ true = ap (λ (two : TwoLayers). nat_lt w (length two.next)) (sym pruned) ∙ more in
    let told : new.told ≡ s1.told = ap (λ (v : SpaceView). v.told) e2 in
    let first : reduced_first s.first_reduced (k + 1) ≡ cond (nat_lt w (length (pruned_by dp t k L).next)) (reduced_first s.first_reduced (k + 1)) s.first_reduced = sym (ap (λ b. cond b (reduced_first s.first_reduced (k + 1)) s.first_reduced) wide) in
    (e2 ∙ ap (λ (v : SpaceView). record v { first_reduced = reduced_first v.first_reduced (last_depth v) }) e1)
    ∙ (ap (λ (d : ℕ). record s { layers = expand_last rule s.layers; told = s1.told; first_reduced = reduced_first s.first_reduced d }) (deeper-by rule s some)
    ∙ (ap (λ (ls : List (List DdNode)). record s { layers = ls; told = s1.told; first_reduced = reduced_first s.first_reduced (k + 1) }) layers
    ∙ (ap (λ (o : Option ℕ). record s { layers = expand_last (λ layer. within_width dp w (k + 1) (pruned_by dp t k layer)) s.layers; told = s1.told; first_reduced = o }) first
    ∙ ap (λ (l : List Told). expanded_to dp (pruned_by dp t k) l s) (sym told))))

-- the workspace with its last layer merged where it is wider than the width
abbrev pub narrowed : Dp → List Told → SpaceView → SpaceView
narrowed dp told s = record s {
  layers = on_last_two (within_width dp s.width (last_depth s)) s.layers;
  told = told;
  first_reduced = cond (nat_lt s.width (length (last_layer s.layers))) (reduced_first s.first_reduced (last_depth s)) s.first_reduced;
}

-- it was pruned first
pub pruned-within : (dp : Dp) (rule : List DdNode → TwoLayers) (s s2 new : SpaceView) → 1 ≤ length s.layers → s2 ≡ record s { layers = expand_last rule s.layers; told = s2.told } → new ≡ narrowed dp new.told s2 → new ≡ expanded_to dp rule new.told s
pruned-within dp rule s s2 new some e2 e3 =
    let k = last_depth s in
    let w = s.width in
    let ls = s.layers in
    let at : ℕ → SpaceView = λ d. record s {
      layers = on_last_two (within_width dp w d) (expand_last rule ls);
      told = new.told;
      first_reduced = cond (nat_lt w (length (last_layer (expand_last rule ls)))) (reduced_first s.first_reduced d) s.first_reduced;
    } in
    let of : List (List DdNode) → List DdNode → SpaceView = λ l last. record s { layers = l; told = new.told; first_reduced = cond (nat_lt w (length last)) (reduced_first s.first_reduced (k + 1)) s.first_reduced } in
    (e3 ∙ ap (narrowed dp new.told) e2) ∙ (ap at (deeper-by rule s some) ∙ ap₂ of (two-expanded (within_width dp w (k + 1)) rule ls) (last-expand rule ls some))

-- which depths were reduced does not count for it
pub counted-under-way : (dp : Dp) (v : SpaceView) (first_reduced : Option ℕ) → IsUnderWay dp v → IsUnderWay dp (record v { first_reduced = first_reduced })
counted-under-way dp v first_reduced u = record {
  lawful = u.lawful;
  prepared = record { vars = u.prepared.vars; words = u.prepared.words; choices = u.prepared.choices; width = u.prepared.width; enough = u.prepared.enough; path = u.prepared.path };
  prefix = u.prefix;
  some = u.some;
  low = u.low;
  within = u.within;
  two = u.two;
  told = u.told;
  unmerged = u.unmerged;
  few = u.few;
  one = u.one;
  second = u.second;
}
