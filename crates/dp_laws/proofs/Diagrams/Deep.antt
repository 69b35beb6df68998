-- How deep children stand, and what is found where nothing is reduced.
use Rattle.std.proofs.Common.{◌≡◌, ℕ, suc, ◌+◌, ◌-◌, ◌<◌, ◌≤◌, ℤ, true, false, cond, not, ◌&&◌, List, [], ◌∷◌, length, map, filter, take, drop, slice_get, get_or, Option, Some, None, option_map, unwrap_or, ◌⊎◌, inl, inr, IsTrue, refl, sym, ◌∙◌, ap, subst, arith}
use Rattle.std.proofs.lemmas.Option.{slice_get-get_or, slice_get_within}
use Rattle.std.specs.List.{filter_map}
use Rattle.dp_model.specs.Dp.{Dp}
use Rattle.dp_model.specs.Solution.{Solution}
use Rattle.dp_model.specs.Laws.{IsLawful}
use Rattle.dp_model.specs.Lists.{Each}
use Rattle.dp_model.specs.Reached.{Reached, reached}
use Rattle.dp_model.specs.Subproblem.{Subproblem, IsChild}
use Rattle.dp_model.proofs.Members.{Has, Each-then, each-has, each-of-all, Has-append-cases, Has-filter-from}
use Rattle.std.proofs.lemmas.Bool.{and_parts}
use Rattle.dp_laws.specs.Children.{StandAt, StandDeep}
use Rattle.dp_laws.specs.Restricted.Beam.{layer_below}
use Rattle.dp_laws.specs.Restricted.Beams.{layers, beam, first_of_all}
use Rattle.dp_laws.specs.declared.arc.DdArc.{DdArc}
use Rattle.dp_laws.specs.Diagrams.Nodes.{DdNode, DdLayers, prefix_at, as_member}
use Rattle.dp_laws.specs.Diagrams.Seen.{IsReachedBy, AreLayers, IsDiagram, exact_layers}
use Rattle.dp_laws.specs.Diagrams.Cutsets.{is_inexact, leads_out, leaves, first_exact}
use Rattle.dp_laws.proofs.Diagrams.Children.{child_of, borders, all_borders, last_exact_from, frontier_from, found_from}
use Rattle.dp_laws.proofs.Diagrams.Places.{same-Some, Has-at, Has-filter_map-from}
use Rattle.dp_laws.proofs.Diagrams.Walks.{layer-above}
use Rattle.dp_laws.proofs.Diagrams.ChildFacts.{child-from}
use Rattle.dp_laws.proofs.Diagrams.Starts.{layers-at, reducible, starts, as-member-is}
use Rattle.dp_laws.proofs.Diagrams.Outermost.{outermost-from}
use Rattle.dp_laws.proofs.Diagrams.Found.{last-of}
use Rattle.dp_laws.proofs.Diagrams.Frontier.{frontier-is-sound}
use Rattle.dp_laws.proofs.Diagrams.LastExact.{all-exact, cut-of}

-- a prefix as a solution with its value
abbrev pub as_best : Reached → Solution
as_best r = record { decisions = r.decisions; value = r.value }

-- Where nothing is reduced the beam is found.

pub first-member : (layer : List DdNode) (rs : List Reached) → map as_member layer ≡ map (λ r. Some r) rs → first_exact layer ≡ option_map as_best (first_of_all rs)
first-member [] [] e = refl
first-member [] (r ∷ rs) e = absurd (let long = ap length e in omega arith)
first-member (node ∷ layer) [] e = absurd (let long = ap length e in omega arith)
first-member (node ∷ layer) (r ∷ rs) e =
    let first : as_member node ≡ Some r = same-Some (as_member node) (Some r) (ap (λ l. slice_get l 0) e) in
    let is : prefix_at node ≡ r = as-member-is node r first in
    elim node.exact as (λ b. cond b (Some (prefix_at node)) None ≡ Some r → cond b (Some (record { decisions = node.path; value = node.value })) (first_exact layer) ≡ Some (as_best r)) [
      | true ↦ λ h. ap (λ (x : Reached). Some (as_best x)) is
      | false ↦ λ h. absurd (let none : None ≡ Some r = h in cc)
    ] first

pub beam-found : (dp : Dp) (p : List ℕ) (w : ℕ) (t : Option ℤ) (d : DdLayers) → IsDiagram dp p w t d → length p < dp.vars → d.first_reduced ≡ None → found_from dp (length p) d.layers ≡ option_map as_best (beam dp p w t)
beam-found dp p w t d h short e =
    let l = last-of dp p w t d h short in
    let m = dp.vars - length p in
    let above = subst (λ n. map (map as_member) (take n d.layers) ≡ map (map (λ r. Some r)) (take n (layers dp p w t))) (ap (exact_layers dp.vars (length p)) e) h.above in
    let b = layer-above (m + 1) m d.layers (layers dp p w t) above (omega arith) l.layer l.at in
    let rs : b.0 ≡ layer_below dp (reached dp p) w t m = same-Some b.0 (layer_below dp (reached dp p) w t m) (sym b.1 ∙ layers-at dp p w t m (omega arith)) in
    l.found ∙ (first-member l.layer b.0 b.2 ∙ ap (λ xs. option_map as_best (first_of_all xs)) rs)

-- Children of the last exact layer stand just above the first reduced one.

pub last-exact-stands : (dp : Dp) → IsLawful dp → (p : List ℕ) (w : ℕ) (t : Option ℤ) (d : DdLayers) → IsDiagram dp p w t d → length p < dp.vars → (o : Option ℕ) → d.first_reduced ≡ o → StandAt o (last_exact_from dp (length p) d.layers o)
last-exact-stands dp laws p w t d h short None e = refl
last-exact-stands dp laws p w t d h short (Some depth) e =
    let r = reducible dp p w t depth (sym h.first_reduced ∙ e) in
    let low = r.below_first in let high = r.above_last in let long = h.depth in
    let m = depth - 1 - length p in
    let layer = get_or d.layers m [] in
    let at : slice_get d.layers m ≡ Some layer = slice_get-get_or d.layers m [] (omega arith) in
    let exact = all-exact dp p w t d h (depth - length p) m (ap (exact_layers dp.vars (length p)) (sym e)) (omega arith) layer at in
    let place : depth - 1 ≡ length p + m = omega arith in
    let cut = cut-of dp laws p w t d h short (depth - 1) m place (omega arith) layer at exact in
    let all : Each (λ (c : Subproblem). length c.decisions + 1 ≡ depth) (filter_map (child_of dp (depth - 1)) layer) =
    each-of-all (λ (c : Subproblem). length c.decisions + 1 ≡ depth) (filter_map (child_of dp (depth - 1)) layer) (λ c has.
    let from = Has-filter_map-from (child_of dp (depth - 1)) layer c has in
    let is = ap (λ (x : Subproblem). length x.decisions) (child-from dp (depth - 1) from.0 c from.2).child_is in
    let long = (cut.reached from.0 from.1).1.depth in
    omega arith) in
    subst (λ (o : Option (List DdNode)). Each (λ (c : Subproblem). length c.decisions + 1 ≡ depth) (filter_map (child_of dp (depth - 1)) (unwrap_or o []))) (sym at) all

-- what stands just above a depth stands there or deeper
pub at-deep : (o : Option ℕ) (cs : List Subproblem) → StandAt o cs → StandDeep o cs
at-deep None cs h = h
at-deep (Some depth) cs h = Each-then (λ (c : Subproblem). length c.decisions + 1 ≡ depth) (λ (c : Subproblem). depth ≤ length c.decisions + 1) cs (λ c e. omega arith) h

-- Children of the frontier have an arc to an inexact node, so they stand no higher.

all-in : (next : List DdNode) → ((x : DdNode) → Has x next → IsTrue x.exact) → (o : Option DdNode) → ((x : DdNode) → o ≡ Some x → Has x next) → is_inexact o ≡ false
all-in next exact None from = refl
all-in next exact (Some x) from = ap not (exact x (from x refl))

stays-in : (next : List DdNode) → ((x : DdNode) → Has x next → IsTrue x.exact) → (target : Option ℕ) → leads_out next target ≡ false
stays-in next exact None = refl
stays-in next exact (Some i) = all-in next exact (slice_get next i) (λ x e. Has-at next i x e)

none-leaves : (next : List DdNode) → ((x : DdNode) → Has x next → IsTrue x.exact) → (arcs : List DdArc) → leaves next arcs ≡ false
none-leaves next exact [] = refl
none-leaves next exact (arc ∷ arcs) = let here = stays-in next exact arc.target in let rest : leaves next arcs ≡ false = none-leaves next exact arcs in rw here rest

-- the layers from the depth k on are exact as far as a depth
abbrev pub ExactAbove : ℕ → ℕ → List (List DdNode) → Type 0
ExactAbove k depth layers = (m : ℕ) (layer : List DdNode) → slice_get layers m ≡ Some layer → k + m < depth → (x : DdNode) → Has x layer → IsTrue x.exact

border-deep : (dp : Dp) (p : List ℕ) (k depth : ℕ) (layer next : List DdNode) (rest : List (List DdNode)) → ExactAbove k depth (layer ∷ next ∷ rest) → ((x : DdNode) → Has x layer → IsTrue x.exact → IsReachedBy dp p k x) → (c : Subproblem) → Has c (borders dp k layer next)
    → depth ≤ length c.decisions + 1
border-deep dp p k depth layer next rest above reached c has =
    let from = Has-filter_map-from (child_of dp k) (filter (λ (node : DdNode). node.exact && leaves next node.arcs) layer) c has in
    let listed = Has-filter-from (λ (node : DdNode). node.exact && leaves next node.arcs) layer from.0 from.1 in
    let test = and_parts from.0.exact (leaves next from.0.arcs) listed.1 in
    let is = ap (λ (x : Subproblem). length x.decisions) (child-from dp k from.0 c from.2).child_is in
    let long = (reached from.0 listed.0 test.0).depth in
    let split : (k + 1 < depth) ⊎ (depth ≤ k + 1) = grind arith in
    elim split as (λ _. depth ≤ length c.decisions + 1) [
      | inl less ↦ absurd (let none = none-leaves next (above 1 next refl less) from.0.arcs in let clash : false ≡ true = sym none ∙ test.1 in cc)
      | inr low ↦ omega arith
    ]

shifted : (k depth : ℕ) (layer : List DdNode) (more : List (List DdNode)) → ExactAbove k depth (layer ∷ more) → ExactAbove (k + 1) depth more
shifted k depth layer more above = λ m l at less x has. above (suc m) l at (omega arith) x has

all-borders-deep : (dp : Dp) (p : List ℕ) (w : ℕ) (t : Option ℤ) (k depth : ℕ) (layer : List DdNode) (more : List (List DdNode)) → AreLayers dp p w t k (layer ∷ more) → ExactAbove k depth (layer ∷ more) → (c : Subproblem) → Has c (all_borders dp k (layer ∷ more)) → depth ≤ length c.decisions + 1
all-borders-deep dp p w t k depth layer [] all above c has = absurd has
all-borders-deep dp p w t k depth layer (next ∷ rest) all above c has =
    elim (Has-append-cases c (borders dp k layer next) (all_borders dp (k + 1) (next ∷ rest)) has) as (λ _. depth ≤ length c.decisions + 1) [
      | inl here ↦ border-deep dp p k depth layer next rest above (λ x h e. each-has (λ (n : DdNode). IsTrue n.exact → IsReachedBy dp p k n) layer x all.0.exact h e) c here
      | inr later ↦ all-borders-deep dp p w t (k + 1) depth next rest all.1 (shifted k depth layer (next ∷ rest) above) c later
    ]

-- the layers of a diagram are exact above the one that is reduced first
above-of : (dp : Dp) (p : List ℕ) (w : ℕ) (t : Option ℤ) (d : DdLayers) → IsDiagram dp p w t d → length p < dp.vars → (depth : ℕ) → ((m : ℕ) → m < length d.layers → length p + m < depth → m < exact_layers dp.vars (length p) d.first_reduced)
    → ExactAbove (length p) depth d.layers
above-of dp p w t d h short depth inside = λ m layer at less x has.
    all-exact dp p w t d h (exact_layers dp.vars (length p) d.first_reduced) m refl (inside m (slice_get_within d.layers m layer at) less) layer at x has

below-root : (dp : Dp) (p : List ℕ) (w : ℕ) (t : Option ℤ) (depth : ℕ) (root : DdNode) (more : List (List DdNode)) → AreLayers dp p w t (length p) ((root ∷ []) ∷ more) → ExactAbove (length p) depth ((root ∷ []) ∷ more) → (c : Subproblem) → Has c (all_borders dp (length p + 1) more) → depth ≤ length c.decisions + 1
below-root dp p w t depth root [] all above c has = absurd has
below-root dp p w t depth root (next ∷ rest) all above c has = all-borders-deep dp p w t (length p + 1) depth next rest all.1 (shifted (length p) depth (root ∷ []) (next ∷ rest) above) c has

empty-of : (cs : List Subproblem) → ((c : Subproblem) → Has c cs → ⊥) → cs ≡ []
empty-of [] none = refl
empty-of (c ∷ cs) none = absurd (none c (inl refl))

frontier-deep-at : (dp : Dp) (p : List ℕ) (w : ℕ) (t : Option ℤ) (d : DdLayers) → IsDiagram dp p w t d → length p < dp.vars → (depth : ℕ) → ExactAbove (length p) depth d.layers → (c : Subproblem) → Has c (frontier_from dp (length p) d.layers) → depth ≤ length c.decisions + 1
frontier-deep-at dp p w t d h short depth above c has =
    let start = starts dp p w t d h short in
    let all : AreLayers dp p w t (length p) ((start.root ∷ []) ∷ start.more) = subst (λ ds. AreLayers dp p w t (length p) ds) start.are h.layer in
    let above' : ExactAbove (length p) depth ((start.root ∷ []) ∷ start.more) = subst (λ ds. ExactAbove (length p) depth ds) start.are above in
    let below_all : drop 1 d.layers ≡ start.more = ap (λ ds. drop 1 ds) start.are in
    let listed = outermost-from [] (all_borders dp (length p + 1) (drop 1 d.layers)) c has in
    let listed' : Has c (all_borders dp (length p + 1) start.more) = subst (λ ms. Has c (all_borders dp (length p + 1) ms)) below_all listed in
    below-root dp p w t depth start.root start.more all above' c listed'

pub frontier-deep : (dp : Dp) (p : List ℕ) (w : ℕ) (t : Option ℤ) (d : DdLayers) → IsDiagram dp p w t d → length p < dp.vars → (o : Option ℕ) → d.first_reduced ≡ o → ((c : Subproblem) → Has c (frontier_from dp (length p) d.layers) → length c.decisions < dp.vars)
    → StandDeep o (frontier_from dp (length p) d.layers)
frontier-deep dp p w t d h short None e shorter =
    let inside : (m : ℕ) → m < length d.layers → length p + m < dp.vars + 2 → m < exact_layers dp.vars (length p) d.first_reduced = λ m few less. (let long = h.depth in rw e (omega arith)) in
    let above = above-of dp p w t d h short (dp.vars + 2) inside in
    empty-of (frontier_from dp (length p) d.layers) (λ c has. (let deep = frontier-deep-at dp p w t d h short (dp.vars + 2) above c has in let low = shorter c has in omega arith))
frontier-deep dp p w t d h short (Some depth) e shorter =
    let inside : (m : ℕ) → m < length d.layers → length p + m < depth → m < exact_layers dp.vars (length p) d.first_reduced = λ m few less. rw e (omega arith) in
    let above = above-of dp p w t d h short depth inside in
    each-of-all (λ (c : Subproblem). depth ≤ length c.decisions + 1) (frontier_from dp (length p) d.layers) (λ c has. frontier-deep-at dp p w t d h short depth above c has)

pub frontier-shorter : (dp : Dp) → IsLawful dp → (p : List ℕ) (w : ℕ) (t : Option ℤ) (d : DdLayers) → IsDiagram dp p w t d → length p < dp.vars → (c : Subproblem) → Has c (frontier_from dp (length p) d.layers) → length c.decisions < dp.vars
frontier-shorter dp laws p w t d h short c has =
    let sound = frontier-is-sound dp laws p w t d h short in
    let child = each-has (IsChild dp p) (frontier_from dp (length p) d.layers) c sound.own has in
    child.own.shorter
