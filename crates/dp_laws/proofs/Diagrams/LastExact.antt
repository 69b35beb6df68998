-- The children of the last exact layer are sound.
use Rattle.std.proofs.Common.{◌≡◌, ℕ, suc, ◌+◌, ◌-◌, ◌<◌, ◌≤◌, ℤ, pos, ◌+ℤ◌, ◌≤ℤ◌, List, [], ◌∷◌, length, map, take, slice_get, get_or, Option, Some, None, option_map, unwrap_or, ◌⊎◌, inl, inr, IsTrue, refl, sym, ◌∙◌, ap, subst, arith}
use Rattle.std.proofs.lemmas.Int.{ints}
use Rattle.std.proofs.lemmas.Option.{slice_get-get_or}
use Rattle.std.specs.List.{filter_map}
use Rattle.dp_model.specs.Dp.{Dp}
use Rattle.dp_model.specs.Solution.{Solution}
use Rattle.dp_model.specs.Cover.{IsHeld}
use Rattle.dp_model.specs.Gaps.{IsStateOf}
use Rattle.dp_model.specs.Laws.{IsLawful}
use Rattle.dp_model.specs.Lists.{OneOf}
use Rattle.dp_model.specs.Numbers.{AtMost}
use Rattle.dp_model.specs.Prefixes.{IsContinuation, IsCompletion, Reaches, gain_of, value_of}
use Rattle.dp_model.specs.Subproblem.{Subproblem, IsChild}
use Rattle.dp_model.proofs.Members.{Has, each-has, each-of-all, one-of-has, Has-map}
use Rattle.dp_model.proofs.Paths.{continued, value_of-split}
use Rattle.dp_laws.specs.Restricted.Beams.{layers}
use Rattle.dp_laws.specs.Diagrams.Nodes.{DdNode, DdLayers, as_member}
use Rattle.dp_laws.specs.Diagrams.Seen.{IsBounded, IsReachedBy, are_distinct, AreLayers, IsDiagram, exact_layers}
use Rattle.dp_laws.specs.Children.{AreSound}
use Rattle.dp_laws.specs.Diagrams.Cutsets.{first_exact}
use Rattle.dp_laws.proofs.Diagrams.Children.{child_of, last_exact_from, found_from}
use Rattle.dp_laws.proofs.Diagrams.Places.{Has-filter_map, Has-filter_map-from, same-Some}
use Rattle.dp_laws.proofs.Diagrams.Suffixes.{bounded, at_most-below}
use Rattle.dp_laws.proofs.Diagrams.Walks.{Stands, WalksTo, walks-to, keeps-at, from-at, layer-above, exact-layer}
use Rattle.dp_laws.proofs.Diagrams.ChildFacts.{child-from, is-child, is-held, matched}
use Rattle.dp_laws.proofs.Diagrams.Apart.{AreReached, all-apart, all-differ, all-two}
use Rattle.dp_laws.proofs.Diagrams.Starts.{reducible, starts}
use Rattle.dp_laws.proofs.Diagrams.Found.{HasLast, last-of, first-greatest, found-is-sound}

-- What each completion comes to.

-- a completion of the prefix, walked along the diagram from its root
pub walked : (dp : Dp) → IsLawful dp → (p : List ℕ) (w : ℕ) (t : Option ℤ) (d : DdLayers) → IsDiagram dp p w t d → length p < dp.vars → (m : ℕ) → m ≤ dp.vars - length p → (x : List ℕ) → IsCompletion dp p x → WalksTo dp t (length p) m d.layers (value_of dp x)
walked dp laws p w t d h short m few x completion =
    let start = starts dp p w t d h short in
    let root = start.root in
    let path : IsContinuation dp (length p) root.row completion.rest = subst (λ s. IsContinuation dp (length p) s completion.rest) (sym start.row) (continued dp p x completion) in
    let long = h.depth in
    let count : length d.layers ≡ suc (length start.more) = ap length start.are in
    let all = subst (λ ds. AreLayers dp p w t (length p) ds) start.are h.layer in
    let sum : root.value +ℤ gain_of dp (length p) root.row completion.rest ≡ value_of dp x =
    ap (λ z. z +ℤ gain_of dp (length p) root.row completion.rest) start.value ∙ (ap (λ s. value_of dp p +ℤ gain_of dp (length p) s completion.rest) start.row ∙ sym (value_of-split dp p x completion)) in
    subst (λ ds. WalksTo dp t (length p) m ds (value_of dp x)) (sym start.are)
    (subst (λ z. WalksTo dp t (length p) m ((root ∷ []) ∷ start.more) z) sum
    (walks-to dp laws p w t (length p) m (root ∷ []) start.more all (omega arith) (omega arith) root (inl refl) completion.rest path))

-- Where nothing was reduced, the found solution is the best completion.

no-gain : (dp : Dp) (k : ℕ) (s : List ℤ) (c : List ℕ) → length c ≡ 0 → gain_of dp k s c ≡ pos 0
no-gain dp k s [] e = refl
no-gain dp k s (d ∷ c) e = absurd (omega arith)

-- a completion that stands at the last layer is no better than what is found
pub at-last : (dp : Dp) (p : List ℕ) (w : ℕ) (t : Option ℤ) (d : DdLayers) → IsDiagram dp p w t d → length p < dp.vars → (l : HasLast dp p w t d) → ((node : DdNode) → Has node l.layer → IsTrue node.exact)
    → (v : ℤ) → Stands dp (length p) (dp.vars - length p) d.layers v → AtMost v (option_map (λ (b : Solution). b.value) (found_from dp (length p) d.layers))
at-last dp p w t d h short l exact v s =
    let same : s.layer ≡ l.layer = same-Some s.layer l.layer (sym s.at ∙ l.at) in
    let has : Has s.node l.layer = subst (λ ns. Has s.node ns) same s.has in
    let whole = s.continuation.whole in
    let none : gain_of dp (length p + (dp.vars - length p)) s.node.row s.by ≡ pos 0 = no-gain dp (length p + (dp.vars - length p)) s.node.row s.by (omega arith) in
    let enough = s.enough in
    let less : v ≤ℤ s.node.value = omega (arith, ints) in
    rw l.found (at_most-below v s.node.value (option_map (λ (b : Solution). b.value) (first_exact l.layer)) less (first-greatest l.layer l.falls s.node has (exact s.node has)))

pub all-exact : (dp : Dp) (p : List ℕ) (w : ℕ) (t : Option ℤ) (d : DdLayers) → IsDiagram dp p w t d → (count m : ℕ) → count ≡ exact_layers dp.vars (length p) d.first_reduced → m < count → (layer : List DdNode) → slice_get d.layers m ≡ Some layer → (node : DdNode) → Has node layer → IsTrue node.exact
all-exact dp p w t d h count m e less layer at node has =
    let above = subst (λ n. map (map as_member) (take n d.layers) ≡ map (map (λ r. Some r)) (take n (layers dp p w t))) (sym e) h.above in
    let beam = layer-above count m d.layers (layers dp p w t) above less layer at in
    exact-layer layer beam.0 beam.2 node has

unreduced : (dp : Dp) → IsLawful dp → (p : List ℕ) (w : ℕ) (t : Option ℤ) (d : DdLayers) → IsDiagram dp p w t d → length p < dp.vars → d.first_reduced ≡ None → AreSound dp p t (found_from dp (length p) d.layers) []
unreduced dp laws p w t d h short e =
    let l = last-of dp p w t d h short in
    let exact : (node : DdNode) → Has node l.layer → IsTrue node.exact =
    all-exact dp p w t d h (dp.vars - length p + 1) (dp.vars - length p) (ap (exact_layers dp.vars (length p)) (sym e)) (omega arith) l.layer l.at in
    record {
      own = tt;
      apart = tt;
      differ = tt;
      held = tt;
      solution = found-is-sound dp p w t d h short;
      matched = λ x completion. elim (walked dp laws p w t d h short (dp.vars - length p) (omega arith) x completion) as (λ _. AtMost (value_of dp x) t ⊎ (AtMost (value_of dp x) (option_map (λ (b : Solution). b.value) (found_from dp (length p) d.layers)) ⊎ OneOf (Reaches dp (value_of dp x)) [])) [
        | inl low ↦ inl low
        | inr s ↦ inr (inl (at-last dp p w t d h short l exact (value_of dp x) s))
      ];
    }

-- Where a layer was reduced, the nodes just above it match each completion.

-- the layer at a place, all of whose nodes are exact, and what its continuations are bounded by
pub record IsCut (dp : Dp) (p : List ℕ) (t : Option ℤ) (k : ℕ) (layer : List DdNode) : Type 0 where
  pub reached : AreReached dp p k layer
  pub states : (node : DdNode) → Has node layer → IsStateOf dp k node.row
  pub distinct : IsTrue (are_distinct layer)
  pub bounds : (node : DdNode) → Has node layer → (c : List ℕ) → IsContinuation dp k node.row c → IsBounded t node (gain_of dp k node.row c)

pub cut-of : (dp : Dp) → IsLawful dp → (p : List ℕ) (w : ℕ) (t : Option ℤ) (d : DdLayers) → IsDiagram dp p w t d → length p < dp.vars → (k m : ℕ) → k ≡ length p + m → k ≤ dp.vars → (layer : List DdNode) → slice_get d.layers m ≡ Some layer
    → ((node : DdNode) → Has node layer → IsTrue node.exact) → IsCut dp p t k layer
cut-of dp laws p w t d h short k m e low layer at exact =
    let from = from-at dp p w t (length p) m d.layers h.layer layer at in
    let kept = keeps-at dp p w t (length p) m d.layers h.layer layer at in
    let long = from.long in let depth = h.depth in
    let cut : IsCut dp p t (length p + m) layer = record {
      reached = λ node has. (exact node has, each-has (λ (n : DdNode). IsTrue n.exact → IsReachedBy dp p (length p + m) n) layer node kept.keeps.exact has (exact node has));
      states = λ node has. record { layer = omega arith; test = each-has (λ (n : DdNode). IsTrue (dp.is_state (length p + m) n.row)) layer node kept.keeps.states has };
      distinct = kept.keeps.distinct;
      bounds = λ node has c path. bounded dp laws p w t (length p + m) layer from.more from.all (omega arith) node has c path;
    } in
    subst (λ n. IsCut dp p t n layer) (sym e) cut

by-child : (dp : Dp) → IsLawful dp → (p : List ℕ) (t : Option ℤ) (d : DdLayers) (k m : ℕ) (layer : List DdNode) → slice_get d.layers m ≡ Some layer → k ≡ length p + m → IsCut dp p t k layer → (v : ℤ) → Stands dp (length p) m d.layers v
    → AtMost v t ⊎ (AtMost v (option_map (λ (b : Solution). b.value) (found_from dp (length p) d.layers)) ⊎ OneOf (Reaches dp v) (map (λ (c : Subproblem). c.decisions) (filter_map (child_of dp k) layer)))
by-child dp laws p t d k m layer at place cut v s =
    let same : s.layer ≡ layer = same-Some s.layer layer (sym s.at ∙ at) in
    let has : Has s.node layer = subst (λ ns. Has s.node ns) same s.has in
    let path : IsContinuation dp k s.node.row s.by = subst (λ n. IsContinuation dp n s.node.row s.by) (sym place) s.continuation in
    let enough : v ≤ℤ (s.node.value +ℤ gain_of dp k s.node.row s.by) = subst (λ n. v ≤ℤ (s.node.value +ℤ gain_of dp n s.node.row s.by)) (sym place) s.enough in
    elim (matched dp laws p t k s.node s.by v (cut.reached s.node has).1 (cut.states s.node has) path enough (cut.bounds s.node has s.by path)) as
    (λ _. AtMost v t ⊎ (AtMost v (option_map (λ (b : Solution). b.value) (found_from dp (length p) d.layers)) ⊎ OneOf (Reaches dp v) (map (λ (c : Subproblem). c.decisions) (filter_map (child_of dp k) layer)))) [
      | inl low ↦ inl low
      | inr c ↦ inr (inr (one-of-has (Reaches dp v) (map (λ (c : Subproblem). c.decisions) (filter_map (child_of dp k) layer)) c.child.decisions c.reaches
          (Has-map (λ (c : Subproblem). c.decisions) (filter_map (child_of dp k) layer) c.child (Has-filter_map (child_of dp k) layer s.node c.child has c.is))))
    ]

reduced : (dp : Dp) → IsLawful dp → (p : List ℕ) (w : ℕ) (t : Option ℤ) (d : DdLayers) → IsDiagram dp p w t d → length p < dp.vars → (depth : ℕ) → d.first_reduced ≡ Some depth → (layer : List DdNode) → slice_get d.layers (depth - 1 - length p) ≡ Some layer
    → AreSound dp p t (found_from dp (length p) d.layers) (filter_map (child_of dp (depth - 1)) layer)
reduced dp laws p w t d h short depth e layer at =
    let r = reducible dp p w t depth (sym h.first_reduced ∙ e) in
    let low = r.below_first in let high = r.above_last in
    let m = depth - 1 - length p in
    let k = depth - 1 in
    let less : depth - 1 - length p < depth - length p = omega arith in
    let exact : (node : DdNode) → Has node layer → IsTrue node.exact = all-exact dp p w t d h (depth - length p) m (ap (exact_layers dp.vars (length p)) (sym e)) less layer at in
    let place : k ≡ length p + m = omega arith in
    let cut = cut-of dp laws p w t d h short k m place (omega arith) layer at exact in
    let Child : Subproblem → Type 0 = λ c. Has c (filter_map (child_of dp k) layer) in
    record {
      own = each-of-all (IsChild dp p) (filter_map (child_of dp k) layer) (λ c has.
          let from = Has-filter_map-from (child_of dp k) layer c has in
          is-child dp p k from.0 c (cut.reached from.0 from.1).1 (child-from dp k from.0 c from.2) (omega arith) (omega arith));
      apart = all-apart (filter_map (child_of dp k) layer) (all-two dp p k layer cut.reached cut.distinct);
      differ = all-differ (filter_map (child_of dp k) layer) (all-two dp p k layer cut.reached cut.distinct);
      held = each-of-all (λ (c : Subproblem). IsHeld dp t c.decisions c.bound) (filter_map (child_of dp k) layer) (λ c has.
          let from = Has-filter_map-from (child_of dp k) layer c has in
          is-held dp laws p t k from.0 c (cut.reached from.0 from.1).1 (cut.states from.0 from.1) (child-from dp k from.0 c from.2) (cut.bounds from.0 from.1));
      solution = found-is-sound dp p w t d h short;
      matched = λ x completion. elim (walked dp laws p w t d h short m (omega arith) x completion) as (λ _. AtMost (value_of dp x) t ⊎ (AtMost (value_of dp x) (option_map (λ (b : Solution). b.value) (found_from dp (length p) d.layers)) ⊎ OneOf (Reaches dp (value_of dp x)) (map (λ (c : Subproblem). c.decisions) (filter_map (child_of dp k) layer)))) [
        | inl low ↦ inl low
        | inr s ↦ by-child dp laws p t d k m layer at place cut (value_of dp x) s
      ];
    }

-- the children of the last exact layer are sound
pub last-exact-is-sound : (dp : Dp) → IsLawful dp → (p : List ℕ) (w : ℕ) (t : Option ℤ) (d : DdLayers) → IsDiagram dp p w t d → length p < dp.vars → (o : Option ℕ) → d.first_reduced ≡ o → AreSound dp p t (found_from dp (length p) d.layers) (last_exact_from dp (length p) d.layers o)
last-exact-is-sound dp laws p w t d h short None e = unreduced dp laws p w t d h short e
last-exact-is-sound dp laws p w t d h short (Some depth) e =
    let r = reducible dp p w t depth (sym h.first_reduced ∙ e) in
    let low = r.below_first in let high = r.above_last in let long = h.depth in
    let at : slice_get d.layers (depth - 1 - length p) ≡ Some (get_or d.layers (depth - 1 - length p) []) = slice_get-get_or d.layers (depth - 1 - length p) [] (omega arith) in
    let done = reduced dp laws p w t d h short depth e (get_or d.layers (depth - 1 - length p) []) at in
    subst (λ (o : Option (List DdNode)). AreSound dp p t (found_from dp (length p) d.layers) (filter_map (child_of dp (depth - 1)) (unwrap_or o []))) (sym at) done
