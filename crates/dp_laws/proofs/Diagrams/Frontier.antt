-- The children of the frontier are sound.
use Rattle.std.proofs.Common.{◌≡◌, ℕ, zero, suc, ◌+◌, ◌-◌, ◌<◌, ℤ, pos, ◌+ℤ◌, ◌≤ℤ◌, Bool, true, false, not, ◌&&◌, ◌||◌, List, [], ◌∷◌, ◌++◌, length, map, filter, drop, slice_get, Option, Some, None, option_map, ◌⊎◌, inl, inr, IsTrue, refl, sym, ◌∙◌, ap, subst, arith}
use Rattle.std.proofs.lemmas.Int.{ints}
use Rattle.dp_model.specs.Dp.{Dp}
use Rattle.dp_model.specs.Solution.{Solution}
use Rattle.dp_model.specs.Cover.{IsHeld}
use Rattle.dp_model.specs.Gaps.{IsStateOf}
use Rattle.dp_model.specs.Laws.{IsLawful}
use Rattle.dp_model.specs.Lists.{OneOf}
use Rattle.dp_model.specs.Numbers.{AtMost}
use Rattle.dp_model.specs.Prefixes.{IsContinuation, Reaches, gain_of, state_of, value_of}
use Rattle.dp_model.specs.Subproblem.{Subproblem, IsChild}
use Rattle.dp_model.proofs.Members.{Has, each-has, each-of-all, one-of-has, Has-map, Has-append-left, Has-filter}
use Rattle.dp_model.proofs.Paths.{continued, value_of-split}
use Rattle.dp_laws.specs.declared.arc.DdArc.{DdArc}
use Rattle.dp_laws.specs.Diagrams.Nodes.{DdNode, DdLayers}
use Rattle.dp_laws.specs.Diagrams.Seen.{IsReachedBy, AreLayers, IsDiagram, exact_layers}
use Rattle.dp_laws.specs.Children.{AreSound}
use Rattle.dp_laws.specs.Diagrams.Cutsets.{is_inexact, leads_out, leaves, outermost}
use Rattle.dp_laws.proofs.Diagrams.Children.{child_of, borders, all_borders, path_of, frontier_from, found_from}
use Rattle.dp_laws.proofs.Diagrams.Places.{same-Some, Has-at, Has-filter_map}
use Rattle.dp_laws.proofs.Diagrams.Following.{goes-on, states-of}
use Rattle.dp_laws.proofs.Diagrams.Suffixes.{bounded, at_most-below}
use Rattle.dp_laws.proofs.Diagrams.ChildFacts.{MatchedBy, is-child, is-held, matched}
use Rattle.dp_laws.proofs.Diagrams.Apart.{all-apart, all-differ}
use Rattle.dp_laws.proofs.Diagrams.Starts.{reducible, starts}
use Rattle.dp_laws.proofs.Diagrams.Found.{last-of, first-greatest, found-is-sound}
use Rattle.dp_laws.proofs.Diagrams.LastExact.{all-exact}
use Rattle.dp_laws.proofs.Diagrams.Borders.{BorderOf, border-of, in-turn}
use Rattle.dp_laws.proofs.Diagrams.Outermost.{outermost-from, outermost-matches, outermost-apart}

-- an arc to an inexact node is found
leaves-by : (next : List DdNode) (arcs : List DdArc) (arc : DdArc) → Has arc arcs → leads_out next arc.target ≡ true → IsTrue (leaves next arcs)
leaves-by next [] arc h e = absurd h
leaves-by next (a ∷ arcs) arc (inl same) e =
    let here : leads_out next a.target ≡ true = ap (λ (x : DdArc). leads_out next x.target) same ∙ e in
    rw here refl
leaves-by next (a ∷ arcs) arc (inr later) e =
    let rest : IsTrue (leaves next arcs) = leaves-by next arcs arc later e in
    elim (leads_out next a.target) as (λ b. IsTrue (b || leaves next arcs)) [ true ↦ refl | false ↦ rest ]

-- what the last of the layers is
abbrev IsLast : List (List DdNode) → List DdNode → Type 0
IsLast [] last = ⊥
IsLast (layer ∷ []) last = layer ≡ last
IsLast (layer ∷ next ∷ rest) last = IsLast (next ∷ rest) last

-- a completion comes to the threshold, to what is found, or to a border
abbrev ComesTo : Dp → Option ℤ → Option ℤ → List Subproblem → ℤ → Type 0
ComesTo dp t found children v = AtMost v t ⊎ (AtMost v found ⊎ OneOf (Reaches dp v) (map (λ (c : Subproblem). c.decisions) children))

reaches-less : (dp : Dp) (v w : ℤ) (q : List ℕ) → v ≤ℤ w → Reaches dp w q → Reaches dp v q
reaches-less dp v w q low r = record { by = r.by; completion = r.completion; least = (let least = r.least in omega (arith, ints)) }

reaches-in : (dp : Dp) (xs ys : List Subproblem) (v w : ℤ) → v ≤ℤ w → OneOf (Reaches dp w) (map (λ (c : Subproblem). c.decisions) ys) → OneOf (Reaches dp v) (map (λ (c : Subproblem). c.decisions) (xs ++ ys))
reaches-in dp [] [] v w low h = absurd h
reaches-in dp [] (y ∷ ys) v w low (inl here) = inl (reaches-less dp v w y.decisions low here)
reaches-in dp [] (y ∷ ys) v w low (inr later) = inr (reaches-in dp [] ys v w low later)
reaches-in dp (x ∷ xs) ys v w low h = inr (reaches-in dp xs ys v w low h)

later-border : (dp : Dp) (t found : Option ℤ) (xs ys : List Subproblem) (v w : ℤ) → v ≤ℤ w → ComesTo dp t found ys w → ComesTo dp t found (xs ++ ys) v
later-border dp t found xs ys v w low (inl a) = inl (at_most-below v w t low a)
later-border dp t found xs ys v w low (inr (inl a)) = inr (inl (at_most-below v w found low a))
later-border dp t found xs ys v w low (inr (inr a)) = inr (inr (reaches-in dp xs ys v w low a))

by-border : (dp : Dp) (t found : Option ℤ) (k : ℕ) (layer next : List DdNode) (more : List Subproblem) (node : DdNode) (v : ℤ) → Has node layer → IsTrue node.exact → IsTrue (leaves next node.arcs) → AtMost v t ⊎ MatchedBy dp k node v
    → ComesTo dp t found (borders dp k layer next ++ more) v
by-border dp t found k layer next more node v has exact out (inl low) = inl low
by-border dp t found k layer next more node v has exact out (inr m) =
    let Test : DdNode → Bool = λ (n : DdNode). n.exact && leaves next n.arcs in
    let tested : IsTrue (node.exact && leaves next node.arcs) = rw exact out in
    let listed = Has-filter Test layer node has tested in
    let child = Has-append-left m.child (borders dp k layer next) more (Has-filter_map (child_of dp k) (filter Test layer) node m.child listed m.is) in
    inr (inr (one-of-has (Reaches dp v) (map (λ (c : Subproblem). c.decisions) (borders dp k layer next ++ more)) m.child.decisions m.reaches (Has-map (λ (c : Subproblem). c.decisions) (borders dp k layer next ++ more) m.child child)))

comes-to : (dp : Dp) → IsLawful dp → (p : List ℕ) (w : ℕ) (t found : Option ℤ) (k : ℕ) (layer : List DdNode) (more : List (List DdNode)) (last : List DdNode) → AreLayers dp p w t k (layer ∷ more) → k + length more ≡ dp.vars → IsLast (layer ∷ more) last
    → ((x : DdNode) → Has x last → IsTrue x.exact → AtMost x.value found) → (node : DdNode) → Has node layer → IsTrue node.exact → (c : List ℕ) → IsContinuation dp k node.row c
    → ComesTo dp t found (all_borders dp k (layer ∷ more)) (node.value +ℤ gain_of dp k node.row c)
comes-to dp laws p w t found k layer [] last all e ends best node has exact [] path =
    let top = best node (subst (λ ns. Has node ns) ends has) exact in
    let sum : node.value ≡ node.value +ℤ pos 0 = omega (arith, ints) in
    inr (inl (subst (λ z. AtMost z found) sum top))
comes-to dp laws p w t found k layer [] last all e ends best node has exact (d ∷ c) path = absurd (let whole : k + length (d ∷ c) ≡ dp.vars = path.whole in omega arith)
comes-to dp laws p w t found k layer (next ∷ rest) last all e ends best node has exact c path =
    let v = node.value +ℤ gain_of dp k node.row c in
    let later = all_borders dp (k + 1) (next ∷ rest) in
    let Goal : Type 0 = ComesTo dp t found (borders dp k layer next ++ later) v in
    let reached = each-has (λ (n : DdNode). IsTrue n.exact → IsReachedBy dp p k n) layer node all.0.exact has exact in
    let state : IsStateOf dp k node.row = record { layer = omega arith; test = each-has (λ (n : DdNode). IsTrue (dp.is_state k n.row)) layer node all.0.states has } in
    elim (goes-on dp laws p w t k layer next all.0 (states-of dp p w t (k + 1) next rest all.1) node has (omega arith) c path) as (λ _. Goal) [
      | inl low ↦ inl low
      | inr g ↦ (
          let low : v ≤ℤ (g.target.value +ℤ gain_of dp (k + 1) g.target.row g.by) = (let a = g.reached in let b = g.kept in omega (arith, ints)) in
          elim g.target.exact as (λ b. g.target.exact ≡ b → Goal) [
            | true ↦ λ x. later-border dp t found (borders dp k layer next) later v (g.target.value +ℤ gain_of dp (k + 1) g.target.row g.by) low
                (comes-to dp laws p w t found (k + 1) next rest last all.1 (omega arith) ends best g.target (Has-at next g.place g.target g.at) x g.by g.continuation)
            | false ↦ λ x. (
                let out : leads_out next g.arc.target ≡ true = ap (leads_out next) g.aims ∙ (ap is_inexact g.at ∙ ap not x) in
                by-border dp t found k layer next later node v has exact (leaves-by next node.arcs g.arc g.has out)
                (matched dp laws p t k node c v reached state path (omega (arith, ints)) (bounded dp laws p w t k layer (next ∷ rest) all e node has c path)))
          ] refl)
    ]

-- From the root of the diagram on.

-- the last of the layers, by its place
is-last : (layers : List (List DdNode)) (m : ℕ) (layer : List DdNode) → length layers ≡ m + 1 → slice_get layers m ≡ Some layer → IsLast layers layer
is-last [] m layer long at = absurd (omega arith)
is-last (one ∷ []) zero layer long at = same-Some one layer at
is-last (one ∷ []) (suc m) layer long at = absurd (omega arith)
is-last (one ∷ next ∷ rest) zero layer long at = absurd (let none : length (next ∷ rest) ≡ 0 = omega arith in omega arith)
is-last (one ∷ next ∷ rest) (suc m) layer long at = is-last (next ∷ rest) m layer (omega arith) at

pub some-below : (dp : Dp) (p : List ℕ) (w : ℕ) (t : Option ℤ) (d : DdLayers) → IsDiagram dp p w t d → length p < dp.vars → (o : Option ℕ) → d.first_reduced ≡ o → 1 < exact_layers dp.vars (length p) o
some-below dp p w t d h short None e = omega arith
some-below dp p w t d h short (Some depth) e = let r = reducible dp p w t depth (sym h.first_reduced ∙ e) in let low = r.below_first in omega arith

comes-from : (dp : Dp) → IsLawful dp → (p : List ℕ) (w : ℕ) (t found : Option ℤ) (k : ℕ) (root : DdNode) (next : List DdNode) (rest : List (List DdNode)) (last : List DdNode) → AreLayers dp p w t k ((root ∷ []) ∷ next ∷ rest) → k + length (next ∷ rest) ≡ dp.vars → IsLast (next ∷ rest) last
    → ((x : DdNode) → Has x last → IsTrue x.exact → AtMost x.value found) → ((x : DdNode) → Has x next → IsTrue x.exact) → (c : List ℕ) → IsContinuation dp k root.row c
    → ComesTo dp t found (all_borders dp (k + 1) (next ∷ rest)) (root.value +ℤ gain_of dp k root.row c)
comes-from dp laws p w t found k root next rest last all e ends best exact c path =
    let v = root.value +ℤ gain_of dp k root.row c in
    elim (goes-on dp laws p w t k (root ∷ []) next all.0 (states-of dp p w t (k + 1) next rest all.1) root (inl refl) (omega arith) c path) as (λ _. ComesTo dp t found (all_borders dp (k + 1) (next ∷ rest)) v) [
      | inl low ↦ inl low
      | inr g ↦ (
          let low : v ≤ℤ (g.target.value +ℤ gain_of dp (k + 1) g.target.row g.by) = (let a = g.reached in let b = g.kept in omega (arith, ints)) in
          let has = Has-at next g.place g.target g.at in
          later-border dp t found [] (all_borders dp (k + 1) (next ∷ rest)) v (g.target.value +ℤ gain_of dp (k + 1) g.target.row g.by) low
          (comes-to dp laws p w t found (k + 1) next rest last all.1 (omega arith) ends best g.target has (exact g.target has) g.by g.continuation))
    ]

with-outermost : (dp : Dp) (t found : Option ℤ) (cs : List Subproblem) (v : ℤ) → ComesTo dp t found cs v → ComesTo dp t found (outermost path_of [] cs) v
with-outermost dp t found cs v (inl a) = inl a
with-outermost dp t found cs v (inr (inl a)) = inr (inl a)
with-outermost dp t found cs v (inr (inr a)) = elim (outermost-matches dp v [] cs a) as (λ _. ComesTo dp t found (outermost path_of [] cs) v) [ inl none ↦ absurd none | inr left ↦ inr (inr left) ]

-- with the layers written out
written-out : (dp : Dp) → IsLawful dp → (p : List ℕ) (w : ℕ) (t : Option ℤ) (d : DdLayers) → IsDiagram dp p w t d → length p < dp.vars → (root : DdNode) (more : List (List DdNode)) → d.layers ≡ (root ∷ []) ∷ more → root.row ≡ state_of dp p → root.value ≡ value_of dp p
    → AreSound dp p t (found_from dp (length p) d.layers) (outermost path_of [] (all_borders dp (length p + 1) more))
written-out dp laws p w t d h short root [] are row value = absurd (let long = h.depth in let count = ap length are in omega arith)
written-out dp laws p w t d h short root (next ∷ rest) are row value =
    let k = length p in
    let all : AreLayers dp p w t k ((root ∷ []) ∷ next ∷ rest) = subst (λ ds. AreLayers dp p w t k ds) are h.layer in
    let long = h.depth in
    let count : length d.layers ≡ suc (length (next ∷ rest)) = ap length are in
    let e : k + length (next ∷ rest) ≡ dp.vars = omega arith in
    let e' : k + 1 + length rest ≡ dp.vars = omega arith in
    let l = last-of dp p w t d h short in
    let ends : IsLast ((root ∷ []) ∷ next ∷ rest) l.layer = is-last ((root ∷ []) ∷ next ∷ rest) (dp.vars - k) l.layer (sym count ∙ long) (subst (λ ds. slice_get ds (dp.vars - k) ≡ Some l.layer) are l.at) in
    let best : (x : DdNode) → Has x l.layer → IsTrue x.exact → AtMost x.value (option_map (λ (b : Solution). b.value) (found_from dp k d.layers)) = λ x has t. rw l.found (first-greatest l.layer l.falls x has t) in
    let at : slice_get d.layers 1 ≡ Some next = ap (λ ds. slice_get ds 1) are in
    let exact : (x : DdNode) → Has x next → IsTrue x.exact = λ x has. all-exact dp p w t d h (exact_layers dp.vars k d.first_reduced) 1 refl (some-below dp p w t d h short d.first_reduced refl) next at x has in
    let cs = all_borders dp (k + 1) (next ∷ rest) in
    let from : (c : Subproblem) → Has c cs → BorderOf dp p t (k + 1) c = border-of dp laws p w t (k + 1) next rest all.1 e' in
    let child : (c : Subproblem) → Has c cs → IsChild dp p c = λ c has. (let b = from c has in let low = b.below_first in is-child dp p b.depth b.node c b.reached b.child (omega arith) b.above_last) in
    let two = outermost-apart dp [] cs (λ c has. (child c has).own) (in-turn dp laws p w t (k + 1) next rest all.1 e') in
    record {
      own = each-of-all (IsChild dp p) (outermost path_of [] cs) (λ c has. child c (outermost-from [] cs c has));
      apart = all-apart (outermost path_of [] cs) two;
      differ = all-differ (outermost path_of [] cs) two;
      held = each-of-all (λ (c : Subproblem). IsHeld dp t c.decisions c.bound) (outermost path_of [] cs) (λ c has. (let b = from c (outermost-from [] cs c has) in is-held dp laws p t b.depth b.node c b.reached b.state b.child b.bounds));
      solution = found-is-sound dp p w t d h short;
      matched = λ x completion. (
          let path : IsContinuation dp k root.row completion.rest = subst (λ s. IsContinuation dp k s completion.rest) (sym row) (continued dp p x completion) in
          let sum : root.value +ℤ gain_of dp k root.row completion.rest ≡ value_of dp x =
          ap (λ z. z +ℤ gain_of dp k root.row completion.rest) value ∙ (ap (λ s. value_of dp p +ℤ gain_of dp k s completion.rest) row ∙ sym (value_of-split dp p x completion)) in
          let found = option_map (λ (b : Solution). b.value) (found_from dp k d.layers) in
          with-outermost dp t found cs (value_of dp x) (subst (λ z. ComesTo dp t found cs z) sum (comes-from dp laws p w t found k root next rest l.layer all e ends best exact completion.rest path)));
    }

-- the children of the frontier are sound
pub frontier-is-sound : (dp : Dp) → IsLawful dp → (p : List ℕ) (w : ℕ) (t : Option ℤ) (d : DdLayers) → IsDiagram dp p w t d → length p < dp.vars → AreSound dp p t (found_from dp (length p) d.layers) (frontier_from dp (length p) d.layers)
frontier-is-sound dp laws p w t d h short =
    let start = starts dp p w t d h short in
    let below : drop 1 d.layers ≡ start.more = ap (λ ds. drop 1 ds) start.are in
    subst (λ ms. AreSound dp p t (found_from dp (length p) d.layers) (outermost path_of [] (all_borders dp (length p + 1) ms))) (sym below)
    (written-out dp laws p w t d h short start.root start.more start.are start.row start.value)
