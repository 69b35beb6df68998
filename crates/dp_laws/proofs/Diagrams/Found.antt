-- The found solution of a diagram.
use Rattle.std.proofs.Common.{◌≡◌, ℕ, ◌+◌, ◌-◌, ◌<◌, ℤ, ◌≤ℤ◌, true, false, cond, List, [], ◌∷◌, ◌++◌, length, drop, slice_get, get_or, Option, Some, None, option_map, unwrap_or, inl, inr, IsTrue, refl, sym, ◌∙◌, ap, subst, arith}
use Rattle.std.proofs.lemmas.Int.{ints}
use Rattle.std.proofs.lemmas.List.{take-append-drop}
use Rattle.std.proofs.lemmas.Option.{slice_get-get_or}
use Rattle.dp_model.specs.Dp.{Dp}
use Rattle.dp_model.specs.Solution.{Solution}
use Rattle.dp_model.specs.Numbers.{AtMost}
use Rattle.dp_model.proofs.Members.{Has, each-has}
use Rattle.dp_laws.specs.Diagrams.Nodes.{DdNode, DdLayers}
use Rattle.dp_laws.specs.Diagrams.Seen.{IsReachedBy, IsDiagram, FallFrom}
use Rattle.dp_laws.specs.Children.{IsCompletionWith, FoundCompletes}
use Rattle.dp_laws.specs.Diagrams.Cutsets.{first_exact}
use Rattle.dp_laws.proofs.Diagrams.Children.{found_from}
use Rattle.dp_laws.proofs.Diagrams.Places.{same-Some}
use Rattle.dp_laws.proofs.Diagrams.Walks.{KeepsAt, keeps-at}

-- the node that is found
pub record FoundAt (nodes : List DdNode) (b : Solution) : Type 0 where
  pub node : DdNode
  pub has : Has node nodes
  pub exact : IsTrue node.exact
  pub is : b ≡ record { decisions = node.path; value = node.value }

found-at : (nodes : List DdNode) (b : Solution) → first_exact nodes ≡ Some b → FoundAt nodes b
found-at [] b e = absurd (let none : None ≡ Some b = e in cc)
found-at (node ∷ nodes) b e =
    elim node.exact as (λ v. node.exact ≡ v → cond v (Some (record { decisions = node.path; value = node.value })) (first_exact nodes) ≡ Some b → FoundAt (node ∷ nodes) b) [
      | true ↦ λ t h. record { node = node; has = inl refl; exact = t; is = sym (same-Some (record { decisions = node.path; value = node.value }) b h) }
      | false ↦ λ t h. (let later = found-at nodes b h in record { node = later.node; has = inr later.has; exact = later.exact; is = later.is })
    ] refl e

-- no exact node of a layer that falls in value exceeds the first one
pub first-greatest : (nodes : List DdNode) → FallFrom nodes → (node : DdNode) → Has node nodes → IsTrue node.exact → AtMost node.value (option_map (λ (b : Solution). b.value) (first_exact nodes))
first-greatest [] falls node has exact = absurd has
first-greatest (one ∷ rest) falls node (inl same) exact =
    let is : one.exact ≡ true = ap (λ (x : DdNode). x.exact) same ∙ exact in
    rw is (subst (λ (x : DdNode). x.value ≤ℤ one.value) same (omega (arith, ints)))
first-greatest (one ∷ rest) falls node (inr later) exact =
    elim one.exact as (λ v. AtMost node.value (option_map (λ (b : Solution). b.value) (cond v (Some (record { decisions = one.path; value = one.value })) (first_exact rest)))) [
      | true ↦ each-has (λ (x : DdNode). x.value ≤ℤ one.value) rest node falls.0 later
      | false ↦ first-greatest rest falls.1 node later exact
    ]

-- the last layer of a diagram
pub record HasLast (dp : Dp) (p : List ℕ) (w : ℕ) (t : Option ℤ) (d : DdLayers) : Type 0 where
  pub layer : List DdNode
  pub at : slice_get d.layers (dp.vars - length p) ≡ Some layer
  pub keeps : KeepsAt dp p w t dp.vars layer
  pub falls : FallFrom layer
  pub found : found_from dp (length p) d.layers ≡ first_exact layer

pub last-of : (dp : Dp) (p : List ℕ) (w : ℕ) (t : Option ℤ) (d : DdLayers) → IsDiagram dp p w t d → length p < dp.vars → HasLast dp p w t d
last-of dp p w t d h short =
    let long = h.depth in
    let at : slice_get d.layers (dp.vars - length p) ≡ Some (get_or d.layers (dp.vars - length p) []) = slice_get-get_or d.layers (dp.vars - length p) [] (omega arith) in
    let same : length p + (dp.vars - length p) ≡ dp.vars = omega arith in
    record {
      layer = get_or d.layers (dp.vars - length p) [];
      at = at;
      keeps = subst (λ n. KeepsAt dp p w t n (get_or d.layers (dp.vars - length p) [])) same (keeps-at dp p w t (length p) (dp.vars - length p) d.layers h.layer (get_or d.layers (dp.vars - length p) []) at);
      falls = subst (λ o. FallFrom (unwrap_or o [])) at h.order;
      found = ap (λ o. first_exact (unwrap_or o [])) at;
    }

-- an exact node of the last layer completes the prefix
completes : (dp : Dp) (p : List ℕ) (node : DdNode) → IsReachedBy dp p dp.vars node → IsCompletionWith dp p node.path node.value
completes dp p node r = record {
  completion = record {
    solution = record { prefix = r.prefix; whole = r.depth };
    rest = drop (length p) node.path;
    begins = sym (take-append-drop (length p) node.path) ∙ ap (λ l. l ++ drop (length p) node.path) r.begins;
  };
  value = r.value;
}

found-holds : (dp : Dp) (p : List ℕ) (w : ℕ) (t : Option ℤ) (layer : List DdNode) → KeepsAt dp p w t dp.vars layer → (o : Option Solution) → first_exact layer ≡ o → FoundCompletes dp p o
found-holds dp p w t layer k None e = tt
found-holds dp p w t layer k (Some b) e =
    let at = found-at layer b e in
    let reached = each-has (λ (n : DdNode). IsTrue n.exact → IsReachedBy dp p dp.vars n) layer at.node k.keeps.exact at.has at.exact in
    subst (λ (x : Solution). IsCompletionWith dp p x.decisions x.value) (sym at.is) (completes dp p at.node reached)

pub found-is-sound : (dp : Dp) (p : List ℕ) (w : ℕ) (t : Option ℤ) (d : DdLayers) → IsDiagram dp p w t d → length p < dp.vars → FoundCompletes dp p (found_from dp (length p) d.layers)
found-is-sound dp p w t d h short =
    let last = last-of dp p w t d h short in
    rw last.found (found-holds dp p w t last.layer last.keeps (first_exact last.layer) refl)
