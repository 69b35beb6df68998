-- The nodes of a diagram's children.
use Rattle.std.proofs.Common.{◌≡◌, ℕ, suc, ◌+◌, ◌-◌, ◌<◌, ◌≤◌, ℤ, Bool, true, false, cond, List, [], ◌∷◌, length, drop, slice_get, Option, Some, None, option_map, option_and_then, unwrap_or, inl, inr, IsTrue, refl, sym, ◌∙◌, ap, arith, add-zero}
use Rattle.std.proofs.lemmas.Bool.{and_parts}
use Rattle.std.specs.List.{cons_option}
use Rattle.dp_model.specs.Dp.{Dp}
use Rattle.dp_model.specs.declared.cut_kind.CutKind.{CutKind}
use Rattle.dp_model.specs.declared.cut_kind.CutKind.TheVariants.{LastExactLayer, Frontier}
use Rattle.dp_model.proofs.Members.{Has, each-of-all, Has-append-cases}
use Rattle.dp_laws.specs.Diagrams.Nodes.{DdNode, DdLayers, node_at}
use Rattle.dp_laws.specs.Diagrams.Seen.{IsDiagram, exact_layers}
use Rattle.dp_laws.specs.Diagrams.Cutsets.{bound_of, ChildAt, places_where, last_exact_at, is_border, leaves, all_borders_at, passes, outermost, path_at, frontier_at, children_at}
use Rattle.dp_laws.specs.Diagrams.Placed.{IsChildPlaced, ChildrenArePlaced}
use Rattle.dp_laws.proofs.Diagrams.Places.{Has-at}
use Rattle.dp_laws.proofs.Diagrams.Starts.{reducible}
use Rattle.dp_laws.proofs.Diagrams.LastExact.{all-exact}

-- a child among the nodes from the place i on
pub record AtPlace (test : DdNode → Bool) (dp : Dp) (k i : ℕ) (nodes : List DdNode) (c : ChildAt) : Type 0 where
  pub following : ℕ
  pub node : DdNode
  pub at : slice_get nodes following ≡ Some node
  pub depth : c.depth ≡ k
  pub place : c.place ≡ i + following
  pub tested : test node ≡ true
  pub bound : bound_of dp k node ≡ Some c.bound

pub in-places : (test : DdNode → Bool) (dp : Dp) (k i : ℕ) (nodes : List DdNode) (c : ChildAt) → Has c (places_where test dp k i nodes) → AtPlace test dp k i nodes c
in-places test dp k i [] c h = absurd h
in-places test dp k i (node ∷ nodes) c h =
    let rest = places_where test dp k (i + 1) nodes in
    let later : Has c rest → AtPlace test dp k i (node ∷ nodes) c = λ has. (
    let a = in-places test dp k (i + 1) nodes c has in
    record { following = suc a.following; node = a.node; at = a.at; depth = a.depth; place = (let e = a.place in omega arith); tested = a.tested; bound = a.bound }) in
    elim (test node) as (λ b. test node ≡ b → Has c (cons_option (cond b (option_map (λ bound. record { depth = k; place = i; bound = bound }) (bound_of dp k node)) None) rest) → AtPlace test dp k i (node ∷ nodes) c) [
      | true ↦ λ e. elim (bound_of dp k node) as (λ o. bound_of dp k node ≡ o → Has c (cons_option (option_map (λ bound. record { depth = k; place = i; bound = bound }) o) rest) → AtPlace test dp k i (node ∷ nodes) c) [
        | None ↦ λ f has. later has
        | Some bound ↦ λ f has. elim has as (λ _. AtPlace test dp k i (node ∷ nodes) c) [
          | inl same ↦ record {
            following = 0;
            node = node;
            at = refl;
            depth = ap (λ (x : ChildAt). x.depth) (sym same);
            place = ap (λ (x : ChildAt). x.place) (sym same) ∙ sym (add-zero i);
            tested = e;
            bound = f ∙ ap (λ (x : ChildAt). Some x.bound) same;
          }
          | inr has ↦ later has
        ]
      ] refl
      | false ↦ λ e has. later has
    ] refl h

-- what is left of a list was on it
pub left-from : {X : Type 0} (path : X → List ℕ) (kept xs : List X) (x : X) → Has x (outermost path kept xs) → Has x xs
left-from path kept [] x h = absurd h
left-from path kept (y ∷ xs) x h =
    elim (passes path kept (path y)) as (λ b. Has x (cond b (outermost path kept xs) (y ∷ outermost path (y ∷ kept) xs)) → Has x (y ∷ xs)) [
      | true ↦ λ k. inr (left-from path kept xs x k)
      | false ↦ λ k. elim k as (λ _. Has x (y ∷ xs)) [ inl same ↦ inl same | inr later ↦ inr (left-from path (y ∷ kept) xs x later) ]
    ] h

-- a border, with the layer of its node
pub record AtBorder (dp : Dp) (k : ℕ) (layers : List (List DdNode)) (c : ChildAt) : Type 0 where
  pub under : ℕ
  pub layer : List DdNode
  pub at : slice_get layers under ≡ Some layer
  pub more : under + 1 < length layers
  pub depth : c.depth ≡ k + under
  pub node : DdNode
  pub is : slice_get layer c.place ≡ Some node
  pub exact : IsTrue node.exact
  pub bound : bound_of dp c.depth node ≡ Some c.bound

plain : (n : ℕ) → 0 + n ≡ n
plain n = omega arith

pub in-borders-at : (dp : Dp) (k : ℕ) (layers : List (List DdNode)) (c : ChildAt) → Has c (all_borders_at dp k layers) → AtBorder dp k layers c
in-borders-at dp k [] c h = absurd h
in-borders-at dp k (layer ∷ []) c h = absurd h
in-borders-at dp k (layer ∷ next ∷ rest) c h =
    elim (Has-append-cases c (places_where (is_border next) dp k 0 layer) (all_borders_at dp (k + 1) (next ∷ rest)) h) as (λ _. AtBorder dp k (layer ∷ next ∷ rest) c) [
      | inl here ↦ (
          let a = in-places (is_border next) dp k 0 layer c here in
          let place : c.place ≡ a.following = a.place ∙ plain a.following in
          record {
            under = 0;
            layer = layer;
            at = refl;
            more = omega arith;
            depth = a.depth ∙ sym (add-zero k);
            node = a.node;
            is = ap (slice_get layer) place ∙ a.at;
            exact = (and_parts a.node.exact (leaves next a.node.arcs) a.tested).0;
            bound = ap (λ n. bound_of dp n a.node) a.depth ∙ a.bound;
          })
      | inr later ↦ (
          let b = in-borders-at dp (k + 1) (next ∷ rest) c later in
          record {
            under = suc b.under;
            layer = b.layer;
            at = b.at;
            more = (let more = b.more in omega arith);
            depth = (let depth = b.depth in omega arith);
            node = b.node;
            is = b.is;
            exact = b.exact;
            bound = b.bound;
          })
    ]

pub in-drop : {X : Type 0} (xs : List X) (i : ℕ) (x : X) → slice_get (drop 1 xs) i ≡ Some x → slice_get xs (i + 1) ≡ Some x
in-drop [] i x e = absurd (let none : None ≡ Some x = e in cc)
in-drop (y ∷ xs) i x e = (let same : i + 1 ≡ suc i = omega arith in ap (slice_get (y ∷ xs)) same) ∙ e

pub length-tail : {X : Type 0} (xs : List X) → 1 ≤ length xs → length (drop 1 xs) + 1 ≡ length xs
length-tail [] h = absurd (omega arith)
length-tail (x ∷ xs) h = omega arith

node-is : (d : DdLayers) (depth place : ℕ) (layer : List DdNode) (node : DdNode) → slice_get d.layers (depth - d.first) ≡ Some layer → slice_get layer place ≡ Some node → node_at d depth place ≡ Some node
node-is d depth place layer node at is = ap (λ o. option_and_then (λ (l : List DdNode). slice_get l place) o) at ∙ is

frontier-placed : (dp : Dp) (p : List ℕ) (w : ℕ) (t : Option ℤ) (d : DdLayers) → length p < dp.vars → IsDiagram dp p w t d → (c : ChildAt) → Has c (frontier_at dp d) → IsChildPlaced dp d c
frontier-placed dp p w t d short h c has =
    let b = in-borders-at dp (d.first + 1) (drop 1 d.layers) c (left-from (path_at d) [] (all_borders_at dp (d.first + 1) (drop 1 d.layers)) c has) in
    let depth = b.depth in
    let long = h.depth in
    let first = h.first in
    let tail = length-tail d.layers (omega arith) in
    let more = b.more in
    let place : c.depth - d.first ≡ b.under + 1 = omega arith in
    let at : slice_get d.layers (c.depth - d.first) ≡ Some b.layer = ap (slice_get d.layers) place ∙ in-drop d.layers b.under b.layer b.at in
    record {
      node = b.node;
      is = node-is d c.depth c.place b.layer b.node at b.is;
      exact = b.exact;
      below = omega arith;
      above = omega arith;
      bound = b.bound;
    }

last-placed : (dp : Dp) (p : List ℕ) (w : ℕ) (t : Option ℤ) (d : DdLayers) → length p < dp.vars → IsDiagram dp p w t d → (o : Option ℕ) → d.first_reduced ≡ o → (c : ChildAt) → Has c (last_exact_at dp d o) → IsChildPlaced dp d c
last-placed dp p w t d short h None e c has = absurd has
last-placed dp p w t d short h (Some depth) e c has =
    let r = reducible dp p w t depth (sym h.first_reduced ∙ e) in
    let low = r.below_first in let high = r.above_last in let long = h.depth in
    let first = h.first in
    let k = depth - 1 in
    let split : (o : Option (List DdNode)) → slice_get d.layers (k - d.first) ≡ o → Has c (places_where (λ node. true) dp k 0 (unwrap_or o [])) → IsChildPlaced dp d c = λ o.
    elim o as (λ o. slice_get d.layers (k - d.first) ≡ o → Has c (places_where (λ node. true) dp k 0 (unwrap_or o [])) → IsChildPlaced dp d c) [
      | None ↦ λ at has. absurd has
      | Some layer ↦ λ at has. (
          let a = in-places (λ node. true) dp k 0 layer c has in
          let place : c.place ≡ a.following = a.place ∙ plain a.following in
          let is : slice_get layer c.place ≡ Some a.node = ap (slice_get layer) place ∙ a.at in
          let depth_is = a.depth in
          let less : k - d.first < exact_layers dp.vars (length p) d.first_reduced = rw e (omega arith) in
          let exact = all-exact dp p w t d h (exact_layers dp.vars (length p) d.first_reduced) (k - d.first) refl less layer at a.node (Has-at layer a.following a.node a.at) in
          let same : c.depth - d.first ≡ k - d.first = omega arith in
          record {
            node = a.node;
            is = node-is d c.depth c.place layer a.node (ap (slice_get d.layers) same ∙ at) is;
            exact = exact;
            below = omega arith;
            above = omega arith;
            bound = ap (λ n. bound_of dp n a.node) a.depth ∙ a.bound;
          })
    ] in
    split (slice_get d.layers (k - d.first)) refl has

pub placed : (dp : Dp) (p : List ℕ) (w : ℕ) (t : Option ℤ) (d : DdLayers) (kind : CutKind) → length p < dp.vars → IsDiagram dp p w t d → (c : ChildAt) → Has c (children_at dp d kind) → IsChildPlaced dp d c
placed dp p w t d LastExactLayer short h c has = last-placed dp p w t d short h d.first_reduced refl c has
placed dp p w t d Frontier short h c has = frontier-placed dp p w t d short h c has

pub children-placed : (dp : Dp) → ChildrenArePlaced dp
children-placed dp p w t d kind short h = each-of-all (IsChildPlaced dp d) (children_at dp d kind) (placed dp p w t d kind short h)
