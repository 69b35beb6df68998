-- The kept paths of exact nodes lead through exact nodes.
use Rattle.std.proofs.Common.{◌≡◌, ℕ, zero, suc, ◌+◌, ◌-◌, ◌<◌, ℤ, true, false, cond, List, [], ◌∷◌, ◌++◌, length, map, take, drop, slice_get, Option, Some, None, ◌⊎◌, inl, inr, IsTrue, refl, sym, ◌∙◌, ap, subst, arith, length-append}
use Rattle.std.proofs.lemmas.List.{take-append-le, take_all}
use Rattle.dp_model.specs.Dp.{Dp}
use Rattle.dp_model.specs.Prefixes.{state_of}
use Rattle.dp_model.specs.Reached.{Reached, reached}
use Rattle.dp_model.proofs.Members.{Has, Has-map-from, Has-append-cases}
use Rattle.dp_model.proofs.Paths.{state_of-then}
use Rattle.dp_laws.specs.Diagrams.Nodes.{DdNode, node_at}
use Rattle.dp_laws.specs.Diagrams.Seen.{decisions_at, suffix_from}
use Rattle.dp_laws.specs.Rules.Redirects.{Redirect, with_redirected}
use Rattle.dp_laws.specs.Rules.Expanding.{is_exact_row, new_layer, with_arcs}
use Rattle.dp_laws.specs.Rules.Pruning.{prune_redirects}
use Rattle.dp_laws.specs.Rules.Reducing.{merged_node, merge_redirects}
use Rattle.dp_laws.specs.Rules.Compiling.{expand, prune, merge_rest, is_wide, built, compiled, with_suffixes, start_layer, relaxed, first_of_layers}
use Rattle.dp_laws.specs.Rules.Stems.{ExactStemFromExact}
use Rattle.dp_laws.proofs.Diagrams.Places.{same-Some, Has-at}
use Rattle.dp_laws.proofs.Diagrams.Fits.{layer-of}
use Rattle.dp_laws.proofs.Rules.Layers.{LooksSame}
use Rattle.dp_laws.proofs.Rules.Redirecting.{followed_node}
use Rattle.dp_laws.proofs.Rules.Expanded.{with_arcs_of, new-node, exact-maker, makes-by}
use Rattle.dp_laws.proofs.Rules.Pruned.{pruned-has}
use Rattle.dp_laws.proofs.Rules.Built.{in-take}

-- What a layer keeps: a path of full length tells the row and whether the node is exact.

record AreTold (dp : Dp) (k : ℕ) (layer : List DdNode) : Type 0 where
  rows : (x : DdNode) → Has x layer → length x.path ≡ k → x.row ≡ state_of dp x.path
  exact : (x y : DdNode) → Has x layer → Has y layer → length x.path ≡ k → x.path ≡ y.path → x.exact ≡ y.exact

-- the node that a new one comes from
record ComesFrom (dp : Dp) (k : ℕ) (layer : List DdNode) (y : DdNode) : Type 0 where
  node : DdNode
  has : Has node layer
  decision : ℕ
  path : y.path ≡ node.path ++ decision ∷ []
  row : y.row ≡ dp.step k node.row decision
  exact : y.exact ≡ is_exact_row dp k layer y.row
  maker : IsTrue y.exact → IsTrue node.exact

comes-from : (dp : Dp) (k : ℕ) (layer : List DdNode) (y : DdNode) → k < dp.vars → Has y (new_layer dp k layer) → ComesFrom dp k layer y
comes-from dp k layer y low has =
    let n = new-node dp k layer y low has in
    let m = n.made in
    let row : y.row ≡ n.best.row = ap (λ (x : DdNode). x.row) n.is in
    record {
      node = m.node;
      has = m.has;
      decision = m.decision;
      path = ap (λ (x : DdNode). x.path) n.is ∙ ap (λ (r : Reached). r.decisions) m.is;
      row = row ∙ ap (λ (r : Reached). r.row) m.is;
      exact = ap (λ (x : DdNode). x.exact) n.is ∙ ap (is_exact_row dp k layer) (sym row);
      maker = λ exact. (
          let all-exact : IsTrue (is_exact_row dp k layer n.best.row) = ap (λ (x : DdNode). x.exact) (sym n.is) ∙ exact in
          exact-maker dp k layer n.best.row all-exact m.node m.has (makes-by dp k m.node.row (decisions_at dp k m.node.row) m.decision n.best.row m.listed (sym (ap (λ (r : Reached). r.row) m.is))));
    }

front-of : (k : ℕ) (q : List ℕ) (d : ℕ) (path : List ℕ) → path ≡ q ++ d ∷ [] → length path ≡ k + 1 → (length q ≡ k) × (take k path ≡ q)
front-of k q d path e long =
    let sum = ap length e ∙ length-append q (d ∷ []) in
    let size : length q ≡ k = omega arith in
    (size, ap (take k) e ∙ (take-append-le k q (d ∷ []) (omega arith) ∙ take_all k q (omega arith)))

row-of-new : (dp : Dp) (k : ℕ) (layer : List DdNode) (y : DdNode) → AreTold dp k layer → ComesFrom dp k layer y → length y.path ≡ k + 1 → y.row ≡ state_of dp y.path
row-of-new dp k layer y h c long =
    let f = front-of k c.node.path c.decision y.path c.path long in
    let at : dp.step k c.node.row c.decision ≡ dp.step (length c.node.path) (state_of dp c.node.path) c.decision =
    ap (λ n. dp.step n c.node.row c.decision) (sym f.0) ∙ ap (λ s. dp.step (length c.node.path) s c.decision) (h.rows c.node c.has f.0) in
    c.row ∙ (at ∙ (sym (state_of-then dp c.node.path c.decision) ∙ ap (state_of dp) (sym c.path)))

new-told : (dp : Dp) (k : ℕ) (layer : List DdNode) → k < dp.vars → AreTold dp k layer → AreTold dp (k + 1) (new_layer dp k layer)
new-told dp k layer low h = record {
  rows = λ x has long. row-of-new dp k layer x h (comes-from dp k layer x low has) long;
  exact = λ x y hx hy long same. (
      let a = comes-from dp k layer x low hx in
      let b = comes-from dp k layer y low hy in
      let long' : length y.path ≡ k + 1 = ap length (sym same) ∙ long in
      let rows : x.row ≡ y.row = row-of-new dp k layer x h a long ∙ (ap (state_of dp) same ∙ sym (row-of-new dp k layer y h b long')) in
      a.exact ∙ (ap (is_exact_row dp k layer) rows ∙ sym b.exact));
}

-- Layers whose nodes look like nodes of another one.

abbrev Sees : List DdNode → List DdNode → Type 0
Sees xs ys = (x : DdNode) → Has x xs → (y : DdNode) × Has y ys × LooksSame x y

sees-then : (xs ys zs : List DdNode) → Sees xs ys → Sees ys zs → Sees xs zs
sees-then xs ys zs f g x has =
    let a = f x has in
    let b = g a.0 a.1 in
    (b.0, b.1, record { row = a.2.row ∙ b.2.row; value = a.2.value ∙ b.2.value; exact = a.2.exact ∙ b.2.exact; path = a.2.path ∙ b.2.path })

sees-same : (xs : List DdNode) → Sees xs xs
sees-same xs x has = (x, has, record { row = refl; value = refl; exact = refl; path = refl })

sees-mapped : (f : DdNode → DdNode) → ((x : DdNode) → LooksSame (f x) x) → (xs : List DdNode) → Sees (map f xs) xs
sees-mapped f keeps xs x has =
    let from = Has-map-from f xs x has in
    (from.0, from.1, subst (λ (y : DdNode). LooksSame y from.0) from.2 (keeps from.0))

sees-redirected : (redirects : List (Option Redirect)) (xs : List DdNode) → Sees (with_redirected redirects xs) xs
sees-redirected redirects xs = sees-mapped (followed_node redirects) (λ x. record { row = refl; value = refl; exact = refl; path = refl }) xs

sees-arcs : (dp : Dp) (k : ℕ) (next xs : List DdNode) → Sees (with_arcs dp k next xs) xs
sees-arcs dp k next xs = sees-mapped (with_arcs_of dp k next) (λ x. record { row = refl; value = refl; exact = refl; path = refl }) xs

above-seen : (dp : Dp) (first w : ℕ) (t : Option ℤ) (k : ℕ) (layer : List DdNode) → Sees (built dp first w t k layer).above layer
above-seen dp first w t k layer =
    let next = new_layer dp k layer in
    let two = prune dp (k + 1) t (expand dp k layer) in
    let pruned : Sees two.above layer = sees-then two.above (with_arcs dp k next layer) layer (sees-redirected (prune_redirects dp (k + 1) t [] 0 next) (with_arcs dp k next layer)) (sees-arcs dp k next layer) in
    elim (is_wide dp first w (k + 1) two.next) as (λ v. Sees (cond v (merge_rest dp (k + 1) w two) two).above layer) [
      | true ↦ sees-then (with_redirected (merge_redirects dp (k + 1) w two.next) two.above) two.above layer (sees-redirected (merge_redirects dp (k + 1) w two.next) two.above) pruned
      | false ↦ pruned
    ]

-- The next layer as it stays: nodes of the new one, and one that is merged.

record IsMergedNode (y : DdNode) : Type 0 where
  exact : y.exact ≡ false
  path : y.path ≡ []

next-from : (dp : Dp) (first w : ℕ) (t : Option ℤ) (k : ℕ) (layer : List DdNode) (y : DdNode) → Has y (built dp first w t k layer).next → Has y (new_layer dp k layer) ⊎ IsMergedNode y
next-from dp first w t k layer y has =
    let two = prune dp (k + 1) t (expand dp k layer) in
    let plain : Has y two.next → Has y (new_layer dp k layer) = pruned-has dp (k + 1) t [] 0 (new_layer dp k layer) y in
    let one = merged_node dp (k + 1) (drop (w - 1) two.next) in
    elim (is_wide dp first w (k + 1) two.next) as (λ v. Has y (cond v (merge_rest dp (k + 1) w two) two).next → Has y (new_layer dp k layer) ⊎ IsMergedNode y) [
      | true ↦ λ h. elim (Has-append-cases y (take (w - 1) two.next) (one ∷ []) h) as (λ _. Has y (new_layer dp k layer) ⊎ IsMergedNode y) [
        | inl front ↦ inl (plain (in-take (w - 1) two.next y front))
        | inr last ↦ elim last as (λ _. Has y (new_layer dp k layer) ⊎ IsMergedNode y) [
          | inl e ↦ inr (record { exact = ap (λ (x : DdNode). x.exact) (sym e); path = ap (λ (x : DdNode). x.path) (sym e) })
          | inr none ↦ absurd none
        ]
      ]
      | false ↦ λ h. inl (plain h)
    ] has

not-full : (k : ℕ) (path : List ℕ) → path ≡ [] → length path ≡ k + 1 → ⊥
not-full k path e long = let none = ap length e in absurd (omega arith)

next-told : (dp : Dp) (first w : ℕ) (t : Option ℤ) (k : ℕ) (layer : List DdNode) → k < dp.vars → AreTold dp k layer → AreTold dp (k + 1) (built dp first w t k layer).next
next-told dp first w t k layer low h =
    let new = new-told dp k layer low h in
    let from = next-from dp first w t k layer in
    record {
      rows = λ x has long. elim (from x has) as (λ _. x.row ≡ state_of dp x.path) [ inl plain ↦ new.rows x plain long | inr merged ↦ absurd (not-full k x.path merged.path long) ];
      exact = λ x y hx hy long same. elim (from x hx) as (λ _. x.exact ≡ y.exact) [
        | inl a ↦ elim (from y hy) as (λ _. x.exact ≡ y.exact) [ inl b ↦ new.exact x y a b long same | inr merged ↦ absurd (not-full k x.path (same ∙ merged.path) long) ]
        | inr merged ↦ absurd (not-full k x.path merged.path long)
      ];
    }

-- a node of the layer is exact where the path of an exact one of the next layer leads through it
abbrev Stem : ℕ → List DdNode → List DdNode → Type 0
Stem k layer next = (x y : DdNode) → Has x layer → Has y next → length y.path ≡ k + 1 → IsTrue y.exact → x.path ≡ take k y.path → IsTrue x.exact

next-stems : (dp : Dp) (first w : ℕ) (t : Option ℤ) (k : ℕ) (layer : List DdNode) → k < dp.vars → AreTold dp k layer → Stem k layer (built dp first w t k layer).next
next-stems dp first w t k layer low h x y hx hy long exact through =
    elim (next-from dp first w t k layer y hy) as (λ _. IsTrue x.exact) [
      | inl plain ↦ (
          let c = comes-from dp k layer y low plain in
          let f = front-of k c.node.path c.decision y.path c.path long in
          let same : x.path ≡ c.node.path = through ∙ f.1 in
          let size : length x.path ≡ k = ap length same ∙ f.0 in
          h.exact x c.node hx c.has size same ∙ c.maker exact)
      | inr merged ↦ absurd (not-full k y.path merged.path long)
    ]

-- All layers.

abbrev below : Dp → ℕ → ℕ → Option ℤ → ℕ → List DdNode → ℕ → List DdNode
below dp first w t k layer zero = layer
below dp first w t k layer (suc j) = below dp first w t (k + 1) (built dp first w t k layer).next j

below-stems : (dp : Dp) (first w : ℕ) (t : Option ℤ) (k : ℕ) (layer : List DdNode) (j n : ℕ) → AreTold dp k layer → k + j ≡ n → n < dp.vars → Stem n (below dp first w t k layer j) (below dp first w t k layer (suc j))
below-stems dp first w t k layer zero n h e low = let same : k ≡ n = omega arith in subst (λ m. Stem m layer (built dp first w t k layer).next) same (next-stems dp first w t k layer (omega arith) h)
below-stems dp first w t k layer (suc j) n h e low = below-stems dp first w t (k + 1) (built dp first w t k layer).next j n (next-told dp first w t k layer (omega arith) h) (omega arith) low

compiled-seen : (dp : Dp) (first w : ℕ) (t : Option ℤ) (k m : ℕ) (layer : List DdNode) (j : ℕ) (l : List DdNode) → slice_get (compiled dp first w t k m layer) j ≡ Some l → Sees l (below dp first w t k layer j)
compiled-seen dp first w t k zero layer zero l e = subst (λ xs. Sees xs layer) (same-Some layer l e) (sees-same layer)
compiled-seen dp first w t k zero layer (suc j) l e = absurd (let none : None ≡ Some l = e in cc)
compiled-seen dp first w t k (suc m) layer zero l e = subst (λ xs. Sees xs layer) (same-Some (built dp first w t k layer).above l e) (above-seen dp first w t k layer)
compiled-seen dp first w t k (suc m) layer (suc j) l e = compiled-seen dp first w t (k + 1) m (built dp first w t k layer).next j l e

abbrev ended : Dp → ℕ → List DdNode → DdNode → DdNode
ended dp k next node = record node { suffix = suffix_from dp k next node.arcs }

suffixed-seen : (dp : Dp) (k : ℕ) (ls : List (List DdNode)) (j : ℕ) (l : List DdNode) → slice_get (with_suffixes dp k ls) j ≡ Some l → (l' : List DdNode) × (slice_get ls j ≡ Some l') × Sees l l'
suffixed-seen dp k [] j l e = absurd (let none : None ≡ Some l = e in cc)
suffixed-seen dp k (layer ∷ rest) zero l e =
    let next = first_of_layers (with_suffixes dp (k + 1) rest) in
    let is : map (ended dp k next) layer ≡ l = same-Some (map (ended dp k next) layer) l e in
    (layer, refl, subst (λ xs. Sees xs layer) is (sees-mapped (ended dp k next) (λ x. record { row = refl; value = refl; exact = refl; path = refl }) layer))
suffixed-seen dp k (layer ∷ rest) (suc j) l e = suffixed-seen dp (k + 1) rest j l e

start-told : (dp : Dp) (p : List ℕ) → AreTold dp (length p) (start_layer (reached dp p))
start-told dp p = record {
  rows = λ x has long. elim has as (λ _. x.row ≡ state_of dp x.path) [ inl e ↦ subst (λ (y : DdNode). y.row ≡ state_of dp y.path) e refl | inr none ↦ absurd none ];
  exact = λ x y hx hy long same. elim hx as (λ _. x.exact ≡ y.exact) [
    | inl ex ↦ elim hy as (λ _. x.exact ≡ y.exact) [ inl ey ↦ ap (λ (n : DdNode). n.exact) (sym ex ∙ ey) | inr none ↦ absurd none ]
    | inr none ↦ absurd none
  ];
}

-- a node of a diagram in its layer, before it got its arcs and its suffix
relaxed-seen : (dp : Dp) (p : List ℕ) (w : ℕ) (t : Option ℤ) (depth i : ℕ) (x : DdNode) → node_at (relaxed dp (reached dp p) w t) depth i ≡ Some x
    → (y : DdNode) × Has y (below dp (length p) w t (length p) (start_layer (reached dp p)) (depth - length p)) × LooksSame x y
relaxed-seen dp p w t depth i x e =
    let d = relaxed dp (reached dp p) w t in
    let at = layer-of d depth i x e in
    let s = suffixed-seen dp (length p) (compiled dp (length p) w t (length p) (dp.vars - length p) (start_layer (reached dp p))) (depth - length p) at.0 at.1 in
    let c = compiled-seen dp (length p) w t (length p) (dp.vars - length p) (start_layer (reached dp p)) (depth - length p) s.0 s.1 in
    sees-then at.0 s.0 (below dp (length p) w t (length p) (start_layer (reached dp p)) (depth - length p)) s.2 c x (Has-at at.0 i x at.2)

pub exact-stems : (dp : Dp) → ExactStemFromExact dp
exact-stems dp p w t depth i j x y deep low ex ey exact long through =
    let first = length p in
    let start = start_layer (reached dp p) in
    let a = relaxed-seen dp p w t depth i x ex in
    let b = relaxed-seen dp p w t (depth + 1) j y ey in
    let next : depth + 1 - first ≡ suc (depth - first) = omega arith in
    let here : Has b.0 (below dp first w t first start (suc (depth - first))) = subst (λ n. Has b.0 (below dp first w t first start n)) next b.1 in
    let stem = below-stems dp first w t first start (depth - first) depth (start-told dp p) (omega arith) low in
    let size : length b.0.path ≡ depth + 1 = ap length (sym b.2.path) ∙ long in
    let own : IsTrue b.0.exact = sym b.2.exact ∙ exact in
    let path : a.0.path ≡ take depth b.0.path = sym a.2.path ∙ (through ∙ ap (take depth) b.2.path) in
    a.2.exact ∙ stem a.0 b.0 a.1 here size own path
