-- Where a continuation stands some layers further down.
use Rattle.std.proofs.Common.{◌≡◌, ℕ, zero, suc, ◌+◌, ◌<◌, ◌≤◌, ℤ, ◌+ℤ◌, ◌≤ℤ◌, true, false, cond, List, [], ◌∷◌, length, map, take, slice_get, Option, Some, None, option_map, ◌⊎◌, inl, inr, IsTrue, refl, sym, ◌∙◌, ap, subst, arith, add-zero}
use Rattle.std.proofs.lemmas.Int.{ints}
use Rattle.std.proofs.lemmas.Option.{slice_get-map}
use Rattle.dp_model.specs.Dp.{Dp}
use Rattle.dp_model.specs.Laws.{IsLawful}
use Rattle.dp_model.specs.Numbers.{AtMost}
use Rattle.dp_model.specs.Prefixes.{IsContinuation, gain_of}
use Rattle.dp_model.specs.Reached.{Reached}
use Rattle.dp_model.proofs.Members.{Has, Has-map, Has-map-from}
use Rattle.dp_laws.specs.Diagrams.Nodes.{DdNode, prefix_at, as_member}
use Rattle.dp_laws.specs.Diagrams.Seen.{IsLayer, AreLayers}
use Rattle.dp_laws.proofs.Diagrams.Places.{same-Some, Has-at}
use Rattle.dp_laws.proofs.Diagrams.Following.{GoesOn, goes-on, states-of}
use Rattle.dp_laws.proofs.Diagrams.Suffixes.{at_most-below}

-- a node of the m-th of the layers from which a continuation reaches at least the number
pub record Stands (dp : Dp) (k m : ℕ) (layers : List (List DdNode)) (least : ℤ) : Type 0 where
  pub layer : List DdNode
  pub at : slice_get layers m ≡ Some layer
  pub node : DdNode
  pub has : Has node layer
  pub by : List ℕ
  pub continuation : IsContinuation dp (k + m) node.row by
  pub enough : least ≤ℤ (node.value +ℤ gain_of dp (k + m) node.row by)

abbrev pub WalksTo : Dp → Option ℤ → ℕ → ℕ → List (List DdNode) → ℤ → Type 0
WalksTo dp t k m layers least = AtMost least t ⊎ Stands dp k m layers least

one-layer-down : (dp : Dp) (t : Option ℤ) (k m : ℕ) (layer next : List DdNode) (rest : List (List DdNode)) (node : DdNode) (gain : ℤ) → (g : GoesOn dp k node next gain)
    → WalksTo dp t (k + 1) m (next ∷ rest) (g.target.value +ℤ gain_of dp (k + 1) g.target.row g.by) → WalksTo dp t k (suc m) (layer ∷ next ∷ rest) (node.value +ℤ gain)
one-layer-down dp t k m layer next rest node gain g (inl low) =
    let reached = g.reached in let kept = g.kept in
    let less : (node.value +ℤ gain) ≤ℤ (g.target.value +ℤ gain_of dp (k + 1) g.target.row g.by) = omega (arith, ints) in
    inl (at_most-below (node.value +ℤ gain) (g.target.value +ℤ gain_of dp (k + 1) g.target.row g.by) t less low)
one-layer-down dp t k m layer next rest node gain g (inr s) =
    let reached = g.reached in let kept = g.kept in let enough = s.enough in
    let same : k + 1 + m ≡ k + suc m = omega arith in
    inr (record {
      layer = s.layer;
      at = s.at;
      node = s.node;
      has = s.has;
      by = s.by;
      continuation = subst (λ n. IsContinuation dp n s.node.row s.by) same s.continuation;
      enough = subst (λ n. (node.value +ℤ gain) ≤ℤ (s.node.value +ℤ gain_of dp n s.node.row s.by)) same (omega (arith, ints));
    })

-- a continuation is at most the threshold, or stands at a node of each layer below
pub walks-to : (dp : Dp) → IsLawful dp → (p : List ℕ) (w : ℕ) (t : Option ℤ) (k m : ℕ) (layer : List DdNode) (more : List (List DdNode)) → AreLayers dp p w t k (layer ∷ more) → k + length more ≡ dp.vars → m ≤ length more
    → (node : DdNode) → Has node layer → (c : List ℕ) → IsContinuation dp k node.row c → WalksTo dp t k m (layer ∷ more) (node.value +ℤ gain_of dp k node.row c)
walks-to dp laws p w t k zero layer more all e few node has c path =
    inr (record {
      layer = layer;
      at = refl;
      node = node;
      has = has;
      by = c;
      continuation = subst (λ n. IsContinuation dp n node.row c) (sym (add-zero k)) path;
      enough = subst (λ n. (node.value +ℤ gain_of dp k node.row c) ≤ℤ (node.value +ℤ gain_of dp n node.row c)) (sym (add-zero k)) (omega (arith, ints));
    })
walks-to dp laws p w t k (suc m) layer [] all e few node has c path = absurd (let none : suc m ≤ 0 = few in omega arith)
walks-to dp laws p w t k (suc m) layer (next ∷ rest) all e few node has c path =
    elim (goes-on dp laws p w t k layer next all.0 (states-of dp p w t (k + 1) next rest all.1) node has (omega arith) c path) as (λ _. WalksTo dp t k (suc m) (layer ∷ next ∷ rest) (node.value +ℤ gain_of dp k node.row c)) [
      | inl low ↦ inl low
      | inr g ↦ one-layer-down dp t k m layer next rest node (gain_of dp k node.row c) g (walks-to dp laws p w t (k + 1) m next rest all.1 (omega arith) (omega arith) g.target (Has-at next g.place g.target g.at) g.by g.continuation)
    ]

-- what a layer at a place keeps, with the one below it
pub record KeepsAt (dp : Dp) (p : List ℕ) (w : ℕ) (t : Option ℤ) (k : ℕ) (layer : List DdNode) : Type 0 where
  pub next : List DdNode
  pub keeps : IsLayer dp p w t k layer next

pub keeps-at : (dp : Dp) (p : List ℕ) (w : ℕ) (t : Option ℤ) (k m : ℕ) (layers : List (List DdNode)) → AreLayers dp p w t k layers → (layer : List DdNode) → slice_get layers m ≡ Some layer → KeepsAt dp p w t (k + m) layer
keeps-at dp p w t k m [] all layer e = absurd (let none : None ≡ Some layer = e in cc)
keeps-at dp p w t k zero (one ∷ []) all layer e =
    subst (λ l. KeepsAt dp p w t (k + 0) l) (same-Some one layer e) (subst (λ n. KeepsAt dp p w t n one) (sym (add-zero k)) (record { next = []; keeps = all }))
keeps-at dp p w t k (suc m) (one ∷ []) all layer e = absurd (let none : None ≡ Some layer = e in cc)
keeps-at dp p w t k zero (one ∷ next ∷ rest) all layer e =
    subst (λ l. KeepsAt dp p w t (k + 0) l) (same-Some one layer e) (subst (λ n. KeepsAt dp p w t n one) (sym (add-zero k)) (record { next = next; keeps = all.0 }))
keeps-at dp p w t k (suc m) (one ∷ next ∷ rest) all layer e =
    let same : k + 1 + m ≡ k + suc m = omega arith in
    subst (λ n. KeepsAt dp p w t n layer) same (keeps-at dp p w t (k + 1) m (next ∷ rest) all.1 layer e)

-- a node that is a member of a beam's layer is exact
pub exact-member : (node : DdNode) (r : Reached) → as_member node ≡ Some r → IsTrue node.exact
exact-member node r e =
    elim (node.exact) as (λ b. cond b (Some (prefix_at node)) None ≡ Some r → IsTrue b) [ true ↦ λ _. refl | false ↦ λ h. absurd (let none : None ≡ Some r = h in cc) ] e

-- the layers that are those of a beam are exact
pub exact-layer : (layer : List DdNode) (rs : List Reached) → map as_member layer ≡ map (λ r. Some r) rs → (node : DdNode) → Has node layer → IsTrue node.exact
exact-layer layer rs e node has =
    let member : Has (as_member node) (map (λ (r : Reached). Some r) rs) = subst (λ xs. Has (as_member node) xs) e (Has-map as_member layer node has) in
    let from = Has-map-from (λ (r : Reached). Some r) rs (as_member node) member in
    exact-member node from.0 (sym from.2)

pub slice_get-take : {X : Type 0} (n i : ℕ) (xs : List X) → i < n → slice_get (take n xs) i ≡ slice_get xs i
slice_get-take zero i xs h = absurd (omega arith)
slice_get-take (suc n) i [] h = refl
slice_get-take (suc n) zero (x ∷ xs) h = refl
slice_get-take (suc n) (suc i) (x ∷ xs) h = slice_get-take n i xs (omega arith)

mapped : (o : Option (List Reached)) (layer : List DdNode) → Some (map as_member layer) ≡ option_map (map (λ (r : Reached). Some r)) o → (rs : List Reached) × (o ≡ Some rs) × (map as_member layer ≡ map (λ r. Some r) rs)
mapped None layer e = absurd (let none : Some (map as_member layer) ≡ None = e in cc)
mapped (Some rs) layer e = (rs, refl, same-Some (map as_member layer) (map (λ (r : Reached). Some r) rs) e)

-- a layer above the place is one of a beam
pub layer-above : (count m : ℕ) (layers : List (List DdNode)) (beams : List (List Reached)) → map (map as_member) (take count layers) ≡ map (map (λ r. Some r)) (take count beams) → m < count
    → (layer : List DdNode) → slice_get layers m ≡ Some layer → (rs : List Reached) × (slice_get beams m ≡ Some rs) × (map as_member layer ≡ map (λ r. Some r) rs)
layer-above count m layers beams same less layer at =
    let as_members : List DdNode → List (Option Reached) = map as_member in
    let as_some : List Reached → List (Option Reached) = map (λ (r : Reached). Some r) in
    let left : slice_get (map as_members (take count layers)) m ≡ Some (map as_member layer) =
    slice_get-map as_members (take count layers) m ∙ ap (option_map as_members) (slice_get-take count m layers less ∙ at) in
    let right : slice_get (map as_some (take count beams)) m ≡ option_map as_some (slice_get beams m) =
    slice_get-map as_some (take count beams) m ∙ ap (option_map as_some) (slice_get-take count m beams less) in
    mapped (slice_get beams m) layer (sym left ∙ (ap (λ l. slice_get l m) same ∙ right))

-- the layers from a place on
pub record From (dp : Dp) (p : List ℕ) (w : ℕ) (t : Option ℤ) (k m : ℕ) (layers : List (List DdNode)) (layer : List DdNode) : Type 0 where
  pub more : List (List DdNode)
  pub all : AreLayers dp p w t (k + m) (layer ∷ more)
  pub long : m + (length more + 1) ≡ length layers

pub from-at : (dp : Dp) (p : List ℕ) (w : ℕ) (t : Option ℤ) (k m : ℕ) (layers : List (List DdNode)) → AreLayers dp p w t k layers → (layer : List DdNode) → slice_get layers m ≡ Some layer → From dp p w t k m layers layer
from-at dp p w t k m [] all layer e = absurd (let none : None ≡ Some layer = e in cc)
from-at dp p w t k zero (one ∷ more) all layer e =
    subst (λ l. From dp p w t k 0 (one ∷ more) l) (same-Some one layer e) (record { more = more; all = subst (λ n. AreLayers dp p w t n (one ∷ more)) (sym (add-zero k)) all; long = omega arith })
from-at dp p w t k (suc m) (one ∷ []) all layer e = absurd (let none : None ≡ Some layer = e in cc)
from-at dp p w t k (suc m) (one ∷ next ∷ rest) all layer e =
    let r = from-at dp p w t (k + 1) m (next ∷ rest) all.1 layer e in
    let same : k + 1 + m ≡ k + suc m = omega arith in
    record { more = r.more; all = subst (λ n. AreLayers dp p w t n (layer ∷ r.more)) same r.all; long = (let long = r.long in omega arith) }
