-- What the nodes of a layer keep.
use Rattle.std.proofs.Common.{◌≡◌, ◌≢◌, ℕ, ◌≤◌, Bool, false, ◌&&◌, ◌||◌, List, [], ◌∷◌, map, IsTrue, refl, sym, ◌∙◌, ap, subst}
use Rattle.dp_model.specs.Dp.{Dp}
use Rattle.dp_model.specs.Gaps.{IsStateOf}
use Rattle.dp_model.specs.Lists.{Each}
use Rattle.dp_model.specs.Rows.{row_same}
use Rattle.dp_model.proofs.Members.{Has, Has-map-from}
use Rattle.std.proofs.lemmas.Bool.{and_parts}
use Rattle.dp_model.proofs.RowLemmas.{row_same-is}
use Rattle.dp_laws.specs.Pairs.{EachTwo}
use Rattle.dp_laws.specs.Diagrams.Nodes.{DdNode}
use Rattle.dp_laws.specs.Diagrams.Seen.{IsReachedBy, repeats, are_distinct}
use Rattle.dp_laws.proofs.Diagrams.Apart.{not-true}

-- two nodes of which not both are exact, or whose rows differ
abbrev pub Differ : DdNode → DdNode → Type 0
Differ a b = IsTrue a.exact → IsTrue b.exact → a.row ≢ b.row

-- the nodes of a layer at depth k below p
pub record AreNodes (dp : Dp) (p : List ℕ) (k : ℕ) (layer : List DdNode) : Type 0 where
  pub states : (x : DdNode) → Has x layer → IsTrue (dp.is_state k x.row)
  pub reached : (x : DdNode) → Has x layer → IsTrue x.exact → IsReachedBy dp p k x
  pub differ : EachTwo Differ layer

pub state-of : (dp : Dp) (p : List ℕ) (k : ℕ) (layer : List DdNode) → AreNodes dp p k layer → k ≤ dp.vars → (x : DdNode) → Has x layer → IsStateOf dp k x.row
state-of dp p k layer h low x has = record { layer = low; test = h.states x has }

-- as the readers test it

or-of : (a b : Bool) → a ≡ false → b ≡ false → (a || b) ≡ false
or-of a b x y = rw (x, y) refl

no-repeats : (node : DdNode) (rest : List DdNode) → Each (Differ node) rest → repeats node rest ≡ false
no-repeats node [] h = refl
no-repeats node (other ∷ rest) h =
    let here : (node.exact && (other.exact && row_same node.row other.row)) ≡ false = not-true (node.exact && (other.exact && row_same node.row other.row)) (λ t.
    let one = and_parts node.exact (other.exact && row_same node.row other.row) t in
    let two = and_parts other.exact (row_same node.row other.row) one.1 in
    h.0 one.0 two.0 (row_same-is node.row other.row two.1)) in
    or-of (node.exact && (other.exact && row_same node.row other.row)) (repeats node rest) here (no-repeats node rest h.1)

pub are-distinct : (layer : List DdNode) → EachTwo Differ layer → IsTrue (are_distinct layer)
are-distinct [] h = refl
are-distinct (node ∷ rest) h = let one = no-repeats node rest h.0 in let later : IsTrue (are_distinct rest) = are-distinct rest h.1 in rw one later

-- Nodes in the place of others.

pub record LooksSame (x y : DdNode) : Type 0 where
  pub row : x.row ≡ y.row
  pub value : x.value ≡ y.value
  pub exact : x.exact ≡ y.exact
  pub path : x.path ≡ y.path

each-mapped : (f : DdNode → DdNode) → ((x : DdNode) → LooksSame (f x) x) → (a : DdNode) (xs : List DdNode) → Each (Differ a) xs → Each (Differ (f a)) (map f xs)
each-mapped f keeps a [] h = tt
each-mapped f keeps a (x ∷ xs) h =
    let sa = keeps a in let sx = keeps x in
    ((λ ea ex e. h.0 (sym sa.exact ∙ ea) (sym sx.exact ∙ ex) (sym sa.row ∙ (e ∙ sx.row))), each-mapped f keeps a xs h.1)

two-mapped : (f : DdNode → DdNode) → ((x : DdNode) → LooksSame (f x) x) → (xs : List DdNode) → EachTwo Differ xs → EachTwo Differ (map f xs)
two-mapped f keeps [] h = tt
two-mapped f keeps (x ∷ xs) h = (each-mapped f keeps x xs h.0, two-mapped f keeps xs h.1)

reached-same : (dp : Dp) (p : List ℕ) (k : ℕ) (x y : DdNode) → LooksSame y x → IsReachedBy dp p k x → IsReachedBy dp p k y
reached-same dp p k x y s r = record {
  prefix = rw s.path r.prefix;
  depth = rw s.path r.depth;
  begins = rw s.path r.begins;
  row = s.row ∙ rw s.path r.row;
  value = s.value ∙ rw s.path r.value;
}

pub nodes-mapped : (dp : Dp) (p : List ℕ) (k : ℕ) (layer : List DdNode) (f : DdNode → DdNode) → ((x : DdNode) → LooksSame (f x) x) → AreNodes dp p k layer → AreNodes dp p k (map f layer)
nodes-mapped dp p k layer f keeps h = record {
  states = λ y has. (let from = Has-map-from f layer y has in let s = keeps from.0 in subst (λ (n : DdNode). IsTrue (dp.is_state k n.row)) from.2 (rw s.row (h.states from.0 from.1)));
  reached = λ y has exact. (
      let from = Has-map-from f layer y has in
      let s = keeps from.0 in
      let e : IsTrue from.0.exact = sym s.exact ∙ (ap (λ (n : DdNode). n.exact) from.2 ∙ exact) in
      subst (IsReachedBy dp p k) from.2 (reached-same dp p k from.0 (f from.0) s (h.reached from.0 from.1 e)));
  differ = two-mapped f keeps layer h.differ;
}
