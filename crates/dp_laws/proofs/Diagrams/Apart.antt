-- Children of one layer are apart.
use Rattle.std.proofs.Common.{◌≡◌, ℕ, ◌+◌, nat_eq, ℤ, Bool, true, false, not, ◌&&◌, ◌||◌, List, [], ◌∷◌, ◌++◌, length, Option, Some, None, inl, inr, IsTrue, refl, sym, ◌∙◌, ap, subst, arith, length-append, append-nil}
use Rattle.std.specs.List.{filter_map, cons_option}
use Rattle.dp_model.specs.Dp.{Dp}
use Rattle.dp_model.specs.Decisions.{begins}
use Rattle.dp_model.specs.Prefixes.{state_of}
use Rattle.dp_model.specs.Lists.{Each}
use Rattle.dp_model.specs.Rows.{row_same}
use Rattle.dp_model.specs.Subproblem.{Subproblem}
use Rattle.dp_model.proofs.Members.{Has, Each-then}
use Rattle.std.proofs.lemmas.Bool.{and_parts}
use Rattle.dp_model.proofs.RowLemmas.{begins-is, row_same-self, row_same-is}
use Rattle.dp_laws.specs.Children.{AreApart, DifferInPlace}
use Rattle.dp_laws.specs.Pairs.{EachTwo}
use Rattle.dp_laws.specs.Diagrams.Nodes.{DdNode}
use Rattle.dp_laws.specs.Diagrams.Seen.{IsReachedBy, repeats, are_distinct}
use Rattle.dp_laws.proofs.Diagrams.Children.{child_of}
use Rattle.dp_laws.proofs.Diagrams.ChildFacts.{IsChildOf, child-from}

pub not-true : (b : Bool) → (b ≡ true → ⊥) → b ≡ false
not-true true h = absurd (h refl)
not-true false h = refl

pub neither : (a b : Bool) → IsTrue (not (a || b)) → (a ≡ false) × (b ≡ false)
neither true b h = absurd (grind arith)
neither false true h = absurd (grind arith)
neither false false h = (refl, refl)

-- two children are apart, and differ in place
pub record AreTwo (a b : Subproblem) : Type 0 where
  pub apart : AreApart a b
  pub differ : DifferInPlace a b

pub two-then : {X : Type 0} (R S : X → X → Type 0) → ((x y : X) → R x y → S x y) → (xs : List X) → EachTwo R xs → EachTwo S xs
two-then R S f [] h = tt
two-then R S f (x ∷ xs) h = (Each-then (R x) (S x) xs (f x) h.0, two-then R S f xs h.1)

pub all-apart : (cs : List Subproblem) → EachTwo AreTwo cs → EachTwo AreApart cs
all-apart cs two = two-then AreTwo AreApart (λ a b x. x.apart) cs two

pub all-differ : (cs : List Subproblem) → EachTwo AreTwo cs → EachTwo DifferInPlace cs
all-differ cs two = two-then AreTwo DifferInPlace (λ a b x. x.differ) cs two

pub and-false : (a : Bool) → (a && false) ≡ false
and-false true = refl
and-false false = refl

same-end : (a b r : List ℕ) → b ≡ a ++ r → length r ≡ 0 → a ≡ b
same-end a b [] e h = sym (e ∙ append-nil a)
same-end a b (x ∷ r) e h = absurd (omega arith)

-- lists of one length of which one begins with the other are the same
pub same-length : (a b : List ℕ) → length a ≡ length b → IsTrue (begins a b) → a ≡ b
same-length a b e h =
    let r = begins-is a b h in
    let long : length b ≡ length a + length r.0 = ap length r.1 ∙ length-append a r.0 in
    same-end a b r.0 r.1 (let x : length r.0 ≡ 0 = omega arith in x)

-- nodes of one layer with different rows have different paths
paths-differ : (dp : Dp) (p : List ℕ) (k : ℕ) (a b : DdNode) → IsReachedBy dp p k a → IsReachedBy dp p k b → row_same a.row b.row ≡ false → begins a.path b.path ≡ false
paths-differ dp p k a b ra rb differ = not-true (begins a.path b.path) (λ h.
    let da = ra.depth in let db = rb.depth in
    let same : a.path ≡ b.path = same-length a.path b.path (da ∙ sym db) h in
    let rows : a.row ≡ b.row = ra.row ∙ (ap (state_of dp) same ∙ sym rb.row) in
    let yes_same : row_same a.row b.row ≡ true = subst (λ r. row_same a.row r ≡ true) rows (row_same-self a.row) in
    let clash : true ≡ false = sym yes_same ∙ differ in cc)

pub row_same-turned : (a b : List ℤ) → row_same a b ≡ false → row_same b a ≡ false
row_same-turned a b h = not-true (row_same b a) (λ e. let clash : true ≡ false = sym (subst (λ r. row_same r b ≡ true) (row_same-is b a e) (row_same-self b)) ∙ h in cc)

pub children-apart : (dp : Dp) (p : List ℕ) (k : ℕ) (a b : DdNode) (c d : Subproblem) → IsReachedBy dp p k a → IsReachedBy dp p k b → row_same a.row b.row ≡ false → IsChildOf dp k a c → IsChildOf dp k b d → AreTwo c d
children-apart dp p k a b c d ra rb differ ha hb =
    let turned = row_same-turned a.row b.row differ in
    let first : begins c.decisions d.decisions ≡ false = rw (ha.child_is, hb.child_is) (paths-differ dp p k a b ra rb differ) in
    let second : begins d.decisions c.decisions ≡ false = rw (ha.child_is, hb.child_is) (paths-differ dp p k b a rb ra turned) in
    let rows : row_same d.row c.row ≡ false = rw (ha.child_is, hb.child_is) turned in
    record { apart = record { first = first; second = second }; differ = rw rows (and-false (nat_eq (length d.decisions) (length c.decisions))) }

-- Among all children of a layer.

abbrev pub AreReached : Dp → List ℕ → ℕ → List DdNode → Type 0
AreReached dp p k layer = (node : DdNode) → Has node layer → IsTrue node.exact × IsReachedBy dp p k node

pub rows-differ : (x y same : Bool) → x ≡ true → y ≡ true → (x && (y && same)) ≡ false → same ≡ false
rows-differ x y same ex ey e = let f : (true && (true && same)) ≡ false = subst (λ v. (true && (v && same)) ≡ false) ey (subst (λ v. (v && (y && same)) ≡ false) ex e) in f

apart-from : (dp : Dp) (p : List ℕ) (k : ℕ) (node : DdNode) (c : Subproblem) (rest : List DdNode) → IsTrue node.exact → IsReachedBy dp p k node → IsChildOf dp k node c → AreReached dp p k rest → IsTrue (not (repeats node rest))
    → Each (AreTwo c) (filter_map (child_of dp k) rest)
apart-from dp p k node c [] exact r h all new = tt
apart-from dp p k node c (other ∷ rest) exact r h all new =
    let none = neither (node.exact && (other.exact && row_same node.row other.row)) (repeats node rest) new in
    let of-other = all other (inl refl) in
    let differ : row_same node.row other.row ≡ false = rows-differ node.exact other.exact (row_same node.row other.row) exact of-other.0 none.0 in
    let later : Each (AreTwo c) (filter_map (child_of dp k) rest) = apart-from dp p k node c rest exact r h (λ x has. all x (inr has)) (rw none.1 refl) in
    let split : (o : Option Subproblem) → child_of dp k other ≡ o → Each (AreTwo c) (cons_option o (filter_map (child_of dp k) rest)) = λ o.
    elim o as (λ o. child_of dp k other ≡ o → Each (AreTwo c) (cons_option o (filter_map (child_of dp k) rest))) [
      | None ↦ λ e. later
      | Some d ↦ λ e. (let one = children-apart dp p k node other c d r of-other.1 differ h (child-from dp k other d e) in (one, later))
    ] in
    split (child_of dp k other) refl

pub all-two : (dp : Dp) (p : List ℕ) (k : ℕ) (layer : List DdNode) → AreReached dp p k layer → IsTrue (are_distinct layer) → EachTwo AreTwo (filter_map (child_of dp k) layer)
all-two dp p k [] all distinct = tt
all-two dp p k (node ∷ rest) all distinct =
    let parts = and_parts (not (repeats node rest)) (are_distinct rest) distinct in
    let of-node = all node (inl refl) in
    let later : EachTwo AreTwo (filter_map (child_of dp k) rest) = all-two dp p k rest (λ x has. all x (inr has)) parts.1 in
    let split : (o : Option Subproblem) → child_of dp k node ≡ o → EachTwo AreTwo (cons_option o (filter_map (child_of dp k) rest)) = λ o.
    elim o as (λ o. child_of dp k node ≡ o → EachTwo AreTwo (cons_option o (filter_map (child_of dp k) rest))) [
      | None ↦ λ e. later
      | Some c ↦ λ e. (let one = apart-from dp p k node c rest of-node.0 of-node.1 (child-from dp k node c e) (λ x has. all x (inr has)) parts.0 in (one, later))
    ] in
    split (child_of dp k node) refl
