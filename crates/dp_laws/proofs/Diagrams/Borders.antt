-- The exact nodes of a diagram with an arc to an inexact one.
use Rattle.std.proofs.Common.{◌≡◌, ℕ, ◌+◌, ◌<◌, ◌≤◌, nat_eq, ℤ, true, false, cond, not, ◌&&◌, List, [], ◌∷◌, ◌++◌, length, filter, Option, Some, None, inl, inr, IsTrue, refl, ◌∙◌, ap, subst, arith}
use Rattle.std.specs.List.{filter_map, cons_option}
use Rattle.dp_model.specs.Dp.{Dp}
use Rattle.dp_model.specs.Gaps.{IsStateOf}
use Rattle.dp_model.specs.Laws.{IsLawful}
use Rattle.dp_model.specs.Lists.{Each}
use Rattle.dp_model.specs.Prefixes.{IsContinuation, gain_of}
use Rattle.dp_model.specs.Rows.{row_same}
use Rattle.dp_model.specs.Subproblem.{Subproblem}
use Rattle.dp_model.proofs.Members.{Has, each-has, each-of-all, Each-append, Has-append-cases, Has-filter-from}
use Rattle.std.proofs.lemmas.Bool.{and_parts}
use Rattle.dp_laws.specs.Diagrams.Nodes.{DdNode}
use Rattle.dp_laws.specs.Diagrams.Seen.{IsBounded, IsReachedBy, AreLayers, repeats, are_distinct}
use Rattle.dp_laws.specs.Diagrams.Cutsets.{leaves}
use Rattle.dp_laws.proofs.Diagrams.Children.{child_of, borders, all_borders}
use Rattle.dp_laws.proofs.Diagrams.Places.{Has-filter_map-from}
use Rattle.dp_laws.proofs.Diagrams.Suffixes.{bounded}
use Rattle.dp_laws.proofs.Diagrams.ChildFacts.{IsChildOf, child-from}
use Rattle.dp_laws.proofs.Diagrams.Apart.{row_same-turned, and-false, neither, rows-differ}
use Rattle.dp_laws.proofs.Diagrams.Outermost.{StandsBefore, InTurn}

-- the node of a child, with its depth
pub record BorderOf (dp : Dp) (p : List ℕ) (t : Option ℤ) (least : ℕ) (c : Subproblem) : Type 0 where
  pub depth : ℕ
  pub node : DdNode
  pub below_first : least ≤ depth
  pub above_last : depth < dp.vars
  pub reached : IsReachedBy dp p depth node
  pub state : IsStateOf dp depth node.row
  pub child : IsChildOf dp depth node c
  pub bounds : (c : List ℕ) → IsContinuation dp depth node.row c → IsBounded t node (gain_of dp depth node.row c)

in-borders : (dp : Dp) → IsLawful dp → (p : List ℕ) (w : ℕ) (t : Option ℤ) (k : ℕ) (layer next : List DdNode) (rest : List (List DdNode)) → AreLayers dp p w t k (layer ∷ next ∷ rest) → k + length (next ∷ rest) ≡ dp.vars → (c : Subproblem) → Has c (borders dp k layer next) → BorderOf dp p t k c
in-borders dp laws p w t k layer next rest all e c has =
    let from = Has-filter_map-from (child_of dp k) (filter (λ (node : DdNode). node.exact && leaves next node.arcs) layer) c has in
    let node = from.0 in
    let listed = Has-filter-from (λ (node : DdNode). node.exact && leaves next node.arcs) layer node from.1 in
    let exact = (and_parts node.exact (leaves next node.arcs) listed.1).0 in
    record {
      depth = k;
      node = node;
      below_first = omega arith;
      above_last = omega arith;
      reached = each-has (λ (n : DdNode). IsTrue n.exact → IsReachedBy dp p k n) layer node all.0.exact listed.0 exact;
      state = record { layer = omega arith; test = each-has (λ (n : DdNode). IsTrue (dp.is_state k n.row)) layer node all.0.states listed.0 };
      child = child-from dp k node c from.2;
      bounds = λ by path. bounded dp laws p w t k layer (next ∷ rest) all e node listed.0 by path;
    }

-- each child of the borders comes from an exact node
pub border-of : (dp : Dp) → IsLawful dp → (p : List ℕ) (w : ℕ) (t : Option ℤ) (k : ℕ) (layer : List DdNode) (more : List (List DdNode)) → AreLayers dp p w t k (layer ∷ more) → k + length more ≡ dp.vars → (c : Subproblem) → Has c (all_borders dp k (layer ∷ more)) → BorderOf dp p t k c
border-of dp laws p w t k layer [] all e c has = absurd has
border-of dp laws p w t k layer (next ∷ rest) all e c has =
    elim (Has-append-cases c (borders dp k layer next) (all_borders dp (k + 1) (next ∷ rest)) has) as (λ _. BorderOf dp p t k c) [
      | inl here ↦ in-borders dp laws p w t k layer next rest all e c here
      | inr later ↦ (let b = border-of dp laws p w t (k + 1) next rest all.1 (omega arith) c later in
          record { depth = b.depth; node = b.node; below_first = (let low = b.below_first in omega arith); above_last = b.above_last; reached = b.reached; state = b.state; child = b.child; bounds = b.bounds })
    ]

-- The children of the borders stand in turn.

in-turn-append : (xs ys : List Subproblem) → InTurn xs → InTurn ys → ((x y : Subproblem) → Has x xs → Has y ys → StandsBefore x y) → InTurn (xs ++ ys)
in-turn-append [] ys a b across = b
in-turn-append (x ∷ xs) ys a b across =
    (Each-append (StandsBefore x) xs ys a.0 (each-of-all (StandsBefore x) ys (λ y h. across x y (inl refl) h)), in-turn-append xs ys a.1 b (λ z y hz hy. across z y (inr hz) hy))

child-depth : (dp : Dp) (p : List ℕ) (k : ℕ) (node : DdNode) (c : Subproblem) → IsReachedBy dp p k node → IsChildOf dp k node c → length c.decisions ≡ k
child-depth dp p k node c r h = ap (λ (x : Subproblem). length x.decisions) h.child_is ∙ r.depth

-- children of one layer, by their nodes
side-by-side : (dp : Dp) (p : List ℕ) (k : ℕ) (a b : DdNode) (c d : Subproblem) → IsReachedBy dp p k a → IsReachedBy dp p k b → row_same a.row b.row ≡ false → IsChildOf dp k a c → IsChildOf dp k b d → StandsBefore c d
side-by-side dp p k a b c d ra rb differ hc hd =
    let lc = child-depth dp p k a c ra hc in let ld = child-depth dp p k b d rb hd in
    let rows : row_same d.row c.row ≡ false = rw (hc.child_is, hd.child_is) (row_same-turned a.row b.row differ) in
    record { shallower = omega arith; other = rw rows (and-false (nat_eq (length d.decisions) (length c.decisions))) }

-- a row that is not repeated differs from that of each later exact node
no-repeat : (node other : DdNode) (rest : List DdNode) → IsTrue node.exact → IsTrue other.exact → Has other rest → IsTrue (not (repeats node rest)) → row_same node.row other.row ≡ false
no-repeat node other [] exact exact' has new = absurd has
no-repeat node other (one ∷ rest) exact exact' (inl same) new =
    let none = neither (node.exact && (one.exact && row_same node.row one.row)) (repeats node rest) new in
    let also : one.exact ≡ true = ap (λ (x : DdNode). x.exact) same ∙ exact' in
    subst (λ (x : DdNode). row_same node.row x.row ≡ false) same (rows-differ node.exact one.exact (row_same node.row one.row) exact also none.0)
no-repeat node other (one ∷ rest) exact exact' (inr later) new =
    let none = neither (node.exact && (one.exact && row_same node.row one.row)) (repeats node rest) new in
    no-repeat node other rest exact exact' later (rw none.1 refl)

after-one : (dp : Dp) (p : List ℕ) (k : ℕ) (node : DdNode) (c : Subproblem) (next rest : List DdNode) → IsTrue node.exact → IsReachedBy dp p k node → IsChildOf dp k node c
    → ((x : DdNode) → Has x rest → IsTrue x.exact → IsReachedBy dp p k x) → IsTrue (not (repeats node rest)) → Each (StandsBefore c) (borders dp k rest next)
after-one dp p k node c next rest exact r h all new =
    each-of-all (StandsBefore c) (borders dp k rest next) (λ d has.
    let from = Has-filter_map-from (child_of dp k) (filter (λ (node : DdNode). node.exact && leaves next node.arcs) rest) d has in
    let listed = Has-filter-from (λ (node : DdNode). node.exact && leaves next node.arcs) rest from.0 from.1 in
    let exact' = (and_parts from.0.exact (leaves next from.0.arcs) listed.1).0 in
    side-by-side dp p k node from.0 c d r (all from.0 listed.0 exact') (no-repeat node from.0 rest exact exact' listed.0 new) h (child-from dp k from.0 d from.2))

in-turn-layer : (dp : Dp) (p : List ℕ) (k : ℕ) (layer next : List DdNode) → ((x : DdNode) → Has x layer → IsTrue x.exact → IsReachedBy dp p k x) → IsTrue (are_distinct layer) → InTurn (borders dp k layer next)
in-turn-layer dp p k [] next all distinct = tt
in-turn-layer dp p k (node ∷ rest) next all distinct =
    let parts = and_parts (not (repeats node rest)) (are_distinct rest) distinct in
    let later : InTurn (borders dp k rest next) = in-turn-layer dp p k rest next (λ x h. all x (inr h)) parts.1 in
    let Goal : List DdNode → Type 0 = λ ns. InTurn (filter_map (child_of dp k) ns) in
    let keep : IsTrue (node.exact && leaves next node.arcs) → InTurn (cons_option (child_of dp k node) (borders dp k rest next)) = λ t.
    let exact = (and_parts node.exact (leaves next node.arcs) t).0 in
    let r = all node (inl refl) exact in
    elim (child_of dp k node) as (λ o. child_of dp k node ≡ o → InTurn (cons_option o (borders dp k rest next))) [
      | None ↦ λ e. later
      | Some c ↦ λ e. (after-one dp p k node c next rest exact r (child-from dp k node c e) (λ x h. all x (inr h)) parts.0, later)
    ] refl in
    elim (node.exact && leaves next node.arcs) as (λ b. (node.exact && leaves next node.arcs) ≡ b → InTurn (filter_map (child_of dp k) (cond b (node ∷ filter (λ (n : DdNode). n.exact && leaves next n.arcs) rest) (filter (λ (n : DdNode). n.exact && leaves next n.arcs) rest)))) [
      | true ↦ λ e. keep e
      | false ↦ λ e. later
    ] refl

across : (dp : Dp) (p : List ℕ) (t : Option ℤ) (k : ℕ) (c d : Subproblem) → length c.decisions ≡ k → BorderOf dp p t (k + 1) d → StandsBefore c d
across dp p t k c d e b =
    let deep = b.below_first in let ld = child-depth dp p b.depth b.node d b.reached b.child in
    let differ : nat_eq (length d.decisions) (length c.decisions) ≡ false = grind arith in
    record { shallower = omega arith; other = rw differ refl }

at-depth : (dp : Dp) (p : List ℕ) (w : ℕ) (t : Option ℤ) (k : ℕ) (layer next : List DdNode) (rest : List (List DdNode)) → AreLayers dp p w t k (layer ∷ next ∷ rest) → (c : Subproblem) → Has c (borders dp k layer next) → length c.decisions ≡ k
at-depth dp p w t k layer next rest all c has =
    let from = Has-filter_map-from (child_of dp k) (filter (λ (node : DdNode). node.exact && leaves next node.arcs) layer) c has in
    let listed = Has-filter-from (λ (node : DdNode). node.exact && leaves next node.arcs) layer from.0 from.1 in
    let exact = (and_parts from.0.exact (leaves next from.0.arcs) listed.1).0 in
    child-depth dp p k from.0 c (each-has (λ (n : DdNode). IsTrue n.exact → IsReachedBy dp p k n) layer from.0 all.0.exact listed.0 exact) (child-from dp k from.0 c from.2)

pub in-turn : (dp : Dp) → IsLawful dp → (p : List ℕ) (w : ℕ) (t : Option ℤ) (k : ℕ) (layer : List DdNode) (more : List (List DdNode)) → AreLayers dp p w t k (layer ∷ more) → k + length more ≡ dp.vars → InTurn (all_borders dp k (layer ∷ more))
in-turn dp laws p w t k layer [] all e = tt
in-turn dp laws p w t k layer (next ∷ rest) all e =
    in-turn-append (borders dp k layer next) (all_borders dp (k + 1) (next ∷ rest))
    (in-turn-layer dp p k layer next (λ x h t. each-has (λ (n : DdNode). IsTrue n.exact → IsReachedBy dp p k n) layer x all.0.exact h t) all.0.distinct)
    (in-turn dp laws p w t (k + 1) next rest all.1 (omega arith))
    (λ c d hc hd.
    let lc : length c.decisions ≡ k = at-depth dp p w t k layer next rest all c hc in
    across dp p t k c d lc (border-of dp laws p w t (k + 1) next rest all.1 (omega arith) d hd))
