-- A layer that is expanded.
use Rattle.std.proofs.Common.{◌≡◌, ◌≢◌, ℕ, zero, suc, ◌+◌, ◌<◌, ◌≤◌, nat_lt, ℤ, pos, ◌+ℤ◌, ◌≤ℤ◌, Bool, true, false, cond, not, ◌||◌, List, [], ◌∷◌, ◌++◌, length, map, filter, take, slice_get, position, Option, Some, None, inl, inr, IsTrue, refl, sym, ◌∙◌, ap, subst, arith, length-append}
use Rattle.std.proofs.lemmas.Int.{ints}
use Rattle.std.proofs.lemmas.List.{take-append-le}
use Rattle.std.specs.List.{prefix_len}
use Rattle.dp_model.specs.Dp.{Dp, IsAllowed}
use Rattle.dp_model.specs.Decisions.{below}
use Rattle.dp_model.specs.Gaps.{IsStateOf}
use Rattle.dp_model.specs.Laws.{IsLawful}
use Rattle.dp_model.specs.Lists.{Each, OneOf}
use Rattle.dp_model.specs.Prefixes.{state_of, value_of}
use Rattle.dp_model.specs.Reached.{Reached}
use Rattle.dp_model.specs.Rows.{row_same}
use Rattle.dp_model.proofs.Members.{Has, each-has, each-of-all, Has-map, Has-map-from, Has-filter-from, Has-below-from, Has-flat_map, Has-flat_map-from}
use Rattle.std.proofs.lemmas.Bool.{and_parts}
use Rattle.dp_model.proofs.RowLemmas.{row_same-is, row_same-self}
use Rattle.dp_model.proofs.Paths.{IsPrefix-then, state_of-then, value_of-then}
use Rattle.dp_laws.specs.Restricted.Beam.{expanded}
use Rattle.dp_laws.specs.Restricted.BestOfState.{IsBestOfState, HasBest}
use Rattle.dp_laws.specs.Restricted.Extensions.{extended, extensions, candidates}
use Rattle.dp_laws.specs.Restricted.Ordered.{RowsDiffer}
use Rattle.dp_laws.specs.Pairs.{EachTwo}
use Rattle.dp_laws.proofs.Restricted.Differing.{differ-expanded}
use Rattle.dp_laws.proofs.Restricted.Joining.{best-each, best-has, expansion}
use Rattle.dp_laws.specs.declared.arc.DdArc.{DdArc}
use Rattle.dp_laws.specs.Diagrams.Nodes.{DdNode, prefix_at}
use Rattle.dp_laws.specs.Diagrams.Seen.{decisions_at, IsReachedBy, HasArcs, Leads}
use Rattle.dp_laws.proofs.Diagrams.Places.{same-Some, Has-at}
use Rattle.dp_laws.specs.Rules.Expanding.{makes, is_exact_row, node_for, new_layer, arc_of, with_arcs}
use Rattle.dp_laws.proofs.Rules.Linked.{IsLength, AreLinked}
use Rattle.dp_laws.proofs.Rules.Layers.{Differ, AreNodes, state-of}

-- The decisions of a layer above the last one.

pub allowed-of : (dp : Dp) (k : ℕ) (s : List ℤ) (d : ℕ) → k < dp.vars → Has d (decisions_at dp k s) → IsAllowed dp k s d
allowed-of dp k s d low h =
    let inside : nat_lt k dp.vars ≡ true = grind arith in
    let listed : Has d (filter (dp.allowed k s) (below (dp.choices k))) = subst (λ b. Has d (cond b (filter (dp.allowed k s) (below (dp.choices k))) [])) inside h in
    let from = Has-filter-from (dp.allowed k s) (below (dp.choices k)) d listed in
    record { layer = low; choice = Has-below-from (dp.choices k) d from.0; test = from.1 }

-- the candidates are what the decisions of the nodes make
pub record MadeBy (dp : Dp) (k : ℕ) (layer : List DdNode) (c : Reached) : Type 0 where
  pub node : DdNode
  pub has : Has node layer
  pub decision : ℕ
  pub listed : Has decision (decisions_at dp k node.row)
  pub is : c ≡ extended dp k (prefix_at node) decision

in-decisions : (dp : Dp) (k : ℕ) (s : List ℤ) (d : ℕ) → k < dp.vars → Has d (filter (dp.allowed k s) (below (dp.choices k))) → Has d (decisions_at dp k s)
in-decisions dp k s d low h = let inside : nat_lt k dp.vars ≡ true = grind arith in rw inside h

pub made-by : (dp : Dp) (k : ℕ) (layer : List DdNode) (c : Reached) → k < dp.vars → Has c (candidates dp k (map prefix_at layer)) → MadeBy dp k layer c
made-by dp k layer c low h =
    let of-prefix = Has-flat_map-from (extensions dp k) (map prefix_at layer) c h in
    let of-node = Has-map-from prefix_at layer of-prefix.0 of-prefix.1 in
    let of-decision = Has-map-from (extended dp k of-prefix.0) (filter (dp.allowed k of-prefix.0.row) (below (dp.choices k))) c of-prefix.2 in
    let row : of-prefix.0.row ≡ of-node.0.row = ap (λ (r : Reached). r.row) (sym of-node.2) in
    record {
      node = of-node.0;
      has = of-node.1;
      decision = of-decision.0;
      listed = in-decisions dp k of-node.0.row of-decision.0 low (subst (λ s. Has of-decision.0 (filter (dp.allowed k s) (below (dp.choices k)))) row of-decision.1);
      is = sym of-decision.2 ∙ ap (λ r. extended dp k r of-decision.0) (sym of-node.2);
    }

pub made : (dp : Dp) (k : ℕ) (layer : List DdNode) (node : DdNode) (d : ℕ) → k < dp.vars → Has node layer → Has d (decisions_at dp k node.row) → Has (extended dp k (prefix_at node) d) (candidates dp k (map prefix_at layer))
made dp k layer node d low has listed =
    let inside : nat_lt k dp.vars ≡ true = grind arith in
    let plain : Has d (filter (dp.allowed k node.row) (below (dp.choices k))) = subst (λ b. Has d (cond b (filter (dp.allowed k node.row) (below (dp.choices k))) [])) inside listed in
    Has-flat_map (extensions dp k) (map prefix_at layer) (prefix_at node) (extended dp k (prefix_at node) d) (Has-map prefix_at layer node has)
    (Has-map (extended dp k (prefix_at node)) (filter (dp.allowed k node.row) (below (dp.choices k))) d plain)

-- The new layer, by its prefixes.

abbrev pub joined_candidates : Dp → ℕ → List DdNode → List Reached
joined_candidates dp k layer = expanded dp k (map prefix_at layer)

pub has-best : (dp : Dp) (k : ℕ) (layer : List DdNode) → HasBest (candidates dp k (map prefix_at layer)) (joined_candidates dp k layer)
has-best dp k layer = (expansion dp (k + 1) (candidates dp k (map prefix_at layer))).has

-- a node of the new layer with the candidate that it keeps
pub record NewNode (dp : Dp) (k : ℕ) (layer : List DdNode) (y : DdNode) : Type 0 where
  pub best : Reached
  pub listed : Has best (joined_candidates dp k layer)
  pub is : y ≡ node_for dp k layer best
  pub made : MadeBy dp k layer best
  pub most : (c : Reached) → Has c (candidates dp k (map prefix_at layer)) → c.row ≡ best.row → c.value ≤ℤ best.value

pub new-node : (dp : Dp) (k : ℕ) (layer : List DdNode) (y : DdNode) → k < dp.vars → Has y (new_layer dp k layer) → NewNode dp k layer y
new-node dp k layer y low h =
    let from = Has-map-from (node_for dp k layer) (joined_candidates dp k layer) y h in
    let best = each-has (IsBestOfState (candidates dp k (map prefix_at layer))) (joined_candidates dp k layer) from.0 (has-best dp k layer).best from.1 in
    record {
      best = from.0;
      listed = from.1;
      is = sym from.2;
      made = made-by dp k layer from.0 low (best-has (candidates dp k (map prefix_at layer)) from.0 best);
      most = λ c has same. each-has (λ (c : Reached). c.row ≡ from.0.row → c.value ≤ℤ from.0.value) (candidates dp k (map prefix_at layer)) c (best-each (candidates dp k (map prefix_at layer)) from.0 best) has same;
    }

-- The place of a row.

-- the row at a place whose rows differ from all others is found there
pub record FoundAt (nodes : List DdNode) (row : List ℤ) : Type 0 where
  pub place : ℕ
  pub found : position (λ (node : DdNode). row_same node.row row) nodes ≡ Some place
  pub node : DdNode
  pub at : slice_get nodes place ≡ Some node
  pub same : node.row ≡ row

found-first : (node : DdNode) (nodes : List DdNode) (row : List ℤ) → row_same node.row row ≡ true → position (λ (n : DdNode). row_same n.row row) (node ∷ nodes) ≡ Some 0
found-first node nodes row e = let some : nat_lt 0 (length (node ∷ nodes)) ≡ true = grind arith in rw e (rw some refl)

later-place : (more all : ℕ) (i : ℕ) → cond (nat_lt more all) (Some more) None ≡ Some i → cond (nat_lt (1 + more) (suc all)) (Some (1 + more)) None ≡ Some (suc i)
later-place more all i e =
    elim (nat_lt more all) as (λ b. nat_lt more all ≡ b → cond b (Some more) None ≡ Some i → cond (nat_lt (1 + more) (suc all)) (Some (1 + more)) None ≡ Some (suc i)) [
      | true ↦ λ t h. (let same : more ≡ i = same-Some more i h in let inside : nat_lt (1 + more) (suc all) ≡ true = grind arith in let sum : 1 + more ≡ suc i = omega arith in rw inside (ap Some sum))
      | false ↦ λ t h. absurd (let none : None ≡ Some i = h in cc)
    ] refl e

found-later : (node : DdNode) (nodes : List DdNode) (row : List ℤ) → row_same node.row row ≡ false → FoundAt nodes row → FoundAt (node ∷ nodes) row
found-later node nodes row differ f = record {
  place = suc f.place;
  found = rw differ (later-place (prefix_len (λ (n : DdNode). not (row_same n.row row)) nodes) (length nodes) f.place f.found);
  node = f.node;
  at = f.at;
  same = f.same;
}

pub found-row : (nodes : List DdNode) (row : List ℤ) → OneOf (λ (n : DdNode). n.row ≡ row) nodes → FoundAt nodes row
found-row [] row h = absurd h
found-row (node ∷ nodes) row h =
    elim (row_same node.row row) as (λ b. row_same node.row row ≡ b → FoundAt (node ∷ nodes) row) [
      | true ↦ λ e. record { place = 0; found = found-first node nodes row e; node = node; at = refl; same = row_same-is node.row row e }
      | false ↦ λ e. elim h as (λ _. FoundAt (node ∷ nodes) row) [
        | inl here ↦ absurd (let yes_same = subst (λ r. row_same node.row r ≡ true) here (row_same-self node.row) in let clash : true ≡ false = sym yes_same ∙ e in cc)
        | inr later ↦ found-later node nodes row e (found-row nodes row later)
      ]
    ] refl

-- of nodes whose rows all differ, one row has one place
abbrev pub RowsApart : List DdNode → Type 0
RowsApart nodes = EachTwo (λ (a b : DdNode). a.row ≢ b.row) nodes

pub one-place : (nodes : List DdNode) (i j : ℕ) (a b : DdNode) → RowsApart nodes → slice_get nodes i ≡ Some a → slice_get nodes j ≡ Some b → a.row ≡ b.row → i ≡ j
one-place [] i j a b h ai bj same = absurd (let none : None ≡ Some a = ai in cc)
one-place (n ∷ nodes) zero zero a b h ai bj same = refl
one-place (n ∷ nodes) zero (suc j) a b h ai bj same =
    absurd (each-has (λ (x : DdNode). n.row ≢ x.row) nodes b h.0 (Has-at nodes j b bj) (ap (λ (x : DdNode). x.row) (same-Some n a ai) ∙ same))
one-place (n ∷ nodes) (suc i) zero a b h ai bj same =
    absurd (each-has (λ (x : DdNode). n.row ≢ x.row) nodes a h.0 (Has-at nodes i a ai) (ap (λ (x : DdNode). x.row) (same-Some n b bj) ∙ sym same))
one-place (n ∷ nodes) (suc i) (suc j) a b h ai bj same = ap suc (one-place nodes i j a b h.1 ai bj same)

apart-each : (dp : Dp) (k : ℕ) (layer : List DdNode) (r : Reached) (rs : List Reached) → Each (λ (o : Reached). r.row ≢ o.row) rs → Each (λ (x : DdNode). (node_for dp k layer r).row ≢ x.row) (map (node_for dp k layer) rs)
apart-each dp k layer r [] h = tt
apart-each dp k layer r (o ∷ rs) h = (h.0, apart-each dp k layer r rs h.1)

apart-map : (dp : Dp) (k : ℕ) (layer : List DdNode) (rs : List Reached) → RowsDiffer rs → RowsApart (map (node_for dp k layer) rs)
apart-map dp k layer [] h = tt
apart-map dp k layer (r ∷ rs) h = (apart-each dp k layer r rs h.0, apart-map dp k layer rs h.1)

pub new-apart : (dp : Dp) (k : ℕ) (layer : List DdNode) → RowsApart (new_layer dp k layer)
new-apart dp k layer = apart-map dp k layer (joined_candidates dp k layer) (differ-expanded dp k (map prefix_at layer))

-- The arcs into the new layer.

row-there : (dp : Dp) (k : ℕ) (layer : List DdNode) (row : List ℤ) (rs : List Reached) → OneOf (λ (r : Reached). r.row ≡ row) rs → OneOf (λ (n : DdNode). n.row ≡ row) (map (node_for dp k layer) rs)
row-there dp k layer row [] h = absurd h
row-there dp k layer row (r ∷ rs) (inl here) = inl here
row-there dp k layer row (r ∷ rs) (inr later) = inr (row-there dp k layer row rs later)

-- the node that a decision of a node leads to
pub leads-into : (dp : Dp) (k : ℕ) (layer : List DdNode) (node : DdNode) (d : ℕ) → k < dp.vars → Has node layer → Has d (decisions_at dp k node.row) → FoundAt (new_layer dp k layer) (dp.step k node.row d)
leads-into dp k layer node d low has listed =
    let c = extended dp k (prefix_at node) d in
    let best = has-best dp k layer in
    let there = each-has (λ (c : Reached). OneOf (λ (r : Reached). r.row ≡ c.row) (joined_candidates dp k layer)) (candidates dp k (map prefix_at layer)) c best.all (made dp k layer node d low has listed) in
    found-row (new_layer dp k layer) (dp.step k node.row d) (row-there dp k layer (dp.step k node.row d) (joined_candidates dp k layer) there)

abbrev pub with_arcs_of : Dp → ℕ → List DdNode → DdNode → DdNode
with_arcs_of dp k next node = record node { arcs = map (arc_of dp k next node.row) (decisions_at dp k node.row) }

-- an arc of a node, by its decision
pub record ArcOf (dp : Dp) (k : ℕ) (layer next : List DdNode) (x : DdNode) (arc : DdArc) : Type 0 where
  pub node : DdNode
  pub has : Has node layer
  pub from : x ≡ record node { arcs = map (arc_of dp k next node.row) (decisions_at dp k node.row) }
  pub decision : ℕ
  pub listed : Has decision (decisions_at dp k node.row)
  pub is : arc ≡ arc_of dp k next node.row decision

pub arc-of : (dp : Dp) (k : ℕ) (layer next : List DdNode) (x : DdNode) (arc : DdArc) → Has x (with_arcs dp k next layer) → Has arc x.arcs → ArcOf dp k layer next x arc
arc-of dp k layer next x arc has listed =
    let from = Has-map-from (with_arcs_of dp k next) layer x has in
    let arcs : x.arcs ≡ map (arc_of dp k next from.0.row) (decisions_at dp k from.0.row) = ap (λ (n : DdNode). n.arcs) (sym from.2) in
    let by = Has-map-from (arc_of dp k next from.0.row) (decisions_at dp k from.0.row) arc (subst (λ as_. Has arc as_) arcs listed) in
    record { node = from.0; has = from.1; from = sym from.2; decision = by.0; listed = by.1; is = sym by.2 }

pub step-state : (dp : Dp) → IsLawful dp → (p : List ℕ) (k : ℕ) (layer : List DdNode) → AreNodes dp p k layer → k < dp.vars → (node : DdNode) → Has node layer → (d : ℕ) → Has d (decisions_at dp k node.row) → IsStateOf dp (k + 1) (dp.step k node.row d)
step-state dp laws p k layer h low node has d listed = record { layer = omega arith; test = laws.states.step k node.row d (state-of dp p k layer h (omega arith) node has) (allowed-of dp k node.row d low listed) }

decisions-of : (dp : Dp) (k : ℕ) (next : List DdNode) (s : List ℤ) (ds : List ℕ) → map (λ (arc : DdArc). arc.decision) (map (arc_of dp k next s) ds) ≡ ds
decisions-of dp k next s [] = refl
decisions-of dp k next s (d ∷ ds) = ap (λ rest. d ∷ rest) (decisions-of dp k next s ds)

gains-of : (dp : Dp) (k : ℕ) (next : List DdNode) (s : List ℤ) (ds : List ℕ) → Each (λ (arc : DdArc). arc.gain ≡ dp.gain k s arc.decision) (map (arc_of dp k next s) ds)
gains-of dp k next s [] = tt
gains-of dp k next s (d ∷ ds) = (refl, gains-of dp k next s ds)

arc-leads : (dp : Dp) → IsLawful dp → (t : Option ℤ) (p : List ℕ) (k : ℕ) (layer : List DdNode) → AreNodes dp p k layer → k < dp.vars → (node : DdNode) → Has node layer → (d : ℕ) → Has d (decisions_at dp k node.row)
    → Leads dp k t (with_arcs_of dp k (new_layer dp k layer) node) (new_layer dp k layer) (arc_of dp k (new_layer dp k layer) node.row d) (arc_of dp k (new_layer dp k layer) node.row d).target
arc-leads dp laws t p k layer h low node has d listed =
    let f = leads-into dp k layer node d low has listed in
    let own = laws.gaps.own (k + 1) (dp.step k node.row d) (step-state dp laws p k layer h low node has d listed) in
    let zero_gap : dp.gap (k + 1) f.node.row (dp.step k node.row d) ≡ Some (pos 0) = ap (λ r. dp.gap (k + 1) r (dp.step k node.row d)) f.same ∙ own in
    rw f.found (rw f.at (rw zero_gap (omega (arith, ints))))

reaches-place : (dp : Dp) (k : ℕ) (layer : List DdNode) → k < dp.vars → (place : ℕ) (y : DdNode) → slice_get (new_layer dp k layer) place ≡ Some y → IsLength (with_arcs dp k (new_layer dp k layer) layer) place y.value
reaches-place dp k layer low place y at =
    let next = new_layer dp k layer in
    let n = new-node dp k layer y low (Has-at next place y at) in
    let m = n.made in
    let f = leads-into dp k layer m.node m.decision low m.has m.listed in
    let row : y.row ≡ dp.step k m.node.row m.decision = ap (λ (x : DdNode). x.row) n.is ∙ ap (λ (r : Reached). r.row) m.is in
    let same : f.place ≡ place = one-place next f.place place f.node y (new-apart dp k layer) f.at at (f.same ∙ sym row) in
    let value : y.value ≡ m.node.value +ℤ dp.gain k m.node.row m.decision = ap (λ (x : DdNode). x.value) n.is ∙ ap (λ (r : Reached). r.value) m.is in
    record {
      source = with_arcs_of dp k next m.node;
      has = Has-map (with_arcs_of dp k next) layer m.node m.has;
      arc = arc_of dp k next m.node.row m.decision;
      listed = Has-map (arc_of dp k next m.node.row) (decisions_at dp k m.node.row) m.decision m.listed;
      aims = f.found ∙ ap Some same;
      is = omega (arith, ints);
    }

pub most-reaching : (dp : Dp) (k : ℕ) (layer : List DdNode) → k < dp.vars → (place : ℕ) (y : DdNode) → slice_get (new_layer dp k layer) place ≡ Some y → (z : ℤ) → IsLength (with_arcs dp k (new_layer dp k layer) layer) place z → z ≤ℤ y.value
most-reaching dp k layer low place y at z l =
    let next = new_layer dp k layer in
    let n = new-node dp k layer y low (Has-at next place y at) in
    let a = arc-of dp k layer next l.source l.arc l.has l.listed in
    let f = leads-into dp k layer a.node a.decision low a.has a.listed in
    let aims : Some f.place ≡ Some place = sym f.found ∙ (ap (λ (x : DdArc). x.target) (sym a.is) ∙ l.aims) in
    let same : f.node ≡ y = same-Some f.node y (sym f.at ∙ (ap (slice_get next) (same-Some f.place place aims) ∙ at)) in
    let best-row : n.best.row ≡ dp.step k a.node.row a.decision = ap (λ (x : DdNode). x.row) (sym n.is) ∙ (ap (λ (x : DdNode). x.row) (sym same) ∙ f.same) in
    let most = n.most (extended dp k (prefix_at a.node) a.decision) (made dp k layer a.node a.decision low a.has a.listed) (sym best-row) in
    let value : y.value ≡ n.best.value = ap (λ (x : DdNode). x.value) n.is in
    let source : l.source.value ≡ a.node.value = ap (λ (x : DdNode). x.value) a.from in
    let gain : l.arc.gain ≡ dp.gain k a.node.row a.decision = ap (λ (x : DdArc). x.gain) a.is in
    let longer : l.arc.longer ≡ pos 0 = ap (λ (x : DdArc). x.longer) a.is in
    let is = l.is in
    omega (arith, ints)

-- a layer that is expanded is linked to the new one
pub linked-expanded : (dp : Dp) → IsLawful dp → (t : Option ℤ) (p : List ℕ) (k : ℕ) (layer : List DdNode) → AreNodes dp p k layer → k < dp.vars → AreLinked dp t k (with_arcs dp k (new_layer dp k layer) layer) (new_layer dp k layer)
linked-expanded dp laws t p k layer h low = record {
  arcs = λ x has. (let from = Has-map-from (with_arcs_of dp k (new_layer dp k layer)) layer x has in
      subst (HasArcs dp k) from.2 (record { decisions = decisions-of dp k (new_layer dp k layer) from.0.row (decisions_at dp k from.0.row); gains = gains-of dp k (new_layer dp k layer) from.0.row (decisions_at dp k from.0.row) }));
  leads = λ x has arc listed. (
      let next = new_layer dp k layer in
      let a = arc-of dp k layer next x arc has listed in
      let base = arc-leads dp laws t p k layer h low a.node a.has a.decision a.listed in
      let on-arc : Leads dp k t (with_arcs_of dp k next a.node) next arc arc.target = subst (λ (b : DdArc). Leads dp k t (with_arcs_of dp k next a.node) next b b.target) (sym a.is) base in
      subst (λ (n : DdNode). Leads dp k t n next arc arc.target) (sym a.from) on-arc);
  values = λ place y at. record { reached = reaches-place dp k layer low place y at; most = most-reaching dp k layer low place y at };
}

-- The nodes of the new layer.

or-not : (b : Bool) → IsTrue (b || not true) → IsTrue b
or-not true h = refl
or-not false h = absurd (let clash : false ≡ true = h in cc)

-- a node that makes the row is exact where the row is
pub exact-maker : (dp : Dp) (k : ℕ) (above : List DdNode) (row : List ℤ) → IsTrue (is_exact_row dp k above row) → (node : DdNode) → Has node above → IsTrue (makes dp k node.row (decisions_at dp k node.row) row) → IsTrue node.exact
exact-maker dp k [] row h node has made = absurd has
exact-maker dp k (one ∷ above) row h node (inl same) made =
    let first = (and_parts (one.exact || not (makes dp k one.row (decisions_at dp k one.row) row)) (is_exact_row dp k above row) h).0 in
    let makes-it : makes dp k one.row (decisions_at dp k one.row) row ≡ true = ap (λ (x : DdNode). makes dp k x.row (decisions_at dp k x.row) row) same ∙ made in
    let plain : IsTrue (one.exact || not true) = subst (λ b. IsTrue (one.exact || not b)) makes-it first in
    subst (λ (x : DdNode). IsTrue x.exact) same (or-not one.exact plain)
exact-maker dp k (one ∷ above) row h node (inr later) made =
    exact-maker dp k above row (and_parts (one.exact || not (makes dp k one.row (decisions_at dp k one.row) row)) (is_exact_row dp k above row) h).1 node later made

-- a decision that makes the row is found
pub makes-by : (dp : Dp) (k : ℕ) (s : List ℤ) (ds : List ℕ) (d : ℕ) (row : List ℤ) → Has d ds → dp.step k s d ≡ row → IsTrue (makes dp k s ds row)
makes-by dp k s [] d row h e = absurd h
makes-by dp k s (e0 ∷ ds) d row (inl same) e =
    let step : dp.step k s e0 ≡ row = ap (dp.step k s) same ∙ e in
    let here : row_same (dp.step k s e0) row ≡ true = subst (λ r. row_same (dp.step k s e0) r ≡ true) step (row_same-self (dp.step k s e0)) in
    rw here refl
makes-by dp k s (e0 ∷ ds) d row (inr later) e =
    let rest : IsTrue (makes dp k s ds row) = makes-by dp k s ds d row later e in
    elim (row_same (dp.step k s e0) row) as (λ b. IsTrue (b || makes dp k s ds row)) [ true ↦ refl | false ↦ rest ]

-- a path that is longer by a decision is reached likewise
reached-then : (dp : Dp) (p : List ℕ) (k : ℕ) (node : DdNode) (d : ℕ) (y : DdNode) → IsReachedBy dp p k node → length p ≤ k → IsAllowed dp k node.row d → y.row ≡ dp.step k node.row d → y.value ≡ node.value +ℤ dp.gain k node.row d → y.path ≡ node.path ++ d ∷ [] → IsReachedBy dp p (k + 1) y
reached-then dp p k node d y r deep allowed row value path =
    let long = r.depth in
    let here : IsAllowed dp (length node.path) (state_of dp node.path) d = subst (λ s. IsAllowed dp (length node.path) s d) r.row (subst (λ n. IsAllowed dp n node.row d) (sym long) allowed) in
    let step : dp.step k node.row d ≡ dp.step (length node.path) (state_of dp node.path) d = ap (λ n. dp.step n node.row d) (sym long) ∙ ap (λ s. dp.step (length node.path) s d) r.row in
    let gain : dp.gain k node.row d ≡ dp.gain (length node.path) (state_of dp node.path) d = ap (λ n. dp.gain n node.row d) (sym long) ∙ ap (λ s. dp.gain (length node.path) s d) r.row in
    let old-value = r.value in
    record {
      prefix = rw path (IsPrefix-then dp node.path d r.prefix here);
      depth = ap length path ∙ (length-append node.path (d ∷ []) ∙ omega arith);
      begins = ap (take (length p)) path ∙ (take-append-le (length p) node.path (d ∷ []) (omega arith) ∙ r.begins);
      row = row ∙ (step ∙ (sym (state_of-then dp node.path d) ∙ ap (state_of dp) (sym path)));
      value = value ∙ (ap (λ z. z +ℤ dp.gain k node.row d) old-value ∙ (ap (λ z. value_of dp node.path +ℤ z) gain ∙ (sym (value_of-then dp node.path d) ∙ ap (value_of dp) (sym path))));
    }

differ-of : (nodes : List DdNode) → RowsApart nodes → EachTwo Differ nodes
differ-of [] h = tt
differ-of (n ∷ nodes) h = (each-of-all (Differ n) nodes (λ x has a b. each-has (λ (x : DdNode). n.row ≢ x.row) nodes x h.0 has), differ-of nodes h.1)

pub new-nodes : (dp : Dp) → IsLawful dp → (p : List ℕ) (k : ℕ) (layer : List DdNode) → AreNodes dp p k layer → k < dp.vars → length p ≤ k → AreNodes dp p (k + 1) (new_layer dp k layer)
new-nodes dp laws p k layer h low deep = record {
  states = λ y has. (
      let n = new-node dp k layer y low has in
      let m = n.made in
      let row : y.row ≡ dp.step k m.node.row m.decision = ap (λ (x : DdNode). x.row) n.is ∙ ap (λ (r : Reached). r.row) m.is in
      rw row (step-state dp laws p k layer h low m.node m.has m.decision m.listed).test);
  reached = λ y has exact. (
      let n = new-node dp k layer y low has in
      let m = n.made in
      let row : y.row ≡ dp.step k m.node.row m.decision = ap (λ (x : DdNode). x.row) n.is ∙ ap (λ (r : Reached). r.row) m.is in
      let value : y.value ≡ m.node.value +ℤ dp.gain k m.node.row m.decision = ap (λ (x : DdNode). x.value) n.is ∙ ap (λ (r : Reached). r.value) m.is in
      let path : y.path ≡ m.node.path ++ m.decision ∷ [] = ap (λ (x : DdNode). x.path) n.is ∙ ap (λ (r : Reached). r.decisions) m.is in
      let all-exact : IsTrue (is_exact_row dp k layer n.best.row) = ap (λ (x : DdNode). x.exact) (sym n.is) ∙ exact in
      let maker : IsTrue m.node.exact = exact-maker dp k layer n.best.row all-exact m.node m.has (makes-by dp k m.node.row (decisions_at dp k m.node.row) m.decision n.best.row m.listed (sym (ap (λ (r : Reached). r.row) m.is))) in
      reached-then dp p k m.node m.decision y (h.reached m.node m.has maker) deep (allowed-of dp k m.node.row m.decision low m.listed) row value path);
  differ = differ-of (new_layer dp k layer) (new-apart dp k layer);
}
