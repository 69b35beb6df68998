-- How a continuation goes on along the arcs of a diagram.
use Rattle.std.proofs.Common.{◌≡◌, ℕ, zero, suc, ◌+◌, ◌<◌, nat_lt, ℤ, ◌+ℤ◌, ◌≤ℤ◌, int_le, true, List, [], ◌∷◌, length, map, filter, slice_get, Option, Some, None, ◌⊎◌, inl, inr, IsTrue, refl, sym, subst, arith, add-zero, zero-add}
use Rattle.std.proofs.lemmas.Int.{ints}
use Rattle.dp_model.specs.Dp.{Dp, IsAllowed}
use Rattle.dp_model.specs.Decisions.{below}
use Rattle.dp_model.specs.Gaps.{is_struck_by, IsStateOf, Matches}
use Rattle.dp_model.specs.Laws.{IsLawful}
use Rattle.dp_model.specs.Lists.{Each}
use Rattle.dp_model.specs.Numbers.{AtMost, greatest}
use Rattle.dp_model.specs.Prefixes.{IsContinuation, gain_of}
use Rattle.dp_model.proofs.Members.{Has, each-has, Has-map, Has-map-from, Has-filter, Has-below, Has-flat_map}
use Rattle.dp_model.proofs.RowLemmas.{nat_eq-self}
use Rattle.dp_laws.specs.declared.arc.DdArc.{DdArc}
use Rattle.dp_laws.specs.Diagrams.Nodes.{DdNode}
use Rattle.dp_laws.specs.Diagrams.Seen.{decisions_at, HasArcs, CoversWithin, LeadsTo, Leads, is_place, lengths_into, HaveValues, IsLayer, AreLayers}
use Rattle.dp_laws.proofs.Diagrams.Places.{same-Some, Has-at, greatest-most}

-- the test of what is struck: a continuation's gain on top is at most the threshold
pub struck-bounds : (value : ℤ) (rough t : Option ℤ) (gain : ℤ) → IsTrue (is_struck_by value rough t) → AtMost gain rough → AtMost (value +ℤ gain) t
struck-bounds value None t gain struck bound = absurd bound
struck-bounds value (Some r) None gain struck bound = absurd (grind arith)
struck-bounds value (Some r) (Some top) gain struck bound =
    let test : int_le (value +ℤ r) top ≡ true = struck in
    let most : (value +ℤ r) ≤ℤ top = grind (arith, ints) in
    omega (arith, ints)

-- an allowed decision is among those at the layer
pub Has-decisions_at : (dp : Dp) (k : ℕ) (s : List ℤ) (d : ℕ) → IsAllowed dp k s d → Has d (decisions_at dp k s)
Has-decisions_at dp k s d h =
    let below_all : k < dp.vars = h.layer in
    let inside : nat_lt k dp.vars ≡ true = grind arith in
    rw inside (Has-filter (dp.allowed k s) (below (dp.choices k)) d (Has-below (dp.choices k) d h.choice) h.test)

-- the node at a place has the greatest of the lengths to it
pub value-at : (above : List DdNode) (j : ℕ) (next : List DdNode) (i : ℕ) (node : DdNode) → HaveValues above j next → slice_get next i ≡ Some node → Some node.value ≡ greatest (lengths_into above (j + i))
value-at above j [] i node h e = absurd (let none : None ≡ Some node = e in cc)
value-at above j (other ∷ next) zero node h e =
    let same : other ≡ node = same-Some other node e in
    subst (λ (x : DdNode). Some x.value ≡ greatest (lengths_into above (j + 0))) same (subst (λ n. Some other.value ≡ greatest (lengths_into above n)) (sym (add-zero j)) h.0)
value-at above j (other ∷ next) (suc i) node h e =
    let there = value-at above (j + 1) next i node h.1 e in
    let same : j + 1 + i ≡ j + suc i = omega arith in
    subst (λ n. Some node.value ≡ greatest (lengths_into above n)) same there

-- the length of an arc to a place is among the lengths to it
pub Has-length : (above : List DdNode) (node : DdNode) (arc : DdArc) (i : ℕ) → Has node above → Has arc node.arcs → arc.target ≡ Some i → Has (node.value +ℤ (arc.gain +ℤ arc.longer)) (lengths_into above i)
Has-length above node arc i h a e =
    let aimed : IsTrue (is_place i arc.target) = rw e (nat_eq-self i) in
    Has-flat_map (λ (n : DdNode). map (λ (x : DdArc). n.value +ℤ (x.gain +ℤ x.longer)) (filter (λ (x : DdArc). is_place i x.target) n.arcs)) above node (node.value +ℤ (arc.gain +ℤ arc.longer)) h
    (Has-map (λ (x : DdArc). node.value +ℤ (x.gain +ℤ x.longer)) (filter (λ (x : DdArc). is_place i x.target) node.arcs) arc (Has-filter (λ (x : DdArc). is_place i x.target) node.arcs arc a aimed))

-- the arc that a continuation takes from a node, the node to which it leads, and how the continuation goes on from there
pub record GoesOn (dp : Dp) (k : ℕ) (node : DdNode) (next : List DdNode) (gain : ℤ) : Type 0 where
  pub arc : DdArc
  pub has : Has arc node.arcs
  pub place : ℕ
  pub aims : arc.target ≡ Some place
  pub target : DdNode
  pub at : slice_get next place ≡ Some target
  pub by : List ℕ
  pub continuation : IsContinuation dp (k + 1) target.row by
  pub reached : (node.value +ℤ (arc.gain +ℤ arc.longer)) ≤ℤ target.value
  pub kept : gain ≤ℤ ((arc.gain +ℤ arc.longer) +ℤ gain_of dp (k + 1) target.row by)

-- where the arc leads to a node
abbrev GoesTo : Dp → ℕ → Option ℤ → DdNode → List DdNode → ℤ → Type 0
GoesTo dp k t node next gain = AtMost (node.value +ℤ gain) t ⊎ GoesOn dp k node next gain

pub covers-within : (gap : Option ℤ) (most : ℤ) → CoversWithin gap most → (g : ℤ) × (gap ≡ Some g) × (g ≤ℤ most)
covers-within None most h = absurd h
covers-within (Some g) most h = (g, refl, h)

leads-to : (dp : Dp) → IsLawful dp → (t : Option ℤ) (k : ℕ) (layer next : List DdNode) (node : DdNode) (arc : DdArc) (d : ℕ) (c : List ℕ) (i : ℕ) (found : Option DdNode)
    → HaveValues layer 0 next → ((x : DdNode) → Has x next → IsTrue (dp.is_state (k + 1) x.row)) → Has node layer → IsStateOf dp k node.row → IsAllowed dp k node.row d → Has arc node.arcs → arc.decision ≡ d → arc.gain ≡ dp.gain k node.row d
    → arc.target ≡ Some i → slice_get next i ≡ found → LeadsTo dp k node arc found → IsContinuation dp (k + 1) (dp.step k node.row d) c
    → GoesOn dp k node next (dp.gain k node.row d +ℤ gain_of dp (k + 1) (dp.step k node.row d) c)
leads-to dp laws t k layer next node arc d c i None values states has state allowed a same gains aims at leads path = absurd leads
leads-to dp laws t k layer next node arc d c i (Some target) values states has state allowed a same gains aims at leads path =
    let here : k < dp.vars = allowed.layer in
    let s' = dp.step k node.row d in
    let leads' : CoversWithin (dp.gap (k + 1) target.row s') arc.longer = subst (λ e. CoversWithin (dp.gap (k + 1) target.row (dp.step k node.row e)) arc.longer) same leads in
    let covers = covers-within (dp.gap (k + 1) target.row s') arc.longer leads' in
    let of-target : IsStateOf dp (k + 1) target.row = record { layer = omega arith; test = states target (Has-at next i target at) } in
    let of-next : IsStateOf dp (k + 1) s' = record { layer = omega arith; test = laws.states.step k node.row d state allowed } in
    let m : Matches dp (k + 1) target.row covers.0 (gain_of dp (k + 1) s' c) = laws.gaps.sound (k + 1) target.row s' covers.0 of-target of-next covers.1 c path in
    let top : Some target.value ≡ greatest (lengths_into layer i) = subst (λ n. Some target.value ≡ greatest (lengths_into layer n)) (zero-add i) (value-at layer 0 next i target values at) in
    let long = greatest-most (lengths_into layer i) target.value (node.value +ℤ (arc.gain +ℤ arc.longer)) top (Has-length layer node arc i has a aims) in
    let enough = m.enough in
    let most = covers.2 in
    record {
      arc = arc;
      has = a;
      place = i;
      aims = aims;
      target = target;
      at = at;
      by = m.by;
      continuation = m.continuation;
      reached = long;
      kept = omega (arith, ints);
    }

-- an arc without a target has been struck; another one leads on
by-target : (dp : Dp) → IsLawful dp → (t : Option ℤ) (k : ℕ) (layer next : List DdNode) (node : DdNode) (arc : DdArc) (d : ℕ) (c : List ℕ) (aim : Option ℕ) → arc.target ≡ aim
    → HaveValues layer 0 next → ((x : DdNode) → Has x next → IsTrue (dp.is_state (k + 1) x.row)) → Has node layer → IsStateOf dp k node.row → IsAllowed dp k node.row d → Has arc node.arcs → arc.decision ≡ d → arc.gain ≡ dp.gain k node.row d
    → Leads dp k t node next arc aim → IsContinuation dp (k + 1) (dp.step k node.row d) c
    → GoesTo dp k t node next (dp.gain k node.row d +ℤ gain_of dp (k + 1) (dp.step k node.row d) c)
by-target dp laws t k layer next node arc d c None aims values states has state allowed a same gains leads path =
    let here : k < dp.vars = allowed.layer in
    let s' = dp.step k node.row d in
    let of-next : IsStateOf dp (k + 1) s' = record { layer = omega arith; test = laws.states.step k node.row d state allowed } in
    let struck : IsTrue (is_struck_by (node.value +ℤ arc.gain) (dp.rough (k + 1) s') t) = subst (λ e. IsTrue (is_struck_by (node.value +ℤ arc.gain) (dp.rough (k + 1) (dp.step k node.row e)) t)) same leads in
    let most = struck-bounds (node.value +ℤ arc.gain) (dp.rough (k + 1) s') t (gain_of dp (k + 1) s' c) struck (laws.rough.bounds (k + 1) s' c of-next path) in
    let sum : (node.value +ℤ arc.gain) +ℤ gain_of dp (k + 1) s' c ≡ node.value +ℤ (dp.gain k node.row d +ℤ gain_of dp (k + 1) s' c) = omega (arith, ints) in
    inl (subst (λ z. AtMost z t) sum most)
by-target dp laws t k layer next node arc d c (Some i) aims values states has state allowed a same gains leads path =
    inr (leads-to dp laws t k layer next node arc d c i (slice_get next i) values states has state allowed a same gains aims refl leads path)

-- a continuation from a node is at most the threshold, or goes on along an arc
pub goes-on : (dp : Dp) → IsLawful dp → (p : List ℕ) (w : ℕ) (t : Option ℤ) (k : ℕ) (layer next : List DdNode) → IsLayer dp p w t k layer next → ((x : DdNode) → Has x next → IsTrue (dp.is_state (k + 1) x.row))
    → (node : DdNode) → Has node layer → k < dp.vars → (c : List ℕ) → IsContinuation dp k node.row c → GoesTo dp k t node next (gain_of dp k node.row c)
goes-on dp laws p w t k layer next l states node has short [] path = absurd (let whole : k + 0 ≡ dp.vars = path.whole in omega arith)
goes-on dp laws p w t k layer next l states node has short (d ∷ c) path =
    let allowed : IsAllowed dp k node.row d = path.path.0 in
    let state : IsStateOf dp k node.row = record { layer = omega arith; test = each-has (λ (x : DdNode). IsTrue (dp.is_state k x.row)) layer node l.states has } in
    let arcs : HasArcs dp k node = each-has (HasArcs dp k) layer node l.arcs has in
    let listed : Has d (map (λ (x : DdArc). x.decision) node.arcs) = rw arcs.decisions (Has-decisions_at dp k node.row d allowed) in
    let from = Has-map-from (λ (x : DdArc). x.decision) node.arcs d listed in
    let arc = from.0 in
    let gains : arc.gain ≡ dp.gain k node.row d = subst (λ e. arc.gain ≡ dp.gain k node.row e) from.2 (each-has (λ (x : DdArc). x.gain ≡ dp.gain k node.row x.decision) node.arcs arc arcs.gains from.1) in
    let leads : Leads dp k t node next arc arc.target = each-has (λ (x : DdArc). Leads dp k t node next x x.target) node.arcs arc (each-has (λ (n : DdNode). Each (λ (x : DdArc). Leads dp k t n next x x.target) n.arcs) layer node l.leads has) from.1 in
    let whole : k + length (d ∷ c) ≡ dp.vars = path.whole in
    let rest : IsContinuation dp (k + 1) (dp.step k node.row d) c = record { path = path.path.1; whole = omega arith } in
    by-target dp laws t k layer next node arc d c arc.target refl l.values states has state allowed from.1 from.2 gains leads rest

-- the nodes of the first layer are states
pub states-of : (dp : Dp) (p : List ℕ) (w : ℕ) (t : Option ℤ) (k : ℕ) (layer : List DdNode) (more : List (List DdNode)) → AreLayers dp p w t k (layer ∷ more) → (x : DdNode) → Has x layer → IsTrue (dp.is_state k x.row)
states-of dp p w t k layer [] all x h = each-has (λ (n : DdNode). IsTrue (dp.is_state k n.row)) layer x all.states h
states-of dp p w t k layer (next ∷ rest) all x h = each-has (λ (n : DdNode). IsTrue (dp.is_state k n.row)) layer x all.0.states h
