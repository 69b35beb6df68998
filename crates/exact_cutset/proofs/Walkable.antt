-- The layers of a relaxed diagram can be walked.
use Rattle.std.proofs.Common.{◌≡◌, ◌≢◌, ℕ, suc, zero, ◌+◌, ◌-◌, ◌*◌, ◌<◌, ◌≤◌, ℤ, true, false, not, ◌&&◌, ◌||◌, List, [], ◌∷◌, length, take, slice_get, Option, Some, None, IsSome, unwrap_or, IsTrue, inl, inr, refl, sym, ◌∙◌, ap, subst, arith}
use Rattle.std.proofs.lemmas.Bool.{and_parts}
use Rattle.std.proofs.lemmas.List.{take_all}
use Rattle.dp_model.specs.Decisions.{begins}
use Rattle.dp_model.specs.Dp.{Dp}
use Rattle.dp_model.specs.Gaps.{IsStateOf}
use Rattle.dp_model.specs.Laws.{IsLawful, IsChained}
use Rattle.dp_model.specs.Lists.{Each}
use Rattle.dp_model.specs.Prefixes.{state_of}
use Rattle.dp_model.specs.Reached.{reached}
use Rattle.dp_model.specs.Rows.{row_same}
use Rattle.dp_model.proofs.Members.{Has, each-has, Each-then}
use Rattle.dp_model.proofs.RowLemmas.{row_same-self}
use Rattle.dp_laws.specs.declared.arc.DdArc.{DdArc}
use Rattle.dp_laws.specs.Diagrams.Nodes.{DdNode, DdLayers, node_at}
use Rattle.dp_laws.specs.Diagrams.Seen.{IsReachedBy, IsDiagram, AreLayers, Leads, LeadsTo, repeats, are_distinct, exact_layers}
use Rattle.dp_laws.specs.Rules.Compiling.{relaxed}
use Rattle.dp_laws.proofs.Diagrams.Apart.{not-true, same-length}
use Rattle.dp_laws.proofs.Diagrams.Fits.{child-far}
use Rattle.dp_laws.proofs.Diagrams.LastExact.{all-exact}
use Rattle.dp_laws.proofs.Diagrams.Places.{same-Some, Has-at}
use Rattle.dp_laws.proofs.Diagrams.Starts.{starts, reducible}
use Rattle.dp_laws.proofs.Diagrams.Walks.{keeps-at}
use Rattle.dp_laws.proofs.Rules.Stems.{exact-stems}
use Rattle.relaxed_dd.specs.Shown.{layer_in, last_of, IsRelaxed}
use Rattle.relaxed_dd.specs.Cut.{IsWideEnough}
use Rattle.exact_cutset.specs.Walking.{IsPlaceIn, IsStem, IsExactAt, IsWalkable}
use Rattle.exact_cutset.proofs.Cuts.{nth, second-few, layer-there, few-nodes, seen, last-is}
use Rattle.exact_cutset.proofs.Searched.{there}
use Rattle.exact_cutset.proofs.Taken.{node-here}

-- Exact nodes of one layer.

repeats-has : (node other : DdNode) (rest : List DdNode) → node.exact ≡ true → other.exact ≡ true → Has other rest → row_same node.row other.row ≡ true → repeats node rest ≡ true
repeats-has node other [] a b has same = absurd has
repeats-has node other (one ∷ rest) a b (inl e) same =
    let one-exact : one.exact ≡ true = ap (λ (n : DdNode). n.exact) e ∙ b in
    let one-same : row_same node.row one.row ≡ true = ap (λ (n : DdNode). row_same node.row n.row) e ∙ same in
    rw (a, one-exact, one-same) refl
repeats-has node other (one ∷ rest) a b (inr later) same =
    let more = repeats-has node other rest a b later same in
    elim (node.exact && (one.exact && row_same node.row one.row)) as (λ v. (v || repeats node rest) ≡ true) [ true ↦ refl | false ↦ more ]

-- two exact nodes with one row stand at one place
same-place : (layer : List DdNode) (i j : ℕ) (x y : DdNode) → IsTrue (are_distinct layer) → slice_get layer i ≡ Some x → slice_get layer j ≡ Some y → x.exact ≡ true → y.exact ≡ true → row_same x.row y.row ≡ true → row_same y.row x.row ≡ true → i ≡ j
same-place [] i j x y d ax ay ex ey same back = absurd (let none : None ≡ Some x = ax in cc)
same-place (n ∷ layer) zero zero x y d ax ay ex ey same back = refl
same-place (n ∷ layer) zero (suc j) x y d ax ay ex ey same back =
    let parts = and_parts (not (repeats n layer)) (are_distinct layer) d in
    let twice = repeats-has x y layer ex ey (Has-at layer j y ay) same in
    absurd (let no : not (repeats n layer) ≡ true = parts.0 in let yes_twice : repeats n layer ≡ true = ap (λ (m : DdNode). repeats m layer) (same-Some n x ax) ∙ twice in let clash : not true ≡ true = sym (ap not yes_twice) ∙ no in cc)
same-place (n ∷ layer) (suc i) zero x y d ax ay ex ey same back =
    let parts = and_parts (not (repeats n layer)) (are_distinct layer) d in
    let twice = repeats-has y x layer ey ex (Has-at layer i x ax) back in
    absurd (let no : not (repeats n layer) ≡ true = parts.0 in let yes_twice : repeats n layer ≡ true = ap (λ (m : DdNode). repeats m layer) (same-Some n y ay) ∙ twice in let clash : not true ≡ true = sym (ap not yes_twice) ∙ no in cc)
same-place (n ∷ layer) (suc i) (suc j) x y d ax ay ex ey same back =
    let parts = and_parts (not (repeats n layer)) (are_distinct layer) d in
    ap suc (same-place layer i j x y parts.1 ax ay ex ey same back)

-- Arcs lead to nodes of the next layer.

leads-at : (dp : Dp) (p : List ℕ) (w : ℕ) (t : Option ℤ) (k m : ℕ) (ds : List (List DdNode)) (layer next : List DdNode) → AreLayers dp p w t k ds → slice_get ds m ≡ Some layer → slice_get ds (suc m) ≡ Some next
    → Each (λ (node : DdNode). Each (λ (arc : DdArc). Leads dp (k + m) t node next arc arc.target) node.arcs) layer
leads-at dp p w t k m [] layer next all a b = absurd (let none : None ≡ Some layer = a in cc)
leads-at dp p w t k m (one ∷ []) layer next all a b = absurd (let none : None ≡ Some next = b in cc)
leads-at dp p w t k zero (one ∷ two ∷ rest) layer next all a b =
    let here : k ≡ k + 0 = omega arith in
    subst (λ l. Each (λ (node : DdNode). Each (λ (arc : DdArc). Leads dp (k + 0) t node next arc arc.target) node.arcs) l) (same-Some one layer a)
    (subst (λ n. Each (λ (node : DdNode). Each (λ (arc : DdArc). Leads dp (k + 0) t node n arc arc.target) node.arcs) one) (same-Some two next b)
    (subst (λ n. Each (λ (node : DdNode). Each (λ (arc : DdArc). Leads dp n t node two arc arc.target) node.arcs) one) here all.0.leads))
leads-at dp p w t k (suc m) (one ∷ two ∷ rest) layer next all a b =
    let same : k + 1 + m ≡ k + suc m = omega arith in
    subst (λ n. Each (λ (node : DdNode). Each (λ (arc : DdArc). Leads dp n t node next arc arc.target) node.arcs) layer) same (leads-at dp p w t (k + 1) m (two ∷ rest) layer next all.1 a b)

led-to : (dp : Dp) (k : ℕ) (node : DdNode) (arc : DdArc) (o : Option DdNode) → LeadsTo dp k node arc o → IsSome o
led-to dp k node arc None h = absurd h
led-to dp k node arc (Some x) h = refl

led-in : (dp : Dp) (k : ℕ) (t : Option ℤ) (node : DdNode) (next : List DdNode) (arc : DdArc) (target : Option ℕ) → Leads dp k t node next arc target → IsPlaceIn next target
led-in dp k t node next arc None h = tt
led-in dp k t node next arc (Some place) h = led-to dp k node arc (slice_get next place) h

-- The parts.

module _ (dp : Dp) (laws : IsLawful dp) (p : List ℕ) (w : ℕ) (t : Option ℤ) (d : DdLayers) (short : length p < dp.vars) (h : IsDiagram dp p w t d) where
  record InLayer (depth i : ℕ) (x : DdNode) : Type 0 where
    at : slice_get d.layers (depth - length p) ≡ Some (layer_in d depth)
    is : slice_get (layer_in d depth) i ≡ Some x
    state : IsTrue (dp.is_state depth x.row)
    reached_by : x.exact ≡ true → IsReachedBy dp p depth x
    distinct : IsTrue (are_distinct (layer_in d depth))

  in-layer : (depth i : ℕ) (x : DdNode) → length p ≤ depth → depth ≤ dp.vars → node_at d depth i ≡ Some x → InLayer depth i x
  in-layer depth i x low high at =
      let first = h.first in
      let m = depth - length p in
      let same : depth - d.first ≡ m = omega arith in
      let place : length p + m ≡ depth = omega arith in
      let there = ap (slice_get d.layers) (sym same) ∙ layer-there dp laws p w t d short h depth low high in
      let is = sym (node-here d depth i) ∙ at in
      let keeps = (keeps-at dp p w t (length p) m d.layers h.layer (layer_in d depth) there).keeps in
      let has = Has-at (layer_in d depth) i x is in
      record {
        at = there;
        is = is;
        state = subst (λ n. IsTrue (dp.is_state n x.row)) place (each-has (λ (n : DdNode). IsTrue (dp.is_state (length p + m) n.row)) (layer_in d depth) x keeps.states has);
        reached_by = λ exact. subst (λ n. IsReachedBy dp p n x) place (each-has (λ (n : DdNode). IsTrue n.exact → IsReachedBy dp p (length p + m) n) (layer_in d depth) x keeps.exact has exact);
        distinct = keeps.distinct;
      }

  exact-at : (depth i : ℕ) (x : DdNode) → length p < depth → depth < dp.vars → node_at d depth i ≡ Some x → x.exact ≡ true → IsExactAt dp d depth x
  exact-at depth i x low high at exact =
      let l = in-layer depth i x (omega arith) (omega arith) at in
      let first = h.first in
      let m = depth - length p in
      let state : IsStateOf dp depth x.row = record { layer = omega arith; test = l.state } in
      let next-place : depth + 1 - d.first ≡ suc m = omega arith in
      let next-at : slice_get d.layers (suc m) ≡ Some (layer_in d (depth + 1)) = ap (slice_get d.layers) (sym next-place) ∙ layer-there dp laws p w t d short h (depth + 1) (omega arith) (omega arith) in
      let leads = each-has (λ (node : DdNode). Each (λ (arc : DdArc). Leads dp (length p + m) t node (layer_in d (depth + 1)) arc arc.target) node.arcs) (layer_in d depth) x
      (leads-at dp p w t (length p) m d.layers (layer_in d depth) (layer_in d (depth + 1)) h.layer l.at next-at) (Has-at (layer_in d depth) i x l.is) in
      record {
        ready = record {
          exact = exact;
          state = state;
          cells = laws.sizes.cells depth x.row state;
          far = λ bound b. child-far dp laws p w t d short h (record { depth = depth; place = i; bound = bound }) (record { node = x; is = at; exact = exact; below = omega arith; above = high; bound = b });
        };
        long = (l.reached_by exact).depth;
        leads = Each-then (λ (arc : DdArc). Leads dp (length p + m) t x (layer_in d (depth + 1)) arc arc.target) (λ (arc : DdArc). IsPlaceIn (layer_in d (depth + 1)) arc.target) x.arcs (λ arc l. led-in dp (length p + m) t x (layer_in d (depth + 1)) arc arc.target l) leads;
      }

  apart : (depth i j : ℕ) (x y : DdNode) → length p < depth → depth < dp.vars → node_at d depth i ≡ Some x → node_at d depth j ≡ Some y → x.exact ≡ true → y.exact ≡ true → i ≢ j → begins x.path y.path ≡ false
  apart depth i j x y low high ax ay ex ey other = not-true (begins x.path y.path) (λ b.
      let lx = in-layer depth i x (omega arith) (omega arith) ax in
      let ly = in-layer depth j y (omega arith) (omega arith) ay in
      let rx = lx.reached_by ex in
      let ry = ly.reached_by ey in
      let same : x.path ≡ y.path = same-length x.path y.path (rx.depth ∙ sym ry.depth) b in
      let rows : x.row ≡ y.row = rx.row ∙ (ap (state_of dp) same ∙ sym ry.row) in
      let one : row_same x.row y.row ≡ true = subst (λ r. row_same x.row r ≡ true) rows (row_same-self x.row) in
      let two : row_same y.row x.row ≡ true = subst (λ r. row_same r x.row ≡ true) rows (row_same-self x.row) in
      other (same-place (layer_in d depth) i j x y lx.distinct lx.is ly.is ex ey one two))

  some-layers : (o : Option ℕ) → d.first_reduced ≡ o → 0 < exact_layers dp.vars (length p) o
  some-layers None e = omega arith
  some-layers (Some depth) e = let r = reducible dp p w t depth (sym h.first_reduced ∙ e) in let low = r.below_first in omega arith

  one-node : length (layer_in d d.first) ≡ 1
  one-node =
      let s = starts dp p w t d h short in
      let none : d.first - d.first ≡ 0 = omega arith in
      ap (λ n. length (unwrap_or (slice_get d.layers n) [])) none ∙ ap (λ ds. length (unwrap_or (slice_get ds 0) [])) s.are

  second : (i : ℕ) (x : DdNode) → d.first + 1 < last_of d → node_at d (d.first + 1) i ≡ Some x → x.exact ≡ true → IsStem d (d.first + 1) 0 x.path
  second i x less at exact =
      let first = h.first in
      let long = h.depth in
      let back : d.first + 1 - 1 ≡ d.first = omega arith in
      let root = there (layer_in d d.first) 0 (let one = one-node in omega arith) in
      let is : node_at d d.first 0 ≡ Some root.0 = node-here d d.first 0 ∙ root.1 in
      let l = in-layer d.first 0 root.0 (omega arith) (omega arith) is in
      let zero-place : d.first - length p ≡ 0 = omega arith in
      let at0 : slice_get d.layers 0 ≡ Some (layer_in d d.first) = ap (slice_get d.layers) (sym zero-place) ∙ l.at in
      let exact-root = all-exact dp p w t d h (exact_layers dp.vars (length p) d.first_reduced) 0 refl (some-layers d.first_reduced refl) (layer_in d d.first) at0 root.0 (Has-at (layer_in d d.first) 0 root.0 root.1) in
      let r = l.reached_by exact-root in
      let rx = (in-layer (d.first + 1) i x (omega arith) (omega arith) at).reached_by exact in
      let deep = r.depth in
      let own : root.0.path ≡ p = sym (take_all (length p) root.0.path (omega arith)) ∙ r.begins in
      let front : take (d.first + 1 - 1) x.path ≡ p = ap (λ n. take n x.path) (back ∙ first) ∙ rx.begins in
      record { node = root.0; is = ap (λ k. node_at d k 0) back ∙ is; exact = exact-root; path_is = own ∙ sym front }

-- the kept paths of exact nodes lead through exact nodes
stems-of : (dp : Dp) → IsLawful dp → IsChained dp → (w : ℕ) (d : DdLayers) (r : IsRelaxed dp w d) (depth i j : ℕ) (x y : DdNode) → length r.prefix + 1 < depth → depth < dp.vars → node_at d depth i ≡ Some x → node_at d (depth - 1) j ≡ Some y → x.exact ≡ true → y.path ≡ take (depth - 1) x.path → length x.path ≡ depth → y.exact ≡ true
stems-of dp laws chained w d r depth i j x y low high ax ay exact through long =
    let back : depth - 1 + 1 ≡ depth = omega arith in
    let is : (k n : ℕ) (z : DdNode) → node_at d k n ≡ Some z → node_at (relaxed dp (reached dp r.prefix) w r.threshold) k n ≡ Some z = (λ k n z e. ap (λ (l : DdLayers). node_at l k n) (sym r.layers) ∙ e) in
    exact-stems dp r.prefix w r.threshold (depth - 1) j i y x (omega arith) (omega arith) (is (depth - 1) j y ay) (is (depth - 1 + 1) i x (ap (λ k. node_at d k i) back ∙ ax)) exact (long ∙ sym back) through

pub walkable : (dp : Dp) → IsLawful dp → IsChained dp → (w : ℕ) (d : DdLayers) → IsRelaxed dp w d → (wide room : ℕ) → IsWideEnough dp w dp.vars wide → dp.vars * wide ≤ room → IsWalkable dp d wide room
walkable dp laws chained w d r wide room enough all =
    let h = seen dp laws chained w d r in
    let p = r.prefix in
    let t = r.threshold in
    let short = r.shorter in
    let first = h.first in
    let last = last-is dp laws chained w d r in
    let positive = r.width.positive in
    let more = enough.width in
    let second-layer : length (nth d.layers 1) ≤ dp.choices (length p) = subst (λ (l : DdLayers). length (nth l.layers 1) ≤ dp.choices (length p)) (sym r.layers) (second-few dp p w t short) in
    record {
      first = omega arith;
      last = last;
      some = omega arith;
      small = laws.sizes.vars;
      one = one-node dp laws p w t d short h;
      few = λ depth low high. few-nodes dp laws p w t d short h wide depth enough second-layer (omega arith) (omega arith);
      all = all;
      exact = λ depth i x low high at exact. exact-at dp laws p w t d short h depth i x (omega arith) (omega arith) at exact;
      apart = λ depth i j x y low high ax ay ex ey other. apart dp laws p w t d short h depth i j x y (omega arith) (omega arith) ax ay ex ey other;
      second = λ i x less at exact. second dp laws p w t d short h i x less at exact;
      stem = λ depth i j x y low high ax ay exact through. stems-of dp laws chained w d r depth i j x y (omega arith) (omega arith) ax ay exact through (exact-at dp laws p w t d short h depth i x (omega arith) (omega arith) ax exact).long;
    }
