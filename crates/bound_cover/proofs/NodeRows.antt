-- The row of a node of a diagram passes its tests, where the nodes of the next layer have theirs.
use Rattle.std.proofs.Common.{◌≡◌, ℕ, ◌+◌, ◌<◌, nat_eq, nat_lt, ℤ, pos, ◌+ℤ◌, ◌≤ℤ◌, true, false, cond, ◌&&◌, List, [], ◌∷◌, ◌++◌, length, map, filter, slice_get, Option, Some, None, option_map, option_and_then, inl, inr, IsTrue, refl, sym, ◌∙◌, ap, subst, arith, zero-add}
use Rattle.std.proofs.lemmas.Option.{slice_get-map}
use Rattle.std.specs.List.{filter_map}
use Rattle.dp_model.specs.Dp.{Dp}
use Rattle.dp_model.specs.Decisions.{below}
use Rattle.dp_model.specs.Gaps.{IsStateOf}
use Rattle.dp_model.specs.Laws.{IsLawful}
use Rattle.dp_model.specs.Lists.{Each}
use Rattle.dp_model.specs.Numbers.{AtMost, add_some, greatest}
use Rattle.dp_model.proofs.Members.{Has, each-has, Has-map-from, Has-filter-from, Has-below-from}
use Rattle.dp_laws.specs.declared.arc.DdArc.{DdArc}
use Rattle.dp_laws.specs.Diagrams.Nodes.{DdNode}
use Rattle.dp_laws.specs.Diagrams.Seen.{decisions_at, HasArcs, LeadsTo, Leads, lengths_into, HaveValues, suffix_at, suffix_from, IsLayer}
use Rattle.dp_laws.proofs.Diagrams.Following.{value-at, Has-length, covers-within}
use Rattle.dp_laws.proofs.Diagrams.Places.{Has-at, Has-filter_map, greatest-most, greatest-at_least}
use Rattle.bound_cover.specs.declared.cover.CoverArc.{CoverArc}
use Rattle.bound_cover.specs.declared.cover.Why.TheVariants.{Row, Arc, Target, Terminal}
use Rattle.bound_cover.specs.Covers.{CoverRow}
use Rattle.bound_cover.specs.Tests.{is_at_most, is_state_row, arc_for, tested, gap_fault, row_arc_fault, arc_fault, listed_fault, decision_fault, decisions_fault, inner_fault, last_fault}
use Rattle.bound_cover.specs.Exploring.{rest_of, greater_of, is_deep, claim_of, moved, row_for}
use Rattle.bound_cover.specs.DraftRows.{Passes}
use Rattle.bound_cover.proofs.Faults.{first-both, unless-holds, cond-holds}
use Rattle.bound_cover.proofs.Keeping.{append-following}
use Rattle.bound_cover.proofs.Rising.{Rises, rises-below, rises-filter, arc-for, with_listed-from}
use Rattle.bound_cover.proofs.Claims.{at-most-through, add-greater, rest-step, struck-within, suffix-step}

-- ---- facts of a layer

-- a state has as many words as all have
pub state-row : (dp : Dp) → IsLawful dp → (k : ℕ) (words : List ℤ) → IsStateOf dp k words → IsTrue (is_state_row dp k words)
state-row dp laws k words h =
    let long : length words ≡ dp.words = laws.sizes.cells k words h in
    let same : nat_eq (length words) dp.words ≡ true = grind arith in
    rw same h.test

-- a suffix is at least the length of an arc and the suffix of its target
suffix-over : (dp : Dp) (k : ℕ) (next : List DdNode) (node : DdNode) (arc : DdArc) (i : ℕ) (target : DdNode) (z : ℤ) → k < dp.vars → node.suffix ≡ suffix_from dp k next node.arcs → Has arc node.arcs → arc.target ≡ Some i → slice_get next i ≡ Some target → target.suffix ≡ Some z
    → AtMost ((arc.gain +ℤ arc.longer) +ℤ z) node.suffix
suffix-over dp k next node arc i target z short is has aims at ends =
    let inside : nat_lt k dp.vars ≡ true = grind arith in
    let more : suffix_at next arc.target ≡ Some z = ap (suffix_at next) aims ∙ (ap (option_and_then (λ (n : DdNode). n.suffix)) at ∙ ends) in
    let sum : add_some (arc.gain +ℤ arc.longer) (suffix_at next arc.target) ≡ Some ((arc.gain +ℤ arc.longer) +ℤ z) = ap (add_some (arc.gain +ℤ arc.longer)) more in
    let all = greatest-at_least (filter_map (λ (x : DdArc). add_some (x.gain +ℤ x.longer) (suffix_at next x.target)) node.arcs) ((arc.gain +ℤ arc.longer) +ℤ z)
    (Has-filter_map (λ (x : DdArc). add_some (x.gain +ℤ x.longer) (suffix_at next x.target)) node.arcs arc ((arc.gain +ℤ arc.longer) +ℤ z) has sum) in
    let from : AtMost ((arc.gain +ℤ arc.longer) +ℤ z) (suffix_from dp k next node.arcs) = rw inside all in
    subst (λ o. AtMost ((arc.gain +ℤ arc.longer) +ℤ z) o) (sym is) from

-- an arc's target has at least the value that the arc leads to
reached : (layer next : List DdNode) → HaveValues layer 0 next → (node : DdNode) (arc : DdArc) (i : ℕ) (target : DdNode) → Has node layer → Has arc node.arcs → arc.target ≡ Some i → slice_get next i ≡ Some target → (node.value +ℤ (arc.gain +ℤ arc.longer)) ≤ℤ target.value
reached layer next values node arc i target has a aims at =
    let top : Some target.value ≡ greatest (lengths_into layer i) = subst (λ n. Some target.value ≡ greatest (lengths_into layer n)) (zero-add i) (value-at layer 0 next i target values at) in
    greatest-most (lengths_into layer i) target.value (node.value +ℤ (arc.gain +ℤ arc.longer)) top (Has-length layer node arc i has a aims)

-- ---- what a row's bound needs

-- the bound is at least what is left below best, and where the next layer is not exact at least the suffix
pub record IsEnough (best : Option ℤ) (reduced : Option ℕ) (k : ℕ) (node : DdNode) (bound : Option ℤ) : Type 0 where
  pub rest : IsTrue (is_at_most (rest_of best node.value) bound)
  pub suffix : IsTrue (is_deep reduced (k + 1)) → IsTrue (is_at_most node.suffix bound)

-- the target's claim, lifted by gain and gap, is within such a bound
within-bound : (best : Option ℤ) (reduced : Option ℕ) (k : ℕ) (node target : DdNode) (bound : Option ℤ) (gain gap longer : ℤ) → IsEnough best reduced k node bound → gap ≤ℤ longer → (node.value +ℤ (gain +ℤ longer)) ≤ℤ target.value
    → ((z : ℤ) → target.suffix ≡ Some z → AtMost ((gain +ℤ longer) +ℤ z) node.suffix) → IsTrue (is_at_most (add_some (gain +ℤ gap) (claim_of best (is_deep reduced (k + 1)) target)) bound)
within-bound best reduced k node target bound gain gap longer enough low reach over =
    let by-rest = at-most-through (add_some (gain +ℤ gap) (rest_of best target.value)) (rest_of best node.value) bound (rest-step best node.value gain gap longer target.value low reach) enough.rest in
    elim (is_deep reduced (k + 1)) as (λ b. is_deep reduced (k + 1) ≡ b → IsTrue (is_at_most (add_some (gain +ℤ gap) (cond b (greater_of target.suffix (rest_of best target.value)) (rest_of best target.value))) bound)) [
      | true ↦ λ e. add-greater (gain +ℤ gap) target.suffix (rest_of best target.value) bound (suffix-step gain gap longer target.suffix node.suffix bound low over (enough.suffix e)) by-rest
      | false ↦ λ _. by-rest
    ] refl

-- ---- an arc

-- the row of a node with a bound
abbrev pub row_with : Option ℤ → DdNode → Option (List CoverArc) → CoverRow
row_with bound node arcs = record { bound = bound; words = node.row; arcs = arcs }

-- the next layer of the cover: the rows that are there, and those of the nodes
abbrev pub next_rows : Dp → Option ℤ → Option ℕ → ℕ → List CoverRow → ℕ → List DdNode → List CoverRow
next_rows dp best reduced k old before next = old ++ map (row_for dp best reduced (k + 1) before) next

to-node : (dp : Dp) → IsLawful dp → (p : List ℕ) (w : ℕ) (best : Option ℤ) (reduced : Option ℕ) (k : ℕ) (layer next : List DdNode) → IsLayer dp p w best k layer next → ((x : DdNode) → Has x next → IsTrue (dp.is_state (k + 1) x.row)) → k < dp.vars
    → (node : DdNode) → Has node layer → (arc : DdArc) → Has arc node.arcs → arc.gain ≡ dp.gain k node.row arc.decision → (bound : Option ℤ) → IsEnough best reduced k node bound
    → (i : ℕ) (o : Option (List CoverArc)) (place : ℕ) (found : Option DdNode) → arc.target ≡ Some place → slice_get next place ≡ found → LeadsTo dp k node arc found → (rows : List CoverRow) (before : ℕ) (at : ℕ)
    → slice_get rows at ≡ option_map (row_for dp best reduced (k + 1) before) found → row_arc_fault dp k i (row_with bound node o) arc.decision (slice_get rows at) ≡ None
to-node dp laws p w best reduced k layer next l states short node has arc a gains bound enough i o place None aims at leads rows before where_ is = absurd leads
to-node dp laws p w best reduced k layer next l states short node has arc a gains bound enough i o place (Some target) aims at leads rows before where_ is =
    let s = dp.step k node.row arc.decision in
    let d = arc.decision in
    let covers = covers-within (dp.gap (k + 1) target.row s) arc.longer leads in
    let g = covers.0 in
    let of-target : IsStateOf dp (k + 1) target.row = record { layer = omega arith; test = states target (Has-at next place target at) } in
    let suffixes = each-has (λ (x : DdNode). x.suffix ≡ suffix_from dp k next x.arcs) layer node l.suffixes has in
    let test = within-bound best reduced k node target bound arc.gain g arc.longer enough covers.2 (reached layer next l.values node arc place target has a aims at)
    (λ z ends. suffix-over dp k next node arc place target z short suffixes a aims at ends) in
    let claim = claim_of best (is_deep reduced (k + 1)) target in
    let own : IsTrue (is_at_most (add_some (dp.gain k node.row d +ℤ g) claim) bound) = subst (λ z. IsTrue (is_at_most (add_some (z +ℤ g) claim) bound)) gains test in
    let fine : gap_fault k i d bound (dp.gain k node.row d) (Some g) claim ≡ None = unless-holds (is_at_most (add_some (dp.gain k node.row d +ℤ g) claim) bound) (Arc k i d) own in
    let gapped : gap_fault k i d bound (dp.gain k node.row d) (dp.gap (k + 1) target.row s) claim ≡ None = subst (λ x. gap_fault k i d bound (dp.gain k node.row d) x claim ≡ None) (sym covers.1) fine in
    subst (λ x. row_arc_fault dp k i (row_with bound node o) d x ≡ None) (sym is)
    (cond-holds (is_state_row dp (k + 1) target.row) (gap_fault k i d bound (dp.gain k node.row d) (dp.gap (k + 1) target.row s) claim) (Some (Target k i d)) (state-row dp laws (k + 1) target.row of-target) gapped)

node-arc : (dp : Dp) → IsLawful dp → (p : List ℕ) (w : ℕ) (best : Option ℤ) (reduced : Option ℕ) (k : ℕ) (layer next : List DdNode) → IsLayer dp p w best k layer next → ((x : DdNode) → Has x next → IsTrue (dp.is_state (k + 1) x.row)) → k < dp.vars
    → (node : DdNode) → Has node layer → (arc : DdArc) → Has arc node.arcs → arc.gain ≡ dp.gain k node.row arc.decision → (bound : Option ℤ) → IsEnough best reduced k node bound
    → (i : ℕ) (o : Option (List CoverArc)) (old : List CoverRow) (before : ℕ) (aim : Option ℕ) → arc.target ≡ aim → Leads dp k best node next arc aim
    → arc_fault dp k i (next_rows dp best reduced k old before next) (row_with bound node o) arc.decision (option_map (λ n. length old + n) aim) ≡ None
node-arc dp laws p w best reduced k layer next l states short node has arc a gains bound enough i o old before None aims leads =
    let d = arc.decision in
    let rough = dp.rough (k + 1) (dp.step k node.row d) in
    let low = struck-within node.value arc.gain rough best leads in
    let own : IsTrue (is_at_most (add_some (dp.gain k node.row d) rough) (rest_of best node.value)) = subst (λ z. IsTrue (is_at_most (add_some z rough) (rest_of best node.value))) gains low in
    unless-holds (is_at_most (add_some (dp.gain k node.row d) rough) bound) (Arc k i d) (at-most-through (add_some (dp.gain k node.row d) rough) (rest_of best node.value) bound own enough.rest)
node-arc dp laws p w best reduced k layer next l states short node has arc a gains bound enough i o old before (Some place) aims leads =
    let is : slice_get (next_rows dp best reduced k old before next) (length old + place) ≡ slice_get (map (row_for dp best reduced (k + 1) before) next) place = append-following old (map (row_for dp best reduced (k + 1) before) next) place in
    to-node dp laws p w best reduced k layer next l states short node has arc a gains bound enough i o place (slice_get next place) aims refl leads
    (next_rows dp best reduced k old before next) before (length old + place) (is ∙ slice_get-map (row_for dp best reduced (k + 1) before) next place)

-- ---- all decisions

decisions-pass : (dp : Dp) (k i : ℕ) (next : List CoverRow) (row : CoverRow) (arcs : List CoverArc) (ds : List ℕ) → ((d : ℕ) → Has d ds → decision_fault dp k i next row arcs d ≡ None) → decisions_fault dp k i next row arcs ds ≡ None
decisions-pass dp k i next row arcs [] all = refl
decisions-pass dp k i next row arcs (d ∷ ds) all =
    first-both (decision_fault dp k i next row arcs d) (decisions_fault dp k i next row arcs ds) (all d (inl refl)) (decisions-pass dp k i next row arcs ds (λ e h. all e (inr h)))

moved-decisions : (before : ℕ) (arcs : List DdArc) → map (λ (x : CoverArc). x.decision) (map (moved before) arcs) ≡ map (λ (x : DdArc). x.decision) arcs
moved-decisions before [] = refl
moved-decisions before (arc ∷ arcs) = ap (λ ds. arc.decision ∷ ds) (moved-decisions before arcs)

-- a row of a node with a bound that is enough passes
pub passes-node : (dp : Dp) → IsLawful dp → (p : List ℕ) (w : ℕ) (best : Option ℤ) (reduced : Option ℕ) (k : ℕ) (layer next : List DdNode) → IsLayer dp p w best k layer next → ((x : DdNode) → Has x next → IsTrue (dp.is_state (k + 1) x.row)) → k < dp.vars
    → (node : DdNode) → Has node layer → (bound : Option ℤ) → IsEnough best reduced k node bound → (old : List CoverRow) (before : ℕ)
    → Passes dp k (next_rows dp best reduced k old before next) (row_with bound node (Some (map (moved (length old)) node.arcs)))
passes-node dp laws p w best reduced k layer next l states short node has bound enough old before = λ i.
    let arcs = map (moved (length old)) node.arcs in
    let rows = next_rows dp best reduced k old before next in
    let row = row_with bound node (Some arcs) in
    let inside : nat_lt k dp.vars ≡ true = grind arith in
    let own : HasArcs dp k node = each-has (HasArcs dp k) layer node l.arcs has in
    let may = filter (dp.allowed k node.row) (below (dp.choices k)) in
    let outer : map (λ (x : CoverArc). x.decision) arcs ≡ decisions_at dp k node.row = moved-decisions (length old) node.arcs ∙ own.decisions in
    let listed : map (λ (x : CoverArc). x.decision) arcs ≡ may = outer ∙ ap (λ b. cond b may []) inside in
    let rises : Rises (map (λ (x : CoverArc). x.decision) arcs) = subst Rises (sym listed) (rises-filter (dp.allowed k node.row) (below (dp.choices k)) (rises-below (dp.choices k))) in
    let state : IsStateOf dp k node.row = record { layer = omega arith; test = each-has (λ (x : DdNode). IsTrue (dp.is_state k x.row)) layer node l.states has } in
    let decision : (d : ℕ) → Has d (tested dp k node.row arcs) → decision_fault dp k i rows row arcs d ≡ None = λ d h.
    (let among : Has d may = elim (with_listed-from may arcs d h) as (λ _. Has d may) [ inl a ↦ a | inr b ↦ subst (λ ds. Has d ds) listed b ] in
    let from = Has-filter-from (dp.allowed k node.row) (below (dp.choices k)) d among in
    let less : d < dp.choices k = Has-below-from (dp.choices k) d from.0 in
    let few : nat_lt d (dp.choices k) ≡ true = grind arith in
    let test : IsTrue (nat_lt d (dp.choices k) && dp.allowed k node.row d) = rw few from.1 in
    let its = arc-for d arcs rises (subst (λ ds. Has d ds) (sym listed) among) in
    let source = Has-map-from (moved (length old)) node.arcs its.arc its.has in
    let arc = source.0 in
    let gains = each-has (λ (x : DdArc). x.gain ≡ dp.gain k node.row x.decision) node.arcs arc own.gains source.1 in
    let leads = each-has (λ (x : DdArc). Leads dp k best node next x x.target) node.arcs arc (each-has (λ (n : DdNode). Each (λ (x : DdArc). Leads dp k best n next x x.target) n.arcs) layer node l.leads has) source.1 in
    let fine = node-arc dp laws p w best reduced k layer next l states short node has arc source.1 gains bound enough i (Some arcs) old before arc.target refl leads in
    let same : arc.decision ≡ d = ap (λ (x : CoverArc). x.decision) source.2 ∙ its.decision in
    let at-d : arc_fault dp k i rows row d (moved (length old) arc).target ≡ None = subst (λ n. arc_fault dp k i rows row n (moved (length old) arc).target ≡ None) same fine in
    let by-its : listed_fault dp k i rows row d (Some its.arc) ≡ None = subst (λ (x : CoverArc). arc_fault dp k i rows row d x.target ≡ None) source.2 at-d in
    let by-list : listed_fault dp k i rows row d (arc_for d arcs) ≡ None = subst (λ x. listed_fault dp k i rows row d x ≡ None) (sym its.is) by-its in
    cond-holds (nat_lt d (dp.choices k) && dp.allowed k node.row d) (listed_fault dp k i rows row d (arc_for d arcs)) (Some (Target k i d)) test by-list) in
    let inner : inner_fault dp k i rows row (Some arcs) ≡ None = decisions-pass dp k i rows row arcs (tested dp k node.row arcs) decision in
    cond-holds (is_state_row dp k node.row) (cond (nat_lt k dp.vars) (inner_fault dp k i rows row (Some arcs)) (last_fault i row (Some arcs))) (Some (Row k i)) (state-row dp laws k node.row state)
    (cond-holds (nat_lt k dp.vars) (inner_fault dp k i rows row (Some arcs)) (last_fault i row (Some arcs)) inside inner)

-- a row of the last layer passes where its bound is at least 0
pub passes-last : (dp : Dp) → IsLawful dp → (rows : List CoverRow) (row : CoverRow) → IsStateOf dp dp.vars row.words → row.arcs ≡ None → IsTrue (is_at_most (Some (pos 0)) row.bound) → Passes dp dp.vars rows row
passes-last dp laws rows row state bare test = λ i.
    let outside : nat_lt dp.vars dp.vars ≡ false = grind arith in
    let fine : last_fault i row row.arcs ≡ None = subst (λ o. last_fault i row o ≡ None) (sym bare) (unless-holds (is_at_most (Some (pos 0)) row.bound) (Terminal i) test) in
    cond-holds (is_state_row dp dp.vars row.words) (cond (nat_lt dp.vars dp.vars) (inner_fault dp dp.vars i rows row row.arcs) (last_fault i row row.arcs)) (Some (Row dp.vars i)) (state-row dp laws dp.vars row.words state)
    (ap (λ b. cond b (inner_fault dp dp.vars i rows row row.arcs) (last_fault i row row.arcs)) outside ∙ fine)
