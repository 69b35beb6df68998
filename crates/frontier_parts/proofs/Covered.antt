-- The joined cover passes.
use Rattle.std.proofs.Common.{◌≡◌, ℕ, zero, suc, ◌+◌, ◌-◌, ◌<◌, nat_eq, nat_lt, ℤ, pos, ◌+ℤ◌, ◌-ℤ◌, ◌≤ℤ◌, int_le, true, false, cond, ◌&&◌, ◌||◌, List, [], ◌∷◌, ◌++◌, length, length-append, map, replicate, slice_get, Option, Some, None, inl, inr, IsTrue, refl, sym, ◌∙◌, ap, subst, arith, zero-add}
use Rattle.std.proofs.lemmas.Int.{ints}
use Rattle.std.proofs.lemmas.Bool.{and_parts}
use Rattle.dp_model.specs.Dp.{Dp}
use Rattle.dp_model.specs.Decisions.{below}
use Rattle.dp_model.specs.Gaps.{IsStateOf, Matches}
use Rattle.dp_model.specs.Laws.{IsLawful}
use Rattle.dp_model.specs.Lists.{Each}
use Rattle.dp_model.specs.NumberLaws.{int_le-is, int_le-from}
use Rattle.dp_model.specs.Numbers.{AtMost, add_some}
use Rattle.dp_model.specs.Prefixes.{IsPrefix, IsCompletion, state_of, value_of, gain_of}
use Rattle.dp_model.proofs.Members.{Has, Has-below-from, Has-filter-from}
use Rattle.dp_model.proofs.Paths.{state_of-state, state_of-then, value_of-then, continued, value_of-split}
use Rattle.dp_laws.proofs.Diagrams.Places.{Has-at}
use Rattle.bound_cover.specs.declared.cover.CoverArc.{CoverArc}
use Rattle.bound_cover.specs.declared.cover.Why.TheVariants.{Row, Arc, Target, Root, Layers}
use Rattle.bound_cover.specs.Covers.{CoverRow}
use Rattle.bound_cover.specs.Exploring.{rest_of}
use Rattle.bound_cover.specs.Tests.{unless, is_state_row, arc_for, tested, gap_fault, row_arc_fault, arc_fault, listed_fault, decision_fault, decisions_fault, inner_fault, last_fault, row_fault}
use Rattle.bound_cover.specs.Verdicts.{first_layer, rows_fault, layers_fault, covers_root, root_test, has_root, cover_fault, checked_rows}
use Rattle.bound_cover.proofs.Faults.{first-none, first-both, unless-holds, cond-holds, at-most-over, add-at-most, at-most-below, state-of-row}
use Rattle.bound_cover.proofs.Keeping.{IsKeptAt, Keeps, keeps-same, keeps-following, append-following, map-at}
use Rattle.bound_cover.proofs.NodeRows.{state-row}
use Rattle.bound_cover.proofs.Rising.{Rises, rises-below, rises-filter, arc-for, with_listed-from}
use Rattle.bound_cover.proofs.Sound.{Bounds, layers-bound}
use Rattle.frontier_parts.specs.Beside.{pushed_row, beside}
use Rattle.frontier_parts.proofs.Going.{rows_stay, rows_pushed}
use Rattle.frontier_parts.specs.CoversBelow.{own_test, IsCoverBelow, Branch, all_beside, arcs_to, branching_row, branching_cover, goes_on, AreBranches}

-- ---- covers beside each other

beside_long : (left right : List (List CoverRow)) → length left ≡ length right → length (beside left right) ≡ length left
beside_long [] right long = sym long
beside_long (layer ∷ left) [] long = refl
beside_long (layer ∷ left) (other ∷ right) long = ap suc (beside_long left right (omega arith))

keeps_first : (left right : List (List CoverRow)) → length left ≡ length right → Keeps (first_layer left) (first_layer (beside left right))
keeps_first [] [] long = keeps-same []
keeps_first [] (other ∷ right) long = absurd (omega arith)
keeps_first (layer ∷ left) [] long = absurd (omega arith)
keeps_first (layer ∷ left) (other ∷ right) long = keeps-following layer (map (pushed_row (length (first_layer left))) other)

pushed_first : (left right : List (List CoverRow)) → length left ≡ length right → (t : ℕ) (r : CoverRow) → slice_get (first_layer right) t ≡ Some r → IsKeptAt (first_layer (beside left right)) (length (first_layer left) + t) r
pushed_first [] [] long t r at = absurd (let none : None ≡ Some r = at in cc)
pushed_first [] (other ∷ right) long t r at = absurd (omega arith)
pushed_first (layer ∷ left) [] long t r at = absurd (omega arith)
pushed_first (layer ∷ left) (other ∷ right) long t r at =
    let n = length (first_layer left) in
    record { row = pushed_row n r; at = append-following layer (map (pushed_row n) other) t ∙ map-at (pushed_row n) other t r at; words = refl; bound = refl }

rows_both : (dp : Dp) (k : ℕ) (next rows more : List CoverRow) (i : ℕ) → rows_fault dp k next i rows ≡ None → ((j : ℕ) → rows_fault dp k next j more ≡ None) → rows_fault dp k next i (rows ++ more) ≡ None
rows_both dp k next [] more i e all = all i
rows_both dp k next (row ∷ rows) more i e all =
    let parts = first-none (row_fault dp k i next row) (rows_fault dp k next (i + 1) rows) e in
    first-both (row_fault dp k i next row) (rows_fault dp k next (i + 1) (rows ++ more)) parts.0 (rows_both dp k next rows more (i + 1) parts.1 all)

-- covers that pass, pass beside each other
pub beside_passes : (dp : Dp) (k : ℕ) (left right : List (List CoverRow)) → length left ≡ length right → layers_fault dp k left ≡ None → layers_fault dp k right ≡ None → layers_fault dp k (beside left right) ≡ None
beside_passes dp k [] right long e f = f
beside_passes dp k (layer ∷ left) [] long e f = e
beside_passes dp k (layer ∷ left) (other ∷ right) long e f =
    let short : length left ≡ length right = omega arith in
    let n = length (first_layer left) in
    let next = first_layer (beside left right) in
    let here = first-none (rows_fault dp k (first_layer left) 0 layer) (layers_fault dp (k + 1) left) e in
    let there = first-none (rows_fault dp k (first_layer right) 0 other) (layers_fault dp (k + 1) right) f in
    first-both (rows_fault dp k next 0 (layer ++ map (pushed_row n) other)) (layers_fault dp (k + 1) (beside left right))
    (rows_both dp k next layer (map (pushed_row n) other) 0 (rows_stay dp k (first_layer left) next (keeps_first left right short) layer 0 0 here.0)
    (λ j. rows_pushed dp k (first_layer right) next n (pushed_first left right short) other 0 j there.0))
    (beside_passes dp (k + 1) left right short here.1 there.1)

empty_long : (n : ℕ) → length {A = List CoverRow} (replicate n []) ≡ n
empty_long zero = refl
empty_long (suc n) = ap suc (empty_long n)

empty_passes : (dp : Dp) (k n : ℕ) → layers_fault dp k (replicate n []) ≡ None
empty_passes dp k zero = refl
empty_passes dp k (suc n) = empty_passes dp (k + 1) n

-- ---- branches beside each other

module _ (dp : Dp) (claim : Option ℤ) (q : List ℕ) where
  abbrev IsBranch : Branch → Type 0
  IsBranch branch = IsCoverBelow dp claim (q ++ branch.decision ∷ []) branch.layers branch.place

  deeper : (d : ℕ) → length (q ++ d ∷ []) ≡ length q + 1
  deeper d = length-append q (d ∷ [])

  branch_long : (branch : Branch) → length q < dp.vars → IsBranch branch → length branch.layers ≡ dp.vars - length q
  branch_long branch short is = let long = is.long in let deep = deeper branch.decision in omega arith

  branches_long : (branches : List Branch) → length q < dp.vars → Each IsBranch branches → length (all_beside (dp.vars - length q) branches) ≡ dp.vars - length q
  branches_long [] short each = empty_long (dp.vars - length q)
  branches_long (branch ∷ branches) short each =
      let one = branch_long branch short each.0 in let rest = branches_long branches short each.1 in
      beside_long branch.layers (all_beside (dp.vars - length q) branches) (one ∙ sym rest) ∙ one

  branches_pass : (branches : List Branch) → length q < dp.vars → Each IsBranch branches → layers_fault dp (length q + 1) (all_beside (dp.vars - length q) branches) ≡ None
  branches_pass [] short each = empty_passes dp (length q + 1) (dp.vars - length q)
  branches_pass (branch ∷ branches) short each =
      let one = branch_long branch short each.0 in let rest = branches_long branches short each.1 in
      beside_passes dp (length q + 1) branch.layers (all_beside (dp.vars - length q) branches) (one ∙ sym rest)
      (subst (λ n. layers_fault dp n branch.layers ≡ None) (deeper branch.decision) each.0.passes) (branches_pass branches short each.1)

  -- an arc that goes to a row that covers its prefix
  pub record Arrives (next : List CoverRow) (arc : CoverArc) : Type 0 where
    pub place : ℕ
    pub target : arc.target ≡ Some place
    pub row : CoverRow
    pub at : slice_get next place ≡ Some row
    pub test : IsTrue (own_test dp claim (q ++ arc.decision ∷ []) row)

  test_kept : (p : List ℕ) (r row : CoverRow) → row.words ≡ r.words → row.bound ≡ r.bound → IsTrue (own_test dp claim p r) → IsTrue (own_test dp claim p row)
  test_kept p r row words bound test =
      let Test : List ℤ → Option ℤ → Type 0 = λ w b. IsTrue (is_state_row dp (length p) w && covers_root (dp.gap (length p) w (state_of dp p)) (value_of dp p) b claim) in
      subst (λ w. Test w row.bound) (sym words) (subst (λ b. Test r.words b) (sym bound) test)

  arrive : (next : List CoverRow) (before : ℕ) (branches : List Branch) → length q < dp.vars → Each IsBranch branches
      → ((t : ℕ) (r : CoverRow) → slice_get (first_layer (all_beside (dp.vars - length q) branches)) t ≡ Some r → IsKeptAt next (before + t) r)
      → Each (Arrives next) (arcs_to before branches)
  arrive next before [] short each stands = tt
  arrive next before (branch ∷ branches) short each stands =
      let one = branch_long branch short each.0 in
      let rest = branches_long branches short each.1 in
      let more = all_beside (dp.vars - length q) branches in
      let n = length (first_layer branch.layers) in
      let first = keeps_first branch.layers more (one ∙ sym rest) branch.place each.0.row each.0.at in
      let kept = stands branch.place first.row first.at in (
        record {
          place = before + branch.place;
          target = refl;
          row = kept.row;
          at = kept.at;
          test = test_kept (q ++ branch.decision ∷ []) each.0.row kept.row (kept.words ∙ first.words) (kept.bound ∙ first.bound) each.0.test;
        },
        arrive next (before + n) branches short each.1 (λ t r at. (
            let second = pushed_first branch.layers more (one ∙ sym rest) t r at in
            let at' = stands (n + t) second.row second.at in
            let sum : before + (n + t) ≡ before + n + t = omega arith in
            record { row = at'.row; at = subst (λ m. slice_get next m ≡ Some at'.row) sum at'.at; words = at'.words ∙ second.words; bound = at'.bound ∙ second.bound })),
      )

  arcs_decide : (before : ℕ) (branches : List Branch) → map (λ (arc : CoverArc). arc.decision) (arcs_to before branches) ≡ map (λ (branch : Branch). branch.decision) branches
  arcs_decide before [] = refl
  arcs_decide before (branch ∷ branches) = ap (λ ds. branch.decision ∷ ds) (arcs_decide (before + length (first_layer branch.layers)) branches)

-- ---- the row of a prefix

-- what is left of the claim is enough for a branch within the claim
enough : (k i d : ℕ) (claim bound : Option ℤ) (v gain : ℤ) (o : Option ℤ) → IsTrue (covers_root o (v +ℤ gain) bound claim) → gap_fault k i d (rest_of claim v) gain o bound ≡ None
enough k i d claim bound v gain None h = absurd (let clash : false ≡ true = h in cc)
enough k i d claim None v gain (Some g) h = refl
enough k i d None (Some b) v gain (Some g) h = absurd (let clash : false ≡ true = h in cc)
enough k i d (Some c) (Some b) v gain (Some g) h =
    let low : (((v +ℤ gain) +ℤ g) +ℤ b) ≤ℤ c = int_le-is (((v +ℤ gain) +ℤ g) +ℤ b) c h in
    unless-holds (int_le ((gain +ℤ g) +ℤ b) (c -ℤ v)) (Arc k i d) (int_le-from ((gain +ℤ g) +ℤ b) (c -ℤ v) (omega (arith, ints)))

own_enough : (v : ℤ) (claim : Option ℤ) → IsTrue (covers_root (Some (pos 0)) v (rest_of claim v) claim)
own_enough v None = refl
own_enough v (Some c) = int_le-from ((v +ℤ pos 0) +ℤ (c -ℤ v)) c (omega (arith, ints))

all_pass : (dp : Dp) (k i : ℕ) (next : List CoverRow) (row : CoverRow) (arcs : List CoverArc) (ds : List ℕ) → ((d : ℕ) → Has d ds → decision_fault dp k i next row arcs d ≡ None) → decisions_fault dp k i next row arcs ds ≡ None
all_pass dp k i next row arcs [] all = refl
all_pass dp k i next row arcs (d ∷ ds) all =
    first-both (decision_fault dp k i next row arcs d) (decisions_fault dp k i next row arcs ds) (all d (inl refl)) (all_pass dp k i next row arcs ds (λ e h. all e (inr h)))

each_arc : {X : Type 0} (P : X → Type 0) (xs : List X) (x : X) → Each P xs → Has x xs → P x
each_arc P [] x all h = absurd h
each_arc P (y ∷ ys) x all (inl same) = subst P same all.0
each_arc P (y ∷ ys) x all (inr later) = each_arc P ys x all.1 later

module _ (dp : Dp) (laws : IsLawful dp) (claim : Option ℤ) (q : List ℕ) (prefix : IsPrefix dp q) where
  arc_passes : (i d : ℕ) (next : List CoverRow) (arcs : List CoverArc) (arc : CoverArc) → arc.decision ≡ d → Arrives dp claim q next arc
      → arc_fault dp (length q) i next (record { bound = rest_of claim (value_of dp q); words = state_of dp q; arcs = Some arcs }) d arc.target ≡ None
  arc_passes i d next arcs arc same a =
      let k = length q in
      let row : CoverRow = record { bound = rest_of claim (value_of dp q); words = state_of dp q; arcs = Some arcs } in
      let s = dp.step k (state_of dp q) d in
      let gain = dp.gain k (state_of dp q) d in
      let Test : ℕ → List ℤ → ℤ → Type 0 = λ n t v. IsTrue (is_state_row dp n a.row.words && covers_root (dp.gap n a.row.words t) v a.row.bound claim) in
      let asked : Test (length (q ++ d ∷ [])) (state_of dp (q ++ d ∷ [])) (value_of dp (q ++ d ∷ [])) = subst (λ e. IsTrue (own_test dp claim (q ++ e ∷ []) a.row)) same a.test in
      let at : Test (k + 1) s (value_of dp q +ℤ gain) = subst (λ v. Test (k + 1) s v) (value_of-then dp q d)
      (subst (λ t. Test (k + 1) t (value_of dp (q ++ d ∷ []))) (state_of-then dp q d) (subst (λ n. Test n (state_of dp (q ++ d ∷ [])) (value_of dp (q ++ d ∷ []))) (length-append q (d ∷ [])) asked)) in
      let parts = and_parts (is_state_row dp (k + 1) a.row.words) (covers_root (dp.gap (k + 1) a.row.words s) (value_of dp q +ℤ gain) a.row.bound claim) at in
      subst (λ o. arc_fault dp k i next row d o ≡ None) (sym a.target)
      (subst (λ o. row_arc_fault dp k i row d o ≡ None) (sym a.at)
      (cond-holds (is_state_row dp (k + 1) a.row.words) (gap_fault k i d row.bound gain (dp.gap (k + 1) a.row.words s) a.row.bound) (Some (Target k i d)) parts.0
      (enough k i d claim a.row.bound (value_of dp q) gain (dp.gap (k + 1) a.row.words s) parts.1)))

  decision_passes : (i d : ℕ) (next : List CoverRow) (arcs : List CoverArc) → map (λ (arc : CoverArc). arc.decision) arcs ≡ goes_on dp q → Each (Arrives dp claim q next) arcs → Has d (goes_on dp q)
      → decision_fault dp (length q) i next (record { bound = rest_of claim (value_of dp q); words = state_of dp q; arcs = Some arcs }) arcs d ≡ None
  decision_passes i d next arcs all arrive has =
      let k = length q in
      let row : CoverRow = record { bound = rest_of claim (value_of dp q); words = state_of dp q; arcs = Some arcs } in
      let from = Has-filter-from (dp.allowed k (state_of dp q)) (below (dp.choices k)) d has in
      let less : d < dp.choices k = Has-below-from (dp.choices k) d from.0 in
      let few : nat_lt d (dp.choices k) ≡ true = grind arith in
      let rises : Rises (map (λ (arc : CoverArc). arc.decision) arcs) = subst Rises (sym all) (rises-filter (dp.allowed k (state_of dp q)) (below (dp.choices k)) (rises-below (dp.choices k))) in
      let found = arc-for d arcs rises (subst (Has d) (sym all) has) in
      let may : IsTrue (nat_lt d (dp.choices k) && dp.allowed k (state_of dp q) d) = rw few from.1 in
      cond-holds (nat_lt d (dp.choices k) && dp.allowed k (state_of dp q) d) (listed_fault dp k i next row d (arc_for d arcs)) (Some (Target k i d)) may
      (subst (λ o. listed_fault dp k i next row d o ≡ None) (sym found.is) (arc_passes i d next arcs found.arc found.decision (each_arc (Arrives dp claim q next) arcs found.arc arrive found.has)))

  row_passes : (i : ℕ) (next : List CoverRow) (arcs : List CoverArc) → length q < dp.vars → map (λ (arc : CoverArc). arc.decision) arcs ≡ goes_on dp q → Each (Arrives dp claim q next) arcs
      → row_fault dp (length q) i next (record { bound = rest_of claim (value_of dp q); words = state_of dp q; arcs = Some arcs }) ≡ None
  row_passes i next arcs short all arrive =
      let k = length q in
      let row : CoverRow = record { bound = rest_of claim (value_of dp q); words = state_of dp q; arcs = Some arcs } in
      let inside : nat_lt k dp.vars ≡ true = grind arith in
      let state = state-row dp laws k (state_of dp q) (state_of-state dp laws.states q prefix) in
      let inner : decisions_fault dp k i next row arcs (tested dp k (state_of dp q) arcs) ≡ None = all_pass dp k i next row arcs (tested dp k (state_of dp q) arcs) (λ d has.
      decision_passes i d next arcs all arrive (elim (with_listed-from (goes_on dp q) arcs d has) as (λ _. Has d (goes_on dp q)) [ inl own ↦ own | inr listed ↦ subst (Has d) all listed ])) in
      cond-holds (is_state_row dp k (state_of dp q)) (cond (nat_lt k dp.vars) (inner_fault dp k i next row row.arcs) (last_fault i row row.arcs)) (Some (Row k i)) state
      (cond-holds (nat_lt k dp.vars) (inner_fault dp k i next row row.arcs) (last_fault i row row.arcs) inside inner)

  -- above the covers of all its branches stands a cover of the prefix
  pub branching_covers : (branches : List Branch) → length q < dp.vars → AreBranches dp claim q branches → IsCoverBelow dp claim q (branching_cover dp claim q branches) 0
  branching_covers branches short are =
      let k = length q in
      let more = all_beside (dp.vars - k) branches in
      let row = branching_row dp claim q branches in
      let long = branches_long dp claim q branches short are.covers in
      let arrive' = arrive dp claim q (first_layer more) 0 branches short are.covers (λ t r at. record { row = r; at = subst (λ n. slice_get (first_layer more) n ≡ Some r) (sym (zero-add t)) at; words = refl; bound = refl }) in
      let fine = row_passes 0 (first_layer more) (arcs_to 0 branches) short (arcs_decide dp claim q 0 branches ∙ are.all) arrive' in
      let of-state = state_of-state dp laws.states q prefix in
      let own : dp.gap k (state_of dp q) (state_of dp q) ≡ Some (pos 0) = laws.gaps.own k (state_of dp q) of-state in
      record {
        long = omega arith;
        passes = first-both (rows_fault dp k (first_layer more) 0 (row ∷ [])) (layers_fault dp (k + 1) more) (first-both (row_fault dp k 0 (first_layer more) row) None fine refl) (branches_pass dp claim q branches short are.covers);
        row = row;
        at = refl;
        test = rw (state-row dp laws k (state_of dp q) of-state) (subst (λ o. IsTrue (covers_root o (value_of dp q) (rest_of claim (value_of dp q)) claim)) (sym own) (own_enough (value_of dp q) claim));
      }

  -- a cover below a prefix bounds its completions
  covered_by : (row : CoverRow) (o : Option ℤ) → IsStateOf dp (length q) row.words → dp.gap (length q) row.words (state_of dp q) ≡ o → IsTrue (covers_root o (value_of dp q) row.bound claim) → Bounds dp (length q) row → (x : List ℕ) → IsCompletion dp q x → AtMost (value_of dp x) claim
  covered_by row None of-row is test bounds x h = absurd (let clash : false ≡ true = test in cc)
  covered_by row (Some g) of-row is test bounds x h =
      let k = length q in
      let m : Matches dp k row.words g (gain_of dp k (state_of dp q) h.rest) = laws.gaps.sound k row.words (state_of dp q) g of-row (state_of-state dp laws.states q prefix) is h.rest (continued dp q x h) in
      let most = at-most-over ((value_of dp q +ℤ g) +ℤ gain_of dp k row.words m.by) (add_some (value_of dp q +ℤ g) row.bound) claim (add-at-most (value_of dp q +ℤ g) (gain_of dp k row.words m.by) row.bound (bounds m.by m.continuation)) test in
      let enough' = m.enough in
      let sum = value_of-split dp q x h in
      at-most-below (value_of dp x) ((value_of dp q +ℤ g) +ℤ gain_of dp k row.words m.by) claim (omega (arith, ints)) most

  pub cover_bounds : (layers : List (List CoverRow)) (place : ℕ) → IsCoverBelow dp claim q layers place → (x : List ℕ) → IsCompletion dp q x → AtMost (value_of dp x) claim
  cover_bounds layers place is x h =
      let k = length q in
      let parts = and_parts (is_state_row dp k is.row.words) (covers_root (dp.gap k is.row.words (state_of dp q)) (value_of dp q) is.row.bound claim) is.test in
      let low = (state_of-state dp laws.states q prefix).layer in
      covered_by is.row (dp.gap k is.row.words (state_of dp q)) (state-of-row dp k is.row.words low parts.0) refl parts.1 (layers-bound dp laws k layers is.long is.passes is.row (Has-at (first_layer layers) place is.row is.at)) x h

-- ---- at the root

found_root : (dp : Dp) (claim : Option ℤ) (rows : List CoverRow) (place : ℕ) (row : CoverRow) → slice_get rows place ≡ Some row → IsTrue (root_test dp claim row) → IsTrue (has_root dp claim rows)
found_root dp claim [] place row at test = absurd (let none : None ≡ Some row = at in cc)
found_root dp claim (r ∷ rows) zero row at test =
    let same : Some r ≡ Some row = at in
    let here : r ≡ row = cc in
    let holds : root_test dp claim r ≡ true = subst (λ x. IsTrue (root_test dp claim x)) (sym here) test in
    rw holds refl
found_root dp claim (r ∷ rows) (suc place) row at test =
    let rest = found_root dp claim rows place row at test in
    elim (root_test dp claim r) as (λ b. IsTrue (b || has_root dp claim rows)) [ true ↦ refl | false ↦ rest ]

-- a cover below the empty prefix passes the checker's tests
pub root_passes : (dp : Dp) (claim : Option ℤ) (layers : List (List CoverRow)) (place : ℕ) → IsCoverBelow dp claim [] layers place → checked_rows dp claim layers ≡ None
root_passes dp claim layers place is =
    let long = is.long in
    let count : nat_eq (length layers) (dp.vars + 1) ≡ true = grind arith in
    let value : dp.root_value +ℤ pos 0 ≡ dp.root_value = omega (arith, ints) in
    let test : IsTrue (root_test dp claim is.row) = subst (λ v. IsTrue (is_state_row dp 0 is.row.words && covers_root (dp.gap 0 is.row.words dp.root) v is.row.bound claim)) value is.test in
    cond-holds (nat_eq (length layers) (dp.vars + 1)) (cover_fault dp claim layers) (Some Layers) count
    (first-both (unless (has_root dp claim (first_layer layers)) Root) (layers_fault dp 0 layers) (unless-holds (has_root dp claim (first_layer layers)) Root (found_root dp claim (first_layer layers) place is.row is.at test)) is.passes)
