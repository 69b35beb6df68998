-- The root with the arcs of the parts' root rows.
use Rattle.std.proofs.Common.{◌≡◌, ℕ, zero, suc, ◌+◌, ◌%◌, ◌<◌, nat_eq, nat_lt, ℤ, pos, ◌+ℤ◌, ◌-ℤ◌, ◌≤ℤ◌, Bool, true, false, not, cond, ◌&&◌, ◌||◌, List, [], ◌∷◌, ◌++◌, length, map, filter, slice_get, unwrap_or, option_and_then, Option, Some, None, ◌⊎◌, inl, inr, IsTrue, refl, sym, ◌∙◌, ap, subst, arith}
use Rattle.std.proofs.lemmas.Bool.{and_parts}
use Rattle.std.proofs.lemmas.Int.{ints}
use Rattle.std.proofs.lemmas.List.{append_assoc}
use Rattle.std.proofs.Math.Nat.{mod-lt}
use Rattle.std.specs.Option.{is_some}
use Rattle.dp_model.specs.Decisions.{below}
use Rattle.dp_model.specs.Dp.{Dp}
use Rattle.dp_model.specs.Laws.{IsLawful}
use Rattle.dp_model.specs.Lists.{Each}
use Rattle.dp_model.specs.NumberLaws.{int_le-is, int_le-from}
use Rattle.dp_model.specs.Numbers.{add_some}
use Rattle.dp_model.specs.Rows.{row_same}
use Rattle.dp_model.proofs.Members.{Has, Has-filter, Has-filter-from, Has-below, Has-below-from, Has-map-from}
use Rattle.dp_model.proofs.RowLemmas.{row_same-is}
use Rattle.dp_laws.proofs.Diagrams.Places.{same-Some}
use Rattle.bound_cover.specs.declared.cover.CoverArc.{CoverArc}
use Rattle.bound_cover.specs.declared.cover.Why.TheVariants.{Row, Target, Rough}
use Rattle.bound_cover.specs.Covers.{CoverRow}
use Rattle.bound_cover.specs.Tests.{is_at_most, is_state_row, lists, arc_for, tested, arc_fault, listed_fault, decision_fault, decisions_fault, inner_fault, last_fault, row_fault}
use Rattle.bound_cover.specs.Verdicts.{covers_root, root_test, has_root, claim_of}
use Rattle.bound_cover.specs.Exploring.{layer_of, rest_of}
use Rattle.bound_cover.specs.DraftRows.{Passes}
use Rattle.bound_cover.proofs.Claims.{at-most-through}
use Rattle.bound_cover.proofs.Faults.{first-both, unless-none, cond-none, cond-holds, Has-with_listed, decision-of}
use Rattle.bound_cover.proofs.NodeRows.{state-row}
use Rattle.bound_cover.proofs.Rising.{Rises, rises-below, rises-filter, arc-for, with_listed-from}
use Rattle.parts.specs.Part.{part_program, allowed_in_part}
use Rattle.cover_join.specs.Joined.{PartAnswer, is_root_row, root_row, root_arcs, have_arcs, target_for, shifted, shifted_row, joined_layer, joined_target, joined_arcs, joined_root}
use Rattle.cover_join.proofs.Shifting.{arc-passes}
use Rattle.cover_join.proofs.Layers.{Passed, AllPassed, shifts-among, following-more}

-- ---- tests

pub and-both : (a b : Bool) → IsTrue a → IsTrue b → IsTrue (a && b)
and-both true b h k = k
and-both false b h k = h

or-cases : (a b : Bool) → IsTrue (a || b) → IsTrue a ⊎ IsTrue b
or-cases true b h = inl refl
or-cases false b h = inr h

is-some : {X : Type 0} (o : Option X) → IsTrue (is_some o) → (x : X) × (o ≡ Some x)
is-some None h = absurd (let clash : false ≡ true = h in cc)
is-some (Some x) h = (x, refl)

-- ---- bounds below a value

-- a bound from the root that is within the claim is within what the value leaves
within-rest : (v : ℤ) (bound best : Option ℤ) → IsTrue (is_at_most (add_some (v +ℤ pos 0) bound) (claim_of best (pos 0))) → IsTrue (is_at_most bound (rest_of best v))
within-rest v None best h = refl
within-rest v (Some b) None h = absurd (let clash : false ≡ true = h in cc)
within-rest v (Some b) (Some z) h = let low : ((v +ℤ pos 0) +ℤ b) ≤ℤ (z +ℤ pos 0) = int_le-is ((v +ℤ pos 0) +ℤ b) (z +ℤ pos 0) h in int_le-from b (z -ℤ v) (omega (arith, ints))

-- and back
rest-within : (v : ℤ) (bound best : Option ℤ) → IsTrue (is_at_most bound (rest_of best v)) → IsTrue (is_at_most (add_some (v +ℤ pos 0) bound) best)
rest-within v None best h = refl
rest-within v (Some b) None h = absurd (let clash : false ≡ true = h in cc)
rest-within v (Some b) (Some z) h = let low : b ≤ℤ (z -ℤ v) = int_le-is b (z -ℤ v) h in int_le-from ((v +ℤ pos 0) +ℤ b) z (omega (arith, ints))

-- a greater value leaves no less
pub rest-up : (v : ℤ) (a b : Option ℤ) → IsTrue (is_at_most a b) → IsTrue (is_at_most (rest_of a v) (rest_of b v))
rest-up v None b h = refl
rest-up v (Some a) None h = absurd (let clash : false ≡ true = h in cc)
rest-up v (Some a) (Some b) h = let low : a ≤ℤ b = int_le-is a b h in int_le-from (a -ℤ v) (b -ℤ v) (omega (arith, ints))

-- ---- a part's root row

covers-within : (t : Bool) (v : ℤ) (bound claim : Option ℤ) → IsTrue (covers_root (cond t (Some (pos 0)) None) v bound claim) → IsTrue t × IsTrue (is_at_most (add_some (v +ℤ pos 0) bound) claim)
covers-within true v bound claim h = (refl, h)
covers-within false v bound claim h = absurd (let clash : false ≡ true = h in cc)

-- a row of a part that passes the test of the root is the root, within what the value leaves
test-is : (dp : Dp) (index of : ℕ) (best : Option ℤ) (row : CoverRow) → IsTrue (root_test (part_program dp index of) (claim_of best (pos 0)) row) → IsTrue (is_root_row dp best row)
test-is dp index of best row h =
    let claim : Option ℤ = claim_of best (pos 0) in
    let parts = and_parts (is_state_row (part_program dp index of) 0 row.words) (covers_root (cond (row_same row.words dp.root) (Some (pos 0)) None) dp.root_value row.bound claim) h in
    let covers = covers-within (row_same row.words dp.root) dp.root_value row.bound claim parts.1 in
    and-both (row_same row.words dp.root) (is_at_most row.bound (rest_of best dp.root_value)) covers.0 (within-rest dp.root_value row.bound best covers.1)

pub record HasRootRow (dp : Dp) (best : Option ℤ) (rows : List CoverRow) : Type 0 where
  pub row : CoverRow
  pub place : ℕ
  pub at : slice_get rows place ≡ Some row
  pub first : root_row dp best rows ≡ Some row
  pub words : row.words ≡ dp.root
  pub bound : IsTrue (is_at_most row.bound (rest_of best dp.root_value))

pub root-found : (dp : Dp) (index of : ℕ) (best : Option ℤ) (rows : List CoverRow) → IsTrue (has_root (part_program dp index of) (claim_of best (pos 0)) rows) → HasRootRow dp best rows
root-found dp index of best [] h = absurd (let clash : false ≡ true = h in cc)
root-found dp index of best (row ∷ rows) h =
    let part : Dp = part_program dp index of in
    let claim : Option ℤ = claim_of best (pos 0) in
    let here : IsTrue (is_root_row dp best row) → HasRootRow dp best (row ∷ rows) = λ e. (
    let parts = and_parts (row_same row.words dp.root) (is_at_most row.bound (rest_of best dp.root_value)) e in
    record { row = row; place = 0; at = refl; first = ap (λ b. cond b (Some row) (root_row dp best rows)) e; words = row_same-is row.words dp.root parts.0; bound = parts.1 }) in
    elim (is_root_row dp best row) as (λ b. is_root_row dp best row ≡ b → HasRootRow dp best (row ∷ rows)) [
      | true ↦ λ e. here e
      | false ↦ λ e. elim (or-cases (root_test part claim row) (has_root part claim rows) h) as (λ _. HasRootRow dp best (row ∷ rows)) [
        | inl own ↦ here (test-is dp index of best row own)
        | inr later ↦ (
            let more = root-found dp index of best rows later in
            record { row = more.row; place = suc more.place; at = more.at; first = ap (λ b. cond b (Some row) (root_row dp best rows)) e ∙ more.first; words = more.words; bound = more.bound })
      ]
    ] refl

-- the root of the whole is a state
pub root-state : (dp : Dp) → IsLawful dp → IsTrue (is_state_row dp 0 dp.root)
root-state dp laws = state-row dp laws 0 dp.root (record { layer = omega arith; test = laws.states.root })

-- the root with such a bound passes the test of the root
pub root-tested : (dp : Dp) → IsLawful dp → (best : Option ℤ) (row : CoverRow) → row.words ≡ dp.root → IsTrue (is_at_most row.bound (rest_of best dp.root_value)) → IsTrue (root_test dp best row)
root-tested dp laws best row words bound =
    let own : dp.gap 0 dp.root dp.root ≡ Some (pos 0) = laws.gaps.own 0 dp.root (record { layer = omega arith; test = laws.states.root }) in
    let gap : dp.gap 0 row.words dp.root ≡ Some (pos 0) = ap (λ w. dp.gap 0 w dp.root) words ∙ own in
    and-both (is_state_row dp 0 row.words) (covers_root (dp.gap 0 row.words dp.root) dp.root_value row.bound best)
    (ap (is_state_row dp 0) words ∙ root-state dp laws)
    (ap (λ o. covers_root o dp.root_value row.bound best) gap ∙ rest-within dp.root_value row.bound best bound)

pub has-root-at : (dp : Dp) (best : Option ℤ) (rows : List CoverRow) (t : ℕ) (r : CoverRow) → slice_get rows t ≡ Some r → IsTrue (root_test dp best r) → IsTrue (has_root dp best rows)
has-root-at dp best [] t r at h = absurd (let clash : None ≡ Some r = at in cc)
has-root-at dp best (row ∷ rows) zero r at h = ap (λ b. b || has_root dp best rows) (ap (root_test dp best) (same-Some row r at) ∙ h)
has-root-at dp best (row ∷ rows) (suc t) r at h = elim (root_test dp best row) as (λ b. IsTrue (b || has_root dp best rows)) [ true ↦ refl | false ↦ has-root-at dp best rows t r at h ]

-- ---- a decision of a part

target-is : (d : ℕ) (arcs : List CoverArc) (arc : CoverArc) → arc_for d arcs ≡ Some arc → target_for d arcs ≡ arc.target
target-is d [] arc e = absurd (let clash : None ≡ Some arc = e in cc)
target-is d (a ∷ arcs) arc e =
    elim (nat_lt a.decision d) as (λ b. nat_lt a.decision d ≡ b → cond b (arc_for d arcs) (cond (nat_eq a.decision d && not (lists d arcs)) (Some a) None) ≡ Some arc → cond (nat_eq a.decision d) a.target (target_for d arcs) ≡ arc.target) [
      | true ↦ λ t later. (let other : nat_eq a.decision d ≡ false = grind arith in ap (λ b. cond b a.target (target_for d arcs)) other ∙ target-is d arcs arc later)
      | false ↦ λ t here. elim (nat_eq a.decision d) as (λ b. cond (b && not (lists d arcs)) (Some a) None ≡ Some arc → cond b a.target (target_for d arcs) ≡ arc.target) [
        | false ↦ λ f. absurd (let clash : None ≡ Some arc = f in cc)
        | true ↦ λ f. elim (not (lists d arcs)) as (λ b. cond b (Some a) None ≡ Some arc → a.target ≡ arc.target) [
          | true ↦ λ g. ap (λ (x : CoverArc). x.target) (same-Some a arc g)
          | false ↦ λ g. absurd (let clash : None ≡ Some arc = g in cc)
        ] f
      ] here
    ] refl e

listed-target : (dp : Dp) (k i : ℕ) (next : List CoverRow) (row : CoverRow) (d : ℕ) (arcs : List CoverArc) → listed_fault dp k i next row d (arc_for d arcs) ≡ None → arc_fault dp k i next row d (target_for d arcs) ≡ None
listed-target dp k i next row d arcs e =
    elim (arc_for d arcs) as (λ o. arc_for d arcs ≡ o → listed_fault dp k i next row d o ≡ None → arc_fault dp k i next row d (target_for d arcs) ≡ None) [
      | None ↦ λ is f. absurd (let clash : Some (Target k i d) ≡ None = f in cc)
      | Some arc ↦ λ is f. ap (arc_fault dp k i next row d) (target-is d arcs arc is) ∙ f
    ] refl e

-- what is left of a first row's tests
inner-of : (dp : Dp) (i : ℕ) (next : List CoverRow) (row : CoverRow) (o : Option (List CoverArc)) → 0 < dp.vars → row.arcs ≡ o → row_fault dp 0 i next row ≡ None → inner_fault dp 0 i next row o ≡ None
inner-of dp i next row o some arcs e =
    let inside : nat_lt 0 dp.vars ≡ true = grind arith in
    let parts = cond-none (is_state_row dp 0 row.words) (cond (nat_lt 0 dp.vars) (inner_fault dp 0 i next row row.arcs) (last_fault i row row.arcs)) (Row 0 i) e in
    ap (inner_fault dp 0 i next row) (sym arcs) ∙ (ap (λ b. cond b (inner_fault dp 0 i next row row.arcs) (last_fault i row row.arcs)) (sym inside) ∙ parts.1)

-- a decision of the part has an arc that passes
part-arc : (dp : Dp) (index of i d : ℕ) (next : List CoverRow) (row : CoverRow) (arcs : List CoverArc) → row.words ≡ dp.root → d < dp.choices 0 → IsTrue (dp.allowed 0 dp.root d) → d % of ≡ index
    → inner_fault (part_program dp index of) 0 i next row (Some arcs) ≡ None → arc_fault (part_program dp index of) 0 i next row d (target_for d arcs) ≡ None
part-arc dp index of i d next row arcs words less allowed own e =
    let part : Dp = part_program dp index of in
    let remains : IsTrue (nat_eq (d % of) index) = grind arith in
    let may : IsTrue (allowed_in_part dp index of 0 row.words d) = and-both (dp.allowed 0 row.words d) (nat_eq (d % of) index) (ap (λ w. dp.allowed 0 w d) words ∙ allowed) remains in
    let all : List ℕ = filter (allowed_in_part dp index of 0 row.words) (below (dp.choices 0)) in
    let has : Has d (tested part 0 row.words arcs) = Has-with_listed all arcs d (Has-filter (allowed_in_part dp index of 0 row.words) (below (dp.choices 0)) d (Has-below (dp.choices 0) d less) may) in
    let fault = decision-of part 0 i next row arcs (tested part 0 row.words arcs) e d has in
    listed-target part 0 i next row d arcs (cond-none (nat_lt d (dp.choices 0) && allowed_in_part dp index of 0 row.words d) (listed_fault part 0 i next row d (arc_for d arcs)) (Target 0 i d) fault).1

-- ---- a decision of the whole

module _ (dp : Dp) (of : ℕ) (some : 0 < dp.vars) (best : Option ℤ) (o : Option (List CoverArc)) (d : ℕ) (less : d < dp.choices 0) (allowed : IsTrue (dp.allowed 0 dp.root d)) (i : ℕ) where
  own-passes : (index : ℕ) (p : PartAnswer) → Passed dp index of p → IsTrue (is_at_most p.best best) → IsTrue (is_some (root_arcs dp p)) → index ≡ d % of → (n m : ℕ) (before after : List CoverRow) → length before ≡ n
      → arc_fault dp 0 i (before ++ (map (shifted_row m) (layer_of p.layers 1) ++ after)) (joined_root dp best o) d (shifted n (target_for d (unwrap_or (root_arcs dp p) []))) ≡ None
  own-passes index p h low has own n m before after long =
      let more : List CoverRow = before ++ (map (shifted_row m) (layer_of p.layers 1) ++ after) in
      let b : Option ℤ = rest_of best dp.root_value in
      let root = root-found dp index of p.best (layer_of p.layers 0) h.root in
      let there = is-some (root_arcs dp p) has in
      let arcs : root.row.arcs ≡ Some there.0 = sym (ap (option_and_then (λ (row : CoverRow). row.arcs)) root.first) ∙ there.1 in
      let fine = h.rows 0 root.place root.row root.at in
      let fault = part-arc dp index of fine.0 d (layer_of p.layers 1) root.row there.0 root.words less allowed (sym own) (inner-of (part_program dp index of) fine.0 (layer_of p.layers 1) root.row (Some there.0) some arcs fine.1) in
      let up = at-most-through root.row.bound (rest_of p.best dp.root_value) b root.bound (rest-up dp.root_value p.best best low) in
      let passes = arc-passes dp index of 0 fine.0 i d n root.row b o (layer_of p.layers 1) more up (shifts-among n m before (layer_of p.layers 1) after long) (target_for d there.0) fault in
      let target : shifted n (target_for d (unwrap_or (root_arcs dp p) [])) ≡ shifted n (target_for d there.0) = ap (λ a. shifted n (target_for d (unwrap_or a []))) there.1 in
      ap (arc_fault dp 0 i more (joined_root dp best o) d) target
      ∙ subst (λ w. arc_fault dp 0 i more (record { bound = b; words = w; arcs = o }) d (shifted n (target_for d there.0)) ≡ None) root.words passes

  target-passes : (index place : ℕ) (ps : List PartAnswer) → AllPassed dp of index ps → Each (λ p. IsTrue (is_at_most p.best best)) ps → IsTrue (have_arcs dp ps) → place < length ps → index + place ≡ d % of → (n m : ℕ) (before : List CoverRow) → length before ≡ n
      → arc_fault dp 0 i (before ++ joined_layer 1 m ps) (joined_root dp best o) d (joined_target dp d place n ps) ≡ None
  target-passes index place [] all low has inside own n m before long = absurd (omega arith)
  target-passes index zero (p ∷ ps) all low has inside own n m before long =
      own-passes index p all.0 low.0 (and_parts (is_some (root_arcs dp p)) (have_arcs dp ps) has).0 (omega arith) n m before (joined_layer 1 (m + length (layer_of p.layers 2)) ps) long
  target-passes index (suc place) (p ∷ ps) all low has inside own n m before long =
      let next : List CoverRow = layer_of p.layers 1 in
      let m' : ℕ = m + length (layer_of p.layers 2) in
      subst (λ l. arc_fault dp 0 i l (joined_root dp best o) d (joined_target dp d place (n + length next) ps) ≡ None) (append_assoc before (map (shifted_row m) next) (joined_layer 1 m' ps))
      (target-passes (index + 1) place ps all.1 low.1 (and_parts (is_some (root_arcs dp p)) (have_arcs dp ps) has).1 (omega arith) (omega arith) (n + length next) m' (before ++ map (shifted_row m) next) (following-more m n before next long))

-- ---- the row of the root

decisions-are : (f : ℕ → Option ℕ) (ds : List ℕ) → map (λ (a : CoverArc). a.decision) (map (λ d. record { decision = d; target = f d }) ds) ≡ ds
decisions-are f [] = refl
decisions-are f (d ∷ ds) = ap (λ l. d ∷ l) (decisions-are f ds)

decisions-pass : (dp : Dp) (k i : ℕ) (next : List CoverRow) (row : CoverRow) (arcs : List CoverArc) (ds : List ℕ) → ((d : ℕ) → Has d ds → decision_fault dp k i next row arcs d ≡ None) → decisions_fault dp k i next row arcs ds ≡ None
decisions-pass dp k i next row arcs [] all = refl
decisions-pass dp k i next row arcs (d ∷ ds) all =
    first-both (decision_fault dp k i next row arcs d) (decisions_fault dp k i next row arcs ds) (all d (inl refl)) (decisions-pass dp k i next row arcs ds (λ e h. all e (inr h)))

-- a row of the root below the last layer, whose tests but that of its state pass
pub first-row-passes : (dp : Dp) → IsLawful dp → 0 < dp.vars → (i : ℕ) (next : List CoverRow) (best : Option ℤ) (o : Option (List CoverArc)) → inner_fault dp 0 i next (joined_root dp best o) o ≡ None → row_fault dp 0 i next (joined_root dp best o) ≡ None
first-row-passes dp laws some i next best o e =
    let inside : nat_lt 0 dp.vars ≡ true = grind arith in
    cond-holds (is_state_row dp 0 dp.root) (cond (nat_lt 0 dp.vars) (inner_fault dp 0 i next (joined_root dp best o) o) (last_fault i (joined_root dp best o) o)) (Some (Row 0 i)) (root-state dp laws)
    (ap (λ b. cond b (inner_fault dp 0 i next (joined_root dp best o) o) (last_fault i (joined_root dp best o) o)) inside ∙ e)

pub root-passes : (dp : Dp) → IsLawful dp → 0 < dp.vars → (best : Option ℤ) (ps : List PartAnswer) → 0 < length ps → AllPassed dp (length ps) 0 ps → Each (λ p. IsTrue (is_at_most p.best best)) ps → IsTrue (have_arcs dp ps)
    → Passes dp 0 (joined_layer 1 0 ps) (joined_root dp best (Some (joined_arcs dp ps)))
root-passes dp laws some best ps many all low has = λ i.
    let arcs : List CoverArc = joined_arcs dp ps in
    let row : CoverRow = joined_root dp best (Some arcs) in
    let next : List CoverRow = joined_layer 1 0 ps in
    let ds : List ℕ = filter (dp.allowed 0 dp.root) (below (dp.choices 0)) in
    let target : ℕ → Option ℕ = λ d. joined_target dp d (d % length ps) 0 ps in
    let same : map (λ (a : CoverArc). a.decision) arcs ≡ ds = decisions-are target ds in
    let rises : Rises (map (λ (a : CoverArc). a.decision) arcs) = subst Rises (sym same) (rises-filter (dp.allowed 0 dp.root) (below (dp.choices 0)) (rises-below (dp.choices 0))) in
    let decision : (d : ℕ) → Has d ds → decision_fault dp 0 i next row arcs d ≡ None = λ d h. (
    let from = Has-filter-from (dp.allowed 0 dp.root) (below (dp.choices 0)) d h in
    let less : d < dp.choices 0 = Has-below-from (dp.choices 0) d from.0 in
    let few : nat_lt d (dp.choices 0) ≡ true = grind arith in
    let listed = arc-for d arcs rises (subst (Has d) (sym same) h) in
    let made = Has-map-from (λ e. record { decision = e; target = target e }) ds listed.arc listed.has in
    let number : made.0 ≡ d = ap (λ (a : CoverArc). a.decision) made.2 ∙ listed.decision in
    let aims : listed.arc.target ≡ target d = sym (ap (λ (a : CoverArc). a.target) made.2) ∙ ap target number in
    let passes : arc_fault dp 0 i next row d (target d) ≡ None = target-passes dp (length ps) some best (Some arcs) d less from.1 i 0 (d % length ps) ps all low has (mod-lt d many) (omega arith) 0 0 [] refl in
    cond-holds (nat_lt d (dp.choices 0) && dp.allowed 0 dp.root d) (listed_fault dp 0 i next row d (arc_for d arcs)) (Some (Target 0 i d)) (and-both (nat_lt d (dp.choices 0)) (dp.allowed 0 dp.root d) few from.1)
    (ap (listed_fault dp 0 i next row d) listed.is ∙ (ap (arc_fault dp 0 i next row d) aims ∙ passes))) in
    first-row-passes dp laws some i next best (Some arcs)
    (decisions-pass dp 0 i next row arcs (tested dp 0 dp.root arcs) (λ d h. elim (with_listed-from ds arcs d h) as (λ _. decision_fault dp 0 i next row arcs d ≡ None) [
      | inl may ↦ decision d may
      | inr named ↦ decision d (subst (Has d) same named)
    ]))

-- ---- a rough row

pub rough-within : (dp : Dp) (of index : ℕ) → 0 < dp.vars → (best : Option ℤ) (ps : List PartAnswer) → AllPassed dp of index ps → Each (λ p. IsTrue (is_at_most p.best best)) ps → have_arcs dp ps ≡ false → IsTrue (is_at_most (dp.rough 0 dp.root) (rest_of best dp.root_value))
rough-within dp of index some best [] all low none = absurd (let clash : true ≡ false = none in cc)
rough-within dp of index some best (p ∷ ps) all low none =
    let part : Dp = part_program dp index of in
    let root = root-found dp index of p.best (layer_of p.layers 0) all.0.root in
    let arcs : root_arcs dp p ≡ root.row.arcs = ap (option_and_then (λ (row : CoverRow). row.arcs)) root.first in
    let fine = all.0.rows 0 root.place root.row root.at in
    elim (root_arcs dp p) as (λ a. root_arcs dp p ≡ a → (is_some a && have_arcs dp ps) ≡ false → IsTrue (is_at_most (dp.rough 0 dp.root) (rest_of best dp.root_value))) [
      | Some l ↦ λ is later. rough-within dp of (index + 1) some best ps all.1 low.1 later
      | None ↦ λ is _. (
          let inner = inner-of part fine.0 (layer_of p.layers 1) root.row None some (sym arcs ∙ is) fine.1 in
          let own : IsTrue (is_at_most (dp.rough 0 root.row.words) root.row.bound) = unless-none (is_at_most (dp.rough 0 root.row.words) root.row.bound) (Rough 0 fine.0) inner in
          let up = at-most-through root.row.bound (rest_of p.best dp.root_value) (rest_of best dp.root_value) root.bound (rest-up dp.root_value p.best best low.0) in
          subst (λ w. IsTrue (is_at_most (dp.rough 0 w) (rest_of best dp.root_value))) root.words (at-most-through (dp.rough 0 root.row.words) root.row.bound (rest_of best dp.root_value) own up))
    ] refl none
