-- The joined cover is accepted.
use Rattle.std.proofs.Common.{◌≡◌, ℕ, zero, suc, ◌+◌, ◌<◌, nat_eq, nat_lt, ℤ, pos, ◌+ℤ◌, ◌≤ℤ◌, int_le, Bool, true, false, cond, ◌&&◌, List, [], ◌∷◌, length, slice_get, replicate, Option, Some, None, ◌⊎◌, inl, IsTrue, refl, sym, ◌∙◌, ap, subst, arith}
use Rattle.std.proofs.lemmas.Bool.{and_parts}
use Rattle.std.proofs.lemmas.Int.{ints}
use Rattle.std.proofs.lemmas.List.{length-replicate}
use Rattle.dp_model.specs.Dp.{Dp}
use Rattle.dp_model.specs.Laws.{IsLawful}
use Rattle.dp_model.specs.Lists.{Each}
use Rattle.dp_model.specs.NumberLaws.{int_le-from}
use Rattle.dp_model.specs.Prefixes.{value_of}
use Rattle.dp_model.specs.Rows.{row_same}
use Rattle.dp_model.specs.Solution.{IsSolutionWith}
use Rattle.dp_model.proofs.RowLemmas.{row_same-is}
use Rattle.dp_laws.proofs.Diagrams.Places.{same-Some}
use Rattle.bound_cover.specs.declared.cover.CoverArc.{CoverArc}
use Rattle.bound_cover.specs.declared.cover.Why.TheVariants.{Row, Rough, Terminal, Value}
use Rattle.bound_cover.specs.Covers.{CoverRow}
use Rattle.bound_cover.specs.Proved.{Shows, IsReportedBest}
use Rattle.bound_cover.specs.Tests.{is_at_most, is_state_row, inner_fault, last_fault, row_fault}
use Rattle.bound_cover.specs.Verdicts.{value_fault, solution_fault, claim_of, checked_rows, checked, verdict_of}
use Rattle.bound_cover.specs.Exploring.{layer_of, rest_of}
use Rattle.bound_cover.specs.DraftRows.{Passes}
use Rattle.bound_cover.proofs.Claims.{at-most-self, at-most-through}
use Rattle.bound_cover.proofs.Drafts.{whole-draft}
use Rattle.bound_cover.proofs.Faults.{unless-none, unless-holds, cond-none, cond-holds}
use Rattle.bound_cover.proofs.Placing.{layer-beyond}
use Rattle.bound_cover.proofs.Sound.{accepted-none, accepted-is-best, checked-by}
use Rattle.bound_cover.proofs.Worths.{worth-whole}
use Rattle.parts.specs.Part.{part_program}
use Rattle.parts.specs.Laws.{lawful_part, path_in_whole, gain_same}
use Rattle.cover_join.specs.Joined.{PartAnswer, best_answer, have_arcs, joined_layer, joined_layers, joined_arcs, joined_root, rough_cover, whole_cover, joined_cover, joined, IsAccepted, AreAccepted}
use Rattle.cover_join.proofs.Layers.{Passed, AllPassed, all-passed, joined-passes, joined-long, joined-at, joined-beyond}
use Rattle.cover_join.proofs.Roots.{root-found, root-state, root-tested, has-root-at, first-row-passes, root-passes, rough-within, rest-up}

-- ---- the answer with the greatest value

at-most-other : (a b : Option ℤ) → is_at_most a b ≡ false → IsTrue (is_at_most b a)
at-most-other None b h = absurd (let clash : true ≡ false = h in cc)
at-most-other (Some a) None h = refl
at-most-other (Some a) (Some b) h = let low : b ≤ℤ a = grind (arith, ints) in int_le-from b a low

pub at-most-best : (p : PartAnswer) (ps : List PartAnswer) → IsTrue (is_at_most p.best (best_answer p ps).best) × Each (λ (q : PartAnswer). IsTrue (is_at_most q.best (best_answer p ps).best)) ps
at-most-best p [] = (at-most-self p.best, tt)
at-most-best p (q ∷ ps) =
    elim (is_at_most q.best p.best) as (λ b. is_at_most q.best p.best ≡ b → IsTrue (is_at_most p.best (best_answer (cond b p q) ps).best) × (IsTrue (is_at_most q.best (best_answer (cond b p q) ps).best) × Each (λ (x : PartAnswer). IsTrue (is_at_most x.best (best_answer (cond b p q) ps).best)) ps)) [
      | true ↦ λ e. (let more = at-most-best p ps in (more.0, (at-most-through q.best p.best (best_answer p ps).best e more.0, more.1)))
      | false ↦ λ e. (let more = at-most-best q ps in (at-most-through p.best q.best (best_answer q ps).best (at-most-other q.best p.best e) more.0, (more.0, more.1)))
    ] refl

-- what holds of each answer holds of that one
pub best-is : (P : PartAnswer → Type 0) (p : PartAnswer) (ps : List PartAnswer) → P p → Each P ps → P (best_answer p ps)
best-is P p [] h all = h
best-is P p (q ∷ ps) h all = best-is P (cond (is_at_most q.best p.best) p q) ps (elim (is_at_most q.best p.best) as (λ b. P (cond b p q)) [ true ↦ h | false ↦ all.0 ]) all.1

-- ---- a solution of a part

-- is one of the whole, with the same value
shown-whole : (dp : Dp) (index of : ℕ) (x : List ℕ) (o : Option ℤ) → Shows (part_program dp index of) x o → solution_fault dp o x ≡ None
shown-whole dp index of x None shown = refl
shown-whole dp index of x (Some v) shown =
    let w : IsSolutionWith (part_program dp index of) x v = shown in
    let worth = worth-whole dp x (path_in_whole dp index of x 0 dp.root w.solution.prefix) w.solution.whole in
    let gain = gain_same dp index of x 0 dp.root in
    let value : v ≡ value_of dp x = w.value ∙ ap (λ z. dp.root_value +ℤ z) gain in
    let up : int_le (value_of dp x) v ≡ true = int_le-from (value_of dp x) v (omega (arith, ints)) in
    let down : int_le v (value_of dp x) ≡ true = int_le-from v (value_of dp x) (omega (arith, ints)) in
    ap (λ o. value_fault o v) worth ∙ unless-holds (int_le (value_of dp x) v && int_le v (value_of dp x)) Value (rw (up, down) refl)

solved-whole : (dp : Dp) → IsLawful dp → (index of : ℕ) (p : PartAnswer) → IsAccepted (part_program dp index of) p → solution_fault dp p.best p.assignment ≡ None
solved-whole dp laws index of p h =
    let part : Dp = part_program dp index of in
    let is = accepted-is-best part (lawful_part dp index of laws) p.best (pos 0) p.assignment p.layers (accepted-none (checked part p.best (pos 0) p.assignment p.layers) h) refl in
    shown-whole dp index of p.assignment p.best is.shown

abbrev IsSolved : Dp → PartAnswer → Type 0
IsSolved dp p = solution_fault dp p.best p.assignment ≡ None

all-solved : (dp : Dp) → IsLawful dp → (of index : ℕ) (ps : List PartAnswer) → AreAccepted dp of index ps → Each (IsSolved dp) ps
all-solved dp laws of index [] h = tt
all-solved dp laws of index (p ∷ ps) h = (solved-whole dp laws index of p h.0, all-solved dp laws of (index + 1) ps h.1)

-- ---- the three covers

-- the cover below the root has a row at each place of each layer that passes
below-passes : (dp : Dp) (of : ℕ) (ps : List PartAnswer) → AllPassed dp of 0 ps → (m i : ℕ) (r : CoverRow) → slice_get (layer_of (joined_layers dp.vars 1 ps) m) i ≡ Some r → (inside : Bool) → nat_lt m dp.vars ≡ inside → Passes dp (suc m) (layer_of (joined_layers dp.vars 1 ps) (suc m)) r
below-passes dp of ps all m i r at false is =
    let long = joined-long dp.vars 1 ps in
    let none : layer_of (joined_layers dp.vars 1 ps) m ≡ [] = layer-beyond (joined_layers dp.vars 1 ps) m (grind arith) in
    absurd (let clash : None ≡ Some r = ap (λ l. slice_get l i) (sym none) ∙ at in cc)
below-passes dp of ps all m i r at true is =
    let low : m < dp.vars = grind arith in
    let here : layer_of (joined_layers dp.vars 1 ps) m ≡ joined_layer (suc m) 0 ps = joined-at dp.vars 1 m ps low ∙ ap (λ k. joined_layer k 0 ps) (omega arith) in
    let next : layer_of (joined_layers dp.vars 1 ps) (suc m) ≡ joined_layer (suc m + 1) 0 ps = next-layer dp of ps all m low in
    subst (λ l. Passes dp (suc m) l r) (sym next) (joined-passes dp of m 0 ps all 0 0 [] refl i r (ap (λ l. slice_get l i) (sym here) ∙ at))
  where
    next-layer : (dp : Dp) (of : ℕ) (ps : List PartAnswer) → AllPassed dp of 0 ps → (m : ℕ) → m < dp.vars → layer_of (joined_layers dp.vars 1 ps) (suc m) ≡ joined_layer (suc m + 1) 0 ps
    next-layer dp of ps all m low =
        elim (nat_lt (suc m) dp.vars) as (λ b. nat_lt (suc m) dp.vars ≡ b → layer_of (joined_layers dp.vars 1 ps) (suc m) ≡ joined_layer (suc m + 1) 0 ps) [
          | true ↦ λ e. (let more : suc m < dp.vars = grind arith in joined-at dp.vars 1 (suc m) ps more ∙ ap (λ k. joined_layer k 0 ps) (omega arith))
          | false ↦ λ e. (
              let long = joined-long dp.vars 1 ps in
              let last : dp.vars < suc m + 1 = grind arith in
              layer-beyond (joined_layers dp.vars 1 ps) (suc m) (grind arith) ∙ sym (joined-beyond dp of 0 (suc m + 1) 0 ps all last))
        ] refl

module _ (dp : Dp) (laws : IsLawful dp) (best : Option ℤ) where
  whole-passes : 0 < dp.vars → (ps : List PartAnswer) → 0 < length ps → AllPassed dp (length ps) 0 ps → Each (λ (p : PartAnswer). IsTrue (is_at_most p.best best)) ps → IsTrue (have_arcs dp ps) → checked_rows dp best (whole_cover dp best ps) ≡ None
  whole-passes some ps many all low has =
      let row : CoverRow = joined_root dp best (Some (joined_arcs dp ps)) in
      let first : layer_of (joined_layers dp.vars 1 ps) 0 ≡ joined_layer 1 0 ps = joined-at dp.vars 1 0 ps some in
      whole-draft dp best (whole_cover dp best ps) (record {
        long = (let long = joined-long dp.vars 1 ps in omega arith);
        root = has-root-at dp best (row ∷ []) 0 row refl (root-tested dp laws best row refl (at-most-self (rest_of best dp.root_value)));
        fine = fine row first;
        waits = tt;
      })
    where
      fine : (row : CoverRow) → layer_of (joined_layers dp.vars 1 ps) 0 ≡ joined_layer 1 0 ps → (k i : ℕ) (r : CoverRow) → slice_get (layer_of (whole_cover dp best ps) k) i ≡ Some r → Passes dp k (layer_of (whole_cover dp best ps) (k + 1)) r ⊎ ⊥
      fine row first zero zero r at = inl (subst (λ x. Passes dp 0 (layer_of (joined_layers dp.vars 1 ps) 0) x) (same-Some (joined_root dp best (Some (joined_arcs dp ps))) r at) (subst (λ l. Passes dp 0 l (joined_root dp best (Some (joined_arcs dp ps)))) (sym first) (root-passes dp laws some best ps many all low has)))
      fine row first zero (suc i) r at = absurd (let clash : None ≡ Some r = at in cc)
      fine row first (suc m) i r at =
          let next : layer_of (joined_layers dp.vars 1 ps) (suc m) ≡ layer_of (whole_cover dp best ps) (suc m + 1) = (let same : suc (suc m) ≡ suc m + 1 = omega arith in ap (layer_of (whole_cover dp best ps)) same) in
          inl (subst (λ l. Passes dp (suc m) l r) next (below-passes dp (length ps) ps all m i r at (nat_lt m dp.vars) refl))

  rough-passes : 0 < dp.vars → IsTrue (is_at_most (dp.rough 0 dp.root) (rest_of best dp.root_value)) → checked_rows dp best (rough_cover dp best) ≡ None
  rough-passes some low =
      let row : CoverRow = joined_root dp best None in
      whole-draft dp best (rough_cover dp best) (record {
        long = (let long = length-replicate dp.vars no_rows in omega arith);
        root = has-root-at dp best (row ∷ []) 0 row refl (root-tested dp laws best row refl (at-most-self (rest_of best dp.root_value)));
        fine = fine;
        waits = tt;
      })
    where
      no_rows : List CoverRow
      no_rows = []

      empty : (n j : ℕ) → layer_of (replicate n no_rows) j ≡ []
      empty zero j = refl
      empty (suc n) zero = refl
      empty (suc n) (suc j) = empty n j

      fine : (k i : ℕ) (r : CoverRow) → slice_get (layer_of (rough_cover dp best) k) i ≡ Some r → Passes dp k (layer_of (rough_cover dp best) (k + 1)) r ⊎ ⊥
      fine zero zero r at = inl (subst (λ x. Passes dp 0 (layer_of (rough_cover dp best) 1) x) (same-Some (joined_root dp best None) r at)
          (λ i. first-row-passes dp laws some i (layer_of (rough_cover dp best) 1) best None (unless-holds (is_at_most (dp.rough 0 dp.root) (rest_of best dp.root_value)) (Rough 0 i) low)))
      fine zero (suc i) r at = absurd (let clash : None ≡ Some r = at in cc)
      fine (suc m) i r at = absurd (let clash : None ≡ Some r = ap (λ l. slice_get l i) (sym (empty dp.vars m)) ∙ at in cc)

  last-any : (n i : ℕ) (r : CoverRow) (o : Option (List CoverArc)) → last_fault n r o ≡ None → last_fault i r o ≡ None
  last-any n i r None e = unless-holds (is_at_most (Some (pos 0)) r.bound) (Terminal i) (unless-none (is_at_most (Some (pos 0)) r.bound) (Terminal n) e)
  last-any n i r (Some arcs) e = absurd (let clash : Some (Terminal n) ≡ None = e in cc)

  -- a row of a part without variables
  last-passes : dp.vars ≡ 0 → (of n : ℕ) (next more : List CoverRow) (r : CoverRow) → row_fault (part_program dp 0 of) 0 n next r ≡ None → Passes dp 0 more r
  last-passes none of n next more r e =
      let part : Dp = part_program dp 0 of in
      let outside : nat_lt 0 dp.vars ≡ false = grind arith in
      let parts = cond-none (is_state_row part 0 r.words) (cond (nat_lt 0 dp.vars) (inner_fault part 0 n next r r.arcs) (last_fault n r r.arcs)) (Row 0 n) e in
      let words = row_same-is r.words dp.root (and_parts (nat_eq (length r.words) dp.words) (row_same r.words dp.root) parts.0).1 in
      let last : last_fault n r r.arcs ≡ None = ap (λ b. cond b (inner_fault part 0 n next r r.arcs) (last_fault n r r.arcs)) (sym outside) ∙ parts.1 in
      λ i. cond-holds (is_state_row dp 0 r.words) (cond (nat_lt 0 dp.vars) (inner_fault dp 0 i more r r.arcs) (last_fault i r r.arcs)) (Some (Row 0 i)) (ap (is_state_row dp 0) words ∙ root-state dp laws)
      (ap (λ b. cond b (inner_fault dp 0 i more r r.arcs) (last_fault i r r.arcs)) outside ∙ last-any n i r r.arcs last)

  first-passes : dp.vars ≡ 0 → (of : ℕ) (p : PartAnswer) → Passed dp 0 of p → IsTrue (is_at_most p.best best) → checked_rows dp best p.layers ≡ None
  first-passes none of p h low =
      let root = root-found dp 0 of p.best (layer_of p.layers 0) h.root in
      let bound = at-most-through root.row.bound (rest_of p.best dp.root_value) (rest_of best dp.root_value) root.bound (rest-up dp.root_value p.best best low) in
      whole-draft dp best p.layers (record {
        long = h.long;
        root = has-root-at dp best (layer_of p.layers 0) root.place root.row root.at (root-tested dp laws best root.row root.words bound);
        fine = fine;
        waits = tt;
      })
    where
      fine : (k i : ℕ) (r : CoverRow) → slice_get (layer_of p.layers k) i ≡ Some r → Passes dp k (layer_of p.layers (k + 1)) r ⊎ ⊥
      fine zero i r at = (let found = h.rows 0 i r at in inl (last-passes none of found.0 (layer_of p.layers 1) (layer_of p.layers 1) r found.1))
      fine (suc k) i r at =
          let long = h.long in
          let gone : layer_of p.layers (suc k) ≡ [] = layer-beyond p.layers (suc k) (omega arith) in
          absurd (let clash : None ≡ Some r = ap (λ l. slice_get l i) (sym gone) ∙ at in cc)

-- ---- the joined cover

claim-same : (o : Option ℤ) → claim_of o (pos 0) ≡ o
claim-same None = refl
claim-same (Some z) = let same : z +ℤ pos 0 ≡ z = omega (arith, ints) in ap Some same

joined-rows : (dp : Dp) → IsLawful dp → (best : Option ℤ) (p : PartAnswer) (ps : List PartAnswer) → AllPassed dp (length (p ∷ ps)) 0 (p ∷ ps) → Each (λ (q : PartAnswer). IsTrue (is_at_most q.best best)) (p ∷ ps)
    → checked_rows dp best (cond (nat_eq dp.vars 0) p.layers (cond (have_arcs dp (p ∷ ps)) (whole_cover dp best (p ∷ ps)) (rough_cover dp best))) ≡ None
joined-rows dp laws best p ps all low =
    elim (nat_eq dp.vars 0) as (λ b. nat_eq dp.vars 0 ≡ b → checked_rows dp best (cond b p.layers (cond (have_arcs dp (p ∷ ps)) (whole_cover dp best (p ∷ ps)) (rough_cover dp best))) ≡ None) [
      | true ↦ λ e. (let none : dp.vars ≡ 0 = grind arith in first-passes dp laws best none (length (p ∷ ps)) p all.0 low.0)
      | false ↦ λ e. (
          let some : 0 < dp.vars = grind arith in
          elim (have_arcs dp (p ∷ ps)) as (λ b. have_arcs dp (p ∷ ps) ≡ b → checked_rows dp best (cond b (whole_cover dp best (p ∷ ps)) (rough_cover dp best)) ≡ None) [
            | true ↦ λ has. whole-passes dp laws best some (p ∷ ps) (omega arith) all low has
            | false ↦ λ not. rough-passes dp laws best some (rough-within dp (length (p ∷ ps)) 0 some best (p ∷ ps) all low not)
          ] refl)
    ] refl

-- where the answer of each part is accepted, what is joined of them is accepted
pub joined-accepted : (dp : Dp) → IsLawful dp → (p : PartAnswer) (ps : List PartAnswer) → AreAccepted dp (length (p ∷ ps)) 0 (p ∷ ps) → IsAccepted dp (joined dp p ps)
joined-accepted dp laws p ps h =
    let b : PartAnswer = best_answer p ps in
    let all = all-passed dp (length (p ∷ ps)) 0 (p ∷ ps) h in
    let solved = all-solved dp laws (length (p ∷ ps)) 0 (p ∷ ps) h in
    let solution : IsSolved dp b = best-is (IsSolved dp) p ps solved.0 solved.1 in
    let rows = joined-rows dp laws b.best p ps all (at-most-best p ps) in
    ap verdict_of (checked-by dp b.best (pos 0) b.assignment (joined_cover dp p ps) solution (subst (λ c. checked_rows dp c (joined_cover dp p ps) ≡ None) (sym (claim-same b.best)) rows))

-- so its value is the best one
pub joined-best : (dp : Dp) → IsLawful dp → (p : PartAnswer) (ps : List PartAnswer) → AreAccepted dp (length (p ∷ ps)) 0 (p ∷ ps) → IsReportedBest dp (best_answer p ps).assignment (best_answer p ps).best
joined-best dp laws p ps h =
    let b : PartAnswer = best_answer p ps in
    accepted-is-best dp laws b.best (pos 0) b.assignment (joined_cover dp p ps) (accepted-none (checked dp b.best (pos 0) b.assignment (joined_cover dp p ps)) (joined-accepted dp laws p ps h)) refl
