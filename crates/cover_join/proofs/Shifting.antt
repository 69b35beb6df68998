-- A row of a part that passes its tests passes them in the whole problem, with its arcs shifted to where the rows of the next layer stand.
use Rattle.std.proofs.Common.{◌≡◌, ℕ, zero, suc, ◌+◌, ◌≤◌, nat_eq, nat_lt, ℤ, pos, ◌+ℤ◌, Bool, true, false, not, cond, ◌&&◌, ◌||◌, List, [], ◌∷◌, map, filter, slice_get, option_map, Option, Some, None, IsTrue, refl, sym, ◌∙◌, ap, subst, arith}
use Rattle.dp_model.specs.Decisions.{below}
use Rattle.dp_model.specs.Dp.{Dp}
use Rattle.dp_model.specs.Numbers.{add_some}
use Rattle.bound_cover.specs.declared.cover.CoverArc.{CoverArc}
use Rattle.bound_cover.specs.declared.cover.Why.TheVariants.{Row, Arc, Target, Terminal, Rough}
use Rattle.bound_cover.specs.Covers.{CoverRow}
use Rattle.bound_cover.specs.Tests.{is_at_most, is_state_row, lists, arc_for, put_in, with_listed, tested, gap_fault, row_arc_fault, arc_fault, listed_fault, decision_fault, decisions_fault, inner_fault, last_fault, row_fault}
use Rattle.bound_cover.specs.DraftRows.{Passes}
use Rattle.bound_cover.proofs.Claims.{at-most-self, at-most-through}
use Rattle.bound_cover.proofs.Faults.{first-none, first-both, unless-none, unless-holds, cond-none, cond-holds}
use Rattle.bound_cover.proofs.Keeping.{IsKeptAt}
use Rattle.parts.specs.Part.{part_program, gap_in_part}
use Rattle.cover_join.specs.Joined.{shifted, shifted_arc, shifted_row}

-- each row of the first list stands in the second one, n places further on
abbrev pub Shifts : ℕ → List CoverRow → List CoverRow → Type 0
Shifts n next more = (t : ℕ) (r : CoverRow) → slice_get next t ≡ Some r → IsKeptAt more (n + t) r

-- ---- the arcs of a row

lists-shifted : (n d : ℕ) (arcs : List CoverArc) → lists d (map (shifted_arc n) arcs) ≡ lists d arcs
lists-shifted n d [] = refl
lists-shifted n d (arc ∷ arcs) = ap (λ b. nat_eq arc.decision d || b) (lists-shifted n d arcs)

shifted-cond : (n : ℕ) (before here : Bool) (arc : CoverArc) (later : Option CoverArc)
    → cond before (option_map (shifted_arc n) later) (cond here (Some (shifted_arc n arc)) None) ≡ option_map (shifted_arc n) (cond before later (cond here (Some arc) None))
shifted-cond n true here arc later = refl
shifted-cond n false true arc later = refl
shifted-cond n false false arc later = refl

arc_for-shifted : (n d : ℕ) (arcs : List CoverArc) → arc_for d (map (shifted_arc n) arcs) ≡ option_map (shifted_arc n) (arc_for d arcs)
arc_for-shifted n d [] = refl
arc_for-shifted n d (arc ∷ arcs) =
    ap (λ later. cond (nat_lt arc.decision d) later (cond (nat_eq arc.decision d && not (lists d (map (shifted_arc n) arcs))) (Some (shifted_arc n arc)) None)) (arc_for-shifted n d arcs)
    ∙ (ap (λ b. cond (nat_lt arc.decision d) (option_map (shifted_arc n) (arc_for d arcs)) (cond (nat_eq arc.decision d && not b) (Some (shifted_arc n arc)) None)) (lists-shifted n d arcs)
    ∙ shifted-cond n (nat_lt arc.decision d) (nat_eq arc.decision d && not (lists d arcs)) arc (arc_for d arcs))

with_listed-shifted : (n : ℕ) (allowed : List ℕ) (arcs : List CoverArc) → with_listed allowed (map (shifted_arc n) arcs) ≡ with_listed allowed arcs
with_listed-shifted n allowed [] = refl
with_listed-shifted n allowed (arc ∷ arcs) = ap (put_in arc.decision) (with_listed-shifted n allowed arcs)

-- ---- from a part to the whole

module _ (dp : Dp) (index of : ℕ) where
  abbrev part : Dp
  part = part_program dp index of

  gap-below : (k : ℕ) (a s : List ℤ) → 1 ≤ k → gap_in_part dp k a s ≡ dp.gap k a s
  gap-below zero a s low = absurd (omega arith)
  gap-below (suc k) a s low = refl

  state-below : (k : ℕ) (words : List ℤ) → 1 ≤ k → is_state_row part k words ≡ is_state_row dp k words
  state-below zero words low = absurd (omega arith)
  state-below (suc k) words low = refl

  gap-fault : (k i i' d : ℕ) (b b' next : Option ℤ) (gain : ℤ) (o : Option ℤ) → IsTrue (is_at_most b b') → gap_fault k i d b gain o next ≡ None → gap_fault k i' d b' gain o next ≡ None
  gap-fault k i i' d b b' next gain None up e = absurd (let clash : Some (Target k i d) ≡ None = e in cc)
  gap-fault k i i' d b b' next gain (Some gap) up e =
      unless-holds (is_at_most (add_some (gain +ℤ gap) next) b') (Arc k i' d)
      (at-most-through (add_some (gain +ℤ gap) next) b b' (unless-none (is_at_most (add_some (gain +ℤ gap) next) b) (Arc k i d) e) up)

  -- the row with this bound and these arcs in the place of its own
  abbrev other : CoverRow → Option ℤ → Option (List CoverArc) → CoverRow
  other row b arcs = record { bound = b; words = row.words; arcs = arcs }

  row-arc : (k i i' d : ℕ) (row : CoverRow) (b : Option ℤ) (arcs : Option (List CoverArc)) (x r : CoverRow) → IsTrue (is_at_most row.bound b) → r.words ≡ x.words → r.bound ≡ x.bound
      → row_arc_fault part k i row d (Some x) ≡ None → row_arc_fault dp k i' (other row b arcs) d (Some r) ≡ None
  row-arc k i i' d row b arcs x r up words bound e =
      let low : 1 ≤ k + 1 = omega arith in
      let s : List ℤ = dp.step k row.words d in
      let parts = cond-none (is_state_row part (k + 1) x.words) (gap_fault k i d row.bound (dp.gain k row.words d) (gap_in_part dp (k + 1) x.words s) x.bound) (Target k i d) e in
      let state : IsTrue (is_state_row dp (k + 1) r.words) = ap (is_state_row dp (k + 1)) words ∙ (sym (state-below (k + 1) x.words low) ∙ parts.0) in
      let gap : dp.gap (k + 1) r.words s ≡ gap_in_part dp (k + 1) x.words s = ap (λ w. dp.gap (k + 1) w s) words ∙ sym (gap-below (k + 1) x.words s low) in
      let before : gap_fault k i d row.bound (dp.gain k row.words d) (dp.gap (k + 1) r.words s) r.bound ≡ None = ap (λ o. gap_fault k i d row.bound (dp.gain k row.words d) o r.bound) gap ∙ (ap (gap_fault k i d row.bound (dp.gain k row.words d) (gap_in_part dp (k + 1) x.words s)) bound ∙ parts.1) in
      cond-holds (is_state_row dp (k + 1) r.words) (gap_fault k i' d b (dp.gain k row.words d) (dp.gap (k + 1) r.words s) r.bound) (Some (Target k i' d)) state
      (gap-fault k i i' d row.bound b r.bound (dp.gain k row.words d) (dp.gap (k + 1) r.words s) up before)

  -- a target of the next layer, n places further on
  at-target : (k i i' d n : ℕ) (row : CoverRow) (b : Option ℤ) (arcs : Option (List CoverArc)) (next more : List CoverRow) → IsTrue (is_at_most row.bound b) → Shifts n next more → (t : ℕ) (o : Option CoverRow) → slice_get next t ≡ o
      → row_arc_fault part k i row d o ≡ None → row_arc_fault dp k i' (other row b arcs) d (slice_get more (n + t)) ≡ None
  at-target k i i' d n row b arcs next more up shifts t None at e = absurd (let clash : Some (Target k i d) ≡ None = e in cc)
  at-target k i i' d n row b arcs next more up shifts t (Some x) at e =
      let kept = shifts t x at in
      subst (λ o. row_arc_fault dp k i' (other row b arcs) d o ≡ None) (sym kept.at) (row-arc k i i' d row b arcs x kept.row up kept.words kept.bound e)

  -- an arc of a row whose bound is no less
  pub arc-passes : (k i i' d n : ℕ) (row : CoverRow) (b : Option ℤ) (arcs : Option (List CoverArc)) (next more : List CoverRow) → IsTrue (is_at_most row.bound b) → Shifts n next more → (o : Option ℕ)
      → arc_fault part k i next row d o ≡ None → arc_fault dp k i' more (other row b arcs) d (shifted n o) ≡ None
  arc-passes k i i' d n row b arcs next more up shifts None e =
      let reach : Option ℤ = add_some (dp.gain k row.words d) (dp.rough (k + 1) (dp.step k row.words d)) in
      unless-holds (is_at_most reach b) (Arc k i' d) (at-most-through reach row.bound b (unless-none (is_at_most reach row.bound) (Arc k i d) e) up)
  arc-passes k i i' d n row b arcs next more up shifts (Some t) e = at-target k i i' d n row b arcs next more up shifts t (slice_get next t) refl e

  -- ---- a row below the first layer

  module _ (j i i' n : ℕ) (row : CoverRow) (next more : List CoverRow) (shifts : Shifts n next more) where
    listed : (arcs : Option (List CoverArc)) (d : ℕ) (o : Option CoverArc) → listed_fault part (suc j) i next row d o ≡ None → listed_fault dp (suc j) i' more (other row row.bound arcs) d (option_map (shifted_arc n) o) ≡ None
    listed arcs d None e = absurd (let clash : Some (Target (suc j) i d) ≡ None = e in cc)
    listed arcs d (Some arc) e = arc-passes (suc j) i i' d n row row.bound arcs next more (at-most-self row.bound) shifts arc.target e

    decision : (o : Option (List CoverArc)) (arcs : List CoverArc) (d : ℕ) → decision_fault part (suc j) i next row arcs d ≡ None → decision_fault dp (suc j) i' more (other row row.bound o) (map (shifted_arc n) arcs) d ≡ None
    decision o arcs d e =
        let may : Bool = nat_lt d (dp.choices (suc j)) && dp.allowed (suc j) row.words d in
        let parts = cond-none may (listed_fault part (suc j) i next row d (arc_for d arcs)) (Target (suc j) i d) e in
        cond-holds may (listed_fault dp (suc j) i' more (other row row.bound o) d (arc_for d (map (shifted_arc n) arcs))) (Some (Target (suc j) i' d)) parts.0
        (ap (listed_fault dp (suc j) i' more (other row row.bound o) d) (arc_for-shifted n d arcs) ∙ listed o d (arc_for d arcs) parts.1)

    decisions : (o : Option (List CoverArc)) (arcs : List CoverArc) (ds : List ℕ) → decisions_fault part (suc j) i next row arcs ds ≡ None → decisions_fault dp (suc j) i' more (other row row.bound o) (map (shifted_arc n) arcs) ds ≡ None
    decisions o arcs [] e = refl
    decisions o arcs (d ∷ ds) e =
        let parts = first-none (decision_fault part (suc j) i next row arcs d) (decisions_fault part (suc j) i next row arcs ds) e in
        first-both (decision_fault dp (suc j) i' more (other row row.bound o) (map (shifted_arc n) arcs) d) (decisions_fault dp (suc j) i' more (other row row.bound o) (map (shifted_arc n) arcs) ds)
        (decision o arcs d parts.0) (decisions o arcs ds parts.1)

    inner : (o : Option (List CoverArc)) → inner_fault part (suc j) i next row o ≡ None → inner_fault dp (suc j) i' more (other row row.bound (option_map (map (shifted_arc n)) o)) (option_map (map (shifted_arc n)) o) ≡ None
    inner None e =
        let fine : Bool = is_at_most (dp.rough (suc j) row.words) row.bound in
        unless-holds fine (Rough (suc j) i') (unless-none fine (Rough (suc j) i) e)
    inner (Some arcs) e =
        let o : Option (List CoverArc) = Some (map (shifted_arc n) arcs) in
        ap (decisions_fault dp (suc j) i' more (other row row.bound o) (map (shifted_arc n) arcs)) (with_listed-shifted n (filter (dp.allowed (suc j) row.words) (below (dp.choices (suc j)))) arcs)
        ∙ decisions o arcs (tested part (suc j) row.words arcs) e

    last : (o : Option (List CoverArc)) → last_fault i row o ≡ None → last_fault i' (other row row.bound (option_map (map (shifted_arc n)) o)) (option_map (map (shifted_arc n)) o) ≡ None
    last None e =
        let fine : Bool = is_at_most (Some (pos 0)) row.bound in
        unless-holds fine (Terminal i') (unless-none fine (Terminal i) e)
    last (Some arcs) e = absurd (let clash : Some (Terminal i) ≡ None = e in cc)

    shifted-passes : row_fault part (suc j) i next row ≡ None → row_fault dp (suc j) i' more (shifted_row n row) ≡ None
    shifted-passes e =
        let inside : Bool = nat_lt (suc j) dp.vars in
        let parts = cond-none (is_state_row dp (suc j) row.words) (cond inside (inner_fault part (suc j) i next row row.arcs) (last_fault i row row.arcs)) (Row (suc j) i) e in
        cond-holds (is_state_row dp (suc j) row.words) (cond inside (inner_fault dp (suc j) i' more (shifted_row n row) (option_map (map (shifted_arc n)) row.arcs)) (last_fault i' (shifted_row n row) (option_map (map (shifted_arc n)) row.arcs))) (Some (Row (suc j) i')) parts.0
        (elim inside as (λ b. cond b (inner_fault part (suc j) i next row row.arcs) (last_fault i row row.arcs) ≡ None
        → cond b (inner_fault dp (suc j) i' more (shifted_row n row) (option_map (map (shifted_arc n)) row.arcs)) (last_fault i' (shifted_row n row) (option_map (map (shifted_arc n)) row.arcs)) ≡ None) [
          | true ↦ λ t. inner row.arcs t
          | false ↦ λ t. last row.arcs t
        ] parts.1)

  -- whatever number it had
  pub passes-shifted : (j i n : ℕ) (row : CoverRow) (next more : List CoverRow) → Shifts n next more → row_fault part (suc j) i next row ≡ None → Passes dp (suc j) more (shifted_row n row)
  passes-shifted j i n row next more shifts e = λ i'. shifted-passes j i i' n row next more shifts e
