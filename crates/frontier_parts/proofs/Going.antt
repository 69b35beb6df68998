-- A row that passes goes on passing where its arcs go to rows with the same words and bounds.
use Rattle.std.proofs.Common.{◌≡◌, ℕ, ◌+◌, nat_eq, nat_lt, ℤ, pos, ◌+ℤ◌, Bool, true, false, not, cond, ◌&&◌, List, [], ◌∷◌, map, filter, slice_get, Option, Some, None, option_map, refl, sym, ◌∙◌, ap, subst}
use Rattle.dp_model.specs.Dp.{Dp}
use Rattle.dp_model.specs.Decisions.{below}
use Rattle.dp_model.specs.Numbers.{add_some}
use Rattle.bound_cover.specs.declared.cover.CoverArc.{CoverArc}
use Rattle.bound_cover.specs.declared.cover.Why.TheVariants.{Row, Arc, Target, Terminal, Rough}
use Rattle.bound_cover.specs.Covers.{CoverRow}
use Rattle.bound_cover.specs.Tests.{is_at_most, is_state_row, lists, arc_for, with_listed, gap_fault, row_arc_fault, arc_fault, listed_fault, decision_fault, decisions_fault, inner_fault, last_fault, row_fault}
use Rattle.bound_cover.specs.Verdicts.{rows_fault}
use Rattle.bound_cover.proofs.Faults.{first-none, first-both, unless-none, unless-holds, cond-none, cond-holds}
use Rattle.bound_cover.proofs.Keeping.{IsKeptAt, Keeps}
use Rattle.frontier_parts.specs.Beside.{pushed, pushed_row}

-- a target goes to the place of a row with the same words and bound
abbrev pub Goes : List CoverRow → List CoverRow → Option ℕ → Option ℕ → Type 0
Goes next more None None = Unit {0}
Goes next more None (Some u) = ⊥
Goes next more (Some t) None = ⊥
Goes next more (Some t) (Some u) = (r : CoverRow) → slice_get next t ≡ Some r → IsKeptAt more u r

abbrev pub GoAll : List CoverRow → List CoverRow → List CoverArc → List CoverArc → Type 0
GoAll next more [] [] = Unit {0}
GoAll next more [] (b ∷ ys) = ⊥
GoAll next more (a ∷ xs) [] = ⊥
GoAll next more (a ∷ xs) (b ∷ ys) = (a.decision ≡ b.decision) × Goes next more a.target b.target × GoAll next more xs ys

abbrev pub GoArcs : List CoverRow → List CoverRow → Option (List CoverArc) → Option (List CoverArc) → Type 0
GoArcs next more None None = Unit {0}
GoArcs next more None (Some ys) = ⊥
GoArcs next more (Some xs) None = ⊥
GoArcs next more (Some xs) (Some ys) = GoAll next more xs ys

abbrev pub GoesArc : List CoverRow → List CoverRow → Option CoverArc → Option CoverArc → Type 0
GoesArc next more None None = Unit {0}
GoesArc next more None (Some b) = ⊥
GoesArc next more (Some a) None = ⊥
GoesArc next more (Some a) (Some b) = Goes next more a.target b.target

lists_same : (next more : List CoverRow) (xs ys : List CoverArc) (d : ℕ) → GoAll next more xs ys → lists d xs ≡ lists d ys
lists_same next more [] [] d go = refl
lists_same next more [] (b ∷ ys) d go = absurd go
lists_same next more (a ∷ xs) [] d go = absurd go
lists_same next more (a ∷ xs) (b ∷ ys) d go = let here = go.0 in let rest = lists_same next more xs ys d go.2 in cc

with_listed_same : (next more : List CoverRow) (allowed : List ℕ) (xs ys : List CoverArc) → GoAll next more xs ys → with_listed allowed xs ≡ with_listed allowed ys
with_listed_same next more allowed [] [] go = refl
with_listed_same next more allowed [] (b ∷ ys) go = absurd go
with_listed_same next more allowed (a ∷ xs) [] go = absurd go
with_listed_same next more allowed (a ∷ xs) (b ∷ ys) go = let here = go.0 in let rest = with_listed_same next more allowed xs ys go.2 in cc

arc_goes : (next more : List CoverRow) (xs ys : List CoverArc) (d : ℕ) → GoAll next more xs ys → GoesArc next more (arc_for d xs) (arc_for d ys)
arc_goes next more [] [] d go = tt
arc_goes next more [] (b ∷ ys) d go = absurd go
arc_goes next more (a ∷ xs) [] d go = absurd go
arc_goes next more (a ∷ xs) (b ∷ ys) d go =
    let found : ℕ → Bool → Option CoverArc = λ e l. cond (nat_lt e d) (arc_for d ys) (cond (nat_eq e d && not l) (Some b) None) in
    let same : found a.decision (lists d xs) ≡ found b.decision (lists d ys) = ap (λ e. found e (lists d xs)) go.0 ∙ ap (found b.decision) (lists_same next more xs ys d go.2) in
    subst (λ (o : Option CoverArc). GoesArc next more (arc_for d (a ∷ xs)) o) same
    (elim (nat_lt a.decision d) as (λ t. GoesArc next more (cond t (arc_for d xs) (cond (nat_eq a.decision d && not (lists d xs)) (Some a) None)) (cond t (arc_for d ys) (cond (nat_eq a.decision d && not (lists d xs)) (Some b) None))) [
      | true ↦ arc_goes next more xs ys d go.2
      | false ↦ elim (nat_eq a.decision d && not (lists d xs)) as (λ t. GoesArc next more (cond t (Some a) None) (cond t (Some b) None)) [ true ↦ go.1 | false ↦ tt ]
    ])

module _ (dp : Dp) (k : ℕ) (next more : List CoverRow) where
  gap_goes : (i j d : ℕ) (bound : Option ℤ) (gain : ℤ) (o next_bound : Option ℤ) → gap_fault k i d bound gain o next_bound ≡ None → gap_fault k j d bound gain o next_bound ≡ None
  gap_goes i j d bound gain None next_bound e = absurd (let clash : Some (Target k i d) ≡ None = e in cc)
  gap_goes i j d bound gain (Some gap) next_bound e =
      unless-holds (is_at_most (add_some (gain +ℤ gap) next_bound) bound) (Arc k j d) (unless-none (is_at_most (add_some (gain +ℤ gap) next_bound) bound) (Arc k i d) e)

  row_arc_goes : (i j d : ℕ) (row other : CoverRow) → other.words ≡ row.words → other.bound ≡ row.bound → (t u : ℕ) (o : Option CoverRow) → slice_get next t ≡ o → Goes next more (Some t) (Some u) → row_arc_fault dp k i row d o ≡ None → row_arc_fault dp k j other d (slice_get more u) ≡ None
  row_arc_goes i j d row other words bound t u None at go e = absurd (let clash : Some (Target k i d) ≡ None = e in cc)
  row_arc_goes i j d row other words bound t u (Some r) at go e =
      let kept = go r at in
      let Fault : List ℤ → Option ℤ → List ℤ → Option ℤ → Type 0 = λ own top w b. cond (is_state_row dp (k + 1) w) (gap_fault k j d top (dp.gain k own d) (dp.gap (k + 1) w (dp.step k own d)) b) (Some (Target k j d)) ≡ None in
      let parts = cond-none (is_state_row dp (k + 1) r.words) (gap_fault k i d row.bound (dp.gain k row.words d) (dp.gap (k + 1) r.words (dp.step k row.words d)) r.bound) (Target k i d) e in
      let first : Fault row.words row.bound r.words r.bound = cond-holds (is_state_row dp (k + 1) r.words) (gap_fault k j d row.bound (dp.gain k row.words d) (dp.gap (k + 1) r.words (dp.step k row.words d)) r.bound) (Some (Target k j d)) parts.0
      (gap_goes i j d row.bound (dp.gain k row.words d) (dp.gap (k + 1) r.words (dp.step k row.words d)) r.bound parts.1) in
      subst (λ o. row_arc_fault dp k j other d o ≡ None) (sym kept.at)
      (subst (λ w. Fault w other.bound kept.row.words kept.row.bound) (sym words) (subst (λ b. Fault row.words b kept.row.words kept.row.bound) (sym bound)
      (subst (λ b. Fault row.words row.bound kept.row.words b) (sym kept.bound) (subst (λ w. Fault row.words row.bound w r.bound) (sym kept.words) first))))

  arc_fault_goes : (i j d : ℕ) (row other : CoverRow) → other.words ≡ row.words → other.bound ≡ row.bound → (o p : Option ℕ) → Goes next more o p → arc_fault dp k i next row d o ≡ None → arc_fault dp k j more other d p ≡ None
  arc_fault_goes i j d row other words bound None None go e =
      let Test : List ℤ → Option ℤ → Bool = λ w b. is_at_most (add_some (dp.gain k w d) (dp.rough (k + 1) (dp.step k w d))) b in
      let holds : Test row.words row.bound ≡ true = unless-none (Test row.words row.bound) (Arc k i d) e in
      unless-holds (Test other.words other.bound) (Arc k j d) (ap (λ w. Test w other.bound) words ∙ (ap (Test row.words) bound ∙ holds))
  arc_fault_goes i j d row other words bound None (Some u) go e = absurd go
  arc_fault_goes i j d row other words bound (Some t) None go e = absurd go
  arc_fault_goes i j d row other words bound (Some t) (Some u) go e = row_arc_goes i j d row other words bound t u (slice_get next t) refl go e

  listed_goes : (i j d : ℕ) (row other : CoverRow) → other.words ≡ row.words → other.bound ≡ row.bound → (o p : Option CoverArc) → GoesArc next more o p → listed_fault dp k i next row d o ≡ None → listed_fault dp k j more other d p ≡ None
  listed_goes i j d row other words bound None p go e = absurd (let clash : Some (Target k i d) ≡ None = e in cc)
  listed_goes i j d row other words bound (Some a) None go e = absurd go
  listed_goes i j d row other words bound (Some a) (Some b) go e = arc_fault_goes i j d row other words bound a.target b.target go e

  decision_goes : (i j d : ℕ) (row other : CoverRow) → other.words ≡ row.words → other.bound ≡ row.bound → (xs ys : List CoverArc) → GoAll next more xs ys → decision_fault dp k i next row xs d ≡ None → decision_fault dp k j more other ys d ≡ None
  decision_goes i j d row other words bound xs ys go e =
      let may : List ℤ → Bool = λ w. nat_lt d (dp.choices k) && dp.allowed k w d in
      let parts = cond-none (may row.words) (listed_fault dp k i next row d (arc_for d xs)) (Target k i d) e in
      cond-holds (may other.words) (listed_fault dp k j more other d (arc_for d ys)) (Some (Target k j d)) (ap may words ∙ parts.0)
      (listed_goes i j d row other words bound (arc_for d xs) (arc_for d ys) (arc_goes next more xs ys d go) parts.1)

  decisions_go : (i j : ℕ) (row other : CoverRow) → other.words ≡ row.words → other.bound ≡ row.bound → (xs ys : List CoverArc) → GoAll next more xs ys → (ds : List ℕ) → decisions_fault dp k i next row xs ds ≡ None → decisions_fault dp k j more other ys ds ≡ None
  decisions_go i j row other words bound xs ys go [] e = refl
  decisions_go i j row other words bound xs ys go (d ∷ ds) e =
      let parts = first-none (decision_fault dp k i next row xs d) (decisions_fault dp k i next row xs ds) e in
      first-both (decision_fault dp k j more other ys d) (decisions_fault dp k j more other ys ds) (decision_goes i j d row other words bound xs ys go parts.0) (decisions_go i j row other words bound xs ys go ds parts.1)

  inner_goes : (i j : ℕ) (row other : CoverRow) → other.words ≡ row.words → other.bound ≡ row.bound → (o p : Option (List CoverArc)) → GoArcs next more o p → inner_fault dp k i next row o ≡ None → inner_fault dp k j more other p ≡ None
  inner_goes i j row other words bound None None go e =
      let Test : List ℤ → Option ℤ → Bool = λ w b. is_at_most (dp.rough k w) b in
      let holds : Test row.words row.bound ≡ true = unless-none (Test row.words row.bound) (Rough k i) e in
      unless-holds (Test other.words other.bound) (Rough k j) (ap (λ w. Test w other.bound) words ∙ (ap (Test row.words) bound ∙ holds))
  inner_goes i j row other words bound None (Some ys) go e = absurd go
  inner_goes i j row other words bound (Some xs) None go e = absurd go
  inner_goes i j row other words bound (Some xs) (Some ys) go e =
      let listed : List ℤ → List CoverArc → List ℕ = λ w l. with_listed (filter (dp.allowed k w) (below (dp.choices k))) l in
      let same : listed row.words xs ≡ listed other.words ys = with_listed_same next more (filter (dp.allowed k row.words) (below (dp.choices k))) xs ys go ∙ ap (λ w. listed w ys) (sym words) in
      subst (λ ds. decisions_fault dp k j more other ys ds ≡ None) same (decisions_go i j row other words bound xs ys go (listed row.words xs) e)

  last_goes : (i j : ℕ) (row other : CoverRow) → other.bound ≡ row.bound → (o p : Option (List CoverArc)) → GoArcs next more o p → last_fault i row o ≡ None → last_fault j other p ≡ None
  last_goes i j row other bound None None go e =
      let holds = unless-none (is_at_most (Some (pos 0)) row.bound) (Terminal i) e in
      unless-holds (is_at_most (Some (pos 0)) other.bound) (Terminal j) (ap (is_at_most (Some (pos 0))) bound ∙ holds)
  last_goes i j row other bound None (Some ys) go e = absurd go
  last_goes i j row other bound (Some xs) p go e = absurd (let clash : Some (Terminal i) ≡ None = e in cc)

  -- the row with arcs that go there
  pub row_goes : (i j : ℕ) (row other : CoverRow) → other.words ≡ row.words → other.bound ≡ row.bound → GoArcs next more row.arcs other.arcs → row_fault dp k i next row ≡ None → row_fault dp k j more other ≡ None
  row_goes i j row other words bound go e =
      let parts = cond-none (is_state_row dp k row.words) (cond (nat_lt k dp.vars) (inner_fault dp k i next row row.arcs) (last_fault i row row.arcs)) (Row k i) e in
      cond-holds (is_state_row dp k other.words) (cond (nat_lt k dp.vars) (inner_fault dp k j more other other.arcs) (last_fault j other other.arcs)) (Some (Row k j)) (ap (is_state_row dp k) words ∙ parts.0)
      (elim (nat_lt k dp.vars) as (λ b. cond b (inner_fault dp k i next row row.arcs) (last_fault i row row.arcs) ≡ None → cond b (inner_fault dp k j more other other.arcs) (last_fault j other other.arcs) ≡ None) [
        | true ↦ λ f. inner_goes i j row other words bound row.arcs other.arcs go f
        | false ↦ λ f. last_goes i j row other bound row.arcs other.arcs go f
      ] parts.1)

  -- rows whose arcs stay
  stay : Keeps next more → (o : Option ℕ) → Goes next more o o
  stay keeps None = tt
  stay keeps (Some t) = λ r at. keeps t r at

  stay_all : Keeps next more → (xs : List CoverArc) → GoAll next more xs xs
  stay_all keeps [] = tt
  stay_all keeps (a ∷ xs) = (refl, stay keeps a.target, stay_all keeps xs)

  stay_arcs : Keeps next more → (o : Option (List CoverArc)) → GoArcs next more o o
  stay_arcs keeps None = tt
  stay_arcs keeps (Some xs) = stay_all keeps xs

  pub rows_stay : Keeps next more → (rows : List CoverRow) (i j : ℕ) → rows_fault dp k next i rows ≡ None → rows_fault dp k more j rows ≡ None
  rows_stay keeps [] i j e = refl
  rows_stay keeps (row ∷ rows) i j e =
      let parts = first-none (row_fault dp k i next row) (rows_fault dp k next (i + 1) rows) e in
      first-both (row_fault dp k j more row) (rows_fault dp k more (j + 1) rows) (row_goes i j row row refl refl (stay_arcs keeps row.arcs) parts.0) (rows_stay keeps rows (i + 1) (j + 1) parts.1)

  -- rows whose arcs are pushed
  abbrev pub IsPushed : ℕ → Type 0
  IsPushed n = (t : ℕ) (r : CoverRow) → slice_get next t ≡ Some r → IsKeptAt more (n + t) r

  push : (n : ℕ) → IsPushed n → (o : Option ℕ) → Goes next more o (option_map (λ i. n + i) o)
  push n following None = tt
  push n following (Some t) = λ r at. following t r at

  push_all : (n : ℕ) → IsPushed n → (xs : List CoverArc) → GoAll next more xs (map (pushed n) xs)
  push_all n following [] = tt
  push_all n following (a ∷ xs) = (refl, push n following a.target, push_all n following xs)

  push_arcs : (n : ℕ) → IsPushed n → (o : Option (List CoverArc)) → GoArcs next more o (option_map (map (pushed n)) o)
  push_arcs n following None = tt
  push_arcs n following (Some xs) = push_all n following xs

  pub rows_pushed : (n : ℕ) → IsPushed n → (rows : List CoverRow) (i j : ℕ) → rows_fault dp k next i rows ≡ None → rows_fault dp k more j (map (pushed_row n) rows) ≡ None
  rows_pushed n following [] i j e = refl
  rows_pushed n following (row ∷ rows) i j e =
      let parts = first-none (row_fault dp k i next row) (rows_fault dp k next (i + 1) rows) e in
      first-both (row_fault dp k j more (pushed_row n row)) (rows_fault dp k more (j + 1) (map (pushed_row n) rows)) (row_goes i j row (pushed_row n row) refl refl (push_arcs n following row.arcs) parts.0) (rows_pushed n following rows (i + 1) (j + 1) parts.1)
