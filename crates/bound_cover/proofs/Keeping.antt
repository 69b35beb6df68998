-- A row that passes its tests goes on passing them while rows are put after those of the next layer, and while rows there get
-- other arcs.
use Rattle.std.proofs.Common.{◌≡◌, ℕ, zero, suc, ◌+◌, nat_lt, ℤ, true, false, cond, ◌&&◌, List, [], ◌∷◌, ◌++◌, length, map, slice_get, Option, Some, None, ◌⊎◌, inl, inr, refl, sym, ◌∙◌, ap, subst, arith, zero-add}
use Rattle.dp_model.specs.Dp.{Dp}
use Rattle.dp_laws.proofs.Diagrams.Places.{same-Some, slice_get-append}
use Rattle.bound_cover.specs.declared.cover.CoverArc.{CoverArc}
use Rattle.bound_cover.specs.declared.cover.Why.TheVariants.{Row, Target}
use Rattle.bound_cover.specs.Covers.{CoverRow}
use Rattle.bound_cover.specs.Tests.{is_state_row, arc_for, tested, gap_fault, row_arc_fault, arc_fault, listed_fault, decision_fault, decisions_fault, inner_fault, last_fault}
use Rattle.bound_cover.specs.Exploring.{with_arcs_at}
use Rattle.bound_cover.specs.DraftRows.{Passes}
use Rattle.bound_cover.proofs.Faults.{first-none, first-both, cond-none, cond-holds}

-- a row with these words and this bound stands at the place
pub record IsKeptAt (rows : List CoverRow) (t : ℕ) (r : CoverRow) : Type 0 where
  pub row : CoverRow
  pub at : slice_get rows t ≡ Some row
  pub words : row.words ≡ r.words
  pub bound : row.bound ≡ r.bound

-- each row keeps its number, its words and its bound
abbrev pub Keeps : List CoverRow → List CoverRow → Type 0
Keeps rows more = (t : ℕ) (r : CoverRow) → slice_get rows t ≡ Some r → IsKeptAt more t r

row-arc-kept : (dp : Dp) (k i d : ℕ) (row : CoverRow) (next more : List CoverRow) → Keeps next more → (place : ℕ) (o : Option CoverRow) → slice_get next place ≡ o → row_arc_fault dp k i row d o ≡ None → row_arc_fault dp k i row d (slice_get more place) ≡ None
row-arc-kept dp k i d row next more keeps place None at e = absurd (let clash : Some (Target k i d) ≡ None = e in cc)
row-arc-kept dp k i d row next more keeps place (Some r) at e =
    let kept = keeps place r at in
    let Fault : List ℤ → Option ℤ → Type 0 = λ w b. cond (is_state_row dp (k + 1) w) (gap_fault k i d row.bound (dp.gain k row.words d) (dp.gap (k + 1) w (dp.step k row.words d)) b) (Some (Target k i d)) ≡ None in
    subst (λ o. row_arc_fault dp k i row d o ≡ None) (sym kept.at) (subst (λ b. Fault kept.row.words b) (sym kept.bound) (subst (λ w. Fault w r.bound) (sym kept.words) e))

arc-kept : (dp : Dp) (k i d : ℕ) (row : CoverRow) (next more : List CoverRow) → Keeps next more → (o : Option ℕ) → arc_fault dp k i next row d o ≡ None → arc_fault dp k i more row d o ≡ None
arc-kept dp k i d row next more keeps None e = e
arc-kept dp k i d row next more keeps (Some place) e = row-arc-kept dp k i d row next more keeps place (slice_get next place) refl e

listed-kept : (dp : Dp) (k i d : ℕ) (row : CoverRow) (next more : List CoverRow) → Keeps next more → (o : Option CoverArc) → listed_fault dp k i next row d o ≡ None → listed_fault dp k i more row d o ≡ None
listed-kept dp k i d row next more keeps None e = e
listed-kept dp k i d row next more keeps (Some arc) e = arc-kept dp k i d row next more keeps arc.target e

decision-kept : (dp : Dp) (k i : ℕ) (row : CoverRow) (next more : List CoverRow) → Keeps next more → (arcs : List CoverArc) (d : ℕ) → decision_fault dp k i next row arcs d ≡ None → decision_fault dp k i more row arcs d ≡ None
decision-kept dp k i row next more keeps arcs d e =
    let may = nat_lt d (dp.choices k) && dp.allowed k row.words d in
    let parts = cond-none may (listed_fault dp k i next row d (arc_for d arcs)) (Target k i d) e in
    cond-holds may (listed_fault dp k i more row d (arc_for d arcs)) (Some (Target k i d)) parts.0 (listed-kept dp k i d row next more keeps (arc_for d arcs) parts.1)

decisions-kept : (dp : Dp) (k i : ℕ) (row : CoverRow) (next more : List CoverRow) → Keeps next more → (arcs : List CoverArc) (ds : List ℕ) → decisions_fault dp k i next row arcs ds ≡ None → decisions_fault dp k i more row arcs ds ≡ None
decisions-kept dp k i row next more keeps arcs [] e = refl
decisions-kept dp k i row next more keeps arcs (d ∷ ds) e =
    let parts = first-none (decision_fault dp k i next row arcs d) (decisions_fault dp k i next row arcs ds) e in
    first-both (decision_fault dp k i more row arcs d) (decisions_fault dp k i more row arcs ds) (decision-kept dp k i row next more keeps arcs d parts.0) (decisions-kept dp k i row next more keeps arcs ds parts.1)

inner-kept : (dp : Dp) (k i : ℕ) (row : CoverRow) (next more : List CoverRow) → Keeps next more → (o : Option (List CoverArc)) → inner_fault dp k i next row o ≡ None → inner_fault dp k i more row o ≡ None
inner-kept dp k i row next more keeps None e = e
inner-kept dp k i row next more keeps (Some arcs) e = decisions-kept dp k i row next more keeps arcs (tested dp k row.words arcs) e

pub passes-kept : (dp : Dp) (k : ℕ) (next more : List CoverRow) (row : CoverRow) → Keeps next more → Passes dp k next row → Passes dp k more row
passes-kept dp k next more row keeps passes = λ i.
    let parts = cond-none (is_state_row dp k row.words) (cond (nat_lt k dp.vars) (inner_fault dp k i next row row.arcs) (last_fault i row row.arcs)) (Row k i) (passes i) in
    cond-holds (is_state_row dp k row.words) (cond (nat_lt k dp.vars) (inner_fault dp k i more row row.arcs) (last_fault i row row.arcs)) (Some (Row k i)) parts.0
    (elim (nat_lt k dp.vars) as (λ b. cond b (inner_fault dp k i next row row.arcs) (last_fault i row row.arcs) ≡ None → cond b (inner_fault dp k i more row row.arcs) (last_fault i row row.arcs) ≡ None) [
      | true ↦ λ e. inner-kept dp k i row next more keeps row.arcs e
      | false ↦ λ e. e
    ] parts.1)

-- ---- which lists keep the rows of which

pub keeps-same : (rows : List CoverRow) → Keeps rows rows
keeps-same rows = λ t r at. record { row = r; at = at; words = refl; bound = refl }

pub keeps-following : (rows more : List CoverRow) → Keeps rows (rows ++ more)
keeps-following rows more = λ t r at. record { row = r; at = slice_get-append rows more t r at; words = refl; bound = refl }

pub keeps-arcs : (place : ℕ) (arcs : List CoverArc) (rows : List CoverRow) → Keeps rows (with_arcs_at place arcs rows)
keeps-arcs place arcs [] = λ t r at. absurd (let none : None ≡ Some r = at in cc)
keeps-arcs zero arcs (row ∷ rows) = λ t.
    elim t as (λ t. (r : CoverRow) → slice_get (row ∷ rows) t ≡ Some r → IsKeptAt (with_arcs_at 0 arcs (row ∷ rows)) t r) [
      | zero ↦ λ r at. (let same = same-Some row r at in record { row = record { bound = row.bound; words = row.words; arcs = Some arcs }; at = refl; words = ap (λ (x : CoverRow). x.words) same; bound = ap (λ (x : CoverRow). x.bound) same })
      | suc t ↦ λ r at. record { row = r; at = at; words = refl; bound = refl }
    ]
keeps-arcs (suc place) arcs (row ∷ rows) = λ t.
    elim t as (λ t. (r : CoverRow) → slice_get (row ∷ rows) t ≡ Some r → IsKeptAt (with_arcs_at (suc place) arcs (row ∷ rows)) t r) [
      | zero ↦ λ r at. record { row = r; at = at; words = refl; bound = refl }
      | suc t ↦ λ r at. (let k = keeps-arcs place arcs rows t r at in record { row = k.row; at = k.at; words = k.words; bound = k.bound })
    ]

-- ---- what stands at a place of such a list

-- the row that got arcs
pub record GotArcs (place : ℕ) (arcs : List CoverArc) (rows : List CoverRow) (i : ℕ) (r : CoverRow) : Type 0 where
  pub here : i ≡ place
  pub row : CoverRow
  pub at : slice_get rows i ≡ Some row
  pub is : r ≡ record { bound = row.bound; words = row.words; arcs = Some arcs }

-- another row, which is as it was
pub record IsOld (place : ℕ) (rows : List CoverRow) (i : ℕ) (r : CoverRow) : Type 0 where
  pub at : slice_get rows i ≡ Some r
  pub other : i ≡ place → ⊥

pub arcs-cases : (place : ℕ) (arcs : List CoverArc) (rows : List CoverRow) (i : ℕ) (r : CoverRow) → slice_get (with_arcs_at place arcs rows) i ≡ Some r → GotArcs place arcs rows i r ⊎ IsOld place rows i r
arcs-cases place arcs [] i r e = absurd (let none : None ≡ Some r = e in cc)
arcs-cases zero arcs (row ∷ rows) zero r e = inl (record { here = refl; row = row; at = refl; is = sym (same-Some (record { bound = row.bound; words = row.words; arcs = Some arcs }) r e) })
arcs-cases zero arcs (row ∷ rows) (suc i) r e = inr (record { at = e; other = λ same. omega arith })
arcs-cases (suc place) arcs (row ∷ rows) zero r e = inr (record { at = e; other = λ same. omega arith })
arcs-cases (suc place) arcs (row ∷ rows) (suc i) r e = elim (arcs-cases place arcs rows i r e) as (λ _. GotArcs (suc place) arcs (row ∷ rows) (suc i) r ⊎ IsOld (suc place) (row ∷ rows) (suc i) r) [
  | inl g ↦ inl (record { here = ap suc g.here; row = g.row; at = g.at; is = g.is })
  | inr old ↦ inr (record { at = old.at; other = λ same. old.other (omega arith) })
]

-- an element of the second list
pub record IsAfter {X : Type 0} (xs ys : List X) (i : ℕ) (x : X) : Type 0 where
  pub place : ℕ
  pub at : slice_get ys place ≡ Some x
  pub is : i ≡ length xs + place

pub append-cases : {X : Type 0} (xs ys : List X) (i : ℕ) (x : X) → slice_get (xs ++ ys) i ≡ Some x → (slice_get xs i ≡ Some x) ⊎ IsAfter xs ys i x
append-cases [] ys i x e = inr (record { place = i; at = e; is = sym (zero-add i) })
append-cases (y ∷ xs) ys zero x e = inl e
append-cases (y ∷ xs) ys (suc i) x e = elim (append-cases xs ys i x e) as (λ _. (slice_get xs i ≡ Some x) ⊎ IsAfter (y ∷ xs) ys (suc i) x) [
  | inl old ↦ inl old
  | inr b ↦ inr (record { place = b.place; at = b.at; is = (let is = b.is in omega arith) })
]

pub append-following : {X : Type 0} (xs ys : List X) (t : ℕ) → slice_get (xs ++ ys) (length xs + t) ≡ slice_get ys t
append-following [] ys t = ap (slice_get ys) (zero-add t)
append-following (x ∷ xs) ys t =
    let e : length (x ∷ xs) + t ≡ suc (length xs + t) = omega arith in
    ap (slice_get (x ∷ (xs ++ ys))) e ∙ append-following xs ys t

-- what a list was made of
pub map-cases : {X Y : Type 0} (f : X → Y) (xs : List X) (i : ℕ) (y : Y) → slice_get (map f xs) i ≡ Some y → (x : X) × (slice_get xs i ≡ Some x) × (f x ≡ y)
map-cases f [] i y e = absurd (let none : None ≡ Some y = e in cc)
map-cases f (x ∷ xs) zero y e = (x, refl, same-Some (f x) y e)
map-cases f (x ∷ xs) (suc i) y e = map-cases f xs i y e

pub map-at : {X Y : Type 0} (f : X → Y) (xs : List X) (i : ℕ) (x : X) → slice_get xs i ≡ Some x → slice_get (map f xs) i ≡ Some (f x)
map-at f [] i x e = absurd (let none : None ≡ Some x = e in cc)
map-at f (y ∷ xs) zero x e = ap (λ z. Some (f z)) (same-Some y x e)
map-at f (y ∷ xs) (suc i) x e = map-at f xs i x e
