-- A cover without a failure bounds every feasible solution.
use Rattle.std.proofs.Common.{◌≡◌, ℕ, ◌+◌, ◌≤◌, ◌<◌, nat_eq, nat_lt, ℤ, pos, ◌+ℤ◌, ◌≤ℤ◌, int_le, true, false, cond, ◌&&◌, ◌||◌, List, [], ◌∷◌, length, filter, slice_get, Option, Some, None, inl, inr, IsTrue, refl, sym, ◌∙◌, ap, subst, arith}
use Rattle.std.proofs.lemmas.Int.{ints}
use Rattle.std.proofs.lemmas.Bool.{and_parts}
use Rattle.dp_model.specs.Dp.{Dp, IsAllowed}
use Rattle.dp_model.specs.Best.{best, IsBest}
use Rattle.dp_model.specs.Decisions.{below}
use Rattle.dp_model.specs.Gaps.{IsStateOf, Matches}
use Rattle.dp_model.specs.Laws.{IsLawful}
use Rattle.dp_model.specs.NumberLaws.{int_le-is}
use Rattle.dp_model.specs.Numbers.{AtMost, IsFar, add_some}
use Rattle.dp_model.specs.Prefixes.{IsPath, IsContinuation, IsSolution, gain_of, value_of}
use Rattle.dp_model.specs.Solution.{IsSolutionWith}
use Rattle.dp_model.proofs.Members.{Has, Has-filter, Has-below}
use Rattle.dp_model.proofs.Sizes.{value_of-far}
use Rattle.dp_model.proofs.Solutions.{best-is_best}
use Rattle.dp_laws.proofs.Diagrams.Places.{Has-at}
use Rattle.bound_cover.specs.declared.cover.CoverArc.{CoverArc}
use Rattle.bound_cover.specs.declared.cover.Why.{Why}
use Rattle.bound_cover.specs.declared.cover.Why.TheVariants.{Layers, Root, Row, Rough, Terminal, Assignment, Target, Arc, Value}
use Rattle.bound_cover.specs.declared.cover.Verdict.TheVariants.{Accepted, Refused}
use Rattle.bound_cover.specs.Covers.{CoverRow}
use Rattle.bound_cover.specs.Tests.{is_at_most, is_state_row, unless, first_of, tested, gap_fault, row_arc_fault, arc_fault, inner_fault, last_fault, row_fault}
use Rattle.bound_cover.specs.Clamping.{IsWritable}
use Rattle.bound_cover.specs.Proved.{Shows, IsReportedBest, LiesWithin, IsReportedWithin}
use Rattle.bound_cover.specs.Verdicts.{first_layer, rows_fault, layers_fault, covers_root, has_root, cover_fault, checked_rows, worth_from, worth, value_fault, solution_fault, claim_of, checked, verdict_of}
use Rattle.bound_cover.proofs.Faults.{first-none, unless-none, cond-none, at-most-over, add-at-most, at-most-below, at-most-zero, state-of-row, Has-with_listed, decision-of, arc-of}

-- the row's claim: no continuation of its state gains more than its bound
abbrev pub Bounds : Dp → ℕ → CoverRow → Type 0
Bounds dp k row = (c : List ℕ) → IsContinuation dp k row.words c → AtMost (gain_of dp k row.words c) row.bound

-- ---- an arc

-- over a row whose claim holds
by-gap : (dp : Dp) → IsLawful dp → (k i d : ℕ) (bound : Option ℤ) (s : List ℤ) (next : CoverRow) (o : Option ℤ) → k + 1 ≤ dp.vars → IsStateOf dp (k + 1) s → IsStateOf dp (k + 1) next.words → Bounds dp (k + 1) next
    → (gain : ℤ) → dp.gap (k + 1) next.words s ≡ o → gap_fault k i d bound gain o next.bound ≡ None → (c : List ℕ) → IsContinuation dp (k + 1) s c → AtMost (gain +ℤ gain_of dp (k + 1) s c) bound
by-gap dp laws k i d bound s next None short of-step of-next claim gain is e c path = absurd (let clash : Some (Target k i d) ≡ None = e in cc)
by-gap dp laws k i d bound s next (Some g) short of-step of-next claim gain is e c path =
    let m : Matches dp (k + 1) next.words g (gain_of dp (k + 1) s c) = laws.gaps.sound (k + 1) next.words s g of-next of-step is c path in
    let test = unless-none (is_at_most (add_some (gain +ℤ g) next.bound) bound) (Arc k i d) e in
    let most = at-most-over ((gain +ℤ g) +ℤ gain_of dp (k + 1) next.words m.by) (add_some (gain +ℤ g) next.bound) bound (add-at-most (gain +ℤ g) (gain_of dp (k + 1) next.words m.by) next.bound (claim m.by m.continuation)) test in
    let enough = m.enough in
    at-most-below (gain +ℤ gain_of dp (k + 1) s c) ((gain +ℤ g) +ℤ gain_of dp (k + 1) next.words m.by) bound (omega (arith, ints)) most

by-row : (dp : Dp) → IsLawful dp → (k i d : ℕ) (row : CoverRow) (next : List CoverRow) (o : Option CoverRow) → k + 1 ≤ dp.vars → IsStateOf dp (k + 1) (dp.step k row.words d) → ((r : CoverRow) → Has r next → Bounds dp (k + 1) r)
    → (place : ℕ) → slice_get next place ≡ o → row_arc_fault dp k i row d o ≡ None → (c : List ℕ) → IsContinuation dp (k + 1) (dp.step k row.words d) c → AtMost (dp.gain k row.words d +ℤ gain_of dp (k + 1) (dp.step k row.words d) c) row.bound
by-row dp laws k i d row next None short of-step claims place at e c path = absurd (let clash : Some (Target k i d) ≡ None = e in cc)
by-row dp laws k i d row next (Some r) short of-step claims place at e c path =
    let parts = cond-none (is_state_row dp (k + 1) r.words) (gap_fault k i d row.bound (dp.gain k row.words d) (dp.gap (k + 1) r.words (dp.step k row.words d)) r.bound) (Target k i d) e in
    by-gap dp laws k i d row.bound (dp.step k row.words d) r (dp.gap (k + 1) r.words (dp.step k row.words d)) short of-step (state-of-row dp (k + 1) r.words short parts.0) (claims r (Has-at next place r at)) (dp.gain k row.words d) refl parts.1 c path

by-arc : (dp : Dp) → IsLawful dp → (k i d : ℕ) (row : CoverRow) (next : List CoverRow) (o : Option ℕ) → k + 1 ≤ dp.vars → IsStateOf dp (k + 1) (dp.step k row.words d) → ((r : CoverRow) → Has r next → Bounds dp (k + 1) r)
    → arc_fault dp k i next row d o ≡ None → (c : List ℕ) → IsContinuation dp (k + 1) (dp.step k row.words d) c → AtMost (dp.gain k row.words d +ℤ gain_of dp (k + 1) (dp.step k row.words d) c) row.bound
by-arc dp laws k i d row next None short of-step claims e c path =
    let s = dp.step k row.words d in
    let test = unless-none (is_at_most (add_some (dp.gain k row.words d) (dp.rough (k + 1) s)) row.bound) (Arc k i d) e in
    at-most-over (dp.gain k row.words d +ℤ gain_of dp (k + 1) s c) (add_some (dp.gain k row.words d) (dp.rough (k + 1) s)) row.bound (add-at-most (dp.gain k row.words d) (gain_of dp (k + 1) s c) (dp.rough (k + 1) s) (laws.rough.bounds (k + 1) s c of-step path)) test
by-arc dp laws k i d row next (Some place) short of-step claims e c path = by-row dp laws k i d row next (slice_get next place) short of-step claims place refl e c path

-- ---- a row

inner : (dp : Dp) → IsLawful dp → (k i : ℕ) (row : CoverRow) (next : List CoverRow) (o : Option (List CoverArc)) → k < dp.vars → IsStateOf dp k row.words → ((r : CoverRow) → Has r next → Bounds dp (k + 1) r)
    → inner_fault dp k i next row o ≡ None → Bounds dp k row
inner dp laws k i row next None short of-row claims e = λ c path.
    at-most-over (gain_of dp k row.words c) (dp.rough k row.words) row.bound (laws.rough.bounds k row.words c of-row path) (unless-none (is_at_most (dp.rough k row.words) row.bound) (Rough k i) e)
inner dp laws k i row next (Some arcs) short of-row claims e = λ c.
    elim c as (λ c. IsContinuation dp k row.words c → AtMost (gain_of dp k row.words c) row.bound) [
      | [] ↦ λ path. absurd (let whole : k + 0 ≡ dp.vars = path.whole in omega arith)
      | d ∷ rest ↦ λ path. (
          let allowed : IsAllowed dp k row.words d = path.path.0 in
          let has = Has-filter (dp.allowed k row.words) (below (dp.choices k)) d (Has-below (dp.choices k) d allowed.choice) allowed.test in
          let fine = decision-of dp k i next row arcs (tested dp k row.words arcs) e d (Has-with_listed (filter (dp.allowed k row.words) (below (dp.choices k))) arcs d has) in
          let arc = arc-of dp k i next row arcs d fine in
          let of-step : IsStateOf dp (k + 1) (dp.step k row.words d) = record { layer = omega arith; test = laws.states.step k row.words d of-row allowed } in
          let whole : k + length (d ∷ rest) ≡ dp.vars = path.whole in
          by-arc dp laws k i d row next arc.0.target (omega arith) of-step claims arc.1 rest (record { path = path.path.1; whole = omega arith }))
    ]

last : (dp : Dp) (k i : ℕ) (row : CoverRow) (o : Option (List CoverArc)) → dp.vars ≤ k → last_fault i row o ≡ None → Bounds dp k row
last dp k i row None deep e = λ c.
    elim c as (λ c. IsContinuation dp k row.words c → AtMost (gain_of dp k row.words c) row.bound) [
      | [] ↦ λ path. at-most-zero row.bound (unless-none (is_at_most (Some (pos 0)) row.bound) (Terminal i) e)
      | d ∷ rest ↦ λ path. absurd (let whole : k + length (d ∷ rest) ≡ dp.vars = path.whole in omega arith)
    ]
last dp k i row (Some arcs) deep e = absurd (let clash : Some (Terminal i) ≡ None = e in cc)

pub row-bounds : (dp : Dp) → IsLawful dp → (k i : ℕ) (next : List CoverRow) (row : CoverRow) → k ≤ dp.vars → ((r : CoverRow) → Has r next → Bounds dp (k + 1) r) → row_fault dp k i next row ≡ None → Bounds dp k row
row-bounds dp laws k i next row low claims e =
    let parts = cond-none (is_state_row dp k row.words) (cond (nat_lt k dp.vars) (inner_fault dp k i next row row.arcs) (last_fault i row row.arcs)) (Row k i) e in
    elim (nat_lt k dp.vars) as (λ b. nat_lt k dp.vars ≡ b → cond b (inner_fault dp k i next row row.arcs) (last_fault i row row.arcs) ≡ None → Bounds dp k row) [
      | true ↦ λ t f. inner dp laws k i row next row.arcs (grind arith) (state-of-row dp k row.words low parts.0) claims f
      | false ↦ λ t f. last dp k i row row.arcs (grind arith) f
    ] refl parts.1

-- ---- the rows of all layers

rows-bound : (dp : Dp) → IsLawful dp → (k i : ℕ) (next rows : List CoverRow) → k ≤ dp.vars → ((r : CoverRow) → Has r next → Bounds dp (k + 1) r) → rows_fault dp k next i rows ≡ None → (r : CoverRow) → Has r rows → Bounds dp k r
rows-bound dp laws k i next [] low claims e r h = absurd h
rows-bound dp laws k i next (row ∷ rows) low claims e r (inl same) =
    subst (Bounds dp k) same (row-bounds dp laws k i next row low claims (first-none (row_fault dp k i next row) (rows_fault dp k next (i + 1) rows) e).0)
rows-bound dp laws k i next (row ∷ rows) low claims e r (inr later) =
    rows-bound dp laws k (i + 1) next rows low claims (first-none (row_fault dp k i next row) (rows_fault dp k next (i + 1) rows) e).1 r later

pub layers-bound : (dp : Dp) → IsLawful dp → (k : ℕ) (layers : List (List CoverRow)) → k + length layers ≡ dp.vars + 1 → layers_fault dp k layers ≡ None → (r : CoverRow) → Has r (first_layer layers) → Bounds dp k r
layers-bound dp laws k [] long e r h = absurd h
layers-bound dp laws k (layer ∷ more) long e r h =
    let parts = first-none (rows_fault dp k (first_layer more) 0 layer) (layers_fault dp (k + 1) more) e in
    rows-bound dp laws k 0 (first_layer more) layer (omega arith) (layers-bound dp laws (k + 1) more (omega arith) parts.1) parts.0 r h

-- ---- the root

root-bounds : (dp : Dp) → IsLawful dp → (claim : Option ℤ) (row : CoverRow) (o : Option ℤ) → IsStateOf dp 0 row.words → dp.gap 0 row.words dp.root ≡ o → IsTrue (covers_root o dp.root_value row.bound claim) → Bounds dp 0 row → (x : List ℕ) → IsSolution dp x → AtMost (value_of dp x) claim
root-bounds dp laws claim row None of-row is test bounds x h = absurd (let clash : false ≡ true = test in cc)
root-bounds dp laws claim row (Some g) of-row is test bounds x h =
    let path : IsContinuation dp 0 dp.root x = record { path = h.prefix; whole = (let whole = h.whole in omega arith) } in
    let of-root : IsStateOf dp 0 dp.root = record { layer = omega arith; test = laws.states.root } in
    let m : Matches dp 0 row.words g (gain_of dp 0 dp.root x) = laws.gaps.sound 0 row.words dp.root g of-row of-root is x path in
    let most = at-most-over ((dp.root_value +ℤ g) +ℤ gain_of dp 0 row.words m.by) (add_some (dp.root_value +ℤ g) row.bound) claim (add-at-most (dp.root_value +ℤ g) (gain_of dp 0 row.words m.by) row.bound (bounds m.by m.continuation)) test in
    let enough = m.enough in
    at-most-below (value_of dp x) ((dp.root_value +ℤ g) +ℤ gain_of dp 0 row.words m.by) claim (omega (arith, ints)) most

one-root : (dp : Dp) → IsLawful dp → (claim : Option ℤ) (rows : List CoverRow) → IsTrue (has_root dp claim rows) → ((r : CoverRow) → Has r rows → Bounds dp 0 r) → (x : List ℕ) → IsSolution dp x → AtMost (value_of dp x) claim
one-root dp laws claim [] t bounds x h = absurd (let clash : false ≡ true = t in cc)
one-root dp laws claim (row ∷ rows) t bounds x h =
    let here = is_state_row dp 0 row.words && covers_root (dp.gap 0 row.words dp.root) dp.root_value row.bound claim in
    elim here as (λ b. here ≡ b → IsTrue (b || has_root dp claim rows) → AtMost (value_of dp x) claim) [
      | true ↦ λ e _. (
          let parts = and_parts (is_state_row dp 0 row.words) (covers_root (dp.gap 0 row.words dp.root) dp.root_value row.bound claim) e in
          root-bounds dp laws claim row (dp.gap 0 row.words dp.root) (state-of-row dp 0 row.words (omega arith) parts.0) refl parts.1 (bounds row (inl refl)) x h)
      | false ↦ λ _ more. one-root dp laws claim rows more (λ r k. bounds r (inr k)) x h
    ] refl t

-- no feasible solution exceeds the claim of a cover from Root on
cover-bounds : (dp : Dp) → IsLawful dp → (claim : Option ℤ) (layers : List (List CoverRow)) → IsTrue (nat_eq (length layers) (dp.vars + 1)) → cover_fault dp claim layers ≡ None → (x : List ℕ) → IsSolution dp x → AtMost (value_of dp x) claim
cover-bounds dp laws claim layers long e x h =
    let parts = first-none (unless (has_root dp claim (first_layer layers)) Root) (layers_fault dp 0 layers) e in
    let count : 0 + length layers ≡ dp.vars + 1 = grind arith in
    one-root dp laws claim (first_layer layers) (unless-none (has_root dp claim (first_layer layers)) Root parts.0) (layers-bound dp laws 0 layers count parts.1) x h

-- what check_rows passes bounds every feasible solution by its claim
pub checked-rows-bound : (dp : Dp) → IsLawful dp → (claim : Option ℤ) (layers : List (List CoverRow)) → checked_rows dp claim layers ≡ None → (x : List ℕ) → IsSolution dp x → AtMost (value_of dp x) claim
checked-rows-bound dp laws claim layers e x h =
    let parts = cond-none (nat_eq (length layers) (dp.vars + 1)) (cover_fault dp claim layers) Layers e in
    cover-bounds dp laws claim layers parts.0 parts.1 x h

-- ---- the assignment

-- where decisions have a worth they lead to the last layer, and it is their gain
pub record IsPathWorth (dp : Dp) (k : ℕ) (s : List ℤ) (x : List ℕ) (v : ℤ) : Type 0 where
  pub path : IsPath dp k s x
  pub whole : k + length x ≡ dp.vars
  pub gain : v ≡ gain_of dp k s x

after-first : (z : ℤ) (o : Option ℤ) (v : ℤ) → add_some z o ≡ Some v → (w : ℤ) × (o ≡ Some w) × (v ≡ z +ℤ w)
after-first z None v e = absurd (let clash : None ≡ Some v = e in cc)
after-first z (Some w) v e = (w, refl, (let same : Some (z +ℤ w) ≡ Some v = e in cc))

path-worth : (dp : Dp) (k : ℕ) (s : List ℤ) (x : List ℕ) (v : ℤ) → worth_from dp k s x ≡ Some v → IsPathWorth dp k s x v
path-worth dp k s [] v e =
    elim (nat_eq k dp.vars) as (λ b. nat_eq k dp.vars ≡ b → cond b (Some (pos 0)) None ≡ Some v → IsPathWorth dp k s [] v) [
      | true ↦ λ t f. record { path = tt; whole = grind arith; gain = (let same : Some (pos 0) ≡ Some v = f in cc) }
      | false ↦ λ t f. absurd (let clash : None ≡ Some v = f in cc)
    ] refl e
path-worth dp k s (d ∷ x) v e =
    let may = nat_lt k dp.vars && (nat_lt d (dp.choices k) && dp.allowed k s d) in
    elim may as (λ b. may ≡ b → cond b (add_some (dp.gain k s d) (worth_from dp (k + 1) (dp.step k s d) x)) None ≡ Some v → IsPathWorth dp k s (d ∷ x) v) [
      | true ↦ λ t f. (
          let parts = and_parts (nat_lt k dp.vars) (nat_lt d (dp.choices k) && dp.allowed k s d) t in
          let inner = and_parts (nat_lt d (dp.choices k)) (dp.allowed k s d) parts.1 in
          let short : nat_lt k dp.vars ≡ true = parts.0 in
          let few : nat_lt d (dp.choices k) ≡ true = inner.0 in
          let rest = after-first (dp.gain k s d) (worth_from dp (k + 1) (dp.step k s d) x) v f in
          let more = path-worth dp (k + 1) (dp.step k s d) x rest.0 rest.1 in
          let whole = more.whole in let gain = more.gain in let sum = rest.2 in
          record { path = (record { layer = grind arith; choice = grind arith; test = inner.1 }, more.path); whole = omega arith; gain = omega (arith, ints) })
      | false ↦ λ t f. absurd (let clash : None ≡ Some v = f in cc)
    ] refl e

pub worth-is : (dp : Dp) (x : List ℕ) (v : ℤ) → worth dp x ≡ Some v → IsSolutionWith dp x v
worth-is dp x v e =
    let rest = after-first dp.root_value (worth_from dp 0 dp.root x) v e in
    let is = path-worth dp 0 dp.root x rest.0 rest.1 in
    let whole = is.whole in let gain = is.gain in let sum = rest.2 in
    record { solution = record { prefix = is.path; whole = omega arith }; value = omega (arith, ints) }

value-of-fault : (dp : Dp) (x : List ℕ) (o : Option ℤ) (v : ℤ) → worth dp x ≡ o → value_fault o v ≡ None → IsSolutionWith dp x v
value-of-fault dp x None v is e = absurd (let clash : Some Assignment ≡ None = e in cc)
value-of-fault dp x (Some z) v is e =
    let test = unless-none (int_le z v && int_le v z) Value e in
    let parts = and_parts (int_le z v) (int_le v z) test in
    let same : z ≡ v = omega (arith, ints, int_le-is z v parts.0, int_le-is v z parts.1) in
    worth-is dp x v (is ∙ ap Some same)

-- ---- accepted

pub checked-parts : (dp : Dp) (o : Option ℤ) (within : ℤ) (x : List ℕ) (layers : List (List CoverRow)) → checked dp o within x layers ≡ None → (solution_fault dp o x ≡ None) × (checked_rows dp (claim_of o within) layers ≡ None)
checked-parts dp o within x layers e =
    let parts = cond-none (nat_eq (length layers) (dp.vars + 1)) (first_of (solution_fault dp o x) (cover_fault dp (claim_of o within) layers)) Layers e in
    let both = first-none (solution_fault dp o x) (cover_fault dp (claim_of o within) layers) parts.1 in
    (both.0, ap (λ b. cond b (cover_fault dp (claim_of o within) layers) (Some Layers)) parts.0 ∙ both.1)

-- a reported value that passes is that of a feasible solution
pub reported-far : (dp : Dp) → IsLawful dp → (o : Option ℤ) (x : List ℕ) → solution_fault dp o x ≡ None → IsWritable o
reported-far dp laws None x e = tt
reported-far dp laws (Some v) x e =
    let w = value-of-fault dp x (worth dp x) v refl e in
    subst IsFar (sym w.value) (value_of-far dp laws x w.solution.prefix)

proved-by : (dp : Dp) (x : List ℕ) (o : Option ℤ) (within : ℤ) → solution_fault dp o x ≡ None → ((y : List ℕ) → IsSolution dp y → AtMost (value_of dp y) (claim_of o within)) → (b : Option ℤ) → IsBest dp b → LiesWithin b o within × Shows dp x o
proved-by dp x None within e most None is = (refl, tt)
proved-by dp x None within e most (Some b) is = absurd (most is.by is.solution)
proved-by dp x (Some v) within e most None is = absurd (is x (value-of-fault dp x (worth dp x) v refl e).solution)
proved-by dp x (Some v) within e most (Some b) is =
    let w = value-of-fault dp x (worth dp x) v refl e in
    let least : value_of dp x ≤ℤ b = is.most x w.solution in
    let greatest : value_of dp is.by ≤ℤ (v +ℤ within) = most is.by is.solution in
    let same = w.value in let at = is.value in
    ((omega (arith, ints), omega (arith, ints)), w)

-- accepted: the best value lies within the distance
pub accepted-is-near : (dp : Dp) → IsLawful dp → (o : Option ℤ) (within : ℤ) (x : List ℕ) (layers : List (List CoverRow)) → checked dp o within x layers ≡ None → IsReportedWithin dp x o within
accepted-is-near dp laws o within x layers e =
    let parts = checked-parts dp o within x layers e in
    let is = proved-by dp x o within parts.0 (checked-rows-bound dp laws (claim_of o within) layers parts.1) (best dp) (best-is_best dp) in
    record { near = is.0; shown = is.1 }

near-exact : (b o : Option ℤ) (within : ℤ) → within ≡ pos 0 → LiesWithin b o within → o ≡ b
near-exact b None within zero near = sym near
near-exact None (Some v) within zero near = absurd near
near-exact (Some b) (Some v) within zero near =
    let least = near.0 in let most = near.1 in
    let same : v ≡ b = omega (arith, ints) in ap Some same

-- without a distance it is the reported one
pub accepted-is-best : (dp : Dp) → IsLawful dp → (o : Option ℤ) (within : ℤ) (x : List ℕ) (layers : List (List CoverRow)) → checked dp o within x layers ≡ None → within ≡ pos 0 → IsReportedBest dp x o
accepted-is-best dp laws o within x layers e zero =
    let is = accepted-is-near dp laws o within x layers e in
    record { best = near-exact (best dp) o within zero is.near; shown = is.shown }

-- the verdict is Accepted only where there is no failure
pub accepted-none : (o : Option Why) → verdict_of o ≡ Accepted → o ≡ None
accepted-none None e = refl
accepted-none (Some why) e = absurd (let clash : Refused why ≡ Accepted = e in cc)

-- the two parts of a check
pub checked-by : (dp : Dp) (o : Option ℤ) (within : ℤ) (x : List ℕ) (layers : List (List CoverRow)) → solution_fault dp o x ≡ None → checked_rows dp (claim_of o within) layers ≡ None → checked dp o within x layers ≡ None
checked-by dp o within x layers e f =
    let parts = cond-none (nat_eq (length layers) (dp.vars + 1)) (cover_fault dp (claim_of o within) layers) Layers f in
    ap (λ b. cond b (first_of (solution_fault dp o x) (cover_fault dp (claim_of o within) layers)) (Some Layers)) parts.0 ∙ (ap (λ a. first_of a (cover_fault dp (claim_of o within) layers)) e ∙ parts.1)
