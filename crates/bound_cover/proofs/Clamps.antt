-- A cover that passes goes on passing when its bounds are brought into range.
use Rattle.std.proofs.Common.{◌≡◌, ℕ, suc, ◌+◌, ◌*◌, ◌^◌, ◌<◌, ◌≤◌, nat_eq, nat_lt, ℤ, pos, neg_ℤ, ◌+ℤ◌, ◌≤ℤ◌, int_le, Bool, true, false, cond, ◌&&◌, ◌||◌, List, [], ◌∷◌, length, map, slice_get, Option, Some, None, option_map, IsTrue, refl, sym, ◌∙◌, ap, subst, arith}
use Rattle.std.proofs.lemmas.Int.{ints}
use Rattle.std.proofs.lemmas.Bool.{and_parts}
use Rattle.std.proofs.lemmas.Option.{slice_get-map}
use Rattle.dp_model.specs.Dp.{Dp, IsAllowed}
use Rattle.dp_model.specs.Gaps.{IsStateOf}
use Rattle.dp_model.specs.Laws.{IsLawful}
use Rattle.dp_model.specs.NumberLaws.{int_le-is, int_le-from}
use Rattle.dp_model.specs.Numbers.{add_some, IsFar, IsSmall}
use Rattle.dp_model.proofs.Members.{each-of-all, Each-map}
use Rattle.bound_cover.specs.declared.cover.CoverArc.{CoverArc}
use Rattle.bound_cover.specs.declared.cover.Why.TheVariants.{Row, Arc, Target, Terminal, Rough, Root, Layers}
use Rattle.bound_cover.specs.Covers.{CoverRow}
use Rattle.bound_cover.specs.Tests.{is_at_most, unless, is_state_row, arc_for, tested, gap_fault, row_arc_fault, arc_fault, listed_fault, decision_fault, decisions_fault, inner_fault, last_fault, row_fault}
use Rattle.bound_cover.specs.Verdicts.{first_layer, rows_fault, layers_fault, covers_root, has_root, cover_fault, checked_rows}
use Rattle.bound_cover.specs.Clamping.{lowest, highest, clamped, clamped_row, clamped_layers, IsWritable, AreWritable, IsReachable}
use Rattle.bound_cover.proofs.Faults.{first-none, first-both, unless-none, unless-holds, cond-none, cond-holds, state-of-row}

-- ---- numbers

-- what the clamped number is
pub data Clamp (low high z : ℤ) : ℤ → Type 0 where
  at_low : z ≤ℤ low → Clamp low high z low
  at_high : high ≤ℤ z → Clamp low high z high
  as_is : low ≤ℤ z → z ≤ℤ high → Clamp low high z z

clamp-is : (low high z : ℤ) → Clamp low high z (clamped low high z)
clamp-is low high z =
    elim (int_le z low) as (λ b. int_le z low ≡ b → Clamp low high z (cond b low (cond (int_le high z) high z))) [
      | true ↦ λ e. at_low (int_le-is z low e)
      | false ↦ λ e. elim (int_le high z) as (λ b. int_le high z ≡ b → Clamp low high z (cond b high z)) [
        | true ↦ λ f. at_high (int_le-is high z f)
        | false ↦ λ f. as_is (grind (arith, ints)) (grind (arith, ints))
      ] refl
    ] refl

-- what a step adds is at most the distance of two layers' ranges
step-of : (low low' high high' s z b t x y : ℤ) → Clamp low' high' z x → Clamp low high b y → (t +ℤ z) ≤ℤ b → t ≤ℤ s → (low' +ℤ s) ≤ℤ low → (high' +ℤ s) ≤ℤ high → low' ≤ℤ high' → low ≤ℤ high → (t +ℤ x) ≤ℤ y
step-of low low' high high' s z b t _ _ (at_low p) (at_low q) h few lows highs range' range = omega (arith, ints)
step-of low low' high high' s z b t _ _ (at_low p) (at_high q) h few lows highs range' range = omega (arith, ints)
step-of low low' high high' s z b t _ _ (at_low p) (as_is q r) h few lows highs range' range = omega (arith, ints)
step-of low low' high high' s z b t _ _ (at_high p) (at_low q) h few lows highs range' range = omega (arith, ints)
step-of low low' high high' s z b t _ _ (at_high p) (at_high q) h few lows highs range' range = omega (arith, ints)
step-of low low' high high' s z b t _ _ (at_high p) (as_is q r) h few lows highs range' range = omega (arith, ints)
step-of low low' high high' s z b t _ _ (as_is p o) (at_low q) h few lows highs range' range = omega (arith, ints)
step-of low low' high high' s z b t _ _ (as_is p o) (at_high q) h few lows highs range' range = omega (arith, ints)
step-of low low' high high' s z b t _ _ (as_is p o) (as_is q r) h few lows highs range' range = omega (arith, ints)

-- a number that is at most the bound and the greatest of the range is at most the clamped bound
under-of : (low high b r y : ℤ) → Clamp low high b y → r ≤ℤ b → r ≤ℤ high → r ≤ℤ y
under-of low high b r _ (at_low p) h few = omega (arith, ints)
under-of low high b r _ (at_high p) h few = few
under-of low high b r _ (as_is p q) h few = h

-- the ranges of two layers
record AreRanges (low low' high high' s : ℤ) : Type 0 where
  pub lows : (low' +ℤ s) ≤ℤ low
  pub highs : (high' +ℤ s) ≤ℤ high
  pub range' : low' ≤ℤ high'
  pub range : low ≤ℤ high

step-option : (low low' high high' s t : ℤ) → AreRanges low low' high high' s → t ≤ℤ s → (next bound : Option ℤ) → IsTrue (is_at_most (add_some t next) bound) → IsTrue (is_at_most (add_some t (option_map (clamped low' high') next)) (option_map (clamped low high) bound))
step-option low low' high high' s t ranges few None bound h = refl
step-option low low' high high' s t ranges few (Some z) None h = absurd (let clash : false ≡ true = h in cc)
step-option low low' high high' s t ranges few (Some z) (Some b) h =
    int_le-from (t +ℤ clamped low' high' z) (clamped low high b)
    (step-of low low' high high' s z b t (clamped low' high' z) (clamped low high b) (clamp-is low' high' z) (clamp-is low high b) (int_le-is (t +ℤ z) b h) few ranges.lows ranges.highs ranges.range' ranges.range)

under-option : (low high : ℤ) (r bound : Option ℤ) → ((z : ℤ) → r ≡ Some z → z ≤ℤ high) → IsTrue (is_at_most r bound) → IsTrue (is_at_most r (option_map (clamped low high) bound))
under-option low high None bound few h = refl
under-option low high (Some z) None few h = absurd (let clash : false ≡ true = h in cc)
under-option low high (Some z) (Some b) few h = int_le-from z (clamped low high b) (under-of low high b z (clamped low high b) (clamp-is low high b) (int_le-is z b h) (few z refl))

ranges-at : (dp : Dp) (k : ℕ) → k < dp.vars → AreRanges (lowest k) (lowest (k + 1)) (highest dp k) (highest dp (k + 1)) (pos (2 * 2 ^ 50))
ranges-at dp k short = record { lows = omega (arith, ints); highs = omega (arith, ints); range' = omega (arith, ints); range = omega (arith, ints) }

-- ---- rows

gap-clamped : (dp : Dp) → IsLawful dp → (k i d : ℕ) → k < dp.vars → (bound next : Option ℤ) (gain : ℤ) (a s : List ℤ) → IsSmall gain → IsStateOf dp (k + 1) a → IsStateOf dp (k + 1) s → (o : Option ℤ) → dp.gap (k + 1) a s ≡ o
    → gap_fault k i d bound gain o next ≡ None → gap_fault k i d (option_map (clamped (lowest k) (highest dp k)) bound) gain o (option_map (clamped (lowest (k + 1)) (highest dp (k + 1))) next) ≡ None
gap-clamped dp laws k i d short bound next gain a s small of-a of-s None is e = absurd (let clash : Some (Target k i d) ≡ None = e in cc)
gap-clamped dp laws k i d short bound next gain a s small of-a of-s (Some g) is e =
    let sizes = laws.sizes.gap (k + 1) a s g of-a of-s is in
    let gap-high = sizes.1.high in let gain-high = small.high in
    let test = unless-none (is_at_most (add_some (gain +ℤ g) next) bound) (Arc k i d) e in
    unless-holds (is_at_most (add_some (gain +ℤ g) (option_map (clamped (lowest (k + 1)) (highest dp (k + 1))) next)) (option_map (clamped (lowest k) (highest dp k)) bound)) (Arc k i d)
    (step-option (lowest k) (lowest (k + 1)) (highest dp k) (highest dp (k + 1)) (pos (2 * 2 ^ 50)) (gain +ℤ g) (ranges-at dp k short) (omega (arith, ints)) next bound test)

row-arc-clamped : (dp : Dp) → IsLawful dp → (k i d : ℕ) → k < dp.vars → (row : CoverRow) → IsStateOf dp k row.words → IsAllowed dp k row.words d → (o : Option CoverRow) → row_arc_fault dp k i row d o ≡ None → row_arc_fault dp k i (clamped_row dp k row) d (option_map (clamped_row dp (k + 1)) o) ≡ None
row-arc-clamped dp laws k i d short row state allowed None e = absurd (let clash : Some (Target k i d) ≡ None = e in cc)
row-arc-clamped dp laws k i d short row state allowed (Some r) e =
    let s = dp.step k row.words d in
    let parts = cond-none (is_state_row dp (k + 1) r.words) (gap_fault k i d row.bound (dp.gain k row.words d) (dp.gap (k + 1) r.words s) r.bound) (Target k i d) e in
    let of-step : IsStateOf dp (k + 1) s = record { layer = omega arith; test = laws.states.step k row.words d state allowed } in
    cond-holds (is_state_row dp (k + 1) r.words) (gap_fault k i d (clamped_row dp k row).bound (dp.gain k row.words d) (dp.gap (k + 1) r.words s) (clamped_row dp (k + 1) r).bound) (Some (Target k i d)) parts.0
    (gap-clamped dp laws k i d short row.bound r.bound (dp.gain k row.words d) r.words s (laws.sizes.gain k row.words d state allowed) (state-of-row dp (k + 1) r.words (omega arith) parts.0) of-step (dp.gap (k + 1) r.words s) refl parts.1)

-- what an arc by the rough bound adds up to is in the range
sum-bounded : (dp : Dp) (k : ℕ) → k < dp.vars → (gain : ℤ) (rough : Option ℤ) (z : ℤ) → gain ≤ℤ pos (2 ^ 50) → ((r : ℤ) → rough ≡ Some r → r ≤ℤ pos (2 ^ 50)) → add_some gain rough ≡ Some z → z ≤ℤ highest dp k
sum-bounded dp k short gain None z small few is = absurd (let clash : None ≡ Some z = is in cc)
sum-bounded dp k short gain (Some r) z small few is = let low = few r refl in let same : gain +ℤ r ≡ z = (let j : Some (gain +ℤ r) ≡ Some z = is in cc) in omega (arith, ints)

arc-clamped : (dp : Dp) → IsLawful dp → (k i d : ℕ) → k < dp.vars → (row : CoverRow) (next : List CoverRow) → IsStateOf dp k row.words → IsAllowed dp k row.words d → (o : Option ℕ) → arc_fault dp k i next row d o ≡ None → arc_fault dp k i (map (clamped_row dp (k + 1)) next) (clamped_row dp k row) d o ≡ None
arc-clamped dp laws k i d short row next state allowed None e =
    let s = dp.step k row.words d in
    let of-step : IsStateOf dp (k + 1) s = record { layer = omega arith; test = laws.states.step k row.words d state allowed } in
    let gain = dp.gain k row.words d in
    let small = (laws.sizes.gain k row.words d state allowed).high in
    let bounded : (z : ℤ) → add_some gain (dp.rough (k + 1) s) ≡ Some z → z ≤ℤ highest dp k = λ z is. sum-bounded dp k short gain (dp.rough (k + 1) s) z small (λ r e'. (laws.sizes.rough (k + 1) s r of-step e').high) is in
    unless-holds (is_at_most (add_some gain (dp.rough (k + 1) s)) (clamped_row dp k row).bound) (Arc k i d)
    (under-option (lowest k) (highest dp k) (add_some gain (dp.rough (k + 1) s)) row.bound bounded (unless-none (is_at_most (add_some gain (dp.rough (k + 1) s)) row.bound) (Arc k i d) e))
arc-clamped dp laws k i d short row next state allowed (Some place) e =
    subst (λ o. row_arc_fault dp k i (clamped_row dp k row) d o ≡ None) (sym (slice_get-map (clamped_row dp (k + 1)) next place)) (row-arc-clamped dp laws k i d short row state allowed (slice_get next place) e)

listed-clamped : (dp : Dp) → IsLawful dp → (k i d : ℕ) → k < dp.vars → (row : CoverRow) (next : List CoverRow) → IsStateOf dp k row.words → IsAllowed dp k row.words d → (o : Option CoverArc) → listed_fault dp k i next row d o ≡ None → listed_fault dp k i (map (clamped_row dp (k + 1)) next) (clamped_row dp k row) d o ≡ None
listed-clamped dp laws k i d short row next state allowed None e = e
listed-clamped dp laws k i d short row next state allowed (Some arc) e = arc-clamped dp laws k i d short row next state allowed arc.target e

decision-clamped : (dp : Dp) → IsLawful dp → (k i : ℕ) → k < dp.vars → (row : CoverRow) (next : List CoverRow) → IsStateOf dp k row.words → (arcs : List CoverArc) (d : ℕ) → decision_fault dp k i next row arcs d ≡ None → decision_fault dp k i (map (clamped_row dp (k + 1)) next) (clamped_row dp k row) arcs d ≡ None
decision-clamped dp laws k i short row next state arcs d e =
    let may = nat_lt d (dp.choices k) && dp.allowed k row.words d in
    let parts = cond-none may (listed_fault dp k i next row d (arc_for d arcs)) (Target k i d) e in
    let both = and_parts (nat_lt d (dp.choices k)) (dp.allowed k row.words d) parts.0 in
    let few : nat_lt d (dp.choices k) ≡ true = both.0 in
    let allowed : IsAllowed dp k row.words d = record { layer = short; choice = grind arith; test = both.1 } in
    cond-holds may (listed_fault dp k i (map (clamped_row dp (k + 1)) next) (clamped_row dp k row) d (arc_for d arcs)) (Some (Target k i d)) parts.0 (listed-clamped dp laws k i d short row next state allowed (arc_for d arcs) parts.1)

decisions-clamped : (dp : Dp) → IsLawful dp → (k i : ℕ) → k < dp.vars → (row : CoverRow) (next : List CoverRow) → IsStateOf dp k row.words → (arcs : List CoverArc) (ds : List ℕ) → decisions_fault dp k i next row arcs ds ≡ None → decisions_fault dp k i (map (clamped_row dp (k + 1)) next) (clamped_row dp k row) arcs ds ≡ None
decisions-clamped dp laws k i short row next state arcs [] e = refl
decisions-clamped dp laws k i short row next state arcs (d ∷ ds) e =
    let parts = first-none (decision_fault dp k i next row arcs d) (decisions_fault dp k i next row arcs ds) e in
    first-both (decision_fault dp k i (map (clamped_row dp (k + 1)) next) (clamped_row dp k row) arcs d) (decisions_fault dp k i (map (clamped_row dp (k + 1)) next) (clamped_row dp k row) arcs ds)
    (decision-clamped dp laws k i short row next state arcs d parts.0) (decisions-clamped dp laws k i short row next state arcs ds parts.1)

inner-clamped : (dp : Dp) → IsLawful dp → (k i : ℕ) → k < dp.vars → (row : CoverRow) (next : List CoverRow) → IsStateOf dp k row.words → (o : Option (List CoverArc)) → inner_fault dp k i next row o ≡ None → inner_fault dp k i (map (clamped_row dp (k + 1)) next) (clamped_row dp k row) o ≡ None
inner-clamped dp laws k i short row next state None e =
    unless-holds (is_at_most (dp.rough k row.words) (clamped_row dp k row).bound) (Rough k i)
    (under-option (lowest k) (highest dp k) (dp.rough k row.words) row.bound (λ z is. (let high = (laws.sizes.rough k row.words z state is).high in omega (arith, ints))) (unless-none (is_at_most (dp.rough k row.words) row.bound) (Rough k i) e))
inner-clamped dp laws k i short row next state (Some arcs) e = decisions-clamped dp laws k i short row next state arcs (tested dp k row.words arcs) e

last-clamped : (dp : Dp) (k i : ℕ) (row : CoverRow) (o : Option (List CoverArc)) → last_fault i row o ≡ None → last_fault i (clamped_row dp k row) o ≡ None
last-clamped dp k i row None e =
    unless-holds (is_at_most (Some (pos 0)) (clamped_row dp k row).bound) (Terminal i)
    (under-option (lowest k) (highest dp k) (Some (pos 0)) row.bound (λ z is. (let same : pos 0 ≡ z = (let j : Some (pos 0) ≡ Some z = is in cc) in omega (arith, ints))) (unless-none (is_at_most (Some (pos 0)) row.bound) (Terminal i) e))
last-clamped dp k i row (Some arcs) e = e

row-clamped : (dp : Dp) → IsLawful dp → (k i : ℕ) (next : List CoverRow) (row : CoverRow) → k ≤ dp.vars → row_fault dp k i next row ≡ None → row_fault dp k i (map (clamped_row dp (k + 1)) next) (clamped_row dp k row) ≡ None
row-clamped dp laws k i next row low e =
    let parts = cond-none (is_state_row dp k row.words) (cond (nat_lt k dp.vars) (inner_fault dp k i next row row.arcs) (last_fault i row row.arcs)) (Row k i) e in
    let more = map (clamped_row dp (k + 1)) next in
    let new = clamped_row dp k row in
    cond-holds (is_state_row dp k row.words) (cond (nat_lt k dp.vars) (inner_fault dp k i more new row.arcs) (last_fault i new row.arcs)) (Some (Row k i)) parts.0
    (elim (nat_lt k dp.vars) as (λ b. nat_lt k dp.vars ≡ b → cond b (inner_fault dp k i next row row.arcs) (last_fault i row row.arcs) ≡ None → cond b (inner_fault dp k i more new row.arcs) (last_fault i new row.arcs) ≡ None) [
      | true ↦ λ t f. inner-clamped dp laws k i (grind arith) row next (state-of-row dp k row.words low parts.0) row.arcs f
      | false ↦ λ t f. last-clamped dp k i row row.arcs f
    ] refl parts.1)

rows-clamped : (dp : Dp) → IsLawful dp → (k i : ℕ) (next rows : List CoverRow) → k ≤ dp.vars → rows_fault dp k next i rows ≡ None → rows_fault dp k (map (clamped_row dp (k + 1)) next) i (map (clamped_row dp k) rows) ≡ None
rows-clamped dp laws k i next [] low e = refl
rows-clamped dp laws k i next (row ∷ rows) low e =
    let parts = first-none (row_fault dp k i next row) (rows_fault dp k next (i + 1) rows) e in
    first-both (row_fault dp k i (map (clamped_row dp (k + 1)) next) (clamped_row dp k row)) (rows_fault dp k (map (clamped_row dp (k + 1)) next) (i + 1) (map (clamped_row dp k) rows))
    (row-clamped dp laws k i next row low parts.0) (rows-clamped dp laws k (i + 1) next rows low parts.1)

first-clamped : (dp : Dp) (k : ℕ) (layers : List (List CoverRow)) → first_layer (clamped_layers dp k layers) ≡ map (clamped_row dp k) (first_layer layers)
first-clamped dp k [] = refl
first-clamped dp k (layer ∷ more) = refl

layers-clamped : (dp : Dp) → IsLawful dp → (k : ℕ) (layers : List (List CoverRow)) → k + length layers ≡ dp.vars + 1 → layers_fault dp k layers ≡ None → layers_fault dp k (clamped_layers dp k layers) ≡ None
layers-clamped dp laws k [] long e = refl
layers-clamped dp laws k (layer ∷ more) long e =
    let parts = first-none (rows_fault dp k (first_layer more) 0 layer) (layers_fault dp (k + 1) more) e in
    first-both (rows_fault dp k (first_layer (clamped_layers dp (k + 1) more)) 0 (map (clamped_row dp k) layer)) (layers_fault dp (k + 1) (clamped_layers dp (k + 1) more))
    (subst (λ l. rows_fault dp k l 0 (map (clamped_row dp k) layer) ≡ None) (sym (first-clamped dp (k + 1) more)) (rows-clamped dp laws k 0 (first_layer more) layer (omega arith) parts.0))
    (layers-clamped dp laws (k + 1) more (omega arith) parts.1)

-- ---- the root

root-of : (low high b c t y : ℤ) → Clamp low high b y → (t +ℤ b) ≤ℤ c → (t +ℤ low) ≤ℤ c → (t +ℤ y) ≤ℤ c
root-of low high b c t _ (at_low p) h few = few
root-of low high b c t _ (at_high p) h few = omega (arith, ints)
root-of low high b c t _ (as_is p q) h few = h

root-clamped : (dp : Dp) (claim bound : Option ℤ) (o : Option ℤ) → IsReachable claim → IsSmall dp.root_value → ((g : ℤ) → o ≡ Some g → IsSmall g) → IsTrue (covers_root o dp.root_value bound claim) → IsTrue (covers_root o dp.root_value (option_map (clamped (lowest 0) (highest dp 0)) bound) claim)
root-clamped dp claim bound None reach small gaps h = h
root-clamped dp claim None (Some g) reach small gaps h = refl
root-clamped dp None (Some b) (Some g) reach small gaps h = absurd (let clash : false ≡ true = h in cc)
root-clamped dp (Some c) (Some b) (Some g) reach small gaps h =
    let gap-high = (gaps g refl).high in let value-high = small.high in
    let far : neg_ℤ (pos (1025 * 2 ^ 50)) ≤ℤ c = reach in
    int_le-from ((dp.root_value +ℤ g) +ℤ clamped (lowest 0) (highest dp 0) b) c
    (root-of (lowest 0) (highest dp 0) b c (dp.root_value +ℤ g) (clamped (lowest 0) (highest dp 0) b) (clamp-is (lowest 0) (highest dp 0) b) (int_le-is ((dp.root_value +ℤ g) +ℤ b) c h) (omega (arith, ints)))

has-root-clamped : (dp : Dp) → IsLawful dp → (claim : Option ℤ) → IsReachable claim → (rows : List CoverRow) → IsTrue (has_root dp claim rows) → IsTrue (has_root dp claim (map (clamped_row dp 0) rows))
has-root-clamped dp laws claim reach [] h = h
has-root-clamped dp laws claim reach (row ∷ rows) h =
    let state = is_state_row dp 0 row.words in
    let test : Option ℤ → Bool = λ b. state && covers_root (dp.gap 0 row.words dp.root) dp.root_value b claim in
    elim (test row.bound) as (λ b. test row.bound ≡ b → IsTrue (b || has_root dp claim rows) → IsTrue (test (clamped_row dp 0 row).bound || has_root dp claim (map (clamped_row dp 0) rows))) [
      | true ↦ λ e _. (
          let parts = and_parts state (covers_root (dp.gap 0 row.words dp.root) dp.root_value row.bound claim) e in
          let of-row = state-of-row dp 0 row.words (omega arith) parts.0 in
          let of-root : IsStateOf dp 0 dp.root = record { layer = omega arith; test = laws.states.root } in
          let new : covers_root (dp.gap 0 row.words dp.root) dp.root_value (clamped_row dp 0 row).bound claim ≡ true =
          root-clamped dp claim row.bound (dp.gap 0 row.words dp.root) reach laws.sizes.root_value (λ g is. (laws.sizes.gap 0 row.words dp.root g of-row of-root is).1) parts.1 in
          let is : state ≡ true = parts.0 in
          rw (is, new) refl)
      | false ↦ λ _ more. (
          let later : IsTrue (has_root dp claim (map (clamped_row dp 0) rows)) = has-root-clamped dp laws claim reach rows more in
          elim (test (clamped_row dp 0 row).bound) as (λ b. IsTrue (b || has_root dp claim (map (clamped_row dp 0) rows))) [ true ↦ refl | false ↦ later ])
    ] refl h

length-clamped : (dp : Dp) (k : ℕ) (layers : List (List CoverRow)) → length (clamped_layers dp k layers) ≡ length layers
length-clamped dp k [] = refl
length-clamped dp k (layer ∷ more) = ap suc (length-clamped dp (k + 1) more)

pub clamped-passes : (dp : Dp) → IsLawful dp → (claim : Option ℤ) → IsReachable claim → (layers : List (List CoverRow)) → checked_rows dp claim layers ≡ None → checked_rows dp claim (clamped_layers dp 0 layers) ≡ None
clamped-passes dp laws claim reach layers e =
    let parts = cond-none (nat_eq (length layers) (dp.vars + 1)) (cover_fault dp claim layers) Layers e in
    let both = first-none (unless (has_root dp claim (first_layer layers)) Root) (layers_fault dp 0 layers) parts.1 in
    let new = clamped_layers dp 0 layers in
    let root = has-root-clamped dp laws claim reach (first_layer layers) (unless-none (has_root dp claim (first_layer layers)) Root both.0) in
    let test : nat_eq (length layers) (dp.vars + 1) ≡ true = parts.0 in
    let count : 0 + length layers ≡ dp.vars + 1 = grind arith in
    cond-holds (nat_eq (length new) (dp.vars + 1)) (cover_fault dp claim new) (Some Layers) (ap (λ n. nat_eq n (dp.vars + 1)) (length-clamped dp 0 layers) ∙ test)
    (first-both (unless (has_root dp claim (first_layer new)) Root) (layers_fault dp 0 new)
    (unless-holds (has_root dp claim (first_layer new)) Root (subst (λ l. IsTrue (has_root dp claim l)) (sym (first-clamped dp 0 layers)) root))
    (layers-clamped dp laws 0 layers count both.1))

-- ---- the range

far-of : (low high z y : ℤ) → Clamp low high z y → neg_ℤ (pos (2 ^ 62)) ≤ℤ low → high ≤ℤ pos (2 ^ 62) → low ≤ℤ high → IsFar y
far-of low high z _ (at_low p) a b range = record { low = a; high = omega (arith, ints) }
far-of low high z _ (at_high p) a b range = record { low = omega (arith, ints); high = b }
far-of low high z _ (as_is p q) a b range = record { low = omega (arith, ints); high = omega (arith, ints) }

writable-bound : (dp : Dp) (k : ℕ) → dp.vars ≤ 1024 → k ≤ dp.vars → (o : Option ℤ) → IsWritable (option_map (clamped (lowest k) (highest dp k)) o)
writable-bound dp k few low None = tt
writable-bound dp k few low (Some z) = far-of (lowest k) (highest dp k) z (clamped (lowest k) (highest dp k) z) (clamp-is (lowest k) (highest dp k) z) (omega (arith, ints)) (omega (arith, ints)) (omega (arith, ints))

pub clamped-writable : (dp : Dp) (k : ℕ) → dp.vars ≤ 1024 → (layers : List (List CoverRow)) → k + length layers ≤ dp.vars + 1 → AreWritable (clamped_layers dp k layers)
clamped-writable dp k few [] long = tt
clamped-writable dp k few (layer ∷ more) long = (
  Each-map (clamped_row dp k) (λ (row : CoverRow). IsWritable row.bound) layer (each-of-all (λ (row : CoverRow). IsWritable (clamped_row dp k row).bound) layer (λ row h. writable-bound dp k few (omega arith) row.bound)),
  clamped-writable dp (k + 1) few more (omega arith),
)
