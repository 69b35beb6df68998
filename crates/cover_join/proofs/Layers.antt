-- The rows of the joined layers pass.
use Rattle.std.proofs.Common.{◌≡◌, ℕ, zero, suc, ◌+◌, ◌<◌, nat_eq, ℤ, pos, List, [], ◌∷◌, ◌++◌, length, map, slice_get, Option, Some, None, inl, inr, IsTrue, refl, sym, ◌∙◌, ap, subst, arith}
use Rattle.std.proofs.lemmas.List.{append_assoc, length-append, length-map}
use Rattle.dp_model.specs.Dp.{Dp}
use Rattle.dp_laws.proofs.Diagrams.Places.{same-Some, slice_get-append}
use Rattle.bound_cover.specs.declared.cover.Why.TheVariants.{Root, Layers}
use Rattle.bound_cover.specs.Covers.{CoverRow}
use Rattle.bound_cover.specs.Tests.{unless, row_fault}
use Rattle.bound_cover.specs.Verdicts.{first_layer, rows_fault, layers_fault, has_root, cover_fault, solution_fault, claim_of, checked}
use Rattle.bound_cover.specs.Exploring.{layer_of}
use Rattle.bound_cover.specs.DraftRows.{Passes}
use Rattle.bound_cover.proofs.Faults.{first-none, unless-none, cond-none}
use Rattle.bound_cover.proofs.Keeping.{append-cases, append-following, map-cases, map-at}
use Rattle.bound_cover.proofs.Placing.{layer-beyond}
use Rattle.bound_cover.proofs.Sound.{accepted-none, checked-parts}
use Rattle.parts.specs.Part.{part_program}
use Rattle.cover_join.specs.Joined.{PartAnswer, shifted_row, joined_layer, joined_layers, IsAccepted, AreAccepted}
use Rattle.cover_join.proofs.Shifting.{Shifts, passes-shifted}

-- ---- the rows of a cover that passes

first-is : (layers : List (List CoverRow)) → layer_of layers 0 ≡ first_layer layers
first-is [] = refl
first-is (layer ∷ layers) = refl

row-at : (dp : Dp) (k : ℕ) (next : List CoverRow) (i : ℕ) (rows : List CoverRow) (t : ℕ) (r : CoverRow) → rows_fault dp k next i rows ≡ None → slice_get rows t ≡ Some r → (n : ℕ) × (row_fault dp k n next r ≡ None)
row-at dp k next i [] t r e at = absurd (let clash : None ≡ Some r = at in cc)
row-at dp k next i (row ∷ rows) zero r e at = (i, subst (λ x. row_fault dp k i next x ≡ None) (same-Some row r at) (first-none (row_fault dp k i next row) (rows_fault dp k next (i + 1) rows) e).0)
row-at dp k next i (row ∷ rows) (suc t) r e at = row-at dp k next (i + 1) rows t r (first-none (row_fault dp k i next row) (rows_fault dp k next (i + 1) rows) e).1 at

layer-row-at : (dp : Dp) (k : ℕ) (layers : List (List CoverRow)) (m t : ℕ) (r : CoverRow) → layers_fault dp k layers ≡ None → slice_get (layer_of layers m) t ≡ Some r → (n : ℕ) × (row_fault dp (k + m) n (layer_of layers (suc m)) r ≡ None)
layer-row-at dp k [] m t r e at = absurd (let clash : None ≡ Some r = at in cc)
layer-row-at dp k (layer ∷ more) zero t r e at =
    let here = row-at dp k (first_layer more) 0 layer t r (first-none (rows_fault dp k (first_layer more) 0 layer) (layers_fault dp (k + 1) more) e).0 at in
    (here.0, (let same : k ≡ k + 0 = omega arith in subst (λ l. row_fault dp (k + 0) here.0 l r ≡ None) (sym (first-is more)) (subst (λ n. row_fault dp n here.0 (first_layer more) r ≡ None) same here.1)))
layer-row-at dp k (layer ∷ more) (suc m) t r e at =
    let there = layer-row-at dp (k + 1) more m t r (first-none (rows_fault dp k (first_layer more) 0 layer) (layers_fault dp (k + 1) more) e).1 at in
    (there.0, (let same : k + 1 + m ≡ k + suc m = omega arith in subst (λ n. row_fault dp n there.0 (layer_of more (suc m)) r ≡ None) same there.1))

-- a part whose answer is accepted
pub record Passed (dp : Dp) (index of : ℕ) (p : PartAnswer) : Type 0 where
  pub solved : solution_fault (part_program dp index of) p.best p.assignment ≡ None
  pub long : length p.layers ≡ dp.vars + 1
  pub root : IsTrue (has_root (part_program dp index of) (claim_of p.best (pos 0)) (layer_of p.layers 0))
  pub rows : (k t : ℕ) (r : CoverRow) → slice_get (layer_of p.layers k) t ≡ Some r → (n : ℕ) × (row_fault (part_program dp index of) k n (layer_of p.layers (suc k)) r ≡ None)

pub accepted-passed : (dp : Dp) (index of : ℕ) (p : PartAnswer) → IsAccepted (part_program dp index of) p → Passed dp index of p
accepted-passed dp index of p h =
    let part : Dp = part_program dp index of in
    let claim : Option ℤ = claim_of p.best (pos 0) in
    let both = checked-parts part p.best (pos 0) p.assignment p.layers (accepted-none (checked part p.best (pos 0) p.assignment p.layers) h) in
    let counted = cond-none (nat_eq (length p.layers) (dp.vars + 1)) (cover_fault part claim p.layers) Layers both.1 in
    let tests = first-none (unless (has_root part claim (first_layer p.layers)) Root) (layers_fault part 0 p.layers) counted.1 in
    let count = counted.0 in
    record {
      solved = both.0;
      long = grind arith;
      root = subst (λ l. IsTrue (has_root part claim l)) (sym (first-is p.layers)) (unless-none (has_root part claim (first_layer p.layers)) Root tests.0);
      rows = λ k t r at. (let found = layer-row-at part 0 p.layers k t r tests.1 at in let same : 0 + k ≡ k = omega arith in (found.0, subst (λ n. row_fault part n found.0 (layer_of p.layers (suc k)) r ≡ None) same found.1));
    }

-- all parts from a number on
abbrev pub AllPassed : Dp → ℕ → ℕ → List PartAnswer → Type 0
AllPassed dp of i [] = Unit {0}
AllPassed dp of i (p ∷ ps) = Passed dp i of p × AllPassed dp of (i + 1) ps

pub all-passed : (dp : Dp) (of i : ℕ) (ps : List PartAnswer) → AreAccepted dp of i ps → AllPassed dp of i ps
all-passed dp of i [] h = tt
all-passed dp of i (p ∷ ps) h = (accepted-passed dp i of p h.0, all-passed dp of (i + 1) ps h.1)

-- ---- where the rows of the next layer stand

-- a layer's rows stand after others, and before others
pub shifts-among : (n m : ℕ) (before layer after : List CoverRow) → length before ≡ n → Shifts n layer (before ++ (map (shifted_row m) layer ++ after))
shifts-among n m before layer after long = λ t r at.
    let there : slice_get (map (shifted_row m) layer ++ after) t ≡ Some (shifted_row m r) = slice_get-append (map (shifted_row m) layer) after t (shifted_row m r) (map-at (shifted_row m) layer t r at) in
    record {
      row = shifted_row m r;
      at = subst (λ n. slice_get (before ++ (map (shifted_row m) layer ++ after)) (n + t) ≡ Some (shifted_row m r)) long (append-following before (map (shifted_row m) layer ++ after) t ∙ there);
      words = refl;
      bound = refl;
    }

-- the rows of the parts so far, and of one more
pub following-more : (m n : ℕ) (before layer : List CoverRow) → length before ≡ n → length (before ++ map (shifted_row m) layer) ≡ n + length layer
following-more m n before layer long = length-append before (map (shifted_row m) layer) ∙ (ap (λ l. length before + l) (length-map layer (shifted_row m)) ∙ ap (λ x. x + length layer) long)

-- ---- the layers below the first

pub joined-passes : (dp : Dp) (of j index : ℕ) (ps : List PartAnswer) → AllPassed dp of index ps → (n m : ℕ) (before : List CoverRow) → length before ≡ n → (i : ℕ) (r : CoverRow) → slice_get (joined_layer (suc j) n ps) i ≡ Some r
    → Passes dp (suc j) (before ++ joined_layer (suc j + 1) m ps) r
joined-passes dp of j index [] all n m before long i r at = absurd (let clash : None ≡ Some r = at in cc)
joined-passes dp of j index (p ∷ ps) all n m before long i r at =
    let next : List CoverRow = layer_of p.layers (suc j + 1) in
    let m' : ℕ = m + length (layer_of p.layers (suc j + 1 + 1)) in
    elim (append-cases (map (shifted_row n) (layer_of p.layers (suc j))) (joined_layer (suc j) (n + length next) ps) i r at) as (λ _. Passes dp (suc j) (before ++ (map (shifted_row m) next ++ joined_layer (suc j + 1) m' ps)) r) [
      | inl own ↦ (
          let from = map-cases (shifted_row n) (layer_of p.layers (suc j)) i r own in
          let fine = all.0.rows (suc j) i from.0 from.1 in
          let same : suc (suc j) ≡ suc j + 1 = omega arith in
          let fault = subst (λ k. row_fault (part_program dp index of) (suc j) fine.0 (layer_of p.layers k) from.0 ≡ None) same fine.1 in
          subst (λ x. Passes dp (suc j) (before ++ (map (shifted_row m) next ++ joined_layer (suc j + 1) m' ps)) x) from.2
          (passes-shifted dp index of j fine.0 n from.0 next (before ++ (map (shifted_row m) next ++ joined_layer (suc j + 1) m' ps)) (shifts-among n m before next (joined_layer (suc j + 1) m' ps) long) fault))
      | inr later ↦
          subst (λ l. Passes dp (suc j) l r) (append_assoc before (map (shifted_row m) next) (joined_layer (suc j + 1) m' ps))
          (joined-passes dp of j (index + 1) ps all.1 (n + length next) m' (before ++ map (shifted_row m) next) (following-more m n before next long) later.place r later.at)
    ]

-- ---- which layers there are

pub joined-long : (count j : ℕ) (ps : List PartAnswer) → length (joined_layers count j ps) ≡ count
joined-long zero j ps = refl
joined-long (suc count) j ps = ap suc (joined-long count (j + 1) ps)

pub joined-at : (count j m : ℕ) (ps : List PartAnswer) → m < count → layer_of (joined_layers count j ps) m ≡ joined_layer (j + m) 0 ps
joined-at zero j m ps less = absurd (omega arith)
joined-at (suc count) j zero ps less = ap (λ k. joined_layer k 0 ps) (omega arith)
joined-at (suc count) j (suc m) ps less = joined-at count (j + 1) m ps (omega arith) ∙ ap (λ k. joined_layer k 0 ps) (omega arith)

pub joined-beyond : (dp : Dp) (of index j n : ℕ) (ps : List PartAnswer) → AllPassed dp of index ps → dp.vars < j → joined_layer j n ps ≡ []
joined-beyond dp of index j n [] all low = refl
joined-beyond dp of index j n (p ∷ ps) all low =
    let long = all.0.long in
    let none : layer_of p.layers j ≡ [] = layer-beyond p.layers j (omega arith) in
    ap (λ l. map (shifted_row n) l ++ joined_layer j (n + length (layer_of p.layers (j + 1))) ps) none ∙ joined-beyond dp of (index + 1) j (n + length (layer_of p.layers (j + 1))) ps all.1 low
