-- A diagram stands in a cover: its layers are those of an exploration's step.
use Rattle.std.proofs.Common.{◌≡◌, ℕ, zero, suc, ◌+◌, ◌-◌, ◌<◌, ◌≤◌, nat_lt, ℤ, Bool, true, false, cond, ◌&&◌, List, [], ◌∷◌, ◌++◌, length, map, take, set, get_or, slice_get, Option, Some, None, option_map, option_and_then, unwrap_or, ◌⊎◌, inl, inr, refl, sym, ◌∙◌, ap, ap₂, subst, arith}
use Rattle.std.proofs.lemmas.List.{length-set}
use Rattle.std.proofs.lemmas.Option.{none-some, same_Some}
use Rattle.dp_model.specs.Dp.{Dp}
use Rattle.dp_laws.specs.Diagrams.Nodes.{DdNode, DdLayers, node_at}
use Rattle.relaxed_dd.specs.Shown.{layer_in, last_of}
use Rattle.bound_cover.specs.declared.cover.CoverArc.{CoverArc}
use Rattle.bound_cover.specs.Covers.{CoverRow}
use Rattle.bound_cover.specs.Exploring.{layer_of, moved, row_for, all_wait, with_arcs_at, arcs_of_first, needed_layers, Waiting, explored}
use Rattle.bound_cover.proofs.Placing.{layer-beyond, explored-long}
use Rattle.bound_cover.proofs.Steps.{above-own, own, below-own}
use Rattle.cover_book.specs.Nodes.{arcs_in}
use Rattle.cover_book.specs.Adding.{with_root_arcs, added_layer, AreAdded, last_needed, IsCutWithin}
use Rattle.cover_book.proofs.Layers.{same-layers, layer-set, layer-other, layer-get}

-- ---- the layers of a diagram

at-place : (ls : List (List DdNode)) (i : ℕ) → unwrap_or (slice_get ls i) [] ≡ layer_of ls i
at-place [] i = refl
at-place (l ∷ ls) zero = refl
at-place (l ∷ ls) (suc i) = at-place ls i

pub layer-here : (d : DdLayers) (depth : ℕ) → layer_in d depth ≡ layer_of d.layers (depth - d.first)
layer-here d depth = at-place d.layers (depth - d.first)

root-of : (ls : List (List DdNode)) → arcs_in (option_and_then (λ (l : List DdNode). slice_get l 0) (slice_get ls 0)) ≡ arcs_of_first (layer_of ls 0)
root-of [] = refl
root-of ([] ∷ ls) = refl
root-of ((node ∷ nodes) ∷ ls) = refl

pub root-arcs : (d : DdLayers) → arcs_in (node_at d d.first 0) ≡ arcs_of_first (layer_of d.layers 0)
root-arcs d =
    let none : d.first - d.first ≡ 0 = omega arith in
    ap (λ i. arcs_in (option_and_then (λ (l : List DdNode). slice_get l 0) (slice_get d.layers i))) none ∙ root-of d.layers

layer-take : (n i : ℕ) (layers : List (List DdNode)) → i < n → layer_of (take n layers) i ≡ layer_of layers i
layer-take zero i layers h = absurd (omega arith)
layer-take (suc n) i [] h = refl
layer-take (suc n) zero (l ∷ layers) h = refl
layer-take (suc n) (suc i) (l ∷ layers) h = layer-take n i layers (omega arith)

layer-cut : (n i : ℕ) (layers : List (List DdNode)) → n ≤ i → layer_of (take n layers) i ≡ []
layer-cut zero i layers h = refl
layer-cut (suc n) i [] h = refl
layer-cut (suc n) zero (l ∷ layers) h = absurd (omega arith)
layer-cut (suc n) (suc i) (l ∷ layers) h = layer-cut n i layers (omega arith)

-- the layers that get rows
pub needed-here : (claim : Option ℤ) (d : DdLayers) (o : Option ℕ) (j : ℕ) → IsCutWithin d o → d.first < j → j ≤ last_needed claim d o → layer_of (needed_layers claim d.first d o) (j - d.first) ≡ layer_in d j
needed-here claim d None j cut deep low = sym (layer-here d j)
needed-here claim d (Some depth) j cut deep low =
    let same : all_wait claim (layer_in d (depth - 1)) ≡ all_wait claim (layer_of d.layers (depth - 1 - d.first)) = ap (all_wait claim) (layer-here d (depth - 1)) in
    let Low : Bool → Type 0 = λ b. j ≤ cond b (depth - 1) (last_of d) in
    let here : Low (all_wait claim (layer_of d.layers (depth - 1 - d.first))) = subst Low same low in
    elim (all_wait claim (layer_of d.layers (depth - 1 - d.first))) as (λ b. Low b → layer_of (cond b (take (depth - d.first) d.layers) d.layers) (j - d.first) ≡ layer_in d j) [
      | true ↦ λ l. layer-take (depth - d.first) (j - d.first) d.layers (let c = cut.0 in omega arith) ∙ sym (layer-here d j)
      | false ↦ λ l. sym (layer-here d j)
    ] here

beyond : (d : DdLayers) (j : ℕ) → d.first < j → last_of d < j → layer_of d.layers (j - d.first) ≡ []
beyond d j deep low = layer-beyond d.layers (j - d.first) (omega arith)

pub needed-not : (claim : Option ℤ) (d : DdLayers) (o : Option ℕ) (j : ℕ) → IsCutWithin d o → d.first < j → last_needed claim d o < j → layer_of (needed_layers claim d.first d o) (j - d.first) ≡ []
needed-not claim d None j cut deep low = beyond d j deep low
needed-not claim d (Some depth) j cut deep low =
    let same : all_wait claim (layer_in d (depth - 1)) ≡ all_wait claim (layer_of d.layers (depth - 1 - d.first)) = ap (all_wait claim) (layer-here d (depth - 1)) in
    let Low : Bool → Type 0 = λ b. cond b (depth - 1) (last_of d) < j in
    let here : Low (all_wait claim (layer_of d.layers (depth - 1 - d.first))) = subst Low same low in
    elim (all_wait claim (layer_of d.layers (depth - 1 - d.first))) as (λ b. Low b → layer_of (cond b (take (depth - d.first) d.layers) d.layers) (j - d.first) ≡ []) [
      | true ↦ λ l. layer-cut (depth - d.first) (j - d.first) d.layers (let c = cut.0 in omega arith)
      | false ↦ λ l. beyond d j deep l
    ] here

-- ---- nothing more is put after

append-none : {X : Type 0} (xs : List X) → xs ++ [] ≡ xs
append-none [] = refl
append-none (x ∷ xs) = ap (λ ys. x ∷ ys) (append-none xs)

-- ---- what a layer is once others are added

added-in : (dp : Dp) (claim : Option ℤ) (d : DdLayers) (end j : ℕ) (rows : List (List CoverRow)) → d.first < j → j < end → added_layer dp claim d end rows j ≡ layer_of rows j ++ map (row_for dp claim d.first_reduced j (length (layer_of rows (j + 1)))) (layer_in d j)
added-in dp claim d end j rows deep low =
    let a : nat_lt d.first j ≡ true = grind arith in
    let b : nat_lt j end ≡ true = grind arith in
    rw (a, b) refl

added-above : (dp : Dp) (claim : Option ℤ) (d : DdLayers) (end j : ℕ) (rows : List (List CoverRow)) → j ≤ d.first → added_layer dp claim d end rows j ≡ layer_of rows j
added-above dp claim d end j rows high = let a : nat_lt d.first j ≡ false = grind arith in rw a refl

not-both : (a : Bool) → (a && false) ≡ false
not-both true = refl
not-both false = refl

added-below : (dp : Dp) (claim : Option ℤ) (d : DdLayers) (end j : ℕ) (rows : List (List CoverRow)) → end ≤ j → added_layer dp claim d end rows j ≡ layer_of rows j
added-below dp claim d end j rows far =
    let b : nat_lt j end ≡ false = grind arith in
    let both : (nat_lt d.first j && nat_lt j end) ≡ false = ap (λ c. nat_lt d.first j && c) b ∙ not-both (nat_lt d.first j) in
    ap (λ c. cond c (layer_of rows j ++ map (row_for dp claim d.first_reduced j (length (layer_of rows (j + 1)))) (layer_in d j)) (layer_of rows j)) both

-- ---- steps of the loop over layers

-- a layer that is not yet reached is as it was
not-yet : (dp : Dp) (claim : Option ℤ) (d : DdLayers) (k j : ℕ) (old rows : List (List CoverRow)) → AreAdded dp claim d k old rows → k ≤ j → layer_of rows j ≡ layer_of old j
not-yet dp claim d k j old rows h far = h.layers j ∙ added-below dp claim d k j old far

pub adds-more : (dp : Dp) (claim : Option ℤ) (d : DdLayers) (k before : ℕ) (old rows new : List (List CoverRow)) (layer : List CoverRow) → d.first < k → k < length old → AreAdded dp claim d k old rows → before ≡ length (layer_of rows (k + 1))
    → layer ≡ layer_of rows k ++ map (row_for dp claim d.first_reduced k before) (layer_in d k) → new ≡ set rows k layer → AreAdded dp claim d (k + 1) old new
adds-more dp claim d k before old rows new layer deep low h b is n =
    let long = h.long in
    let more : before ≡ length (layer_of old (k + 1)) = b ∙ ap (λ (l : List CoverRow). length l) (not-yet dp claim d k (k + 1) old rows h (omega arith)) in
    let here : layer ≡ layer_of old k ++ map (row_for dp claim d.first_reduced k (length (layer_of old (k + 1)))) (layer_in d k) =
    is ∙ (ap (λ l. l ++ map (row_for dp claim d.first_reduced k before) (layer_in d k)) (not-yet dp claim d k k old rows h (omega arith)) ∙ ap (λ m. layer_of old k ++ map (row_for dp claim d.first_reduced k m) (layer_in d k)) more) in
    let Goal : ℕ → Type 0 = λ m. layer_of new m ≡ added_layer dp claim d (k + 1) old m in
    let others : (j : ℕ) → (j ≡ k → ⊥) → layer_of new j ≡ added_layer dp claim d k old j = λ j other. ap (λ (l : List (List CoverRow)). layer_of l j) n ∙ (layer-other rows j k layer other ∙ h.layers j) in
    record {
      long = ap (λ (l : List (List CoverRow)). length l) n ∙ (length-set rows k layer ∙ long);
      layers = λ j.
          let split : (j ≤ d.first) ⊎ ((k + 1 ≤ j) ⊎ ((j ≡ k) ⊎ ((d.first < j) × (j < k)))) = grind arith in
          elim split as (λ _. Goal j) [
            | inl high ↦ others j (λ e. omega arith) ∙ (added-above dp claim d k j old high ∙ sym (added-above dp claim d (k + 1) j old high))
            | inr rest ↦ elim rest as (λ _. Goal j) [
              | inl far ↦ others j (λ e. omega arith) ∙ (added-below dp claim d k j old (omega arith) ∙ sym (added-below dp claim d (k + 1) j old far))
              | inr near ↦ elim near as (λ _. Goal j) [
                | inl same ↦ subst Goal (sym same) (ap (λ (l : List (List CoverRow)). layer_of l k) n ∙ (layer-set rows k layer (omega arith) ∙ (here ∙ sym (added-in dp claim d (k + 1) k old deep (omega arith)))))
                | inr inside ↦ others j (λ e. (let x = inside.1 in omega arith)) ∙ (added-in dp claim d k j old inside.0 inside.1 ∙ sym (added-in dp claim d (k + 1) j old inside.0 (let x = inside.1 in omega arith)))
              ]
            ]
          ];
    }

-- ---- the root's arcs

arcs-moved : (before : ℕ) (o : Option DdNode) (arcs : List CoverArc) → option_map (λ (m : DdNode). map (moved before) m.arcs) o ≡ Some arcs → arcs ≡ map (moved before) (arcs_in o)
arcs-moved before None arcs e = absurd (none-some arcs e)
arcs-moved before (Some m) arcs e = sym (same_Some (map (moved before) m.arcs) arcs e)

pub root-put : (d : DdLayers) (place first before : ℕ) (rows : List (List CoverRow)) (arcs : List CoverArc) (layer old : List CoverRow) → first ≡ d.first → d.first < length rows → before ≡ length (layer_of rows (first + 1)) → option_map (λ (m : DdNode). map (moved before) m.arcs) (node_at d first 0) ≡ Some arcs
    → old ≡ get_or rows first old → layer ≡ with_arcs_at place arcs old → set rows first layer ≡ with_root_arcs d place rows
root-put d place first before rows arcs layer old e less b its was is =
    let Goal : ℕ → List CoverRow → Type 0 = λ k l. set rows k l ≡ set rows k (with_arcs_at place (map (moved (length (layer_of rows (k + 1)))) (arcs_in (node_at d k 0))) (layer_of rows k)) in
    let mine : arcs ≡ map (moved (length (layer_of rows (first + 1)))) (arcs_in (node_at d first 0)) = arcs-moved before (node_at d first 0) arcs its ∙ ap (λ n. map (moved n) (arcs_in (node_at d first 0))) b in
    let inside : first < length rows = omega arith in
    let top : old ≡ layer_of rows first = was ∙ sym (layer-get rows first old inside) in
    let here : Goal first layer = ap (set rows first) (is ∙ (ap (λ as_. with_arcs_at place as_ old) mine ∙ ap (with_arcs_at place (map (moved (length (layer_of rows (first + 1)))) (arcs_in (node_at d first 0)))) top)) in
    ap (λ k. set rows k layer) e ∙ (subst (λ k. Goal k layer) e here)

pub root-long : (d : DdLayers) (place : ℕ) (rows new : List (List CoverRow)) → new ≡ with_root_arcs d place rows → length new ≡ length rows
root-long d place rows new n = ap (λ (l : List (List CoverRow)). length l) n ∙ length-set rows d.first (with_arcs_at place (map (moved (length (layer_of rows (d.first + 1)))) (arcs_in (node_at d d.first 0))) (layer_of rows d.first))

-- ---- a step of an exploration

module _ (dp : Dp) (claim : Option ℤ) (q : Waiting) (d : DdLayers) (rows start new : List (List CoverRow)) (long : length rows ≡ dp.vars + 1) (first : d.first ≡ length q.prefix) (short : length q.prefix < dp.vars) (cut : IsCutWithin d d.first_reduced)
    (s : start ≡ with_root_arcs d q.place rows) (h : AreAdded dp claim d (last_needed claim d d.first_reduced + 1) start new) where
  abbrev root : List CoverRow
  root = with_arcs_at q.place (map (moved (length (layer_of rows (d.first + 1)))) (arcs_in (node_at d d.first 0))) (layer_of rows d.first)

  abbrev end : ℕ
  end = last_needed claim d d.first_reduced + 1

  as-before : (j : ℕ) → (j ≡ d.first → ⊥) → layer_of start j ≡ layer_of rows j
  as-before j other = ap (λ (l : List (List CoverRow)). layer_of l j) s ∙ layer-other rows j d.first root other

  here-root : (j : ℕ) → j ≡ d.first → layer_of new j ≡ with_arcs_at q.place (map (moved (length (layer_of rows (j + 1)))) (arcs_of_first (layer_of d.layers 0))) (layer_of rows j)
  here-root j e =
      let inside : d.first < length rows = omega arith in
      let top : layer_of start d.first ≡ root = ap (λ (l : List (List CoverRow)). layer_of l d.first) s ∙ layer-set rows d.first root inside in
      let arcs : root ≡ with_arcs_at q.place (map (moved (length (layer_of rows (d.first + 1)))) (arcs_of_first (layer_of d.layers 0))) (layer_of rows d.first) =
      ap (λ as_. with_arcs_at q.place (map (moved (length (layer_of rows (d.first + 1)))) as_) (layer_of rows d.first)) (root-arcs d) in
      let at : layer_of new d.first ≡ layer_of start d.first = h.layers d.first ∙ added-above dp claim d end d.first start (omega arith) in
      subst (λ k. layer_of new k ≡ with_arcs_at q.place (map (moved (length (layer_of rows (k + 1)))) (arcs_of_first (layer_of d.layers 0))) (layer_of rows k)) (sym e) (at ∙ (top ∙ arcs))

  abbrev step : ℕ → List DdNode → List CoverRow
  step j nodes = layer_of rows j ++ map (row_for dp claim d.first_reduced j (length (layer_of rows (j + 1)))) nodes

  theirs : (j : ℕ) → j ≤ dp.vars → d.first < j → layer_of (explored dp claim q d rows) j ≡ step j (layer_of (needed_layers claim d.first d d.first_reduced) (j - d.first))
  theirs j low deep =
      let m = j - d.first - 1 in
      let place : j ≡ length q.prefix + suc m = omega arith in
      let same : suc m ≡ j - d.first = omega arith in
      below-own dp claim q d rows j m low place ∙ (ap (λ k. step j (layer_of (needed_layers claim k d d.first_reduced) (suc m))) (sym first) ∙ ap (λ i. step j (layer_of (needed_layers claim d.first d d.first_reduced) i)) same)

  mine-in : (j : ℕ) → d.first < j → j < end → layer_of new j ≡ step j (layer_in d j)
  mine-in j deep low =
      let here : layer_of start j ≡ layer_of rows j = as-before j (λ e. omega arith) in
      let next : layer_of start (j + 1) ≡ layer_of rows (j + 1) = as-before (j + 1) (λ e. omega arith) in
      h.layers j ∙ (added-in dp claim d end j start deep low ∙ ap₂ (λ (l m : List CoverRow). l ++ map (row_for dp claim d.first_reduced j (length m)) (layer_in d j)) here next)

  place : (j : ℕ) → j ≤ dp.vars → layer_of new j ≡ layer_of (explored dp claim q d rows) j
  place j low =
      let split : (j < d.first) ⊎ ((j ≡ d.first) ⊎ (((d.first < j) × (j < end)) ⊎ ((d.first < j) × (end ≤ j)))) = grind arith in
      let Goal : Type 0 = layer_of new j ≡ layer_of (explored dp claim q d rows) j in
      elim split as (λ _. Goal) [
        | inl above ↦ (h.layers j ∙ (added-above dp claim d end j start (omega arith) ∙ as-before j (λ e. omega arith))) ∙ sym (above-own dp claim q d rows j low (omega arith))
        | inr rest ↦ elim rest as (λ _. Goal) [
          | inl at ↦ here-root j at ∙ sym (own dp claim q d rows j low (at ∙ first))
          | inr below ↦ elim below as (λ _. Goal) [
            | inl on ↦ mine-in j on.0 on.1 ∙ (ap (step j) (sym (needed-here claim d d.first_reduced j cut on.0 (let x = on.1 in omega arith))) ∙ sym (theirs j low on.0))
            | inr off ↦ (
                let deep = off.0 in
                let mine : layer_of new j ≡ layer_of rows j = h.layers j ∙ (added-below dp claim d end j start off.1 ∙ as-before j (λ e. omega arith)) in
                mine ∙ (sym (append-none (layer_of rows j)) ∙ (ap (step j) (sym (needed-not claim d d.first_reduced j cut off.0 (let x = off.1 in omega arith))) ∙ sym (theirs j low off.0))))
          ]
        ]
      ]

  pub put : new ≡ explored dp claim q d rows
  put =
      let started : length start ≡ dp.vars + 1 = ap (λ (l : List (List CoverRow)). length l) s ∙ (length-set rows d.first root ∙ long) in
      let many : length new ≡ dp.vars + 1 = h.long ∙ started in
      same-layers new (explored dp claim q d rows) (many ∙ sym (explored-long dp claim q d rows)) (λ j less. place j (omega arith))
