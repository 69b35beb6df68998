-- No layer repeats a row.
use Rattle.std.proofs.Common.{◌≡◌, ◌≢◌, ℕ, zero, suc, ◌+◌, ℤ, int_lt, not, Bool, true, false, cond, List, [], ◌∷◌, ◌++◌, length, take, Option, refl, sym, subst}
use Rattle.dp_model.specs.Dp.{Dp}
use Rattle.dp_model.specs.Gaps.{is_struck_by}
use Rattle.dp_model.specs.Lists.{Each}
use Rattle.dp_model.specs.Reached.{Reached}
use Rattle.dp_model.specs.Rows.{row_same}
use Rattle.dp_model.proofs.RowLemmas.{row_same-self, row_same-is}
use Rattle.dp_laws.specs.Restricted.Extensions.{better, joined, all_joined, candidates}
use Rattle.dp_laws.specs.Restricted.ReductionOrder.{stands_before, placed, in_order}
use Rattle.dp_laws.specs.Restricted.Leaders.{unstruck, dominated, leaders_after, undominated}
use Rattle.dp_laws.specs.Restricted.Beam.{is_reduced, reduced_to, pruned, expanded, whole_layer, layer_below}
use Rattle.dp_laws.specs.Restricted.Ordered.{RowsDiffer, LayersDiffer}
use Rattle.dp_laws.specs.Pairs.{EachTwo}
use Rattle.dp_laws.proofs.Restricted.Keeping.{each-joined, each-placed, each-in_order, each-undominated}
use Rattle.dp_laws.proofs.Lists.{two-filter, two-take}

-- What is left of a layer keeps a fact of each two.

module _ (R : Reached → Reached → Type 0) where
  pub two-undominated : (dp : Dp) (k : ℕ) (leaders rs : List Reached) → EachTwo R rs → EachTwo R (undominated dp k leaders rs)
  two-undominated dp k leaders [] h = tt
  two-undominated dp k leaders (r ∷ rs) h =
      let rest = two-undominated dp k (leaders_after dp k leaders r) rs h.1 in
      elim (dominated dp k leaders r) as (λ b. EachTwo R (cond b [] (r ∷ []) ++ undominated dp k (leaders_after dp k leaders r) rs)) [
        | true ↦ rest
        | false ↦ (each-undominated (R r) dp k (leaders_after dp k leaders r) rs h.0, rest)
      ]

  pub two-pruned : (dp : Dp) (k : ℕ) (t : Option ℤ) (rs : List Reached) → EachTwo R rs → EachTwo R (pruned dp k t rs)
  two-pruned dp k t rs h = two-undominated dp k [] (unstruck dp k t rs) (two-filter R (λ r. not (is_struck_by r.value (dp.rough k r.row) t)) rs h)

  pub two-cut : (dp : Dp) (w first depth : ℕ) (rs : List Reached) → EachTwo R rs → EachTwo R (reduced_to dp w first depth rs)
  two-cut dp w first depth rs h = elim (is_reduced dp first depth) as (λ b. EachTwo R (cond b (take w rs) rs)) [ true ↦ two-take R w rs h | false ↦ h ]

-- Rows.

pub rows-other : (a b : List ℤ) → row_same a b ≡ false → a ≢ b
rows-other a b h e = let same : row_same a b ≡ true = subst (λ x. row_same a x ≡ true) e (row_same-self a) in absurd (cc)

pub better-row : (r new : Reached) → r.row ≡ new.row → (better r new).row ≡ r.row
better-row r new e = elim (int_lt r.value new.value) as (λ b. (cond b new r).row ≡ r.row) [ true ↦ sym e | false ↦ refl ]

pub differ-joined : (rs : List Reached) (new : Reached) → RowsDiffer rs → RowsDiffer (joined rs new)
differ-joined [] new h = (tt, tt)
differ-joined (r ∷ rs) new h =
    let go : (b : Bool) → row_same r.row new.row ≡ b → RowsDiffer (cond b (better r new ∷ rs) (r ∷ joined rs new)) =
    λ b. elim b as (λ b. row_same r.row new.row ≡ b → RowsDiffer (cond b (better r new ∷ rs) (r ∷ joined rs new))) [
      | true ↦ λ same. (subst (λ s. Each (λ o. s ≢ o.row) rs) (sym (better-row r new (row_same-is r.row new.row same))) h.0, h.1)
      | false ↦ λ other. (each-joined (λ o. r.row ≢ o.row) rs new h.0 (rows-other r.row new.row other), differ-joined rs new h.1)
    ] in
    go (row_same r.row new.row) refl

pub differ-all_joined : (rs news : List Reached) → RowsDiffer rs → RowsDiffer (all_joined rs news)
differ-all_joined rs [] h = h
differ-all_joined rs (new ∷ news) h = differ-all_joined (joined rs new) news (differ-joined rs new h)

pub differ-placed : (dp : Dp) (k : ℕ) (new : Reached) (rs : List Reached) → Each (λ o. new.row ≢ o.row) rs → RowsDiffer rs → RowsDiffer (placed dp k new rs)
differ-placed dp k new [] h all = (tt, tt)
differ-placed dp k new (r ∷ rs) h all =
    elim (stands_before dp k new r) as (λ b. RowsDiffer (cond b (new ∷ r ∷ rs) (r ∷ placed dp k new rs))) [
      | true ↦ (h, all)
      | false ↦ (each-placed (λ o. r.row ≢ o.row) dp k new rs (λ e. h.0 (sym e)) all.0, differ-placed dp k new rs h.1 all.1)
    ]

pub differ-in_order : (dp : Dp) (k : ℕ) (rs : List Reached) → RowsDiffer rs → RowsDiffer (in_order dp k rs)
differ-in_order dp k [] h = tt
differ-in_order dp k (r ∷ rs) h = differ-placed dp k r (in_order dp k rs) (each-in_order (λ o. r.row ≢ o.row) dp k rs h.0) (differ-in_order dp k rs h.1)

pub differ-expanded : (dp : Dp) (k : ℕ) (layer : List Reached) → RowsDiffer (expanded dp k layer)
differ-expanded dp k layer = differ-in_order dp (k + 1) (all_joined [] (candidates dp k layer)) (differ-all_joined [] (candidates dp k layer) tt)

pub layers-differ : (dp : Dp) → LayersDiffer dp
layers-differ dp r w t zero = (tt, tt)
layers-differ dp r w t (suc m) =
    let layer = layer_below dp r w t m in let k = length r.decisions + m in
    two-cut (λ a b. a.row ≢ b.row) dp w (length r.decisions) (k + 1) (whole_layer dp k t layer)
    (two-pruned (λ a b. a.row ≢ b.row) dp (k + 1) t (expanded dp k layer) (differ-expanded dp k layer))
