-- A fact of each member of a layer is kept by joining, ordering, striking, leading and cutting.
use Rattle.std.proofs.Common.{ℕ, ℤ, int_lt, not, true, false, cond, List, [], ◌∷◌, ◌++◌, take, Option}
use Rattle.dp_model.specs.Dp.{Dp}
use Rattle.dp_model.specs.Gaps.{is_struck_by}
use Rattle.dp_model.specs.Lists.{Each}
use Rattle.dp_model.specs.Reached.{Reached}
use Rattle.dp_model.specs.Rows.{row_same}
use Rattle.dp_laws.specs.Restricted.Extensions.{better, joined, all_joined}
use Rattle.dp_laws.specs.Restricted.ReductionOrder.{stands_before, placed, in_order}
use Rattle.dp_laws.specs.Restricted.Leaders.{unstruck, dominated, leaders_after, undominated}
use Rattle.dp_laws.specs.Restricted.Beam.{is_reduced, reduced_to, pruned}
use Rattle.dp_laws.proofs.Lists.{each-filter, each-take}

module _ (P : Reached → Type 0) where
  pub each-better : (r new : Reached) → P r → P new → P (better r new)
  each-better r new h k = elim (int_lt r.value new.value) as (λ b. P (cond b new r)) [ true ↦ k | false ↦ h ]

  pub each-joined : (rs : List Reached) (new : Reached) → Each P rs → P new → Each P (joined rs new)
  each-joined [] new h k = (k, tt)
  each-joined (r ∷ rs) new h k =
      elim (row_same r.row new.row) as (λ b. Each P (cond b (better r new ∷ rs) (r ∷ joined rs new))) [
        | true ↦ (each-better r new h.0 k, h.1)
        | false ↦ (h.0, each-joined rs new h.1 k)
      ]

  pub each-all_joined : (rs news : List Reached) → Each P rs → Each P news → Each P (all_joined rs news)
  each-all_joined rs [] h k = h
  each-all_joined rs (new ∷ news) h k = each-all_joined (joined rs new) news (each-joined rs new h k.0) k.1

  pub each-placed : (dp : Dp) (k : ℕ) (new : Reached) (rs : List Reached) → P new → Each P rs → Each P (placed dp k new rs)
  each-placed dp k new [] h all = (h, tt)
  each-placed dp k new (r ∷ rs) h all =
      elim (stands_before dp k new r) as (λ b. Each P (cond b (new ∷ r ∷ rs) (r ∷ placed dp k new rs))) [
        | true ↦ (h, all)
        | false ↦ (all.0, each-placed dp k new rs h all.1)
      ]

  pub each-in_order : (dp : Dp) (k : ℕ) (rs : List Reached) → Each P rs → Each P (in_order dp k rs)
  each-in_order dp k [] h = tt
  each-in_order dp k (r ∷ rs) h = each-placed dp k r (in_order dp k rs) h.0 (each-in_order dp k rs h.1)

  pub each-undominated : (dp : Dp) (k : ℕ) (leaders rs : List Reached) → Each P rs → Each P (undominated dp k leaders rs)
  each-undominated dp k leaders [] h = tt
  each-undominated dp k leaders (r ∷ rs) h =
      let rest = each-undominated dp k (leaders_after dp k leaders r) rs h.1 in
      elim (dominated dp k leaders r) as (λ b. Each P (cond b [] (r ∷ []) ++ undominated dp k (leaders_after dp k leaders r) rs)) [ true ↦ rest | false ↦ (h.0, rest) ]

  pub each-pruned : (dp : Dp) (k : ℕ) (t : Option ℤ) (rs : List Reached) → Each P rs → Each P (pruned dp k t rs)
  each-pruned dp k t rs h = each-undominated dp k [] (unstruck dp k t rs) (each-filter P (λ r. not (is_struck_by r.value (dp.rough k r.row) t)) rs h)

  pub each-cut : (dp : Dp) (w first depth : ℕ) (rs : List Reached) → Each P rs → Each P (reduced_to dp w first depth rs)
  each-cut dp w first depth rs h = elim (is_reduced dp first depth) as (λ b. Each P (cond b (take w rs) rs)) [ true ↦ each-take P w rs h | false ↦ h ]
