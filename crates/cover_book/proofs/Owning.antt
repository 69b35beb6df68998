-- The nodes of a last exact layer stand for prefixes.
use Rattle.std.proofs.Common.{◌≡◌, ℕ, ◌-◌, ◌<◌, ◌≤◌, ℤ, true, false, cond, List, [], length, slice_get, Option, Some, None, ◌∷◌, IsSome, option_and_then, refl, sym, ◌∙◌, ap, subst, arith}
use Rattle.dp_model.specs.Dp.{Dp}
use Rattle.dp_model.proofs.Members.{Has}
use Rattle.dp_laws.specs.Diagrams.Nodes.{DdNode, DdLayers, node_at}
use Rattle.dp_laws.specs.Diagrams.Seen.{IsDiagram, exact_layers}
use Rattle.dp_laws.proofs.Diagrams.Places.{Has-at}
use Rattle.dp_laws.proofs.Diagrams.Starts.{reducible, starts}
use Rattle.dp_laws.proofs.Diagrams.LastExact.{all-exact}
use Rattle.relaxed_dd.specs.Shown.{layer_in, last_of}
use Rattle.bound_cover.specs.Exploring.{layer_of, all_wait}
use Rattle.bound_cover.proofs.Placing.{layer-is-at, reached-at}
use Rattle.cover_book.proofs.Layers.{there, node-here}
use Rattle.cover_book.specs.declared.waiting.WaitingRow.{WaitingRow}
use Rattle.cover_book.specs.Adding.{IsCutWithin, last_needed}
use Rattle.cover_book.specs.Waits.{IsOwnAt}
use Rattle.cover_book.specs.Steps.{CutIsOwn, CanPut, IsDiagramAt}
use Rattle.cover_book.proofs.Putting.{layer-here}

module _ (dp : Dp) (p : List ℕ) (w : ℕ) (t : Option ℤ) (d : DdLayers) (short : length p < dp.vars) (h : IsDiagram dp p w t d) where
  cut-for : (o : Option ℕ) → d.first_reduced ≡ o → IsCutWithin d o
  cut-for None e = tt
  cut-for (Some depth) e =
      let r = reducible dp p w t depth (sym h.first_reduced ∙ e) in
      let low = r.below_first in
      let high = r.above_last in
      let first = h.first in
      let long = h.depth in
      (omega arith, omega arith)

  pub cut-within : IsCutWithin d d.first_reduced
  cut-within = cut-for d.first_reduced refl

  own-node : (depth i : ℕ) → d.first_reduced ≡ Some depth → i < length (layer_in d (depth - 1)) → IsOwnAt dp (node_at d (depth - 1) i)
  own-node depth i e less =
      let r = reducible dp p w t depth (sym h.first_reduced ∙ e) in
      let low = r.below_first in
      let high = r.above_last in
      let first = h.first in
      let long = h.depth in
      let m = depth - 1 - length p in
      let x = there (layer_in d (depth - 1)) i less in
      let is = node-here d (depth - 1) i ∙ x.1 in
      let same : depth - 1 - d.first ≡ m = omega arith in
      let layer : layer_in d (depth - 1) ≡ layer_of d.layers m = layer-here d (depth - 1) ∙ ap (layer_of d.layers) same in
      let has : Has x.0 (layer_of d.layers m) = subst (λ l. Has x.0 l) layer (Has-at (layer_in d (depth - 1)) i x.0 x.1) in
      let inside : m < length d.layers = omega arith in
      let above : m < exact_layers dp.vars (length p) d.first_reduced = subst (λ o. m < exact_layers dp.vars (length p) o) (sym e) (omega arith) in
      let exact = all-exact dp p w t d h (exact_layers dp.vars (length p) d.first_reduced) m refl above (layer_of d.layers m) (layer-is-at d.layers m inside) x.0 has in
      let reached = reached-at dp p w t d h m inside above x.0 has in
      let deep = reached.depth in
      subst (IsOwnAt dp) (sym is) (record { exact = exact; own = record { prefix = reached.prefix; row = reached.row; value = reached.value; shorter = omega arith } })

  own-for : (o : Option ℕ) → d.first_reduced ≡ o → CutIsOwn dp d o
  own-for None e = tt
  own-for (Some depth) e =
      let r = reducible dp p w t depth (sym h.first_reduced ∙ e) in
      let low = r.below_first in
      let high = r.above_last in
      let first = h.first in
      let long = h.depth in
      record { positive = omega arith; first = omega arith; last = omega arith; own = λ i less. own-node depth i e less }

  pub cut-is-own : CutIsOwn dp d d.first_reduced
  cut-is-own = own-for d.first_reduced refl

  -- the diagram has a root
  pub root-is : IsSome (node_at d d.first 0)
  root-is =
      let start = starts dp p w t d h short in
      let none : d.first - d.first ≡ 0 = omega arith in
      let top : slice_get d.layers (d.first - d.first) ≡ Some (start.root ∷ []) = ap (slice_get d.layers) none ∙ ap (λ ls. slice_get ls 0) start.are in
      subst (λ o. IsSome (option_and_then (λ (l : List DdNode). slice_get l 0) o)) (sym top) refl

  needed-between : (claim : Option ℤ) (o : Option ℕ) → IsCutWithin d o → (d.first ≤ last_needed claim d o) × (last_needed claim d o ≤ last_of d)
  needed-between claim None c = let first = h.first in let long = h.depth in (omega arith, omega arith)
  needed-between claim (Some depth) c =
      let low = c.0 in
      let high = c.1 in
      elim (all_wait claim (layer_in d (depth - 1))) as (λ b. (d.first ≤ cond b (depth - 1) (last_of d)) × (cond b (depth - 1) (last_of d) ≤ last_of d)) [ true ↦ (omega arith, omega arith) | false ↦ (omega arith, omega arith) ]

  pub can-put-it : (claim : Option ℤ) → CanPut dp claim d
  can-put-it claim =
      let both = needed-between claim d.first_reduced cut-within in
      let first = h.first in
      let long = h.depth in
      record { own = cut-is-own; root = root-is; cut = cut-within; deep = omega arith; first = both.0; last = both.1; low = omega arith }

pub can-put : (dp : Dp) (claim : Option ℤ) (o : Option WaitingRow) (d : DdLayers) → IsDiagramAt dp claim o d → CanPut dp claim d
can-put dp claim None d is = absurd is
can-put dp claim (Some r) d is = can-put-it dp r.sub.subproblem.decisions is.width claim d is.shorter is.diagram claim
