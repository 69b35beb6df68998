-- What a prepared list is enough for.
use Rattle.std.proofs.Common.{ℕ, ◌<◌, length, arith}
use Rattle.dp_model.specs.Dp.{Dp}
use Rattle.dp_model.specs.declared.cut_kind.CutKind.TheVariants.{LastExactLayer, Frontier}
use Rattle.dp_model.specs.Laws.{IsLawful, IsChained}
use Rattle.dp_laws.specs.Diagrams.Nodes.{DdLayers}
use Rattle.relaxed_dd.specs.Shown.{IsRelaxed}
use Rattle.relaxed_dd.specs.Cut.{IsWideEnough}
use Rattle.exact_cutset.specs.Prepared.{IsListPreparedFor}
use Rattle.exact_cutset.specs.Ready.{CutIsReady}
use Rattle.exact_cutset.specs.Seen.{ChildrenView}
use Rattle.exact_cutset.specs.Walking.{IsWalkable}
use Rattle.exact_cutset.proofs.Cuts.{cut-is-ready, seen}
use Rattle.exact_cutset.proofs.Walkable.{walkable}

pub cut-ready : (dp : Dp) → IsLawful dp → IsChained dp → (w : ℕ) (d : DdLayers) → IsRelaxed dp w d → (c : ChildrenView) → IsListPreparedFor dp w LastExactLayer c → CutIsReady dp d c.room d.first_reduced
cut-ready dp laws chained w d r c h =
    let room = h.room in
    let enough : IsWideEnough dp w dp.vars c.room = record { width = (let a = h.enough.width in omega arith); choices = λ k less. (let a = h.enough.choices k less in omega arith) } in
    cut-is-ready dp laws chained w d r c.room enough

pub walk-ready : (dp : Dp) → IsLawful dp → IsChained dp → (w : ℕ) (d : DdLayers) → IsRelaxed dp w d → (c : ChildrenView) → IsListPreparedFor dp w Frontier c → IsWalkable dp d c.wide c.room
walk-ready dp laws chained w d r c h = walkable dp laws chained w d r c.wide c.room h.enough h.room

pub some-layer : (dp : Dp) → IsLawful dp → IsChained dp → (w : ℕ) (d : DdLayers) → IsRelaxed dp w d → 0 < length d.layers
some-layer dp laws chained w d r = let long = (seen dp laws chained w d r).depth in omega arith
