-- Every problem that is lawful and chained has an exploration to the end.
use Rattle.std.proofs.Common.{ℕ, zero, suc, ◌≤◌, ℤ, List, [], ◌∷◌, ◌++◌, Option, refl, arith}
use Rattle.dp_model.specs.Dp.{Dp}
use Rattle.dp_model.specs.Laws.{IsLawful, IsChained}
use Rattle.dp_model.specs.Reached.{reached}
use Rattle.dp_laws.specs.Diagrams.Seen.{IsDiagram}
use Rattle.dp_laws.specs.Rules.Compiling.{relaxed}
use Rattle.dp_laws.proofs.Rules.Diagrams.{compiled-is-diagram}
use Rattle.bound_cover.specs.Covers.{CoverRow}
use Rattle.bound_cover.specs.Exploring.{HoldsAll, Waiting, explored, waiting_after, start_cover, start_waiting, IsExplored}
use Rattle.bound_cover.specs.DraftRows.{IsDraft}
use Rattle.bound_cover.proofs.Drafts.{start-is-draft, stays-draft}
use Rattle.bound_cover.proofs.Measure.{left_below, falls}

ends : (dp : Dp) → IsLawful dp → IsChained dp → (claim : Option ℤ) → HoldsAll dp claim → (w : ℕ) → 1 ≤ w → (fuel : ℕ) (rows : List (List CoverRow)) (waiting : List Waiting) → left_below dp waiting ≤ fuel → IsDraft dp claim rows waiting → IsExplored dp claim w rows waiting
ends dp laws chained claim most w wide fuel rows [] few h = record { diagrams = []; cover = rows; explores = refl }
ends dp laws chained claim most w wide zero rows (q ∷ rest) few h =
    let d = relaxed dp (reached dp q.prefix) w claim in
    let is : IsDiagram dp q.prefix w claim d = compiled-is-diagram dp laws chained q.prefix w claim h.waits.0.prefix h.waits.0.short wide in
    absurd (let less = falls dp claim w rows q rest d h.waits.0.short is in omega arith)
ends dp laws chained claim most w wide (suc fuel) rows (q ∷ rest) few h =
    let d = relaxed dp (reached dp q.prefix) w claim in
    let is : IsDiagram dp q.prefix w claim d = compiled-is-diagram dp laws chained q.prefix w claim h.waits.0.prefix h.waits.0.short wide in
    let less = falls dp claim w rows q rest d h.waits.0.short is in
    let more = ends dp laws chained claim most w wide fuel (explored dp claim q d rows) (rest ++ waiting_after claim q d rows d.first_reduced) (omega arith)
    (stays-draft dp claim w rows q rest d (record { laws = laws; most = most; draft = h; diagram = is })) in
    record { diagrams = d ∷ more.diagrams; cover = more.cover; explores = (is, more.explores) }

pub there-is-an-end : (dp : Dp) → IsLawful dp → IsChained dp → (claim : Option ℤ) → HoldsAll dp claim → (w : ℕ) → 1 ≤ w → IsExplored dp claim w (start_cover dp claim) (start_waiting dp)
there-is-an-end dp laws chained claim most w wide = ends dp laws chained claim most w wide (left_below dp (start_waiting dp)) (start_cover dp claim) (start_waiting dp) (omega arith) (start-is-draft dp laws claim most)
