-- The best solution of an incumbent and of reports has the joined value, and is feasible.
use Rattle.std.proofs.Common.{◌≡◌, ℕ, ◌+◌, ℤ, Bool, true, false, cond, List, [], ◌∷◌, Option, Some, None, refl, ◌∙◌, ap, arith}
use Rattle.std.proofs.lemmas.Int.{ints}
use Rattle.std.specs.Prelude.{int_le, int_lt}
use Rattle.dp_model.specs.Dp.{Dp}
use Rattle.frontier_parts.specs.Settled.{better, joined}
use Rattle.journal_bytes.specs.Bodies.{IncumbentView}
use Rattle.part_reports.specs.Best.{best_of_all, better_one, value_in}
use Rattle.part_reports.specs.Reports.{AreReports, IsTested, ReportView, values_told}

-- the value of the better one is the greater one
better-value : (one other : Option IncumbentView) → value_in (better_one one other) ≡ better (value_in one) (value_in other)
better-value None other = refl
better-value (Some a) None = refl
better-value (Some a) (Some b) = go (int_lt a.value b.value) (int_le a.value b.value) refl refl
  where
    go : (less most : Bool) → int_lt a.value b.value ≡ less → int_le a.value b.value ≡ most → value_in (cond less (Some b) (Some a)) ≡ cond most (Some b.value) (Some a.value)
    go true true e f = refl
    go false false e f = refl
    go true false e f = absurd (grind (arith, ints))
    go false true e f = let same : a.value ≡ b.value = grind (arith, ints) in ap Some same

pub best-value : (best : Option IncumbentView) (rs : List ReportView) → value_in (best_of_all best rs) ≡ joined (value_in best) (values_told rs)
best-value best [] = refl
best-value best (r ∷ rs) = best-value (better_one best r.best) rs ∙ ap (λ (v : Option ℤ). joined v (values_told rs)) (better-value best r.best)

better-tested : (dp : Dp) (one other : Option IncumbentView) → IsTested dp one → IsTested dp other → IsTested dp (better_one one other)
better-tested dp None other h k = k
better-tested dp (Some a) None h k = h
better-tested dp (Some a) (Some b) h k = elim (int_lt a.value b.value) as (λ less. IsTested dp (cond less (Some b) (Some a))) [ true ↦ k | false ↦ h ]

pub best-tested : (dp : Dp) (digest : List ℕ) (of i : ℕ) (best : Option IncumbentView) (rs : List ReportView) → AreReports dp digest of i rs → IsTested dp best → IsTested dp (best_of_all best rs)
best-tested dp digest of i best [] are h = h
best-tested dp digest of i best (r ∷ rs) are h = best-tested dp digest of (i + 1) (better_one best r.best) rs are.1 (better-tested dp best r.best h are.0.tested)
