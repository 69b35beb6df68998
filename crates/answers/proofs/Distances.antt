-- The first report with another distance.
use Rattle.std.proofs.Common.{◌≡◌, ◌≢◌, inl, ℕ, ◌≤◌, ◌<◌, ℤ, List, [], ◌∷◌, length, map, refl, ◌∙◌, ap, arith}
use Rattle.std.specs.Prelude.{get_or}
use Rattle.part_text.specs.Reports.{settled_view}
use Rattle.part_text.specs.declared.settled_report.SettledReport.{SettledReport}
use Rattle.answers.specs.ReportsJoined.{AreWithin, IsFirstFar}

pub far-first : (within : ℤ) (i : ℕ) (rs : List SettledReport) (r : SettledReport) → 1 ≤ length rs → r ≡ get_or rs 0 r → r.within ≢ within → IsFirstFar within i (map settled_view rs) i
far-first within i [] r some is other = absurd (omega (arith, some))
far-first within i (q ∷ qs) r some is other = inl (refl, λ same. other (ap (λ (s : SettledReport). s.within) is ∙ same))

pub none-far : (within : ℤ) (rs : List SettledReport) → length rs < 1 → AreWithin within (map settled_view rs)
none-far within [] few = tt
none-far within (q ∷ qs) few = absurd (omega (arith, few))
