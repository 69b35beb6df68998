-- What reports tell of the parts of a board, and what follows for the best value.
use Rattle.std.specs.Prelude.{◌≡◌, ◌⊎◌, ℕ, zero, suc, ◌<◌, ℤ, pos, List, [], ◌∷◌, length, Option, None}
use Rattle.dp_model.specs.Best.{best}
use Rattle.dp_model.specs.Dp.{Dp}
use Rattle.dp_model.specs.Lists.{Each}
use Rattle.dp_model.specs.Numbers.{AtMost}
use Rattle.dp_model.specs.Prefixes.{IsCompletion, IsSolution, value_of}
use Rattle.board_laws.specs.Board.{BoardState, incumbent_value, reach_of}
use Rattle.frontier_parts.specs.Settled.{joined}
use Rattle.journal_replay.specs.Following.{snapshot_record}
use Rattle.journal_replay.specs.Parts.{starts_of}
use Rattle.part_records.specs.Parts.{dealt_record}
use Rattle.part_reports.specs.Reports.{ReportView, value_told, values_told}

-- the value that is told of the part with the number i; none where there is no report of it
abbrev pub told_of : List ReportView → ℕ → Option ℤ
told_of [] i = None
told_of (r ∷ rs) zero = value_told r
told_of (r ∷ rs) (suc i) = told_of rs i

-- the prefixes with which the part with the number i begins, of this number of parts of a board
abbrev pub part_starts : BoardState → ℕ → ℕ → List (List ℕ)
part_starts b of i = starts_of (dealt_record of i (snapshot_record b))

-- each completion of the prefixes of the part with the number i is at most the value that is told of it, or at most the incumbent
abbrev pub IsHeld : Dp → BoardState → List ReportView → ℕ → Type 0
IsHeld dp b rs i = Each (λ p. (x : List ℕ) → IsCompletion dp p x → AtMost (value_of dp x) (told_of rs i) ⊎ AtMost (value_of dp x) (incumbent_value b)) (part_starts b (length rs) i)

-- none is further above than the distance of the board's settings
abbrev pub IsHeldWithin : Dp → BoardState → List ReportView → ℕ → Type 0
IsHeldWithin dp b rs i =
    let within = b.settings.within in
    Each (λ p. (x : List ℕ) → IsCompletion dp p x → AtMost (value_of dp x) (reach_of within (told_of rs i)) ⊎ AtMost (value_of dp x) (reach_of within (incumbent_value b))) (part_starts b (length rs) i)

-- where each part is held, the joined value is the best one, or within the distance
pub record ReportsJoin (dp : Dp) (b : BoardState) (rs : List ReportView) : Type 0 where
  pub best : b.settings.within ≡ pos 0 → ((i : ℕ) → i < length rs → IsHeld dp b rs i) → joined (incumbent_value b) (values_told rs) ≡ best dp
  pub within : ((i : ℕ) → i < length rs → IsHeldWithin dp b rs i) → (x : List ℕ) → IsSolution dp x → AtMost (value_of dp x) (reach_of b.settings.within (joined (incumbent_value b) (values_told rs)))
