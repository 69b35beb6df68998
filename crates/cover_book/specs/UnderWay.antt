-- Explorations under way.
use Rattle.std.specs.Prelude.{◌≡◌, ℕ, ◌+◌, ◌≤◌, ℤ, List, length, drop, slice_get, Option, option_map}
use Rattle.dp_model.specs.Dp.{Dp}
use Rattle.dp_model.specs.Subproblem.{Subproblem}
use Rattle.bound_cover.specs.Covers.{CoverRow}
use Rattle.bound_cover.specs.Exploring.{HoldsAll}
use Rattle.bound_cover.specs.DraftRows.{IsDraft}
use Rattle.cover_book.specs.declared.waiting.WaitingRow.{WaitingRow}
use Rattle.cover_book.specs.declared.exploration.Exploration.{Exploration}
use Rattle.cover_book.specs.Waits.{waiting_of, AreOwn}

-- the rows from a place on wait, and, where no feasible solution has more than the claim, each row passes its tests or waits
pub record IsOnTheWay (dp : Dp) (claim : Option ℤ) (next : ℕ) (rows : List (List CoverRow)) (waiting : List WaitingRow) : Type 0 where
  pub few : next ≤ length waiting
  pub long : length rows ≡ dp.vars + 1
  pub own : AreOwn dp waiting
  pub draft : HoldsAll dp claim → IsDraft dp claim rows (drop next (waiting_of waiting))

-- an exploration that began at the root and has gone some steps
abbrev pub IsUnderWay : Dp → Exploration → Type 0
IsUnderWay dp e = IsOnTheWay dp e.claim e.next e.rows.items e.waiting.items

-- the prefix of the row that waits next
abbrev pub waits_next : Exploration → Option Subproblem
waits_next e = option_map (λ (w : WaitingRow). w.sub.subproblem) (slice_get e.waiting.items e.next)
