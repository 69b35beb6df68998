-- The board as data.
use Rattle.std.specs.Prelude.{ℕ, ◌+◌, ◌≤◌, ℤ, ◌+ℤ◌, Bool, List, [], ◌∷◌, ◌++◌, map, length, nat_eq, slice_get, Option, Some, None}
use Rattle.dp_model.specs.Distances.{IsDistance}
use Rattle.dp_model.specs.Solution.{Solution}
use Rattle.dp_model.specs.declared.limits.TheConstants.{MOST_WORKERS}
use Rattle.fringe.specs.Tickets.{Ticketed}
use Rattle.dominance_table.specs.Entries.{TableEntry}
use Rattle.board_laws.specs.declared.cause.Cause.{Cause}
use Rattle.board_laws.specs.declared.settings.Settings.{Settings}

-- the settings of a search: some workers and no more than may be, a width of at least 1, and a distance
pub record AreSettings (s : Settings) : Type 0 where
  pub some_workers : 1 ≤ s.workers
  pub few_workers : s.workers ≤ MOST_WORKERS
  pub some_width : 1 ≤ s.width
  pub distance : IsDistance s.within

-- the incumbent, the open subproblems in order of ticket, a slot for each worker, the entries of the dominance table in order of
-- ticket, the settings, the counts and the cause of a halt
pub record BoardState : Type 0 where
  pub incumbent : Option Solution
  pub open_ones : List Ticketed
  pub slots : List (Option Ticketed)
  pub entries : List TableEntry
  pub settings : Settings
  pub taken : ℕ
  pub finished : ℕ
  pub next_ticket : ℕ
  pub cause : Option Cause

-- the value of a solution, or none
abbrev pub value_held : Option Solution → Option ℤ
value_held None = None
value_held (Some best) = Some best.value

-- the incumbent's value, or none
abbrev pub incumbent_value : BoardState → Option ℤ
incumbent_value b = value_held b.incumbent

-- a value and the distance, or none
abbrev pub reach_of : ℤ → Option ℤ → Option ℤ
reach_of within None = None
reach_of within (Some value) = Some (value +ℤ within)

-- the reach: whatever is at most that is left out of the search
abbrev pub reach : BoardState → Option ℤ
reach b = reach_of b.settings.within (incumbent_value b)

-- what the full slots have
abbrev pub full_slots : List (Option Ticketed) → List Ticketed
full_slots [] = []
full_slots (None ∷ slots) = full_slots slots
full_slots (Some o ∷ slots) = o ∷ full_slots slots

-- what the slot of a worker has
abbrev pub slot_content : Option (Option Ticketed) → Option Ticketed
slot_content None = None
slot_content (Some slot) = slot

-- what a worker's slot has
abbrev pub slot_at : BoardState → ℕ → Option Ticketed
slot_at b who = slot_content (slice_get b.slots who)

-- the frontier: all that is out or open
abbrev pub frontier : BoardState → List Ticketed
frontier b = full_slots b.slots ++ b.open_ones

-- their prefixes
abbrev pub prefixes : List Ticketed → List (List ℕ)
prefixes os = map (λ o. o.subproblem.decisions) os

-- whether nothing is out or open
abbrev pub is_explored : BoardState → Bool
is_explored b = nat_eq (length b.open_ones + length (full_slots b.slots)) 0
