-- The fates of children, all decided before any of them enters.
use Rattle.std.specs.Prelude.{ℕ, ◌+◌, ℤ, cond, int_le, List, [], ◌∷◌, length, Option, Some, None}
use Rattle.dp_model.specs.Dp.{Dp}
use Rattle.dp_model.specs.Numbers.{is_above}
use Rattle.dp_model.specs.Subproblem.{Subproblem}
use Rattle.fringe.specs.Fringe.{same_open}
use Rattle.fringe.specs.Tickets.{Ticketed}
use Rattle.dominance_table.specs.Dominator.{dominator}
use Rattle.dominance_table.specs.Entries.{TableEntry}
use Rattle.board_laws.specs.declared.fate.Fate.{Fate}
use Rattle.board_laws.specs.declared.fate.Fate.TheVariants.{Below, Kept, Dominated, Replaced, Entered}
use Rattle.board_laws.specs.Board.{BoardState, reach}

-- a child enters, beside the others or in the place of one
abbrev pub enters_at : ℕ → Option Ticketed → Fate
enters_at ticket None = Entered ticket
enters_at ticket (Some o) = Replaced ticket o.ticket

-- the fate, unless an entry of the table dominates the child
abbrev pub unless_dominated : Fate → Option ℕ → Fate
unless_dominated fate None = fate
unless_dominated fate (Some by) = Dominated by

-- the fate, unless an open one of the same state has no less value
abbrev pub unless_kept : Fate → Subproblem → Option Ticketed → Fate
unless_kept fate c None = fate
unless_kept fate c (Some o) = cond (int_le c.value o.subproblem.value) (Kept o.ticket) fate

-- the first fate that applies, beside these open subproblems and entries, where the child would enter with this ticket
abbrev pub fate_of : Dp → Option ℤ → List Ticketed → List TableEntry → ℕ → Subproblem → Fate
fate_of dp reach os es ticket c =
    cond (is_above reach c.bound)
    (unless_kept (unless_dominated (enters_at ticket (same_open c os)) (dominator dp es (length c.decisions) c.row c.value)) c (same_open c os))
    Below

-- the next ticket after a fate
abbrev pub ticket_after : ℕ → Fate → ℕ
ticket_after ticket Below = ticket
ticket_after ticket (Kept by) = ticket
ticket_after ticket (Dominated by) = ticket
ticket_after ticket (Replaced own old) = ticket + 1
ticket_after ticket (Entered own) = ticket + 1

-- the next ticket after fates
abbrev pub tickets_after : ℕ → List Fate → ℕ
tickets_after ticket [] = ticket
tickets_after ticket (f ∷ fs) = tickets_after (ticket_after ticket f) fs

-- the fates of a list by a decider, where each child that enters takes the next ticket
abbrev pub fates_by : (ℕ → Subproblem → Fate) → ℕ → List Subproblem → List Fate
fates_by decide ticket [] = []
fates_by decide ticket (c ∷ cs) = decide ticket c ∷ fates_by decide (ticket_after ticket (decide ticket c)) cs

-- the fates of children on a board
abbrev pub fates_on : Dp → BoardState → List Subproblem → List Fate
fates_on dp b cs = fates_by (fate_of dp (reach b) b.open_ones b.entries) b.next_ticket cs
