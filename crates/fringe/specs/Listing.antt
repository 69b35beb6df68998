-- The open subproblems with their tickets, as references to them.
use Rattle.std.specs.Prelude.{ℕ, List, [], ◌∷◌, Option, Some, None}
use Rattle.std.specs.Borrow.{Bor}
use Rattle.dp_model.specs.Subproblem.{SubView}
use Rattle.fringe.specs.Tickets.{Ticketed}

-- a ticket and a reference to its subproblem
abbrev pub referred : ℕ × Bor SubView → Ticketed
referred p = record { ticket = p.0; subproblem = p.1.now.subproblem }

-- the open ones in the order of their slots
abbrev pub in_slots : List (Option Ticketed) → List Ticketed
in_slots [] = []
in_slots (None ∷ slots) = in_slots slots
in_slots (Some o ∷ slots) = o ∷ in_slots slots
