-- What a board is restored from, in memory, as data.
use Rattle.std.specs.Borrow.{Bor}
use Rattle.std.specs.Prelude.{ℕ, List, map, Option, option_map}
use Rattle.dp_model.specs.Dp.{Dp}
use Rattle.dp_model.specs.Prefixes.{value_of}
use Rattle.dp_model.specs.Solution.{Solution}
use Rattle.dp_model.specs.Subproblem.{SubView}
use Rattle.fringe.specs.Tickets.{Ticketed}

-- subproblems with their tickets
abbrev pub ticketed : List (ℕ × SubView) → List Ticketed
ticketed opened = map (λ p. record { ticket = p.0; subproblem = p.1.subproblem }) opened

-- decisions with their value
abbrev pub solution_of : Dp → List ℕ → Solution
solution_of dp x = record { decisions = x; value = value_of dp x }

-- decisions with their value, or none
abbrev pub solution_in : Dp → Option (Bor (List ℕ)) → Option Solution
solution_in dp decisions = option_map (λ x. solution_of dp x.now) decisions
