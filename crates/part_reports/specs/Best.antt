-- The best solution of an incumbent and of reports.
use Rattle.std.specs.Prelude.{ℤ, int_lt, cond, List, [], ◌∷◌, option_map, Option, Some, None}
use Rattle.journal_bytes.specs.Bodies.{IncumbentView}
use Rattle.part_reports.specs.Reports.{ReportView}

-- the value of a solution, or none
abbrev pub value_in : Option IncumbentView → Option ℤ
value_in best = option_map (λ (b : IncumbentView). b.value) best

-- the one with the greater value, and the first one where both have the same
abbrev pub better_one : Option IncumbentView → Option IncumbentView → Option IncumbentView
better_one None other = other
better_one (Some a) None = Some a
better_one (Some a) (Some b) = cond (int_lt a.value b.value) (Some b) (Some a)

-- the best of an incumbent and of the solutions of reports
abbrev pub best_of_all : Option IncumbentView → List ReportView → Option IncumbentView
best_of_all best [] = best
best_of_all best (r ∷ rs) = best_of_all (better_one best r.best) rs
