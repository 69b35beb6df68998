-- The theories of the problems that the program knows: a new problem has a line of its own in each definition here.
use Rattle.std.specs.Prelude.{◌≡◌, refl, option_map}
use Rattle.problem_names.specs.declared.ModelName.{ModelName}
use Rattle.problem_names.specs.declared.ModelName.TheVariants.{Knapsack, MaxCut, MaxTwoSat, TspWindows, OneMachine, Table, Qubo}
use Rattle.problem_names.specs.ModelNames.{sizes_of}
use Rattle.problem_theory.specs.Theory.{Theory}
use Rattle.knapsack.specs.Theory.{knapsack_theory}
use Rattle.max_cut.specs.Theory.{cut_theory}
use Rattle.max_two_sat.specs.Theory.{sat_theory}
use Rattle.tsp_windows.specs.Theory.{tour_theory}
use Rattle.one_machine.specs.Theory.{order_theory}
use Rattle.table_model.specs.Theory.{table_theory}
use Rattle.qubo.specs.Theory.{qubo_theory}

abbrev pub theory_of : ModelName → Theory
theory_of Knapsack = knapsack_theory
theory_of MaxCut = cut_theory
theory_of MaxTwoSat = sat_theory
theory_of TspWindows = tour_theory
theory_of OneMachine = order_theory
theory_of Table = table_theory
theory_of Qubo = qubo_theory

-- instances are drawn of the sizes of the name
pub sizes_drawn : (name : ModelName) → option_map (λ d. d.sizes) (theory_of name).drawing ≡ sizes_of name
sizes_drawn Knapsack = refl
sizes_drawn MaxCut = refl
sizes_drawn MaxTwoSat = refl
sizes_drawn TspWindows = refl
sizes_drawn OneMachine = refl
sizes_drawn Table = refl
sizes_drawn Qubo = refl
