-- How children lie in memory.
use Rattle.std.specs.Prelude.{◌≡◌, ℕ, ◌+◌, ◌*◌, ◌^◌, ◌≤◌, ℤ, List, [], ◌∷◌, length, take, drop, Option, option_map}
use Rattle.dp_model.specs.Lists.{Each}
use Rattle.dp_model.specs.Solution.{Solution}
use Rattle.dp_model.specs.Subproblem.{Subproblem}
use Rattle.dp_laws.specs.Diagrams.Cutsets.{ChildAt}
use Rattle.exact_cutset.specs.declared.child.Child.{Child}

-- where a child stands, with its bound
abbrev pub child_place : Child → ChildAt
child_place c = record { depth = c.depth; place = c.node; bound = c.bound }

-- a child with its row and its decisions
abbrev pub shown_sub : Child → List ℤ → List ℕ → Subproblem
shown_sub c row path = record { decisions = path; row = row; value = c.value; bound = c.bound }

-- children whose rows and decisions stand one after another
abbrev pub shown_subs : ℕ → List Child → List ℤ → List ℕ → List Subproblem
shown_subs words [] rows paths = []
shown_subs words (c ∷ cs) rows paths = shown_sub c (take words rows) (take c.depth paths) ∷ shown_subs words cs (drop words rows) (drop c.depth paths)

-- how many decisions children have in all
abbrev pub depths_of : List Child → ℕ
depths_of [] = 0
depths_of (c ∷ cs) = c.depth + depths_of cs

-- the solution of a value and its decisions
abbrev pub shown_solution : Option ℤ → List ℕ → Option Solution
shown_solution value decisions = option_map (λ v. record { decisions = decisions; value = v }) value

-- there is room for this many children, and those that are there have their rows and their decisions
pub record HasChildren (words vars room : ℕ) (places : List Child) (places_room : ℕ) (rows : List ℤ) (rows_room : ℕ) (paths : List ℕ) (paths_room : ℕ) (decisions path : List ℕ) : Type 0 where
  pub few : length places ≤ room
  pub room_most : room ≤ 2 ^ 34
  pub vars_most : vars ≤ 1024
  pub places_hold : room ≤ places_room
  pub rows_hold : room * words ≤ rows_room
  pub paths_hold : room * vars ≤ paths_room
  pub rows_are : length rows ≡ length places * words
  pub paths_are : length paths ≡ depths_of places
  pub depths : Each (λ (c : Child). c.depth ≤ vars) places
  pub decisions_are : length decisions ≡ vars
  pub path_is : length path ≡ vars
