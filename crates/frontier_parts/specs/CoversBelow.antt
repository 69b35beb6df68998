-- The cover below a prefix, and the cover above covers of further prefixes.
use Rattle.std.specs.Prelude.{◌≡◌, ℕ, ◌+◌, ◌-◌, ℤ, Bool, IsTrue, ◌&&◌, List, [], ◌∷◌, ◌++◌, length, map, filter, replicate, slice_get, Option, Some, None}
use Rattle.dp_model.specs.Dp.{Dp}
use Rattle.dp_model.specs.Decisions.{below}
use Rattle.dp_model.specs.Lists.{Each}
use Rattle.dp_model.specs.Prefixes.{state_of, value_of}
use Rattle.bound_cover.specs.declared.cover.CoverArc.{CoverArc}
use Rattle.bound_cover.specs.Covers.{CoverRow}
use Rattle.bound_cover.specs.Tests.{is_state_row}
use Rattle.bound_cover.specs.Exploring.{rest_of}
use Rattle.bound_cover.specs.Verdicts.{first_layer, layers_fault, covers_root}
use Rattle.frontier_parts.specs.Beside.{beside}

-- whether the row is a state that covers the prefix's own within the claim
abbrev pub own_test : Dp → Option ℤ → List ℕ → CoverRow → Bool
own_test dp claim p row = is_state_row dp (length p) row.words && covers_root (dp.gap (length p) row.words (state_of dp p)) (value_of dp p) row.bound claim

-- layers from the prefix's own on, whose rows pass, with a row at the place that covers the prefix within the claim
pub record IsCoverBelow (dp : Dp) (claim : Option ℤ) (p : List ℕ) (layers : List (List CoverRow)) (place : ℕ) : Type 0 where
  pub long : length p + length layers ≡ dp.vars + 1
  pub passes : layers_fault dp (length p) layers ≡ None
  pub row : CoverRow
  pub at : slice_get (first_layer layers) place ≡ Some row
  pub test : IsTrue (own_test dp claim p row)

-- the cover below a prefix that is longer by a decision, and the place of its first row
pub record Branch : Type 0 where
  pub decision : ℕ
  pub layers : List (List CoverRow)
  pub place : ℕ

-- the branches beside each other
abbrev pub all_beside : ℕ → List Branch → List (List CoverRow)
all_beside n [] = replicate n []
all_beside n (branch ∷ branches) = beside branch.layers (all_beside n branches)

-- an arc to each branch, of which the first stands after this many rows
abbrev pub arcs_to : ℕ → List Branch → List CoverArc
arcs_to before [] = []
arcs_to before (branch ∷ branches) = record { decision = branch.decision; target = Some (before + branch.place) } ∷ arcs_to (before + length (first_layer branch.layers)) branches

-- the prefix's own row, with what is left of the claim as its bound
abbrev pub branching_row : Dp → Option ℤ → List ℕ → List Branch → CoverRow
branching_row dp claim q branches = record { bound = rest_of claim (value_of dp q); words = state_of dp q; arcs = Some (arcs_to 0 branches) }

abbrev pub branching_cover : Dp → Option ℤ → List ℕ → List Branch → List (List CoverRow)
branching_cover dp claim q branches = (branching_row dp claim q branches ∷ []) ∷ all_beside (dp.vars - length q) branches

-- the decisions that are allowed after a prefix
abbrev pub goes_on : Dp → List ℕ → List ℕ
goes_on dp q = filter (dp.allowed (length q) (state_of dp q)) (below (dp.choices (length q)))

-- there is a branch for each decision that is allowed, in order, and each is a cover below its prefix
pub record AreBranches (dp : Dp) (claim : Option ℤ) (q : List ℕ) (branches : List Branch) : Type 0 where
  pub all : map (λ (branch : Branch). branch.decision) branches ≡ goes_on dp q
  pub covers : Each (λ (branch : Branch). IsCoverBelow dp claim (q ++ branch.decision ∷ []) branch.layers branch.place) branches
