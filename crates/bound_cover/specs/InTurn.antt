-- The tests of a cover whose layers come one after another.
use Rattle.std.specs.Prelude.{ℕ, ◌+◌, ◌-◌, nat_eq, nat_lt, ℤ, cond, List, [], ◌∷◌, Option, Some, None}
use Rattle.dp_model.specs.Dp.{Dp}
use Rattle.bound_cover.specs.declared.cover.Why.{Why}
use Rattle.bound_cover.specs.declared.cover.Why.TheVariants.{Root, Layers}
use Rattle.bound_cover.specs.declared.cover.Verdict.{Verdict}
use Rattle.bound_cover.specs.declared.layer_tests.LayerTests.{LayerTests}
use Rattle.bound_cover.specs.Covers.{CoverRow}
use Rattle.bound_cover.specs.Exploring.{layer_of}
use Rattle.bound_cover.specs.Tests.{unless, first_of}
use Rattle.bound_cover.specs.Verdicts.{rows_fault, has_root, solution_fault, claim_of, verdict_of}

-- the failure of the first layer: one of its rows has to cover the root
abbrev pub root_fault : Dp → Option ℤ → List CoverRow → Option Why
root_fault dp claim first = unless (has_root dp claim first) Root

-- the first failure of the rows of a layer, whose arcs lead to the next one
abbrev pub pair_fault : Dp → ℕ → List CoverRow → List CoverRow → Option Why
pair_fault dp k here next = rows_fault dp k next 0 here

-- of the rows of the last layer
abbrev pub last_rows_fault : Dp → List CoverRow → Option Why
last_rows_fault dp here = rows_fault dp dp.vars [] 0 here

-- what can be tested once a further layer is there, after this many; layers after the model's last one are not looked at
abbrev pub layer_fault : Dp → Option ℤ → ℕ → List CoverRow → List CoverRow → Option Why
layer_fault dp claim count here next =
    cond (nat_eq count 0) (root_fault dp claim next) (cond (nat_lt (count - 1) dp.vars) (pair_fault dp (count - 1) here next) None)

-- before the first layer, where the assignment has this failure or none; the claim counts where it has none
abbrev pub begun_with : Option Why → Option ℤ → LayerTests
begun_with None claim = record { claim = claim; count = 0; here = []; why = None }
begun_with (Some why) claim = record { claim = None; count = 0; here = []; why = Some why }

-- the tests before the first layer: those of the assignment and its value
abbrev pub begun : Dp → Option ℤ → ℤ → List ℕ → LayerTests
begun dp best within x = begun_with (solution_fault dp best x) (claim_of best within)

-- with a further layer, which is the first one of a cover
abbrev pub taken : Dp → LayerTests → List (List CoverRow) → LayerTests
taken dp t next = record {
  claim = t.claim;
  count = t.count + 1;
  here = next;
  why = first_of t.why (layer_fault dp t.claim t.count (layer_of t.here 0) (layer_of next 0));
}

-- with further layers, each of which comes alone
abbrev pub all_taken : Dp → LayerTests → List (List CoverRow) → LayerTests
all_taken dp t [] = t
all_taken dp t (layer ∷ layers) = all_taken dp (taken dp t (layer ∷ [])) layers

-- the verdict after the last layer
abbrev pub concluded : Dp → LayerTests → Verdict
concluded dp t = verdict_of (cond (nat_eq t.count (dp.vars + 1)) (first_of t.why (last_rows_fault dp (layer_of t.here 0))) (Some Layers))
