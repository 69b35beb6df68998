-- The feasible solutions of the program are the lists of truth values, with the weight that they satisfy.
use Rattle.std.specs.Prelude.{ℕ, List}
use Rattle.dp_model.specs.Solution.{SolutionGives}
use Rattle.pair_rows.specs.Laws.Solutions as rows
use Rattle.max_two_sat.specs.Instance.{Instance}
use Rattle.max_two_sat.specs.Limits.{IsWithinLimits}
use Rattle.max_two_sat.specs.OwnWords.{own_value}
use Rattle.pair_rows.specs.Program.{program_of}
use Rattle.max_two_sat.specs.Program.{rows_in}
use Rattle.max_two_sat.specs.Laws.Listing.{rows-kept, test-same, weight-same}

-- a list of decisions is a feasible solution exactly where it has a value in the problem's own words, and the values are equal
pub own_value-agrees : (i : Instance) (xs : List ℕ) → IsWithinLimits i → SolutionGives (program_of (rows_in i)) xs (own_value i xs)
own_value-agrees i xs kept =
    rw (test-same i xs, weight-same i xs) (rows.own_value-agrees (rows_in i) xs (rows-kept i kept))
