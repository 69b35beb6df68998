-- The cuts are the feasible solutions of the program, with the weight across as their value.
use Rattle.std.proofs.Common.{◌≡◌, ℕ, List, Bool, true, false, Some, None, sym, ◌∙◌, subst, refl, cond}
use Rattle.dp_model.specs.Solution.{SolutionGives}
use Rattle.pair_rows.specs.OwnWords as plain
use Rattle.pair_rows.specs.Program.{program_of}
use Rattle.pair_rows.specs.Laws.Solutions.{own_value-agrees}
use Rattle.max_cut.specs.Graph.{Graph, IsGraph}
use Rattle.max_cut.specs.Program.{rows_in}
use Rattle.max_cut.specs.Laws.Listing.{rows-kept, test-same, weight-same}
use Rattle.max_cut.specs.Cuts.{weight_across, is_cut, cut_value}

own_words_by : (g : Graph) → IsGraph g → (x : List ℕ) (b : Bool) → is_cut g x ≡ b → SolutionGives (program_of (rows_in g)) x (cond b (Some (plain.value_of_all (rows_in g) x)) None)
    → SolutionGives (program_of (rows_in g)) x (cond b (Some (weight_across g.weights x)) None)
own_words_by g h x true e agrees = record { solution = agrees.solution; value = weight-same g h x e ∙ agrees.value }
own_words_by g h x false e agrees = agrees

-- the weight across is the value of the feasible solution, and there is none where there is no cut
pub own_words_solve : (g : Graph) → IsGraph g → (x : List ℕ) → SolutionGives (program_of (rows_in g)) x (cut_value g x)
own_words_solve g h x =
    own_words_by g h x (is_cut g x) refl
    (subst (λ b. SolutionGives (program_of (rows_in g)) x (cond b (Some (plain.value_of_all (rows_in g) x)) None)) (sym (test-same g x)) (own_value-agrees (rows_in g) x (rows-kept g h)))
