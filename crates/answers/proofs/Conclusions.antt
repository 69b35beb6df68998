-- What a search that is over may answer.
use Rattle.std.proofs.Common.{◌≡◌, ◌≢◌, ℕ, ◌+◌, ℤ, pos, ◌+ℤ◌, ◌≤ℤ◌, List, [], ◌∷◌, ◌++◌, length, true, false, nat_eq, Option, Some, None, refl, sym, ◌∙◌, ap, subst, arith}
use Rattle.std.proofs.lemmas.Int.{ints}
use Rattle.dp_model.specs.Solution.{Solution, IsSolutionWith, SolutionGives}
use Rattle.bound_cover.specs.Exploring.{HoldsAll}
use Rattle.bound_cover.specs.Proved.{LiesWithin}
use Rattle.dp_model.specs.Best.{best, IsBest}
use Rattle.dp_model.specs.Dp.{Dp}
use Rattle.dp_model.specs.Prefixes.{IsSolution, value_of}
use Rattle.dp_model.proofs.Solutions.{best-is_best, IsBest-unique, given_value, given_none}
use Rattle.problem_theory.specs.Theory.{Agrees}
use Rattle.fringe.specs.Bounds.{raised}
use Rattle.board_laws.specs.Bound.{raised_by}
use Rattle.fringe.specs.Tickets.{Ticketed}
use Rattle.board_laws.specs.Board.{BoardState, full_slots, value_held, reach, reach_of, is_explored}
use Rattle.board_laws.specs.declared.settings.Settings.{Settings}
use Rattle.board_laws.proofs.Running.{run-follows}
use Rattle.board_laws.specs.Bound.{board_bound}
use Rattle.board_laws.specs.GoodBoard.{IncumbentHolds, IsBoard, IsGood}
use Rattle.solver_report.specs.declared.answer.Stop.{Stop}
use Rattle.solver_report.specs.declared.answer.Stop.TheVariants.{Budget, Memory, Journal}
use Rattle.answers.specs.Outcomes.{StopHolds, IsBounded, IsExploredWith, IsStopped}
use Rattle.answers.specs.Reports.{IsFeasible, IncumbentIsFeasible, NoneIsWorthMore, IsProvedWithin, IsInfeasible}
use Rattle.answers.specs.Over.{IsOver}
use Rattle.solver_words.specs.declared.job.JobSettings.{JobSettings}

-- an incumbent is a solution in the problem's own words too
pub found_one : (dp : Dp) (own : List ℕ → Option ℤ) → Agrees dp own → (found : Solution) → IsSolutionWith dp found.decisions found.value → IsFeasible dp own found
found_one dp own agrees found h = record {
  solution = h.solution;
  value = h.value;
  own_words = given_value dp found.decisions (own found.decisions) (agrees found.decisions) h.solution ∙ ap Some (sym h.value);
}

pub found_holds : (dp : Dp) (own : List ℕ → Option ℤ) → Agrees dp own → (found : Option Solution) → IncumbentHolds dp found → IncumbentIsFeasible dp own found
found_holds dp own agrees None h = tt
found_holds dp own agrees (Some found) h = found_one dp own agrees found h

-- the incumbent of an explored board is feasible
pub explored_with : (dp : Dp) (own : List ℕ → Option ℤ) → Agrees dp own → (b : BoardState) (found : Option Solution) → is_explored b ≡ true → IsBoard dp b → found ≡ b.incumbent → IsExploredWith dp own b found
explored_with dp own agrees b found all kept same = record {
  explored = all;
  held = sym same;
  found_one = found_holds dp own agrees found (subst (IncumbentHolds dp) (sym same) kept.incumbent);
}

-- ---- nothing that exceeds a number

-- where no feasible solution exceeds a number, no list is worth more in the problem's own words
none_worth_more : (dp : Dp) (own : List ℕ → Option ℤ) → Agrees dp own → (value : ℤ) → HoldsAll dp (Some value) → NoneIsWorthMore own value
none_worth_more dp own agrees value most x worth is =
    let found : IsSolutionWith dp x worth = subst (SolutionGives dp x) is (agrees x) in
    let up = most x found.solution in
    let same = found.value in
    omega (arith, ints)

-- where the best value lies within a distance of a value, no feasible solution exceeds both
pub none_exceeds : (dp : Dp) (greatest : Option ℤ) → IsBest dp greatest → (value within : ℤ) → LiesWithin greatest (Some value) within → HoldsAll dp (Some (value +ℤ within))
none_exceeds dp None is value within near x solution = absurd near
none_exceeds dp (Some g) is value within near x solution =
    let least : value_of dp x ≤ℤ g = is.most x solution in
    let most = near.1 in omega (arith, ints)

-- and where none exceeds the value of a solution and the distance, the best value lies within the distance of it
near_best : (dp : Dp) (greatest : Option ℤ) → IsBest dp greatest → (x : List ℕ) (value within : ℤ) → IsSolutionWith dp x value → HoldsAll dp (Some (value +ℤ within)) → LiesWithin greatest (Some value) within
near_best dp None is x value within h most = absurd (is x h.solution)
near_best dp (Some g) is x value within h most =
    let least : value_of dp x ≤ℤ g = is.most x h.solution in
    let greatest : value_of dp is.by ≤ℤ (value +ℤ within) = most is.by is.solution in
    let same = h.value in let at = is.value in
    (omega (arith, ints), omega (arith, ints))

-- without a distance it is the value
exact_best : (greatest : Option ℤ) (value within : ℤ) → within ≡ pos 0 → LiesWithin greatest (Some value) within → greatest ≡ Some value
exact_best None value within zero near = absurd near
exact_best (Some g) value within zero near =
    let least = near.0 in let most = near.1 in
    let same : g ≡ value = omega (arith, ints) in ap Some same

-- ---- what is told is true

-- a solution near the best value is proved within the distance
pub proved_near : (dp : Dp) (own : List ℕ → Option ℤ) → Agrees dp own → (within : ℤ) (found : Solution) → IsSolutionWith dp found.decisions found.value → LiesWithin (best dp) (Some found.value) within → IsProvedWithin dp own within found
proved_near dp own agrees within found h near =
    let one = found_one dp own agrees found h in
    let own_near = none_worth_more dp own agrees (found.value +ℤ within) (none_exceeds dp (best dp) (best-is_best dp) found.value within near) in
    record {
      found_one = one;
      near = near;
      own_near = own_near;
      exact = λ zero. record {
        found_one = one;
        is_best = exact_best (best dp) found.value within zero near;
        own_best = (let same : found.value +ℤ within ≡ found.value = omega (arith, ints, zero) in subst (NoneIsWorthMore own) same own_near);
      };
    }

-- where no feasible solution exceeds the reach, the incumbent is proved within the distance of that
pub reach_proved : (dp : Dp) (own : List ℕ → Option ℤ) → Agrees dp own → (within : ℤ) (held : Option Solution) (found : Solution) → Some found ≡ held → IncumbentHolds dp held → HoldsAll dp (reach_of within (value_held held)) → IsProvedWithin dp own within found
reach_proved dp own agrees within held found same h most =
    let solution : IsSolutionWith dp found.decisions found.value = subst (IncumbentHolds dp) (sym same) h in
    let none : HoldsAll dp (Some (found.value +ℤ within)) = subst (λ b. HoldsAll dp (reach_of within (value_held b))) (sym same) most in
    proved_near dp own agrees within found solution (near_best dp (best dp) (best-is_best dp) found.decisions found.value within solution none)

-- where there is no feasible solution in the states and gains, no list is one in the problem's own words
pub infeasible : (dp : Dp) (own : List ℕ → Option ℤ) → Agrees dp own → ((x : List ℕ) → IsSolution dp x → ⊥) → IsInfeasible dp own
infeasible dp own agrees never = record {
  no_best = sym (IsBest-unique dp None (best dp) never (best-is_best dp));
  no_solution = never;
  no_own = λ x. given_none dp x (own x) (agrees x) (never x);
}

-- so it is where nothing is the reach
pub reach_infeasible : (dp : Dp) (own : List ℕ → Option ℤ) → Agrees dp own → (within : ℤ) (held : Option Solution) → None ≡ held → HoldsAll dp (reach_of within (value_held held)) → IsInfeasible dp own
reach_infeasible dp own agrees within held same most = infeasible dp own agrees (subst (λ b. HoldsAll dp (reach_of within (value_held b))) (sym same) most)

-- ---- a search that ends early

-- something is open where nothing is out and the board is not explored
open_left : (os : List Ticketed) (out : List Ticketed) → out ≡ [] → nat_eq (length os + length out) 0 ≡ false → os ≢ []
open_left os out idle left none =
    let few : length os ≡ 0 = ap length none in
    let zero_out : length out ≡ 0 = ap length idle in
    grind arith

raised_by-some : (most : Option ℤ) (y : ℤ) (os : List Ticketed) → most ≡ Some y → raised_by most os ≡ None → ⊥
raised_by-some most y [] e h = absurd (cc)
raised_by-some None y (o ∷ os) e h = absurd (cc)
raised_by-some (Some x) y (o ∷ os) e h = raised_by-some (raised (Some x) o.subproblem.bound) _ os refl h

-- a board with something open has a bound
raised_by-open : (most : Option ℤ) (os : List Ticketed) → os ≢ [] → raised_by most os ≡ None → ⊥
raised_by-open most [] some h = absurd (some refl)
raised_by-open None (o ∷ os) some h = raised_by-some (Some o.subproblem.bound) o.subproblem.bound os refl h
raised_by-open (Some y) (o ∷ os) some h = raised_by-some (raised (Some y) o.subproblem.bound) _ os refl h

no_append : {X : Type 0} (xs ys : List X) → ys ≢ [] → xs ++ ys ≡ [] → ⊥
no_append [] ys some h = some h
no_append (x ∷ xs) ys some h = absurd (cc)

pub bound_there : (dp : Dp) (search : JobSettings) (first b : BoardState) → IsOver dp search first b → is_explored b ≡ false → board_bound b ≡ None → ⊥
bound_there dp search first b over left h =
    let some = open_left b.open_ones (full_slots b.slots) over.idle left in
    raised_by-open (reach b) (full_slots b.slots ++ b.open_ones) (no_append (full_slots b.slots) b.open_ones some) h

-- a search that is over with something open is stopped, for the reason that holds
pub is_stopped : (dp : Dp) (own : List ℕ → Option ℤ) → Agrees dp own → (search : JobSettings) (first b : BoardState) (stop : Stop) (found : Option Solution) (bound : ℤ)
    → IsBoard dp b → IsOver dp search first b → is_explored b ≡ false → found ≡ b.incumbent → board_bound b ≡ Some bound → StopHolds b stop → IsStopped dp own b stop found bound
is_stopped dp own agrees search first b stop found bound kept over left same bound_is holds = record {
  something_open = open_left b.open_ones (full_slots b.slots) over.idle left;
  holds = holds;
  held = sym same;
  found_one = found_holds dp own agrees found (subst (IncumbentHolds dp) (sym same) kept.incumbent);
  bound_is = bound_is;
}

-- where it is stopped for the budget no cause is held
no_cause : (b : BoardState) (stop : Stop) → StopHolds b stop → stop ≡ Budget → b.cause ≡ None
no_cause b Budget holds e = holds.1
no_cause b Memory holds e = absurd (cc)
no_cause b Journal holds e = absurd (cc)

-- its bound is true, and where it is stopped for the budget this or the tickets do not suffice for every prefix
pub is_bounded : (dp : Dp) (own : List ℕ → Option ℤ) → Agrees dp own → (search : JobSettings) (first b : BoardState) (stop : Stop) (bound : ℤ)
    → IsOver dp search first b → is_explored b ≡ false → IsGood dp first → HoldsAll dp (Some bound) → StopHolds b stop
    → IsBounded dp own search.budget stop bound
is_bounded dp own agrees search first b stop bound over left good most holds = record {
  most = most;
  own_most = none_worth_more dp own agrees bound most;
  incomplete = λ e enough tickets.
      let all : is_explored b ≡ true = over.complete good enough tickets (no_cause b stop holds e) in
      absurd (cc);
}

-- ---- the search that is over

-- its distance is the one that it was asked for
pub over_distance : (dp : Dp) (search : JobSettings) (first b : BoardState) → IsOver dp search first b → b.settings.within ≡ search.within
over_distance dp search first b over = ap (λ (s : Settings). s.within) (run-follows dp first over.steps b over.run).settings ∙ over.distance
