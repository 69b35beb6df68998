-- The first board is a good one.
use Rattle.std.proofs.Common.{◌≡◌, ℕ, ◌<◌, ℤ, pos, ◌+ℤ◌, ◌≤ℤ◌, List, [], ◌∷◌, length, Bool, true, false, cond, nat_eq, Option, Some, None, inl, inr, refl, sym, ◌∙◌, ap, subst, arith}
use Rattle.std.proofs.lemmas.Bool.Decides.{nat_tests}
use Rattle.std.proofs.lemmas.Int.{ints}
use Rattle.std.proofs.lemmas.List.Sums.{sum_by-cons}
use Rattle.dp_model.specs.Solution.{Solution}
use Rattle.dp_model.specs.Cover.{Covers}
use Rattle.dp_model.specs.Dp.{Dp}
use Rattle.dp_model.specs.Gaps.{IsStateOf}
use Rattle.dp_model.specs.Laws.{IsLawful}
use Rattle.dp_model.specs.Numbers.{AtMost, add_some}
use Rattle.dp_model.specs.Prefixes.{IsSolution, IsContinuation, value_of, gain_of}
use Rattle.dp_laws.proofs.Counting.{pots-positive}
use Rattle.fringe.specs.Tickets.{Ticketed}
use Rattle.board_laws.specs.Board.{AreSettings, reach_of, value_held}
use Rattle.board_laws.specs.GoodBoard.{IncumbentHolds, pot_of, share_of}
use Rattle.board_laws.specs.Laws.{IsFirstGood}
use Rattle.board_laws.specs.Restoring.{IsListSound}
use Rattle.board_laws.specs.Starts.{whole_search}
use Rattle.board_laws.specs.Steps.{root_with, root_subproblem, root_opened, first_incumbent, first_open}
use Rattle.board_laws.specs.declared.settings.Settings.{Settings}
use Rattle.board_laws.proofs.Fresh.{Opens, fresh-board, fresh-good}

-- what holds of the incumbent and the open subproblems at the start of a search
record Begins (dp : Dp) (within : ℤ) (best : Option Solution) (os : List Ticketed) : Type 0 where
  pub opens : Opens dp within best os (length os)
  pub sound : IsListSound dp within 0 best os (length os)

no-decisions : (x : List ℕ) → length x ≡ 0 → x ≡ []
no-decisions [] h = refl
no-decisions (d ∷ x) h = absurd (omega arith)

root_value-is : (dp : Dp) → dp.root_value ≡ value_of dp []
root_value-is dp = omega (arith, ints)

-- a whole list of decisions from the root
from-root : (dp : Dp) (x : List ℕ) → IsSolution dp x → IsContinuation dp 0 dp.root x
from-root dp x s = let whole = s.whole in record { path = s.prefix; whole = omega arith }

pub root-state : (dp : Dp) → IsLawful dp → IsStateOf dp 0 dp.root
root-state dp laws = record { layer = omega arith; test = laws.states.root }

-- where nothing is open, the incumbent alone covers
begins-none : (dp : Dp) (within : ℤ) (best : Option Solution) → IncumbentHolds dp best → Covers dp (reach_of within (value_held best)) [] → Begins dp within best []
begins-none dp within best incumbent covers = record {
  opens = record { incumbent = incumbent; own = tt; far = tt; above = tt; ordered = tt; different = tt; given = tt };
  sound = record { covers = λ x s begun. covers x s; held = tt; apart = tt; ends = omega arith; shares = omega arith };
}

begins-whole : (dp : Dp) (within : ℤ) → pos 0 ≤ℤ within → dp.vars ≡ 0 → Begins dp within (Some (record { decisions = []; value = dp.root_value })) []
begins-whole dp within least none =
    begins-none dp within (Some (record { decisions = []; value = dp.root_value }))
    (record { solution = record { prefix = tt; whole = sym none }; value = root_value-is dp })
    (λ x s.
    let whole : length x ≡ 0 = s.whole ∙ none in
    let same : value_of dp x ≡ value_of dp [] = ap (value_of dp) (no-decisions x whole) in
    let root = root_value-is dp in
    let most : value_of dp x ≤ℤ (dp.root_value +ℤ within) = omega (arith, ints) in inl most)

begins-root : (dp : Dp) (within : ℤ) → IsLawful dp → 0 < dp.vars → (rough : Option ℤ) → dp.rough 0 dp.root ≡ rough → Begins dp within None (root_opened (root_with dp (add_some dp.root_value rough)))
begins-root dp within laws some None is =
    begins-none dp within None tt (λ x s. absurd (subst (λ r. AtMost (gain_of dp 0 dp.root x) r) is (laws.rough.bounds 0 dp.root x (root-state dp laws) (from-root dp x s))))
begins-root dp within laws some (Some rough) is =
    let root : Ticketed = record { ticket = 0; subproblem = record { decisions = []; row = dp.root; value = dp.root_value; bound = dp.root_value +ℤ rough } } in
    let ends = sum_by-cons (pot_of dp) root [] in
    let shares = sum_by-cons (share_of dp) root [] in
    let one = pots-positive dp [] some in
    let value = laws.sizes.root_value in
    let small = laws.sizes.rough 0 dp.root rough (root-state dp laws) is in
    let value_low = value.low in let value_high = value.high in let rough_low = small.low in let rough_high = small.high in
    record {
      opens = record {
        incumbent = tt;
        own = (record { prefix = tt; row = refl; value = root_value-is dp; shorter = some }, tt);
        far = (record { low = omega (arith, ints); high = omega (arith, ints) }, tt);
        above = (refl, tt);
        ordered = (tt, tt);
        different = (tt, tt);
        given = (omega arith, tt);
      };
      sound = record {
        covers = λ x s begun. inr (inl (record { by = x; completion = record { solution = s; rest = x; begins = refl }; least = omega (arith, ints) }));
        held = (
          (λ x c.
              let most : gain_of dp 0 dp.root x ≤ℤ rough = subst (λ r. AtMost (gain_of dp 0 dp.root x) r) is (laws.rough.bounds 0 dp.root x (root-state dp laws) (from-root dp x c.solution)) in
              let within : value_of dp x ≤ℤ (dp.root_value +ℤ rough) = omega (arith, ints) in inl within),
          tt,
        );
        apart = (tt, tt);
        ends = omega arith;
        shares = omega arith;
      };
    }

first-begins : (dp : Dp) (within : ℤ) → pos 0 ≤ℤ within → IsLawful dp → Begins dp within (first_incumbent dp) (first_open dp)
first-begins dp within least laws =
    let Goal : Bool → Type 0 = λ b. Begins dp within (cond b (Some (record { decisions = []; value = dp.root_value })) None) (cond b [] (root_opened (root_subproblem dp))) in
    let go : (b : Bool) → nat_eq dp.vars 0 ≡ b → Goal b = λ b. elim b as (λ b. nat_eq dp.vars 0 ≡ b → Goal b) [
      | true ↦ λ e. begins-whole dp within least (grind (arith, nat_tests))
      | false ↦ λ e. begins-root dp within laws (grind (arith, nat_tests)) (dp.rough 0 dp.root) refl
    ] in
    go (nat_eq dp.vars 0) refl

pub first-is-good : (dp : Dp) → IsLawful dp → (settings : Settings) → AreSettings settings → IsFirstGood dp settings
first-is-good dp laws settings are =
    let begins = first-begins dp settings.within are.distance.least laws in
    record {
      board = fresh-board dp settings (first_incumbent dp) (first_open dp) (length (first_open dp)) are begins.opens;
      good = fresh-good dp whole_search settings 0 (first_incumbent dp) (first_open dp) (length (first_open dp)) begins.sound;
    }
