-- What boards tell of start prefixes and of a frontier.
use Rattle.std.proofs.Common.{ℕ, ℤ, List, Option, Some, None, ◌⊎◌, inl, inr, refl, sym, subst, IsTrue}
use Rattle.dp_laws.proofs.Reaches.{at-most-raised}
use Rattle.dp_model.specs.Cover.{Covers}
use Rattle.dp_model.specs.Dp.{Dp}
use Rattle.dp_model.specs.Lists.{OneOf}
use Rattle.dp_model.specs.Numbers.{AtMost, OptionAtMost}
use Rattle.dp_model.specs.Prefixes.{IsCompletion, IsMatched, value_of}
use Rattle.dp_model.specs.Solution.{Solution}
use Rattle.dp_model.proofs.Members.{Has, Each-then, each-of-all}
use Rattle.fringe.specs.Tickets.{Ticketed}
use Rattle.board_laws.specs.Board.{BoardState, frontier, incumbent_value, is_explored, reach, reach_of, value_held}
use Rattle.board_laws.specs.Bound.{board_bound}
use Rattle.board_laws.specs.GoodBoard.{IncumbentHolds, IsBoard, IsGood, IsGoodFrom}
use Rattle.board_laws.proofs.Frontier.{MatchedBy, HeldBy, matched-below}
use Rattle.board_laws.proofs.Lists.{one-among, one-each, one-map, one-out}
use Rattle.board_laws.proofs.Reading.{bound-greatest, explored-settles, reach-zero}
use Rattle.frontier_parts.specs.Searches.{AreAllOf, AreSettledBy, BoardsSettle, FrontierJoins, HoldsFrom}
use Rattle.frontier_parts.specs.Settled.{Settled, IsSettled, IsSettledWithin, IsShown, prefixes}
use Rattle.frontier_parts.proofs.Joined.{joined_best, joined_within}
use Rattle.frontier_parts.proofs.Runs.{begun_by}

-- the value of an incumbent that holds is shown
pub held_shown : (dp : Dp) (held : Option Solution) → IncumbentHolds dp held → IsShown dp (value_held held)
held_shown dp None h = tt
held_shown dp (Some best) h = record { by = best.decisions; solution = h.solution; value = sym h.value }

pub boards_settle : (dp : Dp) (starts : List (List ℕ)) (b : BoardState) → IsBoard dp b → IsGoodFrom dp starts b → IsTrue (is_explored b) → BoardsSettle dp starts b
boards_settle dp starts b g h explored =
    let shown = held_shown dp b.incumbent g.incumbent in
    let low : (p : List ℕ) → Has p starts → (x : List ℕ) → IsCompletion dp p x → AtMost (value_of dp x) (reach b) = λ p has x c. explored-settles dp starts b h explored x c.solution (begun_by dp starts p x has c) in
    record {
      within = λ before p has. record { shown = shown; held = λ x c. inl (low p has x c) };
      exactly = λ zero before p has. record {
        shown = shown;
        held = λ x c. inl (subst (λ (r : Option ℤ). AtMost (value_of dp x) r) (reach-zero b.settings.within (incumbent_value b) zero) (low p has x c));
      };
    }

-- the prefixes of the parts cover as the frontier does
parts_cover : (dp : Dp) (b : BoardState) (parts : List Settled) → IsGood dp b → AreAllOf b parts → Covers dp (reach b) (prefixes parts)
parts_cover dp b parts h all x s =
    elim (h.covers x s (inl refl)) as (λ _. AtMost (value_of dp x) (reach b) ⊎ OneOf (IsMatched dp x) (prefixes parts)) [
      | inl low ↦ inl low
      | inr one ↦ inr (one-among (λ (o : Ticketed). o.subproblem.decisions) (IsMatched dp x) (frontier b) (prefixes parts) all one)
    ]

pub frontiers_join : (dp : Dp) (b : BoardState) (parts : List Settled) → IsBoard dp b → IsGood dp b → AreAllOf b parts → FrontierJoins dp b parts
frontiers_join dp b parts g h all =
    let covers = parts_cover dp b parts h all in
    record {
      best = λ zero each. joined_best dp (incumbent_value b) parts (held_shown dp b.incumbent g.incumbent)
          (subst (λ (r : Option ℤ). Covers dp r (prefixes parts)) (reach-zero b.settings.within (incumbent_value b) zero) covers) each;
      within = λ each. joined_within dp (incumbent_value b) b.settings.within parts covers each;
    }

-- ---- the bound of a board

held_by_more : (dp : Dp) (inc more : Option ℤ) → OptionAtMost inc more → (o : Ticketed) → HeldBy dp inc o → HeldBy dp more o
held_by_more dp inc more up o h x c =
    elim (h x c) as (λ _. AtMost (value_of dp x) (Some o.subproblem.bound) ⊎ AtMost (value_of dp x) more) [ inl a ↦ inl a | inr b ↦ inr (at-most-raised (value_of dp x) inc more up b) ]

-- no solution that begins with a start prefix exceeds it
pub boards_bound : (dp : Dp) (starts : List (List ℕ)) (b : BoardState) → IsGoodFrom dp starts b → HoldsFrom dp starts (board_bound b)
boards_bound dp starts b g x s begun =
    let inc = reach b in
    let most = board_bound b in
    let greatest = bound-greatest b in
    elim (g.covers x s begun) as (λ _. AtMost (value_of dp x) most) [
      | inl a ↦ at-most-raised (value_of dp x) inc most greatest.reached a
      | inr m ↦ one-out (λ o. (MatchedBy dp x o × HeldBy dp most o) × AtMost o.subproblem.bound most) (AtMost (value_of dp x) most)
          (λ o h. matched-below dp x most o.subproblem.decisions o.subproblem.bound h.0.0 h.0.1 h.1) (frontier b)
          (one-each (λ o. MatchedBy dp x o × HeldBy dp most o) (λ o. AtMost o.subproblem.bound most) (frontier b)
          (one-each (MatchedBy dp x) (HeldBy dp most) (frontier b) (one-map (λ (o : Ticketed). o.subproblem.decisions) (IsMatched dp x) (frontier b) m) (Each-then (HeldBy dp inc) (HeldBy dp most) (frontier b) (held_by_more dp inc most greatest.reached) g.held))
          greatest.each)
    ]

-- ---- a value that no solution exceeds

pub values_settle : (dp : Dp) (starts : List (List ℕ)) (within : ℤ) (found : Option ℤ) → IsShown dp found → HoldsFrom dp starts (reach_of within found) → AreSettledBy dp starts within found
values_settle dp starts within found shown most =
    let low : (p : List ℕ) → Has p starts → (x : List ℕ) → IsCompletion dp p x → AtMost (value_of dp x) (reach_of within found) = λ p has x c. most x c.solution (begun_by dp starts p x has c) in
    record {
      shown = shown;
      nearly = λ before. each-of-all (λ p. IsSettledWithin dp within before (record { prefix = p; best = found })) starts
          (λ p has. record { shown = shown; held = λ x c. inl (low p has x c) });
      exactly = λ zero before. each-of-all (λ p. IsSettled dp before (record { prefix = p; best = found })) starts
          (λ p has. record { shown = shown; held = λ x c. inl (subst (λ (r : Option ℤ). AtMost (value_of dp x) r) (reach-zero within found zero) (low p has x c)) });
    }
