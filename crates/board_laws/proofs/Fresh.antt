-- A board of which nothing is out keeps what every board keeps, and is good where its list is sound.
use Rattle.std.proofs.Common.{◌≡◌, ◌≢◌, ℕ, zero, suc, ◌+◌, ◌<◌, ℤ, List, [], ◌∷◌, ◌++◌, length, Option, None, refl, sym, ◌∙◌, ap, subst, IsTrue, arith}
use Rattle.std.specs.List.{sum_by}
use Rattle.dp_model.specs.Solution.{Solution}
use Rattle.dp_model.specs.Cover.{IsHeld}
use Rattle.dp_model.specs.Dp.{Dp}
use Rattle.dp_model.specs.Lists.{Each}
use Rattle.dp_model.specs.Numbers.{IsFar, is_above}
use Rattle.dp_model.specs.Subproblem.{IsOwn}
use Rattle.dp_laws.specs.Children.{AreApart}
use Rattle.dp_laws.specs.Pairs.{EachTwo}
use Rattle.dp_laws.proofs.Diagrams.Apart.{two-then}
use Rattle.fringe.specs.Fringe.{AreDifferent}
use Rattle.fringe.specs.Tickets.{Ticketed, IsEarlier}
use Rattle.board_laws.specs.Board.{AreSettings, reach_of, value_held, full_slots, prefixes}
use Rattle.board_laws.specs.GoodBoard.{IncumbentHolds, IsBoard, IsGoodFrom, pot_of, share_of}
use Rattle.board_laws.specs.Restoring.{IsListSoundFrom}
use Rattle.board_laws.specs.Starts.{CoversFrom}
use Rattle.board_laws.specs.Steps.{empty_slots, fresh_board}
use Rattle.board_laws.specs.declared.settings.Settings.{Settings}

pub full-none : (n : ℕ) → full_slots (empty_slots n) ≡ []
full-none zero = refl
full-none (suc n) = full-none n

slots-many : (n : ℕ) → length (empty_slots n) ≡ n
slots-many zero = refl
slots-many (suc n) = let rest = slots-many n in omega arith

pub slots-more : (n : ℕ) → empty_slots n ++ None ∷ [] ≡ empty_slots (n + 1)
slots-more zero = refl
slots-more (suc n) = ap (λ l. None ∷ l) (slots-more n) ∙ ap empty_slots (let same : suc (n + 1) ≡ suc n + 1 = omega arith in same)

-- what holds of an incumbent, the open subproblems and the next ticket where no slot is full and nothing was taken
pub record Opens (dp : Dp) (within : ℤ) (best : Option Solution) (os : List Ticketed) (next : ℕ) : Type 0 where
  pub incumbent : IncumbentHolds dp best
  pub own : Each (λ o. IsOwn dp o.subproblem) os
  pub far : Each (λ o. IsFar o.subproblem.bound) os
  pub above : Each (λ o. IsTrue (is_above (reach_of within (value_held best)) o.subproblem.bound)) os
  pub ordered : EachTwo IsEarlier os
  pub different : EachTwo AreDifferent os
  pub given : Each (λ o. o.ticket < next) os

-- the frontier is what is open
whole : (os : List Ticketed) (settings : Settings) → os ≡ full_slots (empty_slots settings.workers) ++ os
whole os settings = ap (λ l. l ++ os) (sym (full-none settings.workers))

pub tickets-differ : (os : List Ticketed) → EachTwo IsEarlier os → EachTwo (λ a o. a.ticket ≢ o.ticket) os
tickets-differ os rise = two-then IsEarlier (λ a o. a.ticket ≢ o.ticket) (λ a o h. let less : a.ticket < o.ticket = h in omega arith) os rise

pub fresh-board : (dp : Dp) (settings : Settings) (best : Option Solution) (os : List Ticketed) (next : ℕ) → AreSettings settings → Opens dp settings.within best os next → IsBoard dp (fresh_board settings best os next)
fresh-board dp settings best os next are s =
    let same = whole os settings in
    let empty : length (full_slots (empty_slots settings.workers)) ≡ 0 = ap length (full-none settings.workers) in
    record {
      settings = are;
      incumbent = s.incumbent;
      own = subst (λ (l : List Ticketed). Each (λ o. IsOwn dp o.subproblem) l) same s.own;
      far = subst (λ (l : List Ticketed). Each (λ o. IsFar o.subproblem.bound) l) same s.far;
      tickets = record {
        distinct = subst (λ (l : List Ticketed). EachTwo (λ a o. a.ticket ≢ o.ticket) l) same (tickets-differ os s.ordered);
        given = subst (λ (l : List Ticketed). Each (λ o. o.ticket < next) l) same s.given;
      };
      above = s.above;
      ordered = s.ordered;
      different = s.different;
      entries = tt;
      limited = omega arith;
      slots = slots-many settings.workers;
      out = omega arith;
      budget = omega arith;
      room = λ some. absurd (omega arith);
      cause = λ e. absurd (cc);
    }

pub fresh-good : (dp : Dp) (starts : List (List ℕ)) (settings : Settings) (finished : ℕ) (best : Option Solution) (os : List Ticketed) (next : ℕ) → IsListSoundFrom dp starts settings.within finished best os next → IsGoodFrom dp starts (fresh_board settings best os next)
fresh-good dp starts settings finished best os next s =
    let same = whole os settings in
    let far = reach_of settings.within (value_held best) in
    let empty : length (full_slots (empty_slots settings.workers)) ≡ 0 = ap length (full-none settings.workers) in
    let ends : sum_by (pot_of dp) (full_slots (empty_slots settings.workers) ++ os) ≡ sum_by (pot_of dp) os = ap (sum_by (pot_of dp)) (sym same) in
    let shares : sum_by (share_of dp) (full_slots (empty_slots settings.workers) ++ os) ≡ sum_by (share_of dp) os = ap (sum_by (share_of dp)) (sym same) in
    let sum = s.ends in let sum_shares = s.shares in
    record {
      covers = subst (λ (l : List Ticketed). CoversFrom dp starts far (prefixes l)) same s.covers;
      held = subst (λ (l : List Ticketed). Each (λ o. IsHeld dp far o.subproblem.decisions o.subproblem.bound) l) same s.held;
      floors = tt;
      apart = subst (λ (l : List Ticketed). EachTwo (λ a o. AreApart a.subproblem o.subproblem) l) same s.apart;
      ends = omega arith;
      balanced = λ _. omega arith;
      shares = omega arith;
    }
