-- Improve keeps a board, and a good one.
use Rattle.std.proofs.Common.{◌≡◌, ◌≢◌, ℕ, ◌<◌, ℤ, ◌≤ℤ◌, Bool, true, false, List, ◌++◌, filter, Option, Some, ◌⊎◌, inl, inr, arith}
use Rattle.dp_model.specs.Solution.{Solution}
use Rattle.dp_model.specs.Cover.{IsHeld}
use Rattle.dp_model.specs.Dp.{Dp}
use Rattle.dp_model.specs.Lists.{Each, OneOf}
use Rattle.dp_model.specs.Numbers.{AtMost, OptionAtMost, is_above, IsFar}
use Rattle.dp_model.specs.Prefixes.{value_of}
use Rattle.dp_model.specs.Subproblem.{IsOwn}
use Rattle.dp_model.proofs.Members.{Each-then}
use Rattle.dp_laws.proofs.Lists.{two-filter}
use Rattle.fringe.specs.Fringe.{AreDifferent}
use Rattle.fringe.specs.Tickets.{Ticketed, IsEarlier}
use Rattle.board_laws.proofs.Carrying.{reach-rises, Deep, CarriesBy, carries-from, from-carried}
use Rattle.board_laws.proofs.Finishing.{reaches-low}
use Rattle.board_laws.proofs.Frontier.{not-above}
use Rattle.board_laws.proofs.Lists.{each-less, two-less, sum-less, one-left, one-right, one-filter, one-each, one-out, each-back, each-passes}
use Rattle.board_laws.specs.Board.{reach, reach_of, incumbent_value, full_slots, prefixes, BoardState, frontier}
use Rattle.dp_laws.specs.Children.{AreApart}
use Rattle.dp_laws.proofs.Reaches.{at-most-raised, floor-carried}
use Rattle.board_laws.specs.GoodBoard.{IncumbentHolds, pot_of, share_of, HasFloor, IsBoard, IsGoodFrom}
use Rattle.board_laws.specs.Laws.{ImproveKeeps}
use Rattle.board_laws.specs.Steps.{improved}
use Rattle.dp_laws.proofs.Restricted.Covering.{one-cases}

held-raised : (dp : Dp) (reach more : Option ℤ) → OptionAtMost reach more → (o : Ticketed) → IsHeld dp reach o.subproblem.decisions o.subproblem.bound → IsHeld dp more o.subproblem.decisions o.subproblem.bound
held-raised dp reach more le o h x c =
    elim (h x c) as (λ _. (value_of dp x ≤ℤ o.subproblem.bound) ⊎ AtMost (value_of dp x) more) [ inl a ↦ inl a | inr b ↦ inr (at-most-raised (value_of dp x) reach more le b) ]

-- what is dropped for its bound reaches no more than the reach
pub drop-carries : (dp : Dp) (reach : Option ℤ) (full os : List Ticketed) → Each (λ o. IsHeld dp reach o.subproblem.decisions o.subproblem.bound) os
    → CarriesBy dp reach (full ++ os) (full ++ filter (λ o. is_above reach o.subproblem.bound) os)
drop-carries dp reach full os held k v one =
    let p : Ticketed → Bool = λ o. is_above reach o.subproblem.bound in
    let Answer : Type 0 = AtMost v reach ⊎ OneOf (Deep dp k v) (full ++ filter p os) in
    elim (one-cases (Deep dp k v) full os one) as (λ _. Answer) [
      | inl a ↦ inr (one-left (Deep dp k v) full (filter p os) a)
      | inr b ↦ elim (one-filter (Deep dp k v) p os b) as (λ _. Answer) [
        | inl a ↦ inr (one-right (Deep dp k v) full (filter p os) a)
        | inr low ↦ inl (one-out (λ o. (Deep dp k v o × (p o ≡ false)) × IsHeld dp reach o.subproblem.decisions o.subproblem.bound) (AtMost v reach)
            (λ o h. reaches-low dp reach v o.subproblem.decisions o.subproblem.bound h.0.0.reaches h.1 (not-above reach o.subproblem.bound h.0.1)) os
            (one-each (λ o. Deep dp k v o × (p o ≡ false)) (λ o. IsHeld dp reach o.subproblem.decisions o.subproblem.bound) os low held))
      ]
    ]

pub improve-board : (dp : Dp) (b : BoardState) (best : Solution) → IncumbentHolds dp (Some best) → IsBoard dp b → IsBoard dp (improved b best)
improve-board dp b best holds g =
    let more = reach_of b.settings.within (Some best.value) in
    let full = full_slots b.slots in
    let os = b.open_ones in
    let p : Ticketed → Bool = λ o. is_above more o.subproblem.bound in
    record {
      incumbent = holds;
      own = each-less (λ o. IsOwn dp o.subproblem) p full os g.own;
      far = each-less (λ o. IsFar o.subproblem.bound) p full os g.far;
      tickets = record {
        distinct = two-less (λ (a c : Ticketed). a.ticket ≢ c.ticket) p full os g.tickets.distinct;
        given = each-less (λ (o : Ticketed). o.ticket < b.next_ticket) p full os g.tickets.given;
      };
      above = each-passes p os;
      ordered = two-filter IsEarlier p os g.ordered;
      different = two-filter AreDifferent p os g.different;
      entries = g.entries;
      limited = g.limited;
      out = g.out;
      budget = g.budget;
      room = g.room;
      cause = g.cause;
      slots = g.slots;
      settings = g.settings;
    }

pub improve-good : (dp : Dp) (starts : List (List ℕ)) (b : BoardState) (best : Solution) → is_above (incumbent_value b) best.value ≡ true → IsGoodFrom dp starts b → IsGoodFrom dp starts (improved b best)
improve-good dp starts b best up h =
    let more = reach_of b.settings.within (Some best.value) in
    let le = reach-rises b.settings.within (incumbent_value b) best.value up in
    let full = full_slots b.slots in
    let os = b.open_ones in
    let p : Ticketed → Bool = λ o. is_above more o.subproblem.bound in
    let held = Each-then (λ o. IsHeld dp (reach b) o.subproblem.decisions o.subproblem.bound) (λ o. IsHeld dp more o.subproblem.decisions o.subproblem.bound) (frontier b) (held-raised dp (reach b) more le) h.held in
    let after = full ++ filter p os in
    let carries = carries-from dp more (frontier b) after (drop-carries dp more full os (each-back (λ o. IsHeld dp more o.subproblem.decisions o.subproblem.bound) full os held)) in
    let ends = sum-less (pot_of dp) p full os in
    let shares = sum-less (share_of dp) p full os in
    record {
      covers = from-carried dp starts (reach b) more (prefixes (frontier b)) (prefixes after) le carries h.covers;
      held = each-less (λ o. IsHeld dp more o.subproblem.decisions o.subproblem.bound) p full os held;
      floors = Each-then (HasFloor dp (reach b) (frontier b)) (HasFloor dp more after) b.entries (λ e x. floor-carried dp (reach b) more (prefixes (frontier b)) (prefixes after) le carries e.depth e.row e.value x) h.floors;
      apart = two-less (λ a c. AreApart a.subproblem c.subproblem) p full os h.apart;
      ends = (let old = h.ends in omega arith);
      balanced = h.balanced;
      shares = (let old = h.shares in omega arith);
    }

pub improve-keeps : (dp : Dp) → ImproveKeeps dp
improve-keeps dp b best holds up = record { board = improve-board dp b best holds; good = λ {starts} g h. improve-good dp starts b best up h }
