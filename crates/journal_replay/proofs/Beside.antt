-- Boards of which nothing is out stand beside what they began with.
use Rattle.std.proofs.Common.{◌≡◌, ℕ, ◌++◌, ℤ, int_le, nat_eq, true, false, cond, not, List, [], ◌∷◌, length, Option, Some, None, refl, sym, subst}
use Rattle.dp_model.specs.Dp.{Dp}
use Rattle.dp_model.specs.Laws.{IsLawful}
use Rattle.dp_model.specs.Lists.{Each}
use Rattle.dp_model.specs.Numbers.{is_above}
use Rattle.dp_model.proofs.Members.{each-of-all}
use Rattle.dp_laws.proofs.Lists.{each-filter}
use Rattle.fringe.specs.Fringe.{same_open}
use Rattle.fringe.specs.Pushing.{pushed_beside, after_push}
use Rattle.fringe.specs.Tickets.{Ticketed, IsEarlier, by_ticket, without}
use Rattle.fringe.proofs.Tickets.{each-by_ticket}
use Rattle.dp_laws.specs.Pairs.{EachTwo}
use Rattle.dp_laws.specs.Children.{AreApart}
use Rattle.dp_model.specs.Cover.{IsHeld}
use Rattle.board_laws.specs.Board.{full_slots, prefixes, reach_of, value_held}
use Rattle.board_laws.specs.GoodBoard.{pot_of, share_of}
use Rattle.board_laws.specs.Restoring.{pushed_above}
use Rattle.board_laws.specs.Starts.{CoversFrom, whole_search}
use Rattle.board_laws.specs.Steps.{back_among, empty_slots, first_open, first_incumbent}
use Rattle.board_laws.proofs.First.{first-is-good}
use Rattle.board_laws.proofs.Fresh.{full-none}
use Rattle.std.specs.List.{sum_by}
use Rattle.std.proofs.Common.{◌+◌, ◌≤◌}
use Rattle.dp_model.specs.Counts.{tree}
use Rattle.journal_replay.specs.Replay.{listed_at, replay_start}
use Rattle.journal_replay.specs.Laws.{FirstBoardsFollow, RestoredBoardsFollow}
use Rattle.journal_replay.proofs.Restored.{start-restores}
use Rattle.journal_replay.proofs.Tickets.{has-at}

-- what each has, each has after a push
pub each-pushed : (P : Ticketed → Type 0) (o : Ticketed) (os : List Ticketed) → P o → Each P os → Each P (after_push o os)
each-pushed P o os one h =
    elim (same_open o.subproblem os) as (λ s. Each P (pushed_beside o os s)) [
      | None ↦ each-by_ticket P o os one h
      | Some other ↦ elim (int_le o.subproblem.value other.subproblem.value) as (λ b. Each P (cond b os (by_ticket o (without other.ticket os)))) [
        | true ↦ h
        | false ↦ each-by_ticket P o (without other.ticket os) one (each-filter P (λ a. not (nat_eq a.ticket other.ticket)) os h)
      ]
    ]

pub each-back-among : (P : Ticketed → Type 0) (reach : Option ℤ) (o : Ticketed) (os : List Ticketed) → P o → Each P os → Each P (back_among reach o os)
each-back-among P reach o os one h =
    elim (is_above reach o.subproblem.bound) as (λ b. Each P (cond b (after_push o os) os)) [ true ↦ each-pushed P o os one h | false ↦ h ]

each-pushed-above : (P : Ticketed → Type 0) (reach : Option ℤ) (os others : List Ticketed) → Each P os → Each P others → Each P (pushed_above reach os others)
each-pushed-above P reach os [] h all = h
each-pushed-above P reach os (o ∷ others) h all = each-pushed-above P reach (back_among reach o os) others (each-back-among P reach o os all.0 h) all.1

-- each of a list in which tickets rise is found in it
each-found : (os : List Ticketed) → EachTwo IsEarlier os → Each (λ o. listed_at o.ticket os ≡ Some o) os
each-found os rise = each-of-all (λ o. listed_at o.ticket os ≡ Some o) os (λ o h. has-at os o rise h)

-- nothing is out
only-open : (P : Ticketed → Type 0) (n : ℕ) (os : List Ticketed) → Each P os → Each P (full_slots (empty_slots n) ++ os)
only-open P n os h = subst (λ l. Each P (l ++ os)) (sym (full-none n)) h

pub restored-boards-follow : (dp : Dp) → RestoredBoardsFollow dp
restored-boards-follow dp settings s may =
    let P : Ticketed → Type 0 = λ o. listed_at o.ticket s.listed ≡ Some o in
    let far = reach_of settings.within (value_held s.incumbent) in
    record {
      incumbent = refl;
      next_ticket = refl;
      listed = only-open P settings.workers (pushed_above far [] s.listed) (each-pushed-above P far [] s.listed tt (each-found s.listed may.ordered));
      restores = may;
    }

pub first-boards-follow : (dp : Dp) → IsLawful dp → FirstBoardsFollow dp
first-boards-follow dp laws settings are =
    let s = replay_start dp in
    let may = start-restores dp laws in
    let first = first-is-good dp laws settings are in
    let os = first_open dp in
    let far = reach_of settings.within (value_held (first_incumbent dp)) in
    let none = full-none settings.workers in
    let good = first.good in
    let ends : 0 + sum_by (pot_of dp) os ≤ tree dp = subst (λ l. 0 + sum_by (pot_of dp) (l ++ os) ≤ tree dp) none good.ends in
    let shares : length os + sum_by (share_of dp) os ≤ tree dp = subst (λ l. length os + sum_by (share_of dp) (l ++ os) ≤ tree dp) none good.shares in
    record {
      beside = record {
        incumbent = refl;
        next_ticket = refl;
        listed = only-open (λ o. listed_at o.ticket s.listed ≡ Some o) settings.workers os (each-found os may.ordered);
        restores = may;
      };
      sound = record {
        incumbent = may.incumbent;
        list = record {
          covers = subst (λ l. CoversFrom dp whole_search far (prefixes (l ++ os))) none good.covers;
          held = subst (λ l. Each (λ o. IsHeld dp far o.subproblem.decisions o.subproblem.bound) (l ++ os)) none good.held;
          apart = subst (λ l. EachTwo (λ (a o : Ticketed). AreApart a.subproblem o.subproblem) (l ++ os)) none good.apart;
          ends = ends;
          shares = shares;
        };
      };
    }
