-- The snapshot of a board.
use Rattle.std.proofs.Common.{◌≡◌, ◌≢◌, ℕ, ◌<◌, List, [], ◌∷◌, map, option_map, Option, Some, None, IsPermutation, refl, sym, ◌∙◌, ap, ap₂, subst, arith}
use Rattle.std.specs.List.{sum_by}
use Rattle.std.proofs.lemmas.List.Sorted.{IsPermutation-refl, IsPermutation-cons, IsPermutation-trans, sum_by-IsPermutation}
use Rattle.dp_model.specs.Cover.{IsHeld}
use Rattle.dp_model.specs.Dp.{Dp}
use Rattle.dp_model.specs.Lists.{Each}
use Rattle.dp_model.specs.Numbers.{IsFar}
use Rattle.dp_model.specs.Solution.{Solution}
use Rattle.dp_model.specs.Subproblem.{IsOwn}
use Rattle.dp_model.proofs.Members.{Each-then, Each-map, each-of-all}
use Rattle.dp_laws.specs.Children.{AreApart}
use Rattle.dp_laws.specs.Pairs.{EachTwo}
use Rattle.dp_laws.proofs.Restricted.Permutations.{Has-permutation, each-permutation}
use Rattle.fringe.specs.Tickets.{Ticketed, HasTickets, by_ticket}
use Rattle.fringe.proofs.Orders.{permutation-by_ticket}
use Rattle.fringe.proofs.Tickets.{tickets-by_ticket, two-by_ticket}
use Rattle.board_laws.specs.Board.{BoardState, frontier, reach}
use Rattle.board_laws.specs.GoodBoard.{IsBoard, IsGoodFrom, pot_of, share_of}
use Rattle.board_laws.proofs.Frontier.{apart-flip}
use Rattle.board_laws.proofs.Lists.{each-both}
use Rattle.board.specs.Frontier.{in_order, frontier_of}
use Rattle.journal_replay.specs.Replay.{Replayed, MayRestoreFrom, best_of, listed_at, listed_of, restarted}
use Rattle.journal_replay.specs.Following.{IsReplayOf, incumbent_recorded, listed_recorded}
use Rattle.journal_replay.specs.Sound.{IsSoundStateOf}
use Rattle.journal_replay.specs.Laws.{SnapshotsAreRecorded}
use Rattle.journal_replay.proofs.Sounding.{covers-listed}
use Rattle.journal_replay.proofs.Tickets.{has-at}

-- in order of ticket

pub moved-in_order : (os : List Ticketed) → IsPermutation os (in_order os)
moved-in_order [] = IsPermutation-refl []
moved-in_order (o ∷ os) =
    IsPermutation-trans (o ∷ os) (o ∷ in_order os) (by_ticket o (in_order os)) (IsPermutation-cons o os (in_order os) (moved-in_order os)) (permutation-by_ticket o (in_order os))

pub each-in_order : (P : Ticketed → Type 0) (os : List Ticketed) → Each P os → Each P (in_order os)
each-in_order P os h = each-permutation os (in_order os) (moved-in_order os) P h

two-in_order : (R : Ticketed → Ticketed → Type 0) → ((a b : Ticketed) → R a b → R b a) → (os : List Ticketed) → EachTwo R os → EachTwo R (in_order os)
two-in_order R turn [] h = tt
two-in_order R turn (o ∷ os) h = two-by_ticket R turn o (in_order os) (each-in_order (R o) os h.0) (two-in_order R turn os h.1)

rise-in_order : (os : List Ticketed) → EachTwo (λ a b. a.ticket ≢ b.ticket) os → HasTickets (in_order os)
rise-in_order [] own = tt
rise-in_order (o ∷ os) own =
    tickets-by_ticket o (in_order os)
    (each-in_order (λ x. x.ticket ≢ o.ticket) os (Each-then (λ x. o.ticket ≢ x.ticket) (λ x. x.ticket ≢ o.ticket) os (λ x other same. other (sym same)) own.0))
    (rise-in_order os own.1)

sum-in_order : (f : Ticketed → ℕ) (os : List Ticketed) → sum_by f (in_order os) ≡ sum_by f os
sum-in_order f os = sum_by-IsPermutation f os (in_order os) (moved-in_order os)

-- what a snapshot says is read back

pub best-again : (best : Option Solution) → option_map best_of (option_map incumbent_recorded best) ≡ best
best-again None = refl
best-again (Some x) = refl

one-again : (dp : Dp) (o : Ticketed) → IsOwn dp o.subproblem → listed_of dp (listed_recorded o) ≡ o
one-again dp o own = ap₂ (λ row worth. record { ticket = o.ticket; subproblem = record { decisions = o.subproblem.decisions; row = row; value = worth; bound = o.subproblem.bound } }) (sym own.row) (sym own.value)

pub all-again : (dp : Dp) (os : List Ticketed) → Each (λ o. IsOwn dp o.subproblem) os → map (listed_of dp) (map listed_recorded os) ≡ os
all-again dp [] own = refl
all-again dp (o ∷ os) own = ap₂ (λ x xs. x ∷ xs) (one-again dp o own.0) (all-again dp os own.1)

-- what a board's snapshot makes of a search
abbrev state_at : BoardState → Replayed
state_at b = record { incumbent = b.incumbent; listed = frontier_of b; next_ticket = b.next_ticket }

module _ (dp : Dp) (b : BoardState) (g : IsBoard dp b) where
  restarted-is : restarted dp (option_map incumbent_recorded b.incumbent) b.next_ticket (map listed_recorded (frontier_of b)) ≡ state_at b
  restarted-is = ap₂ (λ best os. record { incumbent = best; listed = os; next_ticket = b.next_ticket })
      (best-again b.incumbent) (all-again dp (frontier_of b) (each-in_order (λ o. IsOwn dp o.subproblem) (frontier b) g.own))

  pub restores-at : MayRestoreFrom dp (state_at b)
  restores-at = record {
    incumbent = g.incumbent;
    own = each-in_order (λ o. IsOwn dp o.subproblem) (frontier b) g.own;
    far = each-in_order (λ o. IsFar o.subproblem.bound) (frontier b) g.far;
    ordered = rise-in_order (frontier b) g.tickets.distinct;
    given = each-in_order (λ o. o.ticket < b.next_ticket) (frontier b) g.tickets.given;
  }

  beside-at : IsReplayOf dp (state_at b) b
  beside-at = record {
    incumbent = refl;
    next_ticket = refl;
    listed = each-of-all (λ o. listed_at o.ticket (frontier_of b) ≡ Some o) (frontier b)
        (λ o h. has-at (frontier_of b) o (rise-in_order (frontier b) g.tickets.distinct) (Has-permutation (frontier b) (frontier_of b) (moved-in_order (frontier b)) o h));
    restores = restores-at;
  }

  pub sound-at : (starts : List (List ℕ)) → IsGoodFrom dp starts b → IsSoundStateOf dp starts b.settings.within 0 (state_at b)
  sound-at starts good = record {
    incumbent = g.incumbent;
    list = record {
      covers = covers-listed dp starts b.settings.within (state_at b) b refl beside-at good;
      held = each-in_order (λ o. IsHeld dp (reach b) o.subproblem.decisions o.subproblem.bound) (frontier b) good.held;
      apart = two-in_order (λ (a o : Ticketed). AreApart a.subproblem o.subproblem) apart-flip (frontier b) good.apart;
      ends = (let sum = sum-in_order (pot_of dp) (frontier b) in let few = good.ends in omega arith);
      shares = (let sum = sum-in_order (share_of dp) (frontier b) in let few = good.shares in omega arith);
    };
  }

pub snapshots-recorded : (dp : Dp) → SnapshotsAreRecorded dp
snapshots-recorded dp s b g beside =
    let is = sym (restarted-is dp b g) in
    let own = each-in_order (λ o. IsOwn dp o.subproblem) (frontier b) g.own in
    let there = each-in_order (λ o. listed_at o.ticket s.listed ≡ Some o) (frontier b) beside.listed in
    record {
      may = subst (MayRestoreFrom dp) is (restores-at dp b g);
      tells = record {
        incumbent = best-again b.incumbent ∙ beside.incumbent;
        next_ticket = beside.next_ticket;
        listed = Each-map listed_recorded (λ o. listed_at o.ticket s.listed ≡ Some (listed_of dp o)) (frontier_of b)
            (Each-then (λ o. IsOwn dp o.subproblem × (listed_at o.ticket s.listed ≡ Some o)) (λ o. listed_at o.ticket s.listed ≡ Some (listed_of dp (listed_recorded o))) (frontier_of b)
            (λ o x. x.1 ∙ ap (λ y. Some y) (sym (one-again dp o x.0)))
            (each-both (λ o. IsOwn dp o.subproblem) (λ o. listed_at o.ticket s.listed ≡ Some o) (frontier_of b) own there));
      };
      beside = subst (λ t. IsReplayOf dp t b) is (beside-at dp b g);
      sound = λ {starts} good. subst (IsSoundStateOf dp starts b.settings.within 0) is (sound-at dp b g starts good);
    }
