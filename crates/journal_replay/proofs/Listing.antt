-- The subproblems that a snapshot lists.
use Rattle.std.proofs.Common.{◌≡◌, ℕ, ◌+◌, ◌<◌, ◌≤◌, List, [], ◌∷◌, ◌++◌, map, option_map, Option, Some, None, Ok, Err, IfSome, refl, sym, ◌∙◌, ap, ap₂, subst, append-nil, arith}
use Rattle.std.proofs.lemmas.List.{append_assoc}
use Rattle.dp_model.specs.Dp.{Dp}
use Rattle.dp_model.specs.Lists.{Each}
use Rattle.dp_model.specs.Numbers.{IsFar}
use Rattle.dp_model.specs.Prefixes.{IsSolution}
use Rattle.dp_model.specs.Solution.{Solution}
use Rattle.dp_model.specs.Subproblem.{IsOwn}
use Rattle.dp_model.proofs.Members.{Each-then, each-of-all}
use Rattle.dp_laws.specs.Pairs.{EachTwo}
use Rattle.fringe.specs.Tickets.{Ticketed, IsEarlier}
use Rattle.board_laws.specs.GoodBoard.{IncumbentHolds}
use Rattle.journal_bytes.specs.Bodies.{IncumbentView, ListedView}
use Rattle.journal_replay.specs.declared.state.Place.{Place}
use Rattle.journal_replay.specs.Replay.{Replayed, MayRestoreFrom, best_of, listed_of, restarted}
use Rattle.journal_replay.specs.declared.verdict.Verdict.TheVariants.{Malformed}
use Rattle.journal_replay.specs.Places.{AreInOrder, ArePlaced, IsPlaced, MayListAll, RestartGives, listed_in}
use Rattle.journal_replay.proofs.Places.{order-least, order-more, place-more}

-- what a search is restored from, with tickets from the least one on
record AreListed (dp : Dp) (least next : ℕ) (os : List Ticketed) : Type 0 where
  own : Each (λ o. IsOwn dp o.subproblem) os
  far : Each (λ o. IsFar o.subproblem.bound) os
  above : Each (λ o. least ≤ o.ticket) os
  ordered : EachTwo IsEarlier os
  given : Each (λ o. o.ticket < next) os

all-listed : (dp : Dp) (least next : ℕ) (os : List ListedView) → MayListAll dp least next os → AreListed dp least next (map (listed_of dp) os)
all-listed dp least next [] h = record { own = tt; far = tt; above = tt; ordered = tt; given = tt }
all-listed dp least next (o ∷ os) h =
    let rest = all-listed dp (o.ticket + 1) next os h.1 in
    let one = h.0 in
    let least_here = one.above in
    record {
      own = (one.own, rest.own);
      far = (one.far, rest.far);
      above = (least_here, Each-then (λ (x : Ticketed). o.ticket + 1 ≤ x.ticket) (λ x. least ≤ x.ticket) (map (listed_of dp) os) (λ x k. omega arith) rest.above);
      ordered = (Each-then (λ (x : Ticketed). o.ticket + 1 ≤ x.ticket) (λ x. o.ticket < x.ticket) (map (listed_of dp) os) (λ x k. omega arith) rest.above, rest.ordered);
      given = (one.given, rest.given);
    }

may-list-all : (dp : Dp) (least next : ℕ) (os : List ListedView) → AreListed dp least next (map (listed_of dp) os) → MayListAll dp least next os
may-list-all dp least next [] h = tt
may-list-all dp least next (o ∷ os) h = (
  record { own = h.own.0; far = h.far.0; above = h.above.0; given = h.given.0 },
  may-list-all dp (o.ticket + 1) next os (record {
    own = h.own.1;
    far = h.far.1;
    above = Each-then (λ (x : Ticketed). o.ticket < x.ticket) (λ x. o.ticket + 1 ≤ x.ticket) (map (listed_of dp) os) (λ x k. omega arith) h.ordered.0;
    ordered = h.ordered.1;
    given = h.given.1;
  }),
)

pub restart-may : (dp : Dp) (best : Option IncumbentView) (next : ℕ) (os : List ListedView) → IncumbentHolds dp (option_map best_of best) → MayListAll dp 0 next os → MayRestoreFrom dp (restarted dp best next os)
restart-may dp best next os holds may =
    let l = all-listed dp 0 next os may in record { incumbent = holds; own = l.own; far = l.far; ordered = l.ordered; given = l.given }

pub restart-lists : (dp : Dp) (best : Option IncumbentView) (next : ℕ) (os : List ListedView) → MayRestoreFrom dp (restarted dp best next os) → MayListAll dp 0 next os
restart-lists dp best next os h =
    may-list-all dp 0 next os (record { own = h.own; far = h.far; above = each-of-all (λ o. 0 ≤ o.ticket) (map (listed_of dp) os) (λ o k. omega arith); ordered = h.ordered; given = h.given })

-- the loop: what is still to be listed may be where all may, after the places that there are
pub record ListsOn (dp : Dp) (least next : ℕ) (places : List Place) (rest all : List ListedView) : Type 0 where
  pub may : MayListAll dp least next rest → MayListAll dp 0 next all
  pub back : MayListAll dp 0 next all → MayListAll dp least next rest
  pub listed : listed_in places ++ map (listed_of dp) rest ≡ map (listed_of dp) all
  pub ordered : AreInOrder least places
  pub some : least ≤ next

pub lists-first : (dp : Dp) (next : ℕ) (all : List ListedView) → ListsOn dp 0 next [] all all
lists-first dp next all = record { may = λ h. h; back = λ h. h; listed = refl; ordered = record { rise = tt; given = tt }; some = omega arith }

pub lists-more : (dp : Dp) (least next : ℕ) (places : List Place) (o : ListedView) (rest all : List ListedView) (p : Place) → ListsOn dp least next places (o ∷ rest) all → IsPlaced dp least next o p
    → ListsOn dp (p.ticket + 1) next (places ++ p ∷ []) rest all
lists-more dp least next places o rest all p on placed =
    let above = placed.may.above in
    let given = placed.may.given in
    let is = placed.ticket in
    record {
      may = λ h. on.may (placed.may, subst (λ t. MayListAll dp (t + 1) next rest) is h);
      back = λ h. subst (λ t. MayListAll dp (t + 1) next rest) (sym is) (on.back h).1;
      listed = ap (λ l. l ++ map (listed_of dp) rest) (place-more places p ∙ ap (λ l. listed_in places ++ l) placed.listed)
          ∙ (append_assoc (listed_in places) (listed_of dp o ∷ []) (map (listed_of dp) rest) ∙ on.listed);
      ordered = order-more least (p.ticket + 1) places p on.ordered (omega arith) (omega arith);
      some = omega arith;
    }

pub lists-all : (dp : Dp) (least next : ℕ) (places : List Place) (all : List ListedView) → ListsOn dp least next places [] all → ArePlaced dp next all places
lists-all dp least next places all on = record { may = on.may tt; listed = sym (append-nil (listed_in places)) ∙ on.listed; ordered = order-least least next places on.some on.ordered }

pub lists-not : (dp : Dp) (least next : ℕ) (places : List Place) (o : ListedView) (rest all : List ListedView) → ListsOn dp least next places (o ∷ rest) all → (MayListAll dp least next (o ∷ rest) → ⊥) → MayListAll dp 0 next all → ⊥
lists-not dp least next places o rest all on not may = not (on.back may)

-- the whole snapshot

has-solution : (dp : Dp) (best : Option IncumbentView) → IncumbentHolds dp (option_map best_of best) → IfSome best (λ b. IsSolution dp b.decisions)
has-solution dp None holds = tt
has-solution dp (Some b) holds = holds.solution

pub restart-gives : (dp : Dp) (best : Option IncumbentView) (next : ℕ) (os : List ListedView) (held : Option Solution) (places : List Place) (s : Replayed) → held ≡ option_map best_of best
    → IncumbentHolds dp held → ArePlaced dp next os places → s ≡ record { incumbent = held; listed = listed_in places; next_ticket = next } → RestartGives dp best next os (Ok s)
restart-gives dp best next os held places s is holds placed same = (
  restart-may dp best next os (subst (IncumbentHolds dp) is holds) placed.may,
  same ∙ ap₂ (λ b l. record { incumbent = b; listed = l; next_ticket = next }) is placed.listed,
)

pub restart-refuses : (dp : Dp) (best : Option IncumbentView) (next : ℕ) (os : List ListedView) (held : Option Solution) → held ≡ option_map best_of best → IncumbentHolds dp held
    → (MayListAll dp 0 next os → ⊥) → RestartGives dp best next os (Err Malformed)
restart-refuses dp best next os held is holds not = (has-solution dp best (subst (IncumbentHolds dp) is holds), λ may. not (restart-lists dp best next os may))
