-- Children that a record adds to a list.
use Rattle.std.proofs.Common.{◌≡◌, ℕ, ◌+◌, ◌<◌, ◌≤◌, not, nat_eq, List, [], ◌∷◌, length, Option, Some, None, refl, arith}
use Rattle.std.proofs.lemmas.List.Sums.{sum_by-cons, sum_by-append}
use Rattle.std.specs.List.{sum_by}
use Rattle.dp_model.specs.Dp.{Dp}
use Rattle.dp_model.specs.Lists.{Each}
use Rattle.dp_model.proofs.Members.{Each-then, Each-append}
use Rattle.dp_laws.specs.Pairs.{EachTwo}
use Rattle.dp_laws.proofs.Lists.{each-filter, two-filter}
use Rattle.dp_laws.proofs.Restricted.Permutations.{two-append}
use Rattle.fringe.specs.Tickets.{Ticketed, IsEarlier}
use Rattle.board_laws.proofs.Lists.{sum-filter}
use Rattle.journal_bytes.specs.Bodies.{ChildView}
use Rattle.journal_replay.specs.Replay.{Replayed, child_of, unless_replaced, with_child, with_children}

-- children as they are listed, from this ticket on
abbrev pub kids_listed : Dp → ℕ → List ChildView → List Ticketed
kids_listed dp next [] = []
kids_listed dp next (r ∷ rs) = record { ticket = next; subproblem = child_of dp r } ∷ kids_listed dp (next + 1) rs

each-unless : (P : Ticketed → Type 0) (replaced : Option ℕ) (os : List Ticketed) → Each P os → Each P (unless_replaced replaced os)
each-unless P None os h = h
each-unless P (Some old) os h = each-filter P (λ o. not (nat_eq o.ticket old)) os h

two-unless : (R : Ticketed → Ticketed → Type 0) (replaced : Option ℕ) (os : List Ticketed) → EachTwo R os → EachTwo R (unless_replaced replaced os)
two-unless R None os h = h
two-unless R (Some old) os h = two-filter R (λ o. not (nat_eq o.ticket old)) os h

sum-unless : (f : Ticketed → ℕ) (replaced : Option ℕ) (os : List Ticketed) → sum_by f (unless_replaced replaced os) ≤ sum_by f os
sum-unless f None os = omega arith
sum-unless f (Some old) os = sum-filter f (λ o. not (nat_eq o.ticket old)) os

-- the new list has some of the old one, and these
pub record AreAdded (old new : Replayed) (ks : List Ticketed) : Type 1 where
  pub each : (P : Ticketed → Type 0) → Each P old.listed → Each P ks → Each P new.listed
  pub two : (R : Ticketed → Ticketed → Type 0) → EachTwo R old.listed → EachTwo R ks → Each (λ y. Each (R y) ks) old.listed → EachTwo R new.listed
  pub sum : (f : Ticketed → ℕ) → sum_by f new.listed ≤ sum_by f old.listed + sum_by f ks
  pub next : new.next_ticket ≡ old.next_ticket + length ks
  pub incumbent : new.incumbent ≡ old.incumbent

pub added : (dp : Dp) (s : Replayed) (rs : List ChildView) → AreAdded s (with_children dp s rs) (kids_listed dp s.next_ticket rs)
added dp s [] = record { each = λ P h k. h; two = λ R h k across. h; sum = λ f. omega arith; next = omega arith; incumbent = refl }
added dp s (r ∷ rs) =
    let k : Ticketed = record { ticket = s.next_ticket; subproblem = child_of dp r } in
    let left = unless_replaced r.replaced s.listed in
    let ks = kids_listed dp (s.next_ticket + 1) rs in
    let more = added dp (with_child dp s r) rs in
    record {
      each = λ P h all. more.each P (Each-append P left (k ∷ []) (each-unless P r.replaced s.listed h) (all.0, tt)) all.1;
      two = λ R h all across.
          let each_left = each-unless (λ y. Each (R y) (k ∷ ks)) r.replaced s.listed across in
          let here = two-append R left (k ∷ []) (two-unless R r.replaced s.listed h) (tt, tt)
          (Each-then (λ y. Each (R y) (k ∷ ks)) (λ y. Each (R y) (k ∷ [])) left (λ y x. (x.0, tt)) each_left) in
          more.two R here all.1 (Each-append (λ y. Each (R y) ks) left (k ∷ []) (Each-then (λ y. Each (R y) (k ∷ ks)) (λ y. Each (R y) ks) left (λ y x. x.1) each_left) (all.0, tt));
      sum = λ f.
          let rest = more.sum f in
          let less = sum-unless f r.replaced s.listed in
          let whole = sum_by-append f left (k ∷ []) in
          let one = sum_by-cons f k [] in
          let first = sum_by-cons f k ks in
          omega arith;
      next = (let rest = more.next in omega arith);
      incumbent = more.incumbent;
    }

-- their tickets rise from the first one on
pub record TicketsRise (next : ℕ) (ks : List Ticketed) : Type 0 where
  pub from : Each (λ o. next ≤ o.ticket) ks
  pub given : Each (λ o. o.ticket < next + length ks) ks
  pub ordered : EachTwo IsEarlier ks

pub tickets-rise : (dp : Dp) (next : ℕ) (rs : List ChildView) → TicketsRise next (kids_listed dp next rs)
tickets-rise dp next [] = record { from = tt; given = tt; ordered = tt }
tickets-rise dp next (r ∷ rs) =
    let ks = kids_listed dp (next + 1) rs in
    let rest = tickets-rise dp (next + 1) rs in
    record {
      from = (omega arith, Each-then (λ (o : Ticketed). next + 1 ≤ o.ticket) (λ o. next ≤ o.ticket) ks (λ o k. omega arith) rest.from);
      given = (omega arith, Each-then (λ (o : Ticketed). o.ticket < (next + 1) + length ks) (λ o. o.ticket < next + length (kids_listed dp next (r ∷ rs))) ks (λ o k. omega arith) rest.given);
      ordered = (Each-then (λ (o : Ticketed). next + 1 ≤ o.ticket) (λ o. next < o.ticket) ks (λ o k. omega arith) rest.from, rest.ordered);
    }
