-- A restored board keeps what every board keeps, and is good where what it is restored from is a sound list.
use Rattle.std.proofs.Common.{◌≡◌, ◌≢◌, ℕ, ◌<◌, ◌≤◌, ℤ, Bool, true, false, cond, List, [], ◌∷◌, ◌++◌, Option, ◌⊎◌, inl, inr, refl, sym, subst, append-nil, IsTrue, arith}
use Rattle.std.proofs.lemmas.List.Sums.{sum_by-cons}
use Rattle.std.specs.List.{sum_by}
use Rattle.dp_model.specs.Cover.{IsHeld}
use Rattle.dp_model.specs.Dp.{Dp}
use Rattle.dp_model.specs.Laws.{IsLawful}
use Rattle.dp_model.specs.Lists.{Each, OneOf}
use Rattle.dp_model.specs.Numbers.{AtMost, IsFar, is_above}
use Rattle.dp_model.specs.Solution.{Solution}
use Rattle.dp_model.specs.Subproblem.{IsOwn}
use Rattle.dp_model.proofs.Members.{Each-then}
use Rattle.dp_laws.specs.Children.{AreApart}
use Rattle.dp_laws.specs.Pairs.{EachTwo}
use Rattle.fringe.specs.Fringe.{AreDifferent}
use Rattle.fringe.specs.Pushing.{after_push}
use Rattle.fringe.specs.Tickets.{Ticketed, IsEarlier}
use Rattle.board_laws.specs.Board.{reach_of, value_held, prefixes}
use Rattle.board_laws.specs.GoodBoard.{pot_of, share_of}
use Rattle.board_laws.specs.Laws.{RestoredBoardsKeep}
use Rattle.board_laws.specs.Restoring.{IsListSoundFrom, MayRestore, pushed_above}
use Rattle.board_laws.specs.Steps.{back_among}
use Rattle.board_laws.proofs.Carrying.{Deep, CarriesBy, carries-from, from-carried, option-self}
use Rattle.board_laws.proofs.Finishing.{reaches-low}
use Rattle.board_laws.proofs.Fresh.{fresh-board, fresh-good, tickets-differ}
use Rattle.board_laws.proofs.Frontier.{not-above, tickets-flip, apart-flip}
use Rattle.board_laws.proofs.Lists.{each-back}
use Rattle.board_laws.proofs.Pushed.{IsPushed, GoesOn, push-out, out-goes, pushed}

-- the subproblems that are still to be pushed, and those that are open
record ArePushable (dp : Dp) (others os : List Ticketed) : Type 0 where
  pub own : Each (λ o. IsOwn dp o.subproblem) (others ++ os)
  pub distinct : EachTwo (λ a o. a.ticket ≢ o.ticket) (others ++ os)
  pub ordered : EachTwo IsEarlier os
  pub different : EachTwo AreDifferent os

-- the first of them is pushed
one-pushed : (dp : Dp) → IsLawful dp → (reach : Option ℤ) (o : Ticketed) (others os : List Ticketed) → ArePushable dp (o ∷ others) os → is_above reach o.subproblem.bound ≡ true
    → IsPushed dp reach 0 o others os (after_push o os) × GoesOn dp reach o others os (after_push o os)
one-pushed dp laws reach o others os p up =
    pushed dp laws reach 0 o others os p.own.0 (each-back (λ o. IsOwn dp o.subproblem) others os p.own.1) up
    (Each-then (λ (x : Ticketed). o.ticket ≢ x.ticket) (λ x. x.ticket ≢ o.ticket) os (λ x h. tickets-flip o x h) (each-back (λ (x : Ticketed). o.ticket ≢ x.ticket) others os p.distinct.0)) p.ordered p.different

one-back : (dp : Dp) → IsLawful dp → (reach : Option ℤ) (o : Ticketed) (others os : List Ticketed) → ArePushable dp (o ∷ others) os → IsPushed dp reach 0 o others os (back_among reach o os)
one-back dp laws reach o others os p =
    let Goal : Bool → Type 1 = λ b. IsPushed dp reach 0 o others os (cond b (after_push o os) os) in
    let go : (b : Bool) → is_above reach o.subproblem.bound ≡ b → Goal b = λ b. elim b as (λ b. is_above reach o.subproblem.bound ≡ b → Goal b) [
      | true ↦ λ up. (one-pushed dp laws reach o others os p up).0
      | false ↦ λ low. push-out dp reach 0 o others os p.ordered p.different
    ] in go (is_above reach o.subproblem.bound) refl

-- what it reaches goes on
one-goes : (dp : Dp) → IsLawful dp → (reach : Option ℤ) (o : Ticketed) (others os : List Ticketed) → ArePushable dp (o ∷ others) os → IsHeld dp reach o.subproblem.decisions o.subproblem.bound
    → GoesOn dp reach o others os (back_among reach o os)
one-goes dp laws reach o others os p held =
    let Goal : Bool → Type 0 = λ b. GoesOn dp reach o others os (cond b (after_push o os) os) in
    let go : (b : Bool) → is_above reach o.subproblem.bound ≡ b → Goal b = λ b. elim b as (λ b. is_above reach o.subproblem.bound ≡ b → Goal b) [
      | true ↦ λ up. (one-pushed dp laws reach o others os p up).1
      | false ↦ λ low. out-goes dp reach o others os (λ k v d. inl (reaches-low dp reach v o.subproblem.decisions o.subproblem.bound d.reaches held (not-above reach o.subproblem.bound low)))
    ] in go (is_above reach o.subproblem.bound) refl

one-less : (dp : Dp) → IsLawful dp → (reach : Option ℤ) (o : Ticketed) (others os : List Ticketed) → ArePushable dp (o ∷ others) os → ArePushable dp others (back_among reach o os)
one-less dp laws reach o others os p =
    let b = one-back dp laws reach o others os p in
    record {
      own = b.each (λ o. IsOwn dp o.subproblem) p.own.0 p.own.1;
      distinct = b.two (λ (a o : Ticketed). a.ticket ≢ o.ticket) tickets-flip p.distinct.0 p.distinct.1;
      ordered = b.ordered;
      different = b.different;
    }

-- what the pushes make of both lists
record Restores (reach : Option ℤ) (others os new : List Ticketed) : Type 1 where
  pub each : (P : Ticketed → Type 0) → Each P (others ++ os) → Each P new
  pub above : Each (λ o. IsTrue (is_above reach o.subproblem.bound)) os → Each (λ o. IsTrue (is_above reach o.subproblem.bound)) new
  pub two : (R : Ticketed → Ticketed → Type 0) → ((a c : Ticketed) → R a c → R c a) → EachTwo R (others ++ os) → EachTwo R new
  pub ordered : EachTwo IsEarlier new
  pub different : EachTwo AreDifferent new
  pub sum : (f : Ticketed → ℕ) → sum_by f new ≤ sum_by f (others ++ os)

restores : (dp : Dp) → IsLawful dp → (reach : Option ℤ) (others os : List Ticketed) → ArePushable dp others os → Restores reach others os (pushed_above reach os others)
restores dp laws reach [] os p = record { each = λ P h. h; above = λ h. h; two = λ R flip h. h; ordered = p.ordered; different = p.different; sum = λ f. omega arith }
restores dp laws reach (o ∷ others) os p =
    let b = one-back dp laws reach o others os p in
    let rest = restores dp laws reach others (back_among reach o os) (one-less dp laws reach o others os p) in
    record {
      each = λ P h. rest.each P (b.each P h.0 h.1);
      above = λ h. rest.above (b.each_open (λ o. IsTrue (is_above reach o.subproblem.bound)) (λ up. up) h);
      two = λ R flip h. rest.two R flip (b.two R flip h.0 h.1);
      ordered = rest.ordered;
      different = rest.different;
      sum = λ f. (let whole = sum_by-cons f o (others ++ os) in let one = b.sum f in let all = rest.sum f in omega arith);
    }

-- what both lists reach goes on
restores-carry : (dp : Dp) → IsLawful dp → (reach : Option ℤ) (others os : List Ticketed) → ArePushable dp others os → Each (λ o. IsHeld dp reach o.subproblem.decisions o.subproblem.bound) (others ++ os)
    → CarriesBy dp reach (others ++ os) (pushed_above reach os others)
restores-carry dp laws reach [] os p held = λ k v one. inr one
restores-carry dp laws reach (o ∷ others) os p held =
    let new = back_among reach o os in
    let b = one-back dp laws reach o others os p in
    let rest = restores-carry dp laws reach others new (one-less dp laws reach o others os p) (b.each (λ o. IsHeld dp reach o.subproblem.decisions o.subproblem.bound) held.0 held.1) in
    let goes = one-goes dp laws reach o others os p held.0 in
    λ k v one. elim (goes k v one) as (λ _. AtMost v reach ⊎ OneOf (Deep dp k v) (pushed_above reach new others)) [ inl a ↦ inl a | inr c ↦ rest k v c ]

-- From nothing.

each-all : (P : Ticketed → Type 0) (os : List Ticketed) → Each P os → Each P (os ++ [])
each-all P os h = subst (λ (l : List Ticketed). Each P l) (sym (append-nil os)) h

two-all : (R : Ticketed → Ticketed → Type 0) (os : List Ticketed) → EachTwo R os → EachTwo R (os ++ [])
two-all R os h = subst (λ (l : List Ticketed). EachTwo R l) (sym (append-nil os)) h

pushable : (dp : Dp) (best : Option Solution) (os : List Ticketed) (next : ℕ) → MayRestore dp best os next → ArePushable dp os []
pushable dp best os next m = record {
  own = each-all (λ o. IsOwn dp o.subproblem) os m.own;
  distinct = two-all (λ (a o : Ticketed). a.ticket ≢ o.ticket) os (tickets-differ os m.ordered);
  ordered = tt;
  different = tt;
}

-- what is open of a sound list is a sound list
still-sound : (dp : Dp) → IsLawful dp → (starts : List (List ℕ)) (within : ℤ) (finished : ℕ) (best : Option Solution) (os : List Ticketed) (next : ℕ) → MayRestore dp best os next → IsListSoundFrom dp starts within finished best os next
    → IsListSoundFrom dp starts within finished best (pushed_above (reach_of within (value_held best)) [] os) next
still-sound dp laws starts within finished best os next m s =
    let reach = reach_of within (value_held best) in
    let new = pushed_above reach [] os in
    let p = pushable dp best os next m in
    let r = restores dp laws reach os [] p in
    let held = each-all (λ o. IsHeld dp reach o.subproblem.decisions o.subproblem.bound) os s.held in
    let by : CarriesBy dp reach os new = subst (λ (l : List Ticketed). CarriesBy dp reach l new) (append-nil os) (restores-carry dp laws reach os [] p held) in
    let less : (f : Ticketed → ℕ) → sum_by f new ≤ sum_by f os = λ f. subst (λ (l : List Ticketed). sum_by f new ≤ sum_by f l) (append-nil os) (r.sum f) in
    let pots = less (pot_of dp) in
    let shares = less (share_of dp) in
    let ends_before = s.ends in
    let shares_before = s.shares in
    record {
      covers = from-carried dp starts reach reach (prefixes os) (prefixes new) (option-self reach) (carries-from dp reach os new by) s.covers;
      held = r.each (λ o. IsHeld dp reach o.subproblem.decisions o.subproblem.bound) held;
      apart = r.two (λ (a o : Ticketed). AreApart a.subproblem o.subproblem) apart-flip (two-all (λ (a o : Ticketed). AreApart a.subproblem o.subproblem) os s.apart);
      ends = omega arith;
      shares = omega arith;
    }

pub restored-boards-keep : (dp : Dp) → IsLawful dp → RestoredBoardsKeep dp
restored-boards-keep dp laws settings best os next are m =
    let reach = reach_of settings.within (value_held best) in
    let new = pushed_above reach [] os in
    let r = restores dp laws reach os [] (pushable dp best os next m) in
    record {
      board = fresh-board dp settings best new next are (record {
        incumbent = m.incumbent;
        own = r.each (λ o. IsOwn dp o.subproblem) (each-all (λ o. IsOwn dp o.subproblem) os m.own);
        far = r.each (λ o. IsFar o.subproblem.bound) (each-all (λ o. IsFar o.subproblem.bound) os m.far);
        above = r.above tt;
        ordered = r.ordered;
        different = r.different;
        given = r.each (λ o. o.ticket < next) (each-all (λ o. o.ticket < next) os m.given);
      });
      good = λ {starts} finished s. fresh-good dp starts settings finished best new next (still-sound dp laws starts settings.within finished best os next m s);
    }
