-- On a good board the record of a step keeps what was made of the search sound.
use Rattle.std.proofs.Common.{◌≡◌, ℕ, ◌+◌, ℤ, ◌≤ℤ◌, nat_eq, Bool, true, not, List, [], ◌∷◌, Option, Some, ◌⊎◌, inl, inr, refl, sym, ◌∙◌, ap, subst, arith}
use Rattle.dp_model.specs.Cover.{IsHeld}
use Rattle.dp_model.specs.Dp.{Dp}
use Rattle.dp_model.specs.Laws.{IsLawful}
use Rattle.dp_model.specs.Lists.{Each, OneOf}
use Rattle.dp_model.specs.Numbers.{AtMost, OptionAtMost, IsFar, is_above}
use Rattle.dp_model.specs.Prefixes.{IsMatched, value_of}
use Rattle.dp_model.specs.Solution.{Solution}
use Rattle.dp_model.specs.Subproblem.{Subproblem, IsOwn, IsChild}
use Rattle.dp_model.proofs.Members.{Has, Has-map, Each-then}
use Rattle.dp_laws.specs.Children.{AreApart}
use Rattle.dp_laws.specs.Pairs.{EachTwo}
use Rattle.dp_laws.proofs.Lists.{each-filter}
use Rattle.dp_laws.proofs.Reaches.{at-most-raised}
use Rattle.fringe.specs.Tickets.{Ticketed}
use Rattle.board_laws.specs.Board.{BoardState, reach, reach_of, value_held, frontier, prefixes}
use Rattle.board_laws.specs.Fates.{fates_on}
use Rattle.board_laws.specs.Finishing.{MayFinish}
use Rattle.board_laws.specs.GoodBoard.{IncumbentHolds, IsBoard, IsGoodFrom, pot_of, share_of}
use Rattle.board_laws.specs.Starts.{CoversFrom}
use Rattle.board_laws.specs.Steps.{finished_by, improved}
use Rattle.board_laws.specs.declared.fate.Fate.{Fate}
use Rattle.board_laws.proofs.Carrying.{reach-rises}
use Rattle.board_laws.proofs.Counting.{children-below, pots-split}
use Rattle.board_laws.proofs.Fates.{kids-each, kids-two}
use Rattle.board_laws.proofs.FinishingBoard.{finish-keeps}
use Rattle.board_laws.proofs.Frontier.{apart-flip, apart-child}
use Rattle.board_laws.proofs.Lists.{one-among}
use Rattle.board_laws.proofs.Taking.{with-without}
use Rattle.board_laws.proofs.With.{each-out, two-out, sum-with}
use Rattle.journal_replay.specs.Replay.{Replayed, listed_at, taken_off, with_children}
use Rattle.journal_replay.specs.Sound.{IsSoundStateOf}
use Rattle.journal_replay.specs.Following.{IsReplayOf, recorded_children}
use Rattle.journal_replay.proofs.Added.{kids_listed, added}
use Rattle.journal_replay.proofs.Finishing.{finish-parts, finish-beside}
use Rattle.journal_replay.proofs.Tickets.{at-has}

covers-more : (dp : Dp) (starts : List (List ℕ)) (far : Option ℤ) (os ls : List Ticketed) → Each (λ o. Has o ls) os → CoversFrom dp starts far (prefixes os) → CoversFrom dp starts far (prefixes ls)
covers-more dp starts far os ls all h x s begun =
    let among = Each-then (λ (o : Ticketed). Has o ls) (λ o. Has o.subproblem.decisions (prefixes ls)) os (λ o k. Has-map (λ (q : Ticketed). q.subproblem.decisions) ls o k) all in
    elim (h x s begun) as (λ _. AtMost (value_of dp x) far ⊎ OneOf (IsMatched dp x) (prefixes ls)) [
      | inl a ↦ inl a
      | inr one ↦ inr (one-among (λ (o : Ticketed). o.subproblem.decisions) (IsMatched dp x) os (prefixes ls) among one)
    ]

-- a good board's frontier covers, and so does what is listed beside it
pub covers-listed : (dp : Dp) (starts : List (List ℕ)) (within : ℤ) (s : Replayed) (b : BoardState) → b.settings.within ≡ within → IsReplayOf dp s b → IsGoodFrom dp starts b → CoversFrom dp starts (reach_of within (value_held s.incumbent)) (prefixes s.listed)
covers-listed dp starts within s b is beside h =
    let same : reach b ≡ reach_of within (value_held s.incumbent) = ap (λ w. reach_of w (value_held b.incumbent)) is ∙ ap (λ best. reach_of within (value_held best)) beside.incumbent in
    subst (λ far. CoversFrom dp starts far (prefixes s.listed)) same
    (covers-more dp starts (reach b) (frontier b) s.listed (Each-then (λ o. listed_at o.ticket s.listed ≡ Some o) (λ o. Has o s.listed) (frontier b) (λ o x. (at-has o.ticket s.listed o x).0) beside.listed) h.covers)

held-raised : (dp : Dp) (far more : Option ℤ) → OptionAtMost far more → (o : Ticketed) → IsHeld dp far o.subproblem.decisions o.subproblem.bound → IsHeld dp more o.subproblem.decisions o.subproblem.bound
held-raised dp far more le o h x c =
    elim (h x c) as (λ _. (value_of dp x ≤ℤ o.subproblem.bound) ⊎ AtMost (value_of dp x) more) [ inl a ↦ inl a | inr b ↦ inr (at-most-raised (value_of dp x) far more le b) ]

-- after a better solution
pub improve-sound : (dp : Dp) (starts : List (List ℕ)) (n : ℕ) (s : Replayed) (b : BoardState) (best : Solution) → IncumbentHolds dp (Some best) → is_above (value_held s.incumbent) best.value ≡ true → IsGoodFrom dp starts (improved b best)
    → IsReplayOf dp (record s { incumbent = Some best }) (improved b best) → IsSoundStateOf dp starts b.settings.within n s → IsSoundStateOf dp starts b.settings.within n (record s { incumbent = Some best })
improve-sound dp starts n s b best holds up good beside h =
    let within = b.settings.within in
    let far = reach_of within (value_held s.incumbent) in
    let more = reach_of within (Some best.value) in
    record {
      incumbent = holds;
      list = record {
        covers = covers-listed dp starts within (record s { incumbent = Some best }) (improved b best) refl beside good;
        held = Each-then (λ o. IsHeld dp far o.subproblem.decisions o.subproblem.bound) (λ o. IsHeld dp more o.subproblem.decisions o.subproblem.bound) s.listed
            (held-raised dp far more (reach-rises within (value_held s.incumbent) best.value up)) h.list.held;
        apart = h.list.apart;
        ends = h.list.ends;
        shares = h.list.shares;
      };
    }

-- after a finished subproblem
pub finish-sound : (dp : Dp) → IsLawful dp → (starts : List (List ℕ)) (n : ℕ) (s : Replayed) (b : BoardState) (who : ℕ) (threshold : Option ℤ) (cs : List Subproblem) (fs : List Fate) → IsBoard dp b → IsGoodFrom dp starts b → IsReplayOf dp s b
    → (m : MayFinish dp b who threshold cs fs) → IsSoundStateOf dp starts b.settings.within n s
    → IsSoundStateOf dp starts b.settings.within (n + 1) (with_children dp (taken_off m.parent.ticket s) (recorded_children cs (fates_on dp b cs)))
finish-sound dp laws starts n s b who threshold cs fs g good beside m h =
    let o = m.parent in
    let within = b.settings.within in
    let given = fates_on dp b cs in
    let rs = recorded_children cs given in
    let off = taken_off o.ticket s in
    let new = with_children dp off rs in
    let ks = kids_listed dp s.next_ticket rs in
    let parts = finish-parts dp s b who threshold cs fs g beside m in
    let add = added dp off rs in
    let after = finish-beside dp s b who threshold cs fs g beside m in
    let far = reach_of within (value_held s.incumbent) in
    let same_far : reach b ≡ far = ap (λ best. reach_of within (value_held best)) beside.incumbent in
    let new_far : far ≡ reach_of within (value_held new.incumbent) = ap (λ best. reach_of within (value_held best)) (sym add.incumbent) in
    let p : Ticketed → Bool = λ y. not (nat_eq y.ticket o.ticket) in
    let here = at-has o.ticket s.listed o parts.found in
    let out = with-without s.listed o beside.restores.ordered here.0 in
    let child = Each-then (λ k. IsChild dp o.subproblem.decisions k.subproblem × IsFar k.subproblem.bound) (λ k. IsChild dp o.subproblem.decisions k.subproblem) ks (λ k x. x.0) parts.kids in
    let own = (each-out (λ o. IsOwn dp o.subproblem) o off.listed s.listed out beside.restores.own).0 in
    let apart_out = two-out (λ (a c : Ticketed). AreApart a.subproblem c.subproblem) apart-flip o off.listed s.listed out h.list.apart in
    let apart_new = subst (λ l. EachTwo (λ (a c : Ticketed). AreApart a.subproblem c.subproblem) l) parts.same (kids-two AreApart cs given m.children.apart) in
    let apart_across = Each-then (λ (y : Ticketed). AreApart o.subproblem y.subproblem) (λ y. Each (λ k. AreApart y.subproblem k.subproblem) ks) off.listed
    (λ y x. Each-then (λ k. IsChild dp o.subproblem.decisions k.subproblem) (λ k. AreApart y.subproblem k.subproblem) ks (λ k c. apart-child o.subproblem y.subproblem k.subproblem x c.extends) child) apart_out.0 in
    let held_new = subst (λ l. Each (λ (k : Ticketed). IsHeld dp far k.subproblem.decisions k.subproblem.bound) l) parts.same
    (kids-each (λ c. IsHeld dp far c.decisions c.bound) cs given (subst (λ r. Each (λ (c : Subproblem). IsHeld dp r c.decisions c.bound) cs) same_far m.children.held)) in
    let held = add.each (λ y. IsHeld dp far y.subproblem.decisions y.subproblem.bound) (each-filter (λ y. IsHeld dp far y.subproblem.decisions y.subproblem.bound) p s.listed h.list.held) held_new in
    let fewer = children-below dp o.subproblem.decisions ks own.shorter child apart_new in
    let split = pots-split dp ks (Each-then (λ k. IsChild dp o.subproblem.decisions k.subproblem) (λ k. IsOwn dp k.subproblem) ks (λ k x. x.own) child) in
    let ends_out = sum-with (pot_of dp) o off.listed s.listed out in
    let shares_out = sum-with (share_of dp) o off.listed s.listed out in
    let ends_new = add.sum (pot_of dp) in
    let shares_new = add.sum (share_of dp) in
    let next = add.next in
    record {
      incumbent = subst (λ best. IncumbentHolds dp best) (sym add.incumbent) h.incumbent;
      list = record {
        covers = covers-listed dp starts within new (finished_by dp b who cs) refl after ((finish-keeps dp laws b who threshold cs fs m).good g good);
        held = subst (λ r. Each (λ (y : Ticketed). IsHeld dp r y.subproblem.decisions y.subproblem.bound) new.listed) new_far held;
        apart = add.two (λ (a c : Ticketed). AreApart a.subproblem c.subproblem) apart_out.1 apart_new apart_across;
        ends = (let old = h.list.ends in omega arith);
        shares = (let old = h.list.shares in omega arith);
      };
    }
