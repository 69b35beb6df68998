-- Each step of a turn keeps its rule.
use Rattle.std.proofs.Common.{◌≡◌, ℕ, zero, suc, ℤ, ◌+◌, ◌<◌, ◌≤◌, ◌≢◌, ◌⊎◌, inl, ⊎_elim, Bool, true, false, eqb, List, [], ◌∷◌, ◌++◌, length, get_or, slice_index, set, Option, None, Some, subst, sym, refl, ap, ◌∙◌, arith, length-set, length-append, get_or-set_same}
use Rattle.std.specs.List.{AllByRecursion}
use mathlib.Core.Option.{some, some-injective, some-ne-none}
use mathlib.Core.Logic.{dite}
use native.Mathlib.Decide.{ℕ_discrete}
use prog.Atomic.{either}
use lib.ListN.{get_elem?}
use Rattle.atomic_table.specs.Table.{State, Me, Valid, keeps, takes, gives, Allows, Splits, Joins, opening, stepped, carried_after}
use Rattle.atomic_table.proofs.Lists.{at_set, at_longer, set_again, set_else, set_here, exchanged}
use Rattle.turn.specs.History.{HasMoved}
use Rattle.turn.specs.Order.{NoLess}
use Rattle.turn.specs.Rule.{first_view, holding, lone_view, next_of, joined, spent_view, IsFree, IsHeld, IsStill, Knows, IsTurn, left_at, Finds, Takes, Leaves}
use Rattle.turn.specs.declared.view.SeatView.{SeatView}
use Rattle.turn.specs.declared.view.TurnKey.{TurnKey}
use Rattle.turn.proofs.History.{not_moved, moved_once}
use Rattle.turn.proofs.Order.{no_less-same, no_less-trans, no_less-greater}
use Rattle.turn.proofs.Lists.{below, one_place, weaken, both_of, at_end, parts_set, parts_append, others_none}

not_true : (b : Bool) → (b ≡ true → ⊥) → b ≡ false
not_true true h = absurd (h refl)
not_true false h = refl

true_not_false : (b : Bool) → b ≡ true → b ≡ false → ⊥
true_not_false true h e = cc
true_not_false false h e = cc

set_same : (ws : List ℕ) → length ws ≡ 1 → set ws 0 (get_or ws 0 0) ≡ ws
set_same [] e = refl
set_same (w ∷ ws) e = refl

word_set : (ws : List ℕ) (n : ℕ) → length ws ≡ 1 → get_or (set ws 0 n) 0 0 ≡ n
word_set ws n one = get_or-set_same ws 0 n 0 (omega arith)

value_or : {A : Type 0} → A → Option A → A
value_or d None = d
value_or d (Some a) = a

pub some_is : {A : Type 0} (a b : A) → Some a ≡ Some b → a ≡ b
unfolding value_or
some_is a b e = ap (value_or a) e

only : {A : Type 0} (a b : A) (j : ℕ) → get_elem? (a ∷ []) j ≡ some b → (j ≡ 0) × (b ≡ a)
only a b zero e = (refl, sym (some-injective a b e))
only a b (suc j) e = absurd (some-ne-none b (sym e))

module _ {V T : Type 0} (tag : V → T) (seen : V → Option ℤ) (out : V → ℕ → Option (List ℕ)) (moves : V → V → ℕ → Type 0) where
  Rule : TurnKey V → State (Option V) (SeatView V) → Type 0
  Rule key s = IsTurn tag seen out moves key s

  -- what is still out stays so where a seat that counts changes its view
  still_set : (value : V) (views : List (SeatView V)) (id : ℕ) (v w : SeatView V) → get_elem? views id ≡ some v → 0 < v.parts → (p : ℕ × Option (List ℕ)) → IsStill tag seen out value views p → IsStill tag seen out value (set views id w) p
  still_set value views id v w at some_parts p h =
      let other : p.0 ≢ id = λ e. let same_parts : h.view.parts ≡ v.parts = ap (λ (x : SeatView V). x.parts) (one_place views p.0 id h.view v e h.there at) in let none = h.spent in absurd (omega arith) in
      record { out_is = h.out_is; view = h.view; there = set_else views id p.0 w other ∙ h.there; spent = h.spent }

  still_longer : (value : V) (views more : List (SeatView V)) (p : ℕ × Option (List ℕ)) → IsStill tag seen out value views p → IsStill tag seen out value (views ++ more) p
  still_longer value views more p h = record { out_is = h.out_is; view = h.view; there = at_longer views more p.0 h.view h.there; spent = h.spent }

  -- a seat whose view does not change knows what it knew of the same value
  knows_on : (key : TurnKey V) (value : V) (views views' : List (SeatView V)) (j : ℕ) (w : SeatView V) → Knows tag seen out key value views j w
      → ((p : ℕ × Option (List ℕ)) → IsStill tag seen out value views p → IsStill tag seen out value views' p)
      → (w.last ≡ true → j + 1 ≡ length views → j + 1 ≡ length views')
      → Knows tag seen out key value views' j w
  knows_on key value views views' j w k f g = record {
    first_is = k.first_is;
    no_less = k.no_less;
    out_is = k.out_is;
    number_is = k.number_is;
    still = weaken (IsStill tag seen out value views) (IsStill tag seen out value views') f w.also k.still;
    last_is = λ l. (g l (k.last_is l).0, (k.last_is l).1);
  }

  -- the same where the view takes the turn
  knows_holding : (key : TurnKey V) (value : V) (views : List (SeatView V)) (j : ℕ) (v : SeatView V) → Knows tag seen out key value views j v → Knows tag seen out key value views j (holding v value)
  knows_holding key value views j v k = record { first_is = k.first_is; no_less = k.no_less; out_is = k.out_is; number_is = k.number_is; still = k.still; last_is = k.last_is }

  -- at the place of the seat that changed
  at_own : (key : TurnKey V) (value : V) (views : List (SeatView V)) (id j : ℕ) (w' w : SeatView V) → Knows tag seen out key value views id w' → (j ≡ id) × (w' ≡ w) → Knows tag seen out key value views j w
  at_own key value views id j w' w k t = subst (Knows tag seen out key value views j) t.1 (subst (λ i. Knows tag seen out key value views i w') (sym t.0) k)

  -- after a take that won, the seat holds the turn
  taken : (key : TurnKey V) (s : State (Option V) (SeatView V)) (id : ℕ) (v : SeatView V) (h : IsTurn tag seen out moves key s) → get_elem? s.views id ≡ some v → v.parts ≡ 1
      → IsFree h.value s → IsTurn tag seen out moves key (stepped s 0 1 id [] (holding v h.value) (takes 0 (Some h.value)))
  taken key s id v h at one f =
      let w' = holding v h.value in
      let some_v : 0 < v.parts = omega arith in
      let wide = below s.views id v at in
      let long = length-set s.views id w' in
      let on : (j : ℕ) (w : SeatView V) → Knows tag seen out key h.value s.views j w → Knows tag seen out key h.value (set s.views id w') j w =
      λ j w k. knows_on key h.value s.views (set s.views id w') j w k (still_set h.value s.views id v w' at some_v) (λ l e. e ∙ sym long) in
      record {
        one_word = length-set s.words 0 1 ∙ h.one_word;
        value = h.value;
        tag_is = h.tag_is;
        past = h.past;
        parts_are = (let p = parts_set s.views id v w' at in omega arith) ∙ h.parts_are;
        known = λ j w e some_parts. ⊎_elim
            (λ t. at_own key h.value (set s.views id w') id j w' w (on id w' (knows_holding key h.value s.views id v (h.known id v at some_v))) t)
            (λ t. on j w (h.known j w t.1 some_parts)) (at_set s.views id j w' w e);
        few = let few = h.few in omega arith;
        rest = λ n far. h.rest n (omega arith);
        spent = λ j w e none. ⊎_elim
            (λ t. absurd (let p : v.parts ≡ w.parts = ap (λ (x : SeatView V). x.parts) t.1 in omega arith))
            (λ t. h.spent j w t.1 none) (at_set s.views id j w' w e);
        free = λ e. absurd (let here = word_set s.words 1 h.one_word in omega arith);
        held = λ _. record {
          holder = id;
          view = w';
          there = set_here s.views id w' wide;
          holds_is = refl;
          found_is = refl;
          alone = λ j w e holds. ⊎_elim (λ t. t.0) (λ t. absurd (true_not_false w.holds holds (f.idle j w t.1))) (at_set s.views id j w' w e);
        };
      }

  -- a try that lost changes nothing
  same : (key : TurnKey V) (s : State (Option V) (SeatView V)) (id n : ℕ) (v : SeatView V) (c : List (ℕ × Option V)) → get_elem? s.views id ≡ some v → IsTurn tag seen out moves key s
      → set s.words 0 n ≡ s.words → IsTurn tag seen out moves key (stepped s 0 n id c v keeps)
  same key s id n v c at h e = subst (λ (x : List (SeatView V)). IsTurn tag seen out moves key (record { words = set s.words 0 n; homes = s.homes; views = x })) (sym (set_again s.views id v at))
      (subst (λ (x : List ℕ). IsTurn tag seen out moves key (record { words = x; homes = s.homes; views = s.views })) (sym e) h)

  -- what a free turn shows to a seat
  finds : (key : TurnKey V) (value : V) (views : List (SeatView V)) (j : ℕ) (v : SeatView V) → tag value ≡ tag key.first.value → Knows tag seen out key value views j v → Finds tag seen out v value
  finds key value views j v t k = record { first = key.first.value; first_is = k.first_is; tag_is = t; no_less = k.no_less; out_is = k.out_is }

  pub tries : (key : TurnKey V) (id : ℕ) (m : Me (Option V) (SeatView V)) → m.1 ≡ [] → m.0.parts ≡ 1
      → Allows (IsTurn tag seen out moves key) 1 id m 0 (λ n. either (eqb n 0) 1 n) (Takes tag seen out m)
  tries key id m empty one s h wide at _ =
      let now = get_or s.words 0 0 in
      let Ends : ℕ → Type 0 = λ n. (w : SeatView V) × (a : _) × Valid s.homes m.1 a × IsTurn tag seen out moves key (stepped s 0 n id m.1 w a) × Takes tag seen out m now (w, carried_after m.1 a) in
      exchanged now 0 1 Ends
      (λ zero.
      let f = h.free zero in
      subst (λ (c : List (ℕ × Option V)). (w : SeatView V) × (a : _) × Valid s.homes c a × IsTurn tag seen out moves key (stepped s 0 1 id c w a) × Takes tag seen out m now (w, carried_after c a)) (sym empty) (
        holding m.0 h.value,
        takes 0 (Some h.value),
        f.home,
        taken key s id m.0 h at one f,
        ((λ _. (h.value, refl, finds key h.value s.views id m.0 h.tag_is (h.known id m.0 at (omega arith)))), (λ no. absurd (no zero))),
      ))
      (λ busy. (m.0, keeps, tt, same key s id now m.0 m.1 at h (set_same s.words h.one_word), ((λ zero. absurd (busy zero)), λ _. refl)))

  -- What the turn asks of a value that a seat of this number leaves where it found another: the tag is kept, the seen value is no less, no other number's decisions changed, and it is the same or one move away
  pub record MayLeave (found value : V) (number : ℕ) : Type 0 where
    pub tag_is : tag value ≡ tag found
    pub no_less : NoLess (seen found) (seen value)
    pub others : (other : ℕ) → other ≢ number → out value other ≡ out found other
    pub moved : (value ≡ found) ⊎ moves found value number

  pub may_stay : (found : V) (number : ℕ) → MayLeave found found number
  may_stay found number = record { tag_is = refl; no_less = no_less-same (seen found); others = λ other ne. refl; moved = inl refl }

  pub leaves : (key : TurnKey V) (id : ℕ) (v : SeatView V) (found value : V) → v.holds ≡ true → v.parts ≡ 1 → v.had ≡ Some found → MayLeave found value v.number
      → Allows (IsTurn tag seen out moves key) 1 id (v, (0, Some value) ∷ []) 0 (λ _. 0) (λ _. Leaves tag seen out (v, (0, Some value) ∷ []))
  leaves key id v found value holds one found_here may s h wide at _ =
      let busy : slice_index s.words 0 ≢ 0 = λ e. true_not_false v.holds holds ((h.free e).idle id v at) in
      let held = h.held busy in
      let mine : id ≡ held.holder = held.alone id v at holds in
      let view_is : v ≡ held.view = one_place s.views id held.holder v held.view mine at held.there in
      let found_is : found ≡ h.value = some_is found h.value (sym found_here ∙ (ap (λ (x : SeatView V). x.had) view_is ∙ held.found_is)) in
      let knows = h.known id v at (omega arith) in
      let some_v : 0 < v.parts = omega arith in
      let w' = left_at tag seen out v value in
      let long = length-set s.views id w' in
      let new = set s.views id w' in
      let stays : (n : ℕ) → n ≢ id → out value n ≡ out h.value n =
      λ n ne. may.others n (λ e. ne (e ∙ knows.number_is)) ∙ ap (λ (x : V). out x n) found_is in
      let still : (p : ℕ × Option (List ℕ)) → IsStill tag seen out h.value s.views p → IsStill tag seen out value new p =
      λ p k. let next = still_set h.value s.views id v w' at some_v p k in record {
        out_is = stays p.0 (λ e. let same_parts : k.view.parts ≡ v.parts = ap (λ (x : SeatView V). x.parts) (one_place s.views p.0 id k.view v e k.there at) in let none = k.spent in absurd (omega arith)) ∙ k.out_is;
        view = next.view;
        there = next.there;
        spent = next.spent;
      } in (
        w',
        gives,
        tt,
        record {
          one_word = length-set s.words 0 0 ∙ h.one_word;
          value = value;
          tag_is = may.tag_is ∙ (ap tag found_is ∙ h.tag_is);
          past = moved_once moves key.first.value h.value value v.number h.past (subst (λ (x : V). (value ≡ x) ⊎ moves x value v.number) found_is may.moved);
          parts_are = (let p = parts_set s.views id v w' at in omega arith) ∙ h.parts_are;
          known = λ j w e some_parts. ⊎_elim
              (λ t. at_own key value new id j w' w (record {
                first_is = knows.first_is;
                no_less = no_less-same (seen value);
                out_is = refl;
                number_is = knows.number_is;
                still = weaken (IsStill tag seen out h.value s.views) (IsStill tag seen out value new) still v.also knows.still;
                last_is = λ l. ((knows.last_is l).0 ∙ sym long, (knows.last_is l).1);
              }) t)
              (λ t. let k = h.known j w t.1 some_parts in record {
                first_is = k.first_is;
                no_less = no_less-trans w.seen (seen found) (seen value) (subst (λ (x : V). NoLess w.seen (seen x)) (sym found_is) k.no_less) may.no_less;
                out_is = stays w.number (λ e2. t.0 (sym k.number_is ∙ e2)) ∙ k.out_is;
                number_is = k.number_is;
                still = weaken (IsStill tag seen out h.value s.views) (IsStill tag seen out value new) still w.also k.still;
                last_is = λ l. ((k.last_is l).0 ∙ sym long, (k.last_is l).1);
              }) (at_set s.views id j w' w e);
          few = let few = h.few in omega arith;
          rest = λ n far. let wide = below s.views id v at in stays n (λ e. omega arith) ∙ h.rest n (omega arith);
          spent = λ j w e none. ⊎_elim
              (λ t. ap (λ (x : SeatView V). x.holds) (sym t.1))
              (λ t. h.spent j w t.1 none) (at_set s.views id j w' w e);
          free = λ _. record {
            home = set_here s.homes 0 (some (Some value)) (omega arith);
            idle = λ j w e. ⊎_elim
                (λ t. ap (λ (x : SeatView V). x.holds) (sym t.1))
                (λ t. not_true w.holds (λ h2. t.0 (held.alone j w t.1 h2 ∙ sym mine))) (at_set s.views id j w' w e);
          };
          held = λ ne. absurd (ne (word_set s.words 0 h.one_word));
        },
        (value, refl, refl),
      )

  -- the first seat, before the others are made
  pub opens : (key : TurnKey V) → 1 ≤ key.seats → ((number : ℕ) → out key.first.value number ≡ None) → IsTurn tag seen out moves key (opening (0 ∷ []) (Some key.first.value ∷ []) (first_view key))
  opens key some_seats home = record {
    one_word = refl;
    value = key.first.value;
    tag_is = refl;
    past = not_moved moves key.first.value;
    parts_are = omega arith;
    known = λ j w e some_parts. let t = only (first_view key) w j e in at_own key key.first.value (first_view key ∷ []) 0 j (first_view key) w
        (record { first_is = refl; no_less = tt; out_is = home 0; number_is = refl; still = tt; last_is = λ _. (refl, omega arith) }) (t.0, sym t.1);
    few = some_seats;
    rest = λ n far. home n;
    spent = λ j w e none. ap (λ (x : SeatView V). x.holds) (only (first_view key) w j e).1;
    free = λ _. record { home = refl; idle = λ j w e. ap (λ (x : SeatView V). x.holds) (only (first_view key) w j e).1 };
    held = λ ne. absurd (ne refl);
  }

  -- the next seat is made of the last one
  pub splits : (key : TurnKey V) (id : ℕ) (v : SeatView V) → v.last ≡ true → v.holds ≡ false → 1 < v.parts
      → Splits (IsTurn tag seen out moves key) id v (lone_view v) (next_of v)
  splits key id v last idle more s h at =
      let w' = lone_view v in
      let u' = next_of v in
      let old = set s.views id w' in
      let mine = h.known id v at (omega arith) in
      let end : id + 1 ≡ length s.views = (mine.last_is last).0 in
      let wide : length old ≡ length s.views = length-set s.views id w' in
      let longer : length (old ++ u' ∷ []) ≡ length s.views + 1 = omega (arith, length-append old (u' ∷ [])) in
      let here : id < length s.views = omega arith in
      let new = old ++ u' ∷ [] in
      let still : (p : ℕ × Option (List ℕ)) → IsStill tag seen out h.value s.views p → IsStill tag seen out h.value new p =
      λ p k. still_longer h.value old (u' ∷ []) p (still_set h.value s.views id v w' at (omega arith) p k) in
      record {
        one_word = h.one_word;
        value = h.value;
        tag_is = h.tag_is;
        past = h.past;
        parts_are = (let p = parts_set s.views id v w' at in let q = parts_append old (u' ∷ []) in omega arith) ∙ h.parts_are;
        known = λ j w e some_parts. ⊎_elim
            (λ t. ⊎_elim
            (λ t2. at_own key h.value new id j w' w (record {
              first_is = mine.first_is;
              no_less = mine.no_less;
              out_is = mine.out_is;
              number_is = mine.number_is;
              still = weaken (IsStill tag seen out h.value s.views) (IsStill tag seen out h.value new) still v.also mine.still;
              last_is = λ h2. absurd (true_not_false false h2 refl);
            }) t2)
            (λ t2. knows_on key h.value s.views new j w (h.known j w t2.1 some_parts) still (λ l there. absurd (t2.0 (omega arith))))
            (at_set s.views id j w' w t))
            (λ t. at_own key h.value new (length old) j u' w (record {
              first_is = mine.first_is;
              no_less = tt;
              out_is = h.rest (v.number + 1) (let m = mine.number_is in omega arith);
              number_is = let m = mine.number_is in omega arith;
              still = tt;
              last_is = λ _. (omega arith, let all = (mine.last_is last).1 in omega arith);
            }) t)
            (at_end old u' w j e);
        few = let all = (mine.last_is last).1 in omega arith;
        rest = λ n far. h.rest n (omega arith);
        spent = λ j w e none. ⊎_elim
            (λ t. ⊎_elim (λ t2. ap (λ (x : SeatView V). x.holds) (sym t2.1) ∙ idle) (λ t2. h.spent j w t2.1 none) (at_set s.views id j w' w t))
            (λ t. ap (λ (x : SeatView V). x.holds) (sym t.1)) (at_end old u' w j e);
        free = λ zero. let f = h.free zero in record {
          home = f.home;
          idle = λ j w e. ⊎_elim
              (λ t. ⊎_elim (λ t2. ap (λ (x : SeatView V). x.holds) (sym t2.1) ∙ idle) (λ t2. f.idle j w t2.1) (at_set s.views id j w' w t))
              (λ t. ap (λ (x : SeatView V). x.holds) (sym t.1)) (at_end old u' w j e);
        };
        held = λ busy. let f = h.held busy in
            let other : f.holder ≢ id = λ e. true_not_false f.view.holds f.holds_is (ap (λ (x : SeatView V). x.holds) (one_place s.views f.holder id f.view v e f.there at) ∙ idle) in record {
              holder = f.holder;
              view = f.view;
              there = at_longer old (u' ∷ []) f.holder f.view (set_else s.views id f.holder w' other ∙ f.there);
              holds_is = f.holds_is;
              found_is = f.found_is;
              alone = λ j w e holds. ⊎_elim
                  (λ t. ⊎_elim (λ t2. absurd (true_not_false w.holds holds (ap (λ (x : SeatView V). x.holds) (sym t2.1) ∙ idle))) (λ t2. f.alone j w t2.1 holds) (at_set s.views id j w' w t))
                  (λ t. absurd (true_not_false w.holds holds (ap (λ (x : SeatView V). x.holds) (sym t.1)))) (at_end old u' w j e);
            };
      }

  -- two seats become one, and the other is gone
  pub joins : (key : TurnKey V) (id : ℕ) (v : SeatView V) (other : ℕ) (u : SeatView V) → v.holds ≡ false → u.holds ≡ false → 0 < v.parts → 0 < u.parts
      → Joins (IsTurn tag seen out moves key) id v other u (joined v u) spent_view
  joins key id v other u idle idle2 some_v some_u s h at apart there =
      let w' = joined v u in
      let old = set s.views id w' in
      let g' : SeatView V = spent_view in
      let new = set old other g' in
      let mine = h.known id v at some_v in
      let theirs : get_elem? s.views other ≡ some u = sym (set_else s.views id other w' apart) ∙ there in
      let known_u = h.known other u theirs some_u in
      let wide : length new ≡ length s.views = length-set old other g' ∙ length-set s.views id w' in
      let still : (p : ℕ × Option (List ℕ)) → IsStill tag seen out h.value s.views p → IsStill tag seen out h.value new p =
      λ p k. still_set h.value old other u g' there some_u p (still_set h.value s.views id v w' at some_v p k) in
      let gone_here : IsStill tag seen out h.value new (u.number, u.out) = record {
        out_is = known_u.out_is;
        view = g';
        there = ap (λ k. get_elem? new k) known_u.number_is ∙ set_here old other g' (below old other u there);
        spent = refl;
      } in
      let all_still = weaken (IsStill tag seen out h.value s.views) (IsStill tag seen out h.value new) still in
      record {
        one_word = h.one_word;
        value = h.value;
        tag_is = h.tag_is;
        past = h.past;
        parts_are = (let p = parts_set s.views id v w' at in let q = parts_set old other u g' there in omega arith) ∙ h.parts_are;
        known = λ j w e some_parts. ⊎_elim
            (λ t. absurd (let p : g'.parts ≡ w.parts = ap (λ (x : SeatView V). x.parts) t.1 in omega arith))
            (λ t. ⊎_elim
            (λ t2. at_own key h.value new id j w' w (record {
              first_is = mine.first_is;
              no_less = no_less-greater v.seen u.seen (seen h.value) mine.no_less known_u.no_less;
              out_is = mine.out_is;
              number_is = mine.number_is;
              still = (gone_here, both_of (IsStill tag seen out h.value new) v.also u.also (all_still v.also mine.still) (all_still u.also known_u.still));
              last_is = λ h2. absurd (true_not_false false h2 refl);
            }) t2)
            (λ t2. knows_on key h.value s.views new j w (h.known j w t2.1 some_parts) still (λ l e2. e2 ∙ sym wide))
            (at_set s.views id j w' w t.1))
            (at_set old other j g' w e);
        few = let few = h.few in omega arith;
        rest = λ n far. h.rest n (omega arith);
        spent = λ j w e none. ⊎_elim
            (λ t. ap (λ (x : SeatView V). x.holds) (sym t.1))
            (λ t. ⊎_elim (λ t2. ap (λ (x : SeatView V). x.holds) (sym t2.1) ∙ idle) (λ t2. h.spent j w t2.1 none) (at_set s.views id j w' w t.1))
            (at_set old other j g' w e);
        free = λ zero. let f = h.free zero in record {
          home = f.home;
          idle = λ j w e. ⊎_elim
              (λ t. ap (λ (x : SeatView V). x.holds) (sym t.1))
              (λ t. ⊎_elim (λ t2. ap (λ (x : SeatView V). x.holds) (sym t2.1) ∙ idle) (λ t2. f.idle j w t2.1) (at_set s.views id j w' w t.1))
              (at_set old other j g' w e);
        };
        held = λ busy. let f = h.held busy in
            let not_v : f.holder ≢ id = λ e. true_not_false f.view.holds f.holds_is (ap (λ (x : SeatView V). x.holds) (one_place s.views f.holder id f.view v e f.there at) ∙ idle) in
            let not_u : f.holder ≢ other = λ e. true_not_false f.view.holds f.holds_is (ap (λ (x : SeatView V). x.holds) (one_place s.views f.holder other f.view u e f.there theirs) ∙ idle2) in record {
              holder = f.holder;
              view = f.view;
              there = set_else old other f.holder g' not_u ∙ (set_else s.views id f.holder w' not_v ∙ f.there);
              holds_is = f.holds_is;
              found_is = f.found_is;
              alone = λ j w e holds. ⊎_elim
                  (λ t. absurd (true_not_false w.holds holds (ap (λ (x : SeatView V). x.holds) (sym t.1))))
                  (λ t. ⊎_elim (λ t2. absurd (true_not_false w.holds holds (ap (λ (x : SeatView V). x.holds) (sym t2.1) ∙ idle))) (λ t2. f.alone j w t2.1 holds) (at_set s.views id j w' w t.1))
                  (at_set old other j g' w e);
            };
      }

  -- where a seat stands for all, and does not hold the turn, none does
  nobody : (key : TurnKey V) (id : ℕ) (v : SeatView V) (s : State (Option V) (SeatView V)) (h : IsTurn tag seen out moves key s) → get_elem? s.views id ≡ some v → v.parts ≡ key.seats → v.holds ≡ false
      → IsHeld h.value s → ⊥
  nobody key id v s h at all idle f =
      true_not_false f.view.holds f.holds_is (dite (ℕ_discrete f.holder id)
      (λ e. ap (λ (x : SeatView V). x.holds) (one_place s.views f.holder id f.view v e f.there at) ∙ idle)
      (λ ne. h.spent f.holder f.view f.there (others_none s.views id f.holder v f.view at f.there (all ∙ sym h.parts_are) ne)))

  -- what is known of the value then
  pub record IsLast (key : TurnKey V) (v : SeatView V) (value : V) : Type 0 where
    pub tag_is : tag value ≡ tag key.first.value
    pub no_less : NoLess v.seen (seen value)
    pub out_is : out value v.number ≡ v.out
    pub also_out : AllByRecursion (λ (p : ℕ × Option (List ℕ)). out value p.0 ≡ p.1) v.also
    pub rest : (n : ℕ) → key.seats ≤ n → out value n ≡ None
    pub past : HasMoved moves key.first.value value

  pub record Closes (key : TurnKey V) (v : SeatView V) (s : State (Option V) (SeatView V)) : Type 0 where
    pub value : V
    pub home : get_elem? s.homes 0 ≡ some (some (Some value))
    pub last : IsLast key v value

  -- then the value is at home, and it is no less than what the seat saw
  pub closes : (key : TurnKey V) (id : ℕ) (v : SeatView V) (s : State (Option V) (SeatView V)) → IsTurn tag seen out moves key s → get_elem? s.views id ≡ some v → v.parts ≡ key.seats → 0 < key.seats → v.holds ≡ false
      → Closes key v s
  closes key id v s h at all some_seats idle = dite (ℕ_discrete (get_or s.words 0 0) 0)
      (λ zero. let k = h.known id v at (omega arith) in record {
        value = h.value;
        home = (h.free zero).home;
        last = record {
          tag_is = h.tag_is;
          no_less = k.no_less;
          out_is = k.out_is;
          also_out = weaken (IsStill tag seen out h.value s.views) (λ (p : ℕ × Option (List ℕ)). out h.value p.0 ≡ p.1) (λ p x. x.out_is) v.also k.still;
          rest = λ n far. h.rest n (let few = h.few in omega arith);
          past = h.past;
        };
      })
      (λ busy. absurd (nobody key id v s h at all idle (h.held busy)))
