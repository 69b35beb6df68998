-- The seats of a turn, as they are made and as they are joined.
use Rattle.std.proofs.Common.{◌≡◌, ℕ, ℤ, ◌+◌, ◌≤◌, false, List, [], ◌∷◌, ◌++◌, map, length, Option, Some, subst, sym, refl, ap, ◌∙◌, arith, length-append, append_assoc, append-nil}
use mathlib.Core.Option.{some, some-injective}
use lib.ListN.{get_elem?}
use Rattle.std.specs.List.{All, AllByRecursion, range_with_len}
use Rattle.std.proofs.lemmas.List.{map-append}
use Rattle.std.proofs.lemmas.List.Elements.{recursion_from_All, All-from_recursion, All-nil, All-cons, All-push}
use Rattle.std.proofs.lemmas.List.FromFn.{map-range_with_len_more}
use Rattle.atomic_table.specs.Table.{Final, Seen}
use Rattle.atomic_table.specs.declared.shared.Seat.{Seat as Place}
use Rattle.turn.specs.Order.{NoLess, greater}
use Rattle.turn.specs.Rule.{lone_view, next_of, joined, IsTurn}
use Rattle.turn.specs.Seats.{number_of, pair_of, seen_of, out_of, seats_of, maker, IsSeatOf, IsFresh, IsMaker, IsWhole, IsJoining}
use Rattle.turn.specs.declared.view.SeatView.{SeatView}
use Rattle.turn.specs.declared.view.TurnKey.{TurnKey}
use Rattle.turn.specs.declared.turn.Seat.{Seat}
use Rattle.turn.specs.declared.turn.Turn.{Turn}
use Rattle.turn.proofs.Order.{no_less-same, no_less-trans, no_less-left, no_less-right}
use Rattle.turn.proofs.Steps.{closes, some_is, IsLast}

map_same : (xs : List ℕ) → map (λ k. k) xs ≡ xs
map_same [] = refl
map_same (x ∷ xs) = ap (λ ys. x ∷ ys) (map_same xs)

range_more : (n : ℕ) → range_with_len 0 (n + 1) ≡ range_with_len 0 n ++ n ∷ []
range_more n = sym (map_same (range_with_len 0 (n + 1))) ∙ (map-range_with_len_more (λ k. k) 0 n n (omega arith) ∙ ap (λ xs. xs ++ n ∷ []) (map_same (range_with_len 0 n)))

module _ {A : Type 0} (P : A → Type 0) where
  parts : (xs ys : List A) → AllByRecursion P (xs ++ ys) → AllByRecursion P xs × AllByRecursion P ys
  parts [] ys h = (tt, h)
  parts (x ∷ xs) ys h = let t = parts xs ys h.1 in ((h.0, t.0), t.1)

  pub all_front : (xs : List A) (y : A) → All P (xs ++ y ∷ []) → All P xs
  all_front xs y h = All-from_recursion P xs (parts xs (y ∷ []) (recursion_from_All P (xs ++ y ∷ []) h)).0

  pub all_end : (xs : List A) (y : A) → All P (xs ++ y ∷ []) → P y
  all_end xs y h = (parts xs (y ∷ []) (recursion_from_All P (xs ++ y ∷ []) h)).1.0

  weaken_r : (Q : A → Type 0) → ((x : A) → P x → Q x) → (xs : List A) → AllByRecursion P xs → AllByRecursion Q xs
  weaken_r Q f [] h = tt
  weaken_r Q f (x ∷ xs) h = (f x h.0, weaken_r Q f xs h.1)

  pub all_weaken : (Q : A → Type 0) → ((x : A) → P x → Q x) → (xs : List A) → All P xs → All Q xs
  all_weaken Q f xs h = All-from_recursion Q xs (weaken_r Q f xs (recursion_from_All P xs h))

module _ {V T : Type 0} (t : Turn V T) where
  pub numbers_more : (made : List (Seat V)) (s : Seat V) (n : ℕ) → map number_of made ≡ range_with_len 0 n → s.number ≡ n → map number_of (made ++ s ∷ []) ≡ range_with_len 0 (n + 1)
  numbers_more made s n h e = map-append number_of made (s ∷ []) ∙ (ap (λ xs. xs ++ s.number ∷ []) h ∙ (ap (λ k. range_with_len 0 n ++ k ∷ []) e ∙ sym (range_more n)))

  pub makes_next : (p q : Place (Option V) (SeatView V)) (number seats : ℕ) → IsMaker t p number seats → q.table_id ≡ p.table_id → q.me ≡ (next_of p.me.0, []) → IsMaker t q (number + 1) seats
  makes_next p q number seats m table me = record {
    table_is = table ∙ m.table_is;
    me_is = me ∙ (ap (λ (x : SeatView V × List (ℕ × Option V)). (next_of x.0, [])) m.me_is ∙ ap (λ (k : ℕ). let w : SeatView V = record (maker t (number + 1) seats) { parts = k } in (w, [])) (omega arith));
    count_is = m.count_is;
  }

  pub finishes : (s : Seat V) (p q : Place (Option V) (SeatView V)) (number seats : ℕ) → IsMaker t p number seats → s.place ≡ q → q.table_id ≡ p.table_id → q.me ≡ (lone_view p.me.0, p.me.1) → IsFresh t s
  finishes s p q number seats m here table me =
      let now : s.place.me ≡ (lone_view (maker t number seats), []) = ap (λ (x : Place (Option V) (SeatView V)). x.me) here ∙ (me ∙ ap (λ (x : SeatView V × List (ℕ × Option V)). (lone_view x.0, x.1)) m.me_is) in
      record {
        own = record {
          table_is = ap (λ (x : Place (Option V) (SeatView V)). x.table_id) here ∙ (table ∙ m.table_is);
          first_is = ap (λ x. x.0.first) now;
          one_part = ap (λ x. x.0.parts) now;
          alone = ap (λ x. x.0.also) now;
          idle = ap (λ x. x.0.holds) now;
          empty = ap (λ x. x.1) now;
        };
        nothing_seen = ap (λ x. x.0.seen) now;
        nothing_out = ap (λ x. x.0.out) now;
        nothing_left = ap (λ x. x.0.had) now;
      }

  pub ends : (s : Seat V) (p : Place (Option V) (SeatView V)) (number seats : ℕ) → IsMaker t p number seats → s.place ≡ p → number + 1 ≡ seats → IsFresh t s
  ends s p number seats m here last =
      let now : s.place.me ≡ (maker t number seats, []) = ap (λ (x : Place (Option V) (SeatView V)). x.me) here ∙ m.me_is in
      record {
        own = record {
          table_is = ap (λ (x : Place (Option V) (SeatView V)). x.table_id) here ∙ m.table_is;
          first_is = ap (λ x. x.0.first) now;
          one_part = ap (λ x. x.0.parts) now ∙ omega arith;
          alone = ap (λ x. x.0.also) now;
          idle = ap (λ x. x.0.holds) now;
          empty = ap (λ x. x.1) now;
        };
        nothing_seen = ap (λ x. x.0.seen) now;
        nothing_out = ap (λ x. x.0.out) now;
        nothing_left = ap (λ x. x.0.had) now;
      }

  pub joining_first : (s : Seat V) (left all : List (Seat V)) → all ≡ left ++ s ∷ [] → All (IsSeatOf t) all → length all ≡ seats_of t → IsJoining t s.place left all
  joining_first s left all e own count =
      let own' = subst (λ xs. All (IsSeatOf t) xs) e own in
      let mine = all_end (IsSeatOf t) left s own' in
      record {
        table_is = mine.table_is;
        empty = mine.empty;
        idle = mine.idle;
        some_parts = let p = mine.one_part in omega arith;
        parts_are = let p = mine.one_part in let n = ap length e in omega (arith, length-append left (s ∷ []));
        own = all_front (IsSeatOf t) left s own';
        others = [];
        first = s;
        all_is = e;
        also_is = mine.alone;
        own_is = ap (λ (n : ℕ). (n, s.place.me.0.out)) s.number_is;
        seen = All-cons (λ (x : Seat V). NoLess (seen_of x) s.place.me.0.seen) s [] (no_less-same s.place.me.0.seen) (All-nil (λ (x : Seat V). NoLess (seen_of x) s.place.me.0.seen));
      }

  pub joining_own : (p : Place (Option V) (SeatView V)) (left all left' : List (Seat V)) (s : Seat V) → IsJoining t p left all → left ≡ left' ++ s ∷ [] → IsSeatOf t s
  joining_own p left all left' s j e = all_end (IsSeatOf t) left' s (subst (λ xs. All (IsSeatOf t) xs) e j.own)

  pub joining_step : (p q : Place (Option V) (SeatView V)) (left all left' : List (Seat V)) (s : Seat V) → IsJoining t p left all → left ≡ left' ++ s ∷ []
      → q.table_id ≡ p.table_id → q.me ≡ (joined p.me.0 s.place.me.0, p.me.1) → IsJoining t q left' all
  joining_step p q left all left' s j e table me =
      let mine = joining_own p left all left' s j e in
      let seen_is : q.me.0.seen ≡ greater p.me.0.seen s.place.me.0.seen = ap (λ x. x.0.seen) me in
      let parts_is : q.me.0.parts ≡ p.me.0.parts + s.place.me.0.parts = ap (λ x. x.0.parts) me in
      record {
        table_is = table ∙ j.table_is;
        empty = ap (λ x. x.1) me ∙ j.empty;
        idle = ap (λ x. x.0.holds) me ∙ j.idle;
        some_parts = let h = j.some_parts in omega arith;
        parts_are = let h = j.parts_are in let n = ap length e in let o = mine.one_part in omega (arith, length-append left' (s ∷ []));
        own = all_front (IsSeatOf t) left' s (subst (λ xs. All (IsSeatOf t) xs) e j.own);
        others = s ∷ j.others;
        first = j.first;
        all_is = j.all_is ∙ (ap (λ xs. xs ++ (j.others ++ j.first ∷ [])) e ∙ append_assoc left' (s ∷ []) (j.others ++ j.first ∷ []));
        also_is = ap (λ x. x.0.also) me ∙ (ap (λ xs. (s.place.me.0.number, s.place.me.0.out) ∷ (p.me.0.also ++ xs)) mine.alone
            ∙ (ap (λ xs. (s.place.me.0.number, s.place.me.0.out) ∷ xs) (append-nil p.me.0.also ∙ j.also_is) ∙ ap (λ (n : ℕ). (n, s.place.me.0.out) ∷ map pair_of j.others) s.number_is));
        own_is = ap (λ x. (x.0.number, x.0.out)) me ∙ j.own_is;
        seen = All-cons (λ (x : Seat V). NoLess (seen_of x) q.me.0.seen) s (j.others ++ j.first ∷ [])
            (subst (NoLess (seen_of s)) (sym seen_is) (no_less-right p.me.0.seen s.place.me.0.seen))
            (all_weaken (λ (x : Seat V). NoLess (seen_of x) p.me.0.seen) (λ (x : Seat V). NoLess (seen_of x) q.me.0.seen)
            (λ x h. no_less-trans (seen_of x) p.me.0.seen q.me.0.seen h (subst (NoLess p.me.0.seen) (sym seen_is) (no_less-left p.me.0.seen s.place.me.0.seen))) (j.others ++ j.first ∷ []) j.seen);
      }

  pub joining_whole : (p : Place (Option V) (SeatView V)) (left all : List (Seat V)) → IsJoining t p left all → length left ≡ 0 → IsWhole t p all
  joining_whole p [] all j none = record {
    table_is = j.table_is;
    all_parts = let h = j.parts_are in omega arith;
    idle = j.idle;
    empty = j.empty;
    others = j.others;
    first = j.first;
    all_is = j.all_is;
    seen = j.seen;
    also_is = j.also_is;
    own_is = j.own_is;
  }
  joining_whole p (x ∷ xs) all j none = absurd (omega arith)

-- what the slot holds once the turn is closed
module _ {V T : Type 0} (tag : V → T) (seen : V → Option ℤ) (out : V → ℕ → Option (List ℕ)) (moves : V → V → ℕ → Type 0) where
  pub record IsClosed (key : TurnKey V) (v : SeatView V) (slot : Option V) : Type 0 where
    pub value : V
    pub slot_is : slot ≡ Some value
    pub last : IsLast tag seen out moves key v value

  pub closed : (key : TurnKey V) (id : ℕ) (v : SeatView V) (ws : List ℕ) (xs : List (Option V)) (slot : Option V) → v.parts ≡ key.seats → 1 ≤ key.seats → v.holds ≡ false
      → Final (Seen (IsTurn tag seen out moves key) id v) ws xs → get_elem? xs 0 ≡ some slot → IsClosed key v slot
  closed key id v ws xs slot all some_seats idle f at =
      let k = closes tag seen out moves key id v f.0 f.1.0 f.1.1 all (omega arith) idle in
      record { value = k.value; slot_is = some-injective slot (Some k.value) (sym at ∙ f.4 0 (Some k.value) k.home); last = k.last }

  pub closed_as : (key : TurnKey V) (v : SeatView V) (slot : Option V) (value : V) → IsClosed key v slot → slot ≡ Some value → IsLast tag seen out moves key v value
  closed_as key v slot value k e = subst (IsLast tag seen out moves key v) (some_is k.value value (sym k.slot_is ∙ e)) k.last

  pub closed_seen : (t : Turn V T) (p : Place (Option V) (SeatView V)) (all : List (Seat V)) (value : V) → IsWhole t p all → NoLess p.me.0.seen (seen value) → All (λ s. NoLess (seen_of s) (seen value)) all
  closed_seen t p all value w less = subst (λ xs. All (λ s. NoLess (seen_of s) (seen value)) xs) (sym w.all_is)
      (all_weaken (λ (s : Seat V). NoLess (seen_of s) p.me.0.seen) (λ (s : Seat V). NoLess (seen_of s) (seen value)) (λ s h. no_less-trans (seen_of s) p.me.0.seen (seen value) h less) (w.others ++ w.first ∷ []) w.seen)

  pairs_out : (value : V) (xs : List (Seat V)) → AllByRecursion (λ (p : ℕ × Option (List ℕ)). out value p.0 ≡ p.1) (map pair_of xs) → AllByRecursion (λ (s : Seat V). out value s.number ≡ out_of s) xs
  pairs_out value [] h = tt
  pairs_out value (x ∷ xs) h = (h.0, pairs_out value xs h.1)

  pub closed_out : (t : Turn V T) (p : Place (Option V) (SeatView V)) (all : List (Seat V)) (value : V) (key : TurnKey V) → IsWhole t p all → IsLast tag seen out moves key p.me.0 value → All (λ s. out value s.number ≡ out_of s) all
  closed_out t p all value key w k = subst (λ xs. All (λ s. out value s.number ≡ out_of s) xs) (sym w.all_is)
      (All-push (λ (s : Seat V). out value s.number ≡ out_of s) w.others w.first
      (All-from_recursion (λ (s : Seat V). out value s.number ≡ out_of s) w.others (pairs_out value w.others (subst (λ xs. AllByRecursion (λ (p : ℕ × Option (List ℕ)). out value p.0 ≡ p.1) xs) w.also_is k.also_out)))
      (subst (λ (p : ℕ × Option (List ℕ)). out value p.0 ≡ p.1) w.own_is k.out_is))
