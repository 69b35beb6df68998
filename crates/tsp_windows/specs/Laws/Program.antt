-- The dynamic program of an instance within the limits meets the laws.
use Rattle.std.proofs.Common.{◌≡◌, ℕ, ◌+◌, ◌-◌, ◌*◌, ◌<◌, ◌≤◌, ℤ, pos, ◌+ℤ◌, ◌-ℤ◌, ◌≤ℤ◌, neg_ℤ, true, false, cond, not, ◌&&◌, ◌||◌, nat_eq, nat_le, List, [], ◌∷◌, length, get_or, Some, None, sym, ap, ap₂, ◌∙◌, subst, arith, inl, inr, ◌⊎◌}
use Rattle.std.proofs.lemmas.Int.{ints}
use Rattle.std.proofs.lemmas.Bool.{cases_lt, and_parts, and_from, or_left, or_right, cases_Bool, le-leb, lt-ltb, le-ltb}
use Rattle.std.proofs.lemmas.List.{get_or-take, get_or-drop, length-drop}
use Rattle.dp_model.specs.NumberLaws.{each_small, small_natural, small_negated, small_difference, small_gap}
use Rattle.node_sets.specs.Sums.{count_below}
use Rattle.node_sets.specs.Sets.{IsSet, is_set, row_of, words_for}
use Rattle.node_sets.proofs.Below.{all_below-from, sum_below-le}
use Rattle.node_sets.proofs.Counts.{is_set-gives, is_set-from}
use Rattle.dp_model.specs.Dp.{IsAllowed}
use Rattle.dp_model.specs.Prefixes.{IsContinuation, gain_of}
use Rattle.dp_model.specs.Gaps.{IsStateOf, IsSoundGap, HasGap}
use Rattle.dp_model.specs.Numbers.{AtMost, IsSmall as IsSmallNumber}
use Rattle.dp_model.specs.Laws.{StepsAreStates, GapsAreSound, RoughBounds, SizesHold, IsLawful, IsChained}
use Rattle.pending_rows.specs.Pending as rows
use Rattle.pending_rows.specs.Pending.{IsPendingRow, is_pending_row, latest}
use Rattle.pending_rows.proofs.RowStates as row_laws
use Rattle.pending_rows.proofs.RowStates.{IsApart, row-gives, apart_shown, set-row_of, done-time, done-apart, word_small}
use Rattle.tsp_windows.specs.Instance.{Instance, IsTourInstance, distance, opening, closing, near, least_way}
use Rattle.tsp_windows.specs.States.{TourState, positions_of, pending_of, shown, row_for, arrival, departure, moved, joined, covers, is_lost, way_left, start, is_sound, is_state_row}
use Rattle.tsp_windows.specs.Laws.States.{IsWithinNodes, shown-row_for, positions_of-row_for, pending_of-row_for}
use Rattle.tsp_windows.specs.Program.{program_of, rough_of, gap_of}
use Rattle.tsp_windows.specs.Laws.Moves.{IsSoundState, sound-gives, sound-from, moved-sound, joined-sound, start-sound, moved-bounded, joined-bounded, start-bounded, least_amount-most, visits, returns, goes_on, goes_home}
use Rattle.tsp_windows.specs.Laws.Walks.{IsGone, last_time, CoversTour, covers-gives, covers-from, CoversTour-self, CoversTour-chain, joined-covers-left, joined-covers-right, tour-covered, Costs, costs, tour-of_path, path-of_tour, gain-of_tour}

-- ---- rows that are states

pub record IsStateRow (n : ℕ) (s : List ℤ) : Type 0 where
  pub positions : IsSet n (positions_of (words_for n) s)
  pub pending : IsPendingRow n (pending_of (words_for n) s)
  pub sound : IsSoundState n (shown (words_for n) s)
  pub bounded : IsWithinNodes n (shown (words_for n) s)
  pub early : (shown (words_for n) s).pending.time ≤ latest
  pub cells : length s ≡ 3 * words_for n + 1

pub state_row-gives : (n : ℕ) (s : List ℤ) → is_state_row n s ≡ true → IsStateRow n s
unfolding shown
state_row-gives n s e =
    let parts = and_parts (is_set n (positions_of (words_for n) s)) (is_pending_row n (pending_of (words_for n) s) && is_sound n (shown (words_for n) s)) e in
    let rest = and_parts (is_pending_row n (pending_of (words_for n) s)) (is_sound n (shown (words_for n) s)) parts.1 in
    let positions = is_set-gives n (positions_of (words_for n) s) parts.0 in
    let pending = row-gives n (pending_of (words_for n) s) rest.0 in
    record {
      positions = positions;
      pending = pending;
      sound = sound-gives n (shown (words_for n) s) rest.1;
      bounded = record { positions = positions.within; pending = row_laws.bounded n (pending_of (words_for n) s) pending };
      early = pending.early;
      cells = (let following = length-drop (words_for n) s in omega (arith, pending.cells, following));
    }

pub state_row-from : (n : ℕ) (t : TourState) → IsWithinNodes n t → IsSoundState n t → IsApart t.pending → t.pending.time ≤ latest → is_state_row n (row_for (words_for n) t) ≡ true
state_row-from n t b s apart l =
    and_from (is_set n (positions_of (words_for n) (row_for (words_for n) t))) _
    (ap (is_set n) (positions_of-row_for (words_for n) t) ∙ is_set-from n (row_of (words_for n) t.positions) (set-row_of n t.positions b.positions))
    (and_from (is_pending_row n (pending_of (words_for n) (row_for (words_for n) t))) _
    (ap (is_pending_row n) (pending_of-row_for (words_for n) t) ∙ row_laws.row-from n t.pending b.pending apart l)
    (ap (is_sound n) (shown-row_for n t b) ∙ sound-from n t s))

-- nothing both must and may be visited
row_apart : (n : ℕ) (s : List ℤ) → IsStateRow n s → IsApart (shown (words_for n) s).pending
unfolding shown
row_apart n s row = apart_shown n (pending_of (words_for n) s) row.pending

-- ---- steps are states

departure-most : (i : Instance) (k : ℕ) (t : TourState) (d : ℕ) → IsTourInstance i → IsGone i k t d → departure i t d ≤ 1000000000000
departure-most i k t d small g =
    let late : arrival i t d ≤ closing i d = elim (cases_lt (k + 1) i.nodes) [
      | inl l ↦ (visits i t d (sym (goes_on i k t d l) ∙ g.test)).on_time
      | inr l ↦ (returns i t d (sym (goes_home i k t d l) ∙ g.test)).on_time
    ] in
    let shut = small.closes d in
    let order = small.opens d in
    omega (arith, late, shut, order)

moved-time : (i : Instance) (t : TourState) (d : ℕ) → (moved i t d).pending.time ≡ departure i t d
unfolding moved
moved-time i t d = done-time t.pending d (departure i t d)

moved-apart : (i : Instance) (t : TourState) (d : ℕ) → IsApart t.pending → IsApart (moved i t d).pending
unfolding moved
moved-apart i t d h = done-apart t.pending d (departure i t d) h

start-time : (i : Instance) → (start i).pending.time ≡ opening i 0
unfolding start
start-time i = done-time (rows.start i.nodes) 0 (opening i 0)

start-apart : (i : Instance) → IsApart (start i).pending
unfolding start
start-apart i = done-apart (rows.start i.nodes) 0 (opening i 0) (row_laws.start-apart i.nodes)

joined-time : (a b : TourState) → (joined a b).pending.time ≤ a.pending.time
unfolding joined
joined-time a b = row_laws.joined-time a.pending b.pending

joined-apart : (a b : TourState) → IsApart (joined a b).pending
unfolding joined
joined-apart a b = row_laws.joined-apart a.pending b.pending

gone : (i : Instance) (k : ℕ) (s : List ℤ) (d : ℕ) → IsAllowed (program_of i) k s d → IsGone i k (shown (words_for i.nodes) s) d
gone i k s d a = record { layer = a.layer; choice = a.choice; test = a.test }

pub steps_are_states : (i : Instance) → IsTourInstance i → StepsAreStates (program_of i)
steps_are_states i small = record {
  root = (let at = small.opens 0 in let shut = small.closes 0 in
      state_row-from i.nodes (start i) (start-bounded i small.some) (start-sound i small.some) (start-apart i) (omega (arith, at, shut, start-time i)));
  step = λ k s d state allowed.
      let row = state_row-gives i.nodes s state.test in
      let g = gone i k s d allowed in
      let most = departure-most i k (shown (words_for i.nodes) s) d small g in
      state_row-from i.nodes (moved i (shown (words_for i.nodes) s) d) (moved-bounded i (shown (words_for i.nodes) s) d g.choice row.bounded) (moved-sound i (shown (words_for i.nodes) s) d g.choice row.sound) (moved-apart i (shown (words_for i.nodes) s) d (row_apart i.nodes s row)) (omega (arith, most, moved-time i (shown (words_for i.nodes) s) d));
  merged = λ k a s left right.
      let one = state_row-gives i.nodes a left.test in
      let two = state_row-gives i.nodes s right.test in
      let earlier = joined-time (shown (words_for i.nodes) a) (shown (words_for i.nodes) s) in
      state_row-from i.nodes (joined (shown (words_for i.nodes) a) (shown (words_for i.nodes) s)) (joined-bounded i.nodes (shown (words_for i.nodes) a) (shown (words_for i.nodes) s) one.bounded two.bounded) (joined-sound i.nodes (shown (words_for i.nodes) a) (shown (words_for i.nodes) s) one.sound two.sound) (joined-apart (shown (words_for i.nodes) a) (shown (words_for i.nodes) s)) (omega (arith, one.early, earlier));
}

-- ---- gaps

record IsGap (n : ℕ) (a b : TourState) (g : ℤ) : Type 0 where
  covered : CoversTour n a b
  is : g ≡ pos b.pending.time -ℤ pos a.pending.time

gap-gives : (n : ℕ) (a b : TourState) (g : ℤ) → gap_of n a b ≡ Some g → IsGap n a b g
gap-gives n a b g e =
    elim (cases_Bool (covers n a b)) [
      | inl c ↦ record { covered = covers-gives n a b c; is = (let same : Some (pos b.pending.time -ℤ pos a.pending.time) ≡ Some g = sym (ap (λ x. cond x (Some (pos b.pending.time -ℤ pos a.pending.time)) None) c) ∙ e in cc) }
      | inr c ↦ absurd (let same : None ≡ Some g = sym (ap (λ x. cond x (Some (pos b.pending.time -ℤ pos a.pending.time)) None) c) ∙ e in cc)
    ]

gap-from : (n : ℕ) (a b : TourState) → CoversTour n a b → gap_of n a b ≡ Some (pos b.pending.time -ℤ pos a.pending.time)
gap-from n a b c = ap (λ x. cond x (Some (pos b.pending.time -ℤ pos a.pending.time)) None) (covers-from n a b c)

enough : (ta tb la lb : ℕ) (x y g : ℤ) → x ≡ pos tb -ℤ pos lb → y ≡ pos ta -ℤ pos la → g ≡ pos tb -ℤ pos ta → la ≤ lb → x ≤ℤ (y +ℤ g)
enough ta tb la lb x y g p q r l = omega (arith, ints, p, q, r)

sound_gap : (i : Instance) (k : ℕ) (a s : List ℤ) (g : ℤ) → IsStateOf (program_of i) k a → IsStateOf (program_of i) k s → gap_of i.nodes (shown (words_for i.nodes) a) (shown (words_for i.nodes) s) ≡ Some g → IsSoundGap (program_of i) k a s g
sound_gap i k a s g left right e c way =
    let one = state_row-gives i.nodes a left.test in
    let two = state_row-gives i.nodes s right.test in
    let gap = gap-gives i.nodes (shown (words_for i.nodes) a) (shown (words_for i.nodes) s) g e in
    let tour = tour-of_path i k s c two.bounded way.path in
    let other = tour-covered i k (shown (words_for i.nodes) a) (shown (words_for i.nodes) s) c gap.covered tour in
    record {
      by = c;
      continuation = record { path = path-of_tour i k a c one.bounded other.0; whole = way.whole };
      enough = enough (shown (words_for i.nodes) a).pending.time (shown (words_for i.nodes) s).pending.time (last_time i (shown (words_for i.nodes) a) c) (last_time i (shown (words_for i.nodes) s) c) (gain_of (program_of i) k s c) (gain_of (program_of i) k a c) g
          (gain-of_tour i k s c two.bounded tour) (gain-of_tour i k a c one.bounded other.0) gap.is other.1;
    }

own_gap : (n : ℕ) (t : TourState) → gap_of n t t ≡ Some (pos 0)
own_gap n t = gap-from n t t (CoversTour-self n t) ∙ (let z : pos t.pending.time -ℤ pos t.pending.time ≡ pos 0 = omega (arith, ints) in ap Some z)

has_gap : (i : Instance) (k : ℕ) (a s u : List ℤ) → IsStateOf (program_of i) k a → IsStateOf (program_of i) k s → CoversTour i.nodes (joined (shown (words_for i.nodes) a) (shown (words_for i.nodes) s)) (shown (words_for i.nodes) u) → HasGap (program_of i) k ((program_of i).merged k a s) u
has_gap i k a s u left right c =
    let one = state_row-gives i.nodes a left.test in
    let two = state_row-gives i.nodes s right.test in
    let same = shown-row_for i.nodes (joined (shown (words_for i.nodes) a) (shown (words_for i.nodes) s)) (joined-bounded i.nodes (shown (words_for i.nodes) a) (shown (words_for i.nodes) s) one.bounded two.bounded) in
    record {
      gap = pos (shown (words_for i.nodes) u).pending.time -ℤ pos (joined (shown (words_for i.nodes) a) (shown (words_for i.nodes) s)).pending.time;
      is = ap (λ t. gap_of i.nodes t (shown (words_for i.nodes) u)) same ∙ gap-from i.nodes (joined (shown (words_for i.nodes) a) (shown (words_for i.nodes) s)) (shown (words_for i.nodes) u) c;
    }

pub gaps_are_sound : (i : Instance) → GapsAreSound (program_of i)
gaps_are_sound i = record {
  sound = sound_gap i;
  own = λ k s state. own_gap i.nodes (shown (words_for i.nodes) s);
  merge_new = λ k a s left right. has_gap i k a s s left right (joined-covers-right i.nodes (shown (words_for i.nodes) a) (shown (words_for i.nodes) s));
  merge_old = λ k a s u left right other h.
      has_gap i k a s u left right (CoversTour-chain i.nodes (joined (shown (words_for i.nodes) a) (shown (words_for i.nodes) s)) (shown (words_for i.nodes) a) (shown (words_for i.nodes) u)
      (joined-covers-left i.nodes (shown (words_for i.nodes) a) (shown (words_for i.nodes) s)) (gap-gives i.nodes (shown (words_for i.nodes) a) (shown (words_for i.nodes) u) h.gap h.is).covered);
}

pub chained_program : (i : Instance) → IsChained (program_of i)
chained_program i k a b c g h p q r e f =
    let one = gap-gives i.nodes (shown (words_for i.nodes) a) (shown (words_for i.nodes) b) g e in
    let two = gap-gives i.nodes (shown (words_for i.nodes) b) (shown (words_for i.nodes) c) h f in
    record {
      gap = pos (shown (words_for i.nodes) c).pending.time -ℤ pos (shown (words_for i.nodes) a).pending.time;
      is = gap-from i.nodes (shown (words_for i.nodes) a) (shown (words_for i.nodes) c) (CoversTour-chain i.nodes (shown (words_for i.nodes) a) (shown (words_for i.nodes) b) (shown (words_for i.nodes) c) one.covered two.covered);
      within = chain (shown (words_for i.nodes) a).pending.time (shown (words_for i.nodes) b).pending.time (shown (words_for i.nodes) c).pending.time g h one.is two.is;
    }
  where
    chain : (x y z : ℕ) (g h : ℤ) → g ≡ pos y -ℤ pos x → h ≡ pos z -ℤ pos y → (pos z -ℤ pos x) ≤ℤ (g +ℤ h)
    chain x y z g h p q = omega (arith, ints, p, q)

-- ---- the rough bound

not_lost : (i : Instance) (k : ℕ) (t : TourState) (ds : List ℕ) → Costs i k t ds → is_lost i k t ≡ false
not_lost i k t ds c =
    ap₂ ◌||◌ (le-ltb i.nodes (count_below i.nodes t.pending.must + k + 1) c.few)
    (ap₂ ◌||◌ (ap not (all_below-from i.nodes (λ v. nat_le (t.pending.time + near i v) (closing i v) || not (t.pending.must v)) (λ v l. on_time v l (cases_Bool (t.pending.must v)))))
    (le-ltb (closing i 0) (t.pending.time + near i 0) c.home))
  where
    on_time : (v : ℕ) → v < i.nodes → (t.pending.must v ≡ true) ⊎ (t.pending.must v ≡ false) → (nat_le (t.pending.time + near i v) (closing i v) || not (t.pending.must v)) ≡ true
    on_time v l (inl m) = or_left (nat_le (t.pending.time + near i v) (closing i v)) (not (t.pending.must v)) (le-leb (t.pending.time + near i v) (closing i v) (c.on_time v l m))
    on_time v l (inr m) = or_right (nat_le (t.pending.time + near i v) (closing i v)) (not (t.pending.must v)) (ap not m)

rough-inside : (i : Instance) (k : ℕ) (t : TourState) (ds : List ℕ) → k < i.nodes → Costs i k t ds → rough_of i k t ≡ Some (neg_ℤ (pos (way_left i t)))
rough-inside i k t ds l c =
    ap (λ b. cond b (cond (is_lost i k t) None (Some (neg_ℤ (pos (way_left i t))))) (Some (pos 0))) (lt-ltb k i.nodes l)
    ∙ ap (λ b. cond b None (Some (neg_ℤ (pos (way_left i t))))) (not_lost i k t ds c)

rough-last : (i : Instance) (k : ℕ) (t : TourState) → i.nodes ≤ k → rough_of i k t ≡ Some (pos 0)
rough-last i k t l = ap (λ b. cond b (cond (is_lost i k t) None (Some (neg_ℤ (pos (way_left i t))))) (Some (pos 0))) (le-ltb k i.nodes l)

at_most : (t last way : ℕ) (gain : ℤ) → gain ≡ pos t -ℤ pos last → t + way ≤ last → gain ≤ℤ neg_ℤ (pos way)
at_most t last way gain e l = omega (arith, ints, e)

pub rough_bounds : (i : Instance) → RoughBounds (program_of i)
rough_bounds i = record {
  bounds = bounds;
  last = λ s state. rough-last i i.nodes (shown (words_for i.nodes) s) (omega arith);
}
  where
    bounds : (k : ℕ) (s : List ℤ) (c : List ℕ) → IsStateOf (program_of i) k s → IsContinuation (program_of i) k s c → AtMost (gain_of (program_of i) k s c) (rough_of i k (shown (words_for i.nodes) s))
    bounds k s c state way =
        let row = state_row-gives i.nodes s state.test in
        let tour = tour-of_path i k s c row.bounded way.path in
        let gain = gain-of_tour i k s c row.bounded tour in
        elim (cases_lt k i.nodes) [
          | inl l ↦ (let cost = costs i k (shown (words_for i.nodes) s) c l way.whole tour in
              subst (AtMost (gain_of (program_of i) k s c)) (sym (rough-inside i k (shown (words_for i.nodes) s) c l cost))
              (at_most (shown (words_for i.nodes) s).pending.time (last_time i (shown (words_for i.nodes) s) c) (way_left i (shown (words_for i.nodes) s)) (gain_of (program_of i) k s c) gain cost.later))
          | inr l ↦ subst (AtMost (gain_of (program_of i) k s c)) (sym (rough-last i k (shown (words_for i.nodes) s) l)) (ended s c (shown (words_for i.nodes) s) gain (omega (arith, way.whole)))
        ]
      where
        ended : (s : List ℤ) (c : List ℕ) (t : TourState) → gain_of (program_of i) k s c ≡ pos t.pending.time -ℤ pos (last_time i t c) → length c ≡ 0 → gain_of (program_of i) k s c ≤ℤ pos 0
        ended s [] t e l = omega (arith, ints, e)
        ended s (d ∷ ds) t e l = absurd (omega arith)

-- ---- sizes

pub near-most : (i : Instance) (v : ℕ) → IsTourInstance i → near i v ≤ 1000000000
unfolding least_way
near-most i v small = least_amount-most i.nodes (λ u. not (nat_eq u v)) (λ u. distance i u v) 1000000000 (λ u. small.short (u * i.nodes + v))

pub way-most : (i : Instance) (t : TourState) → IsTourInstance i → way_left i t ≤ 301000000000
way-most i t small =
    let ways = sum_below-le i.nodes t.pending.must (near i) 1000000000 (λ v l. near-most i v small) in
    let home = near-most i 0 small in
    let few = small.few in
    let product : i.nodes * 1000000000 ≤ 300000000000 = omega (arith, few) in
    omega (arith, ways, home, product)

cell_small : (n : ℕ) (s : List ℤ) → IsStateRow n s → (k : ℕ) → k < length s → IsSmallNumber (get_or s k (pos 0))
cell_small n s row k l =
    elim (cases_lt k (words_for n)) [
      | inl a ↦ subst IsSmallNumber (get_or-take (words_for n) s k (pos 0) a) (word_small (get_or (positions_of (words_for n) s) k (pos 0)) (row.positions.cells k))
      | inr a ↦ (let at : words_for n + (k - words_for n) ≡ k = omega arith in
          let following = length-drop (words_for n) s in
          subst IsSmallNumber (get_or-drop (words_for n) s (k - words_for n) (pos 0) ∙ ap (λ j. get_or s j (pos 0)) at)
          (row_laws.cell_small n (pending_of (words_for n) s) row.pending (k - words_for n) (omega (arith, following, l))))
    ]

gap_size : (a b : ℕ) (g : ℤ) → a ≤ b → b ≤ 1000000000000 → g ≡ pos b -ℤ pos a → (pos 0 ≤ℤ g) × IsSmallNumber g
gap_size a b g p q e = small_gap g (omega (arith, ints, e)) (omega (arith, ints, e))

rough_size : (i : Instance) (k : ℕ) (t : TourState) (r : ℤ) → IsTourInstance i → rough_of i k t ≡ Some r → IsSmallNumber r
rough_size i k t r small e =
    elim (cases_lt k i.nodes) [
      | inl l ↦ (elim (cases_Bool (is_lost i k t)) [
        | inl f ↦ absurd (let none : None ≡ Some r = sym (ap (λ b. cond b (cond (is_lost i k t) None (Some (neg_ℤ (pos (way_left i t))))) (Some (pos 0))) (lt-ltb k i.nodes l) ∙ ap (λ b. cond b None (Some (neg_ℤ (pos (way_left i t))))) f) ∙ e in cc)
        | inr f ↦ (let some : Some (neg_ℤ (pos (way_left i t))) ≡ Some r = sym (ap (λ b. cond b (cond (is_lost i k t) None (Some (neg_ℤ (pos (way_left i t))))) (Some (pos 0))) (lt-ltb k i.nodes l) ∙ ap (λ b. cond b None (Some (neg_ℤ (pos (way_left i t))))) f) ∙ e in
            let same : neg_ℤ (pos (way_left i t)) ≡ r = cc in
            let most = way-most i t small in
            subst IsSmallNumber same (small_negated (way_left i t) (omega (arith, most))))
      ])
      | inr l ↦ (let some : Some (pos 0) ≡ Some r = sym (rough-last i k t l) ∙ e in let same : pos 0 ≡ r = cc in subst IsSmallNumber same (small_natural 0 (omega arith)))
    ]

pub sizes_hold : (i : Instance) → IsTourInstance i → SizesHold (program_of i)
sizes_hold i small = record {
  vars = omega (arith, small.few);
  some_words = omega arith;
  words = omega (arith, small.few);
  some_choices = λ k l. small.some;
  choices = λ k l. omega (arith, small.few);
  root_value = (let at = small.opens 0 in let shut = small.closes 0 in small_negated (opening i 0) (omega (arith, at, shut)));
  cells = λ k s state. (state_row-gives i.nodes s state.test).cells;
  state = λ k s state. each_small s (cell_small i.nodes s (state_row-gives i.nodes s state.test));
  gain = λ k s d state allowed. small_difference (shown (words_for i.nodes) s).pending.time (departure i (shown (words_for i.nodes) s) d) (omega (arith, (state_row-gives i.nodes s state.test).early)) (omega (arith, (departure-most i k (shown (words_for i.nodes) s) d small (gone i k s d allowed))));
  gap = λ k a s g left right e.
      let gap = gap-gives i.nodes (shown (words_for i.nodes) a) (shown (words_for i.nodes) s) g e in
      gap_size (shown (words_for i.nodes) a).pending.time (shown (words_for i.nodes) s).pending.time g gap.covered.pending.time (state_row-gives i.nodes s right.test).early gap.is;
  rough = λ k s r state e. rough_size i k (shown (words_for i.nodes) s) r small e;
}

pub lawful_program : (i : Instance) → IsTourInstance i → IsLawful (program_of i)
lawful_program i small = record {
  states = steps_are_states i small;
  gaps = gaps_are_sound i;
  rough = rough_bounds i;
  sizes = sizes_hold i small;
}
