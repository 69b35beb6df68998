-- One step of a tour: the tests that allow it, the way and the state after it.
use Rattle.std.proofs.Common.{◌≡◌, ◌≢◌, ℕ, zero, suc, ◌+◌, ◌<◌, ◌≤◌, Bool, true, false, cond, not, ◌&&◌, ◌||◌, nat_eq, nat_lt, nat_le, Option, Some, None, refl, sym, ap, ap₂, ◌∙◌, arith, inl, inr, ◌⊎◌, eq-eqb}
use Rattle.std.specs.Prelude.{is_some, unwrap_or}
use Rattle.std.proofs.lemmas.Bool.{false≢true, eqb-true, and_parts, and_from, or_left, or_right, or_cases, not-true, cases_Bool, ne_eqb, leb-true, le-leb, lt-ltb, le-ltb, eqb-false}
use Rattle.node_sets.specs.Sums.{all_below, lesser, least_amount}
use Rattle.node_sets.proofs.Below.{all_below-gives, all_below-from}
use Rattle.pending_rows.specs.Pending as rows
use Rattle.pending_rows.specs.Pending.{is_open, done}
use Rattle.pending_rows.proofs.RowStates as row_laws
use Rattle.pending_rows.proofs.RowStates.{done-bounded}
use Rattle.tsp_windows.specs.Instance.{Instance, distance, opening, closing, near, least_way}
use Rattle.tsp_windows.specs.States.{TourState, from_elsewhere, leg, arrival, may_visit, departure, may_return, may_go, moved, joined, start, is_sound}
use Rattle.tsp_windows.specs.Laws.States.{IsWithinNodes}

-- ---- tests

pub all_below-not : (n : ℕ) (test : ℕ → Bool) → all_below n test ≡ false → (v : ℕ) × (v < n) × (test v ≡ false)
all_below-not zero test e = absurd (false≢true (sym e))
all_below-not (suc n) test e =
    elim (cases_Bool (test n)) [
      | inl t ↦ (let rest = all_below-not n test (sym (ap (λ b. b && all_below n test) t) ∙ e) in (rest.0, omega (arith, rest.1), rest.2))
      | inr f ↦ (n, omega arith, f)
    ]

-- ---- least ways

-- the one option is at most the other, where none is above every number
abbrev pub NoMore : Option ℕ → Option ℕ → Type 0
NoMore a None = Unit {0}
NoMore None (Some y) = ⊥
NoMore (Some x) (Some y) = x ≤ y

lesser-both : (x : ℕ) (a b : Option ℕ) → NoMore a b → NoMore (lesser x a) (lesser x b)
lesser-both x None None h = omega arith
lesser-both x (Some y) None h = omega arith
lesser-both x None (Some z) h = absurd h
lesser-both x (Some y) (Some z) h = omega arith

lesser-one : (x : ℕ) (a b : Option ℕ) → NoMore a b → NoMore (lesser x a) b
lesser-one x a None h = tt
lesser-one x None (Some z) h = absurd h
lesser-one x (Some y) (Some z) h = omega arith

-- the least amount of more numbers is no more
pub least_amount-wider : (n : ℕ) (p q : ℕ → Bool) (f : ℕ → ℕ) → ((v : ℕ) → v < n → q v ≡ true → p v ≡ true) → NoMore (least_amount n p f) (least_amount n q f)
least_amount-wider zero p q f h = tt
least_amount-wider (suc n) p q f h =
    let rest = least_amount-wider n p q f (λ v l. h v (omega arith)) in
    step (p n) (q n) (h n (omega arith)) rest
  where
    step : (a b : Bool) → (b ≡ true → a ≡ true) → NoMore (least_amount n p f) (least_amount n q f) → NoMore (cond a (lesser (f n) (least_amount n p f)) (least_amount n p f)) (cond b (lesser (f n) (least_amount n q f)) (least_amount n q f))
    step true true k r = lesser-both (f n) (least_amount n p f) (least_amount n q f) r
    step true false k r = lesser-one (f n) (least_amount n p f) (least_amount n q f) r
    step false true k r = absurd (false≢true (k refl))
    step false false k r = r

pub NoMore-or : (a b : Option ℕ) → NoMore a b → is_some b ≡ true → unwrap_or a 0 ≤ unwrap_or b 0
NoMore-or a None h e = absurd (false≢true e)
NoMore-or None (Some y) h e = absurd h
NoMore-or (Some x) (Some y) h e = h

pub NoMore-some : (a b : Option ℕ) → NoMore a b → is_some b ≡ true → is_some a ≡ true
NoMore-some a None h e = absurd (false≢true e)
NoMore-some None (Some y) h e = absurd h
NoMore-some (Some x) (Some y) h e = refl

lesser-le : (x most : ℕ) (o : Option ℕ) → x ≤ most → unwrap_or o 0 ≤ most → unwrap_or (lesser x o) 0 ≤ most
lesser-le x most None p q = p
lesser-le x most (Some y) p q = omega arith

pub least_amount-most : (n : ℕ) (p : ℕ → Bool) (f : ℕ → ℕ) (most : ℕ) → ((v : ℕ) → f v ≤ most) → unwrap_or (least_amount n p f) 0 ≤ most
least_amount-most zero p f most h = omega arith
least_amount-most (suc n) p f most h =
    let rest = least_amount-most n p f most h in
    elim (p n) as (λ b. unwrap_or (cond b (lesser (f n) (least_amount n p f)) (least_amount n p f)) 0 ≤ most) [
      | true ↦ lesser-le (f n) most (least_amount n p f) (h n) rest
      | false ↦ rest
    ]

-- ---- one step

pub near-le-leg : (i : Instance) (t : TourState) (d : ℕ) → is_some (leg i t d) ≡ true → near i d ≤ unwrap_or (leg i t d) 0
unfolding least_way leg
near-le-leg i t d e =
    NoMore-or (least_amount i.nodes (λ u. not (nat_eq u d)) (λ u. distance i u d)) (least_amount i.nodes (from_elsewhere t d) (λ p. distance i p d))
    (least_amount-wider i.nodes (λ u. not (nat_eq u d)) (from_elsewhere t d) (λ u. distance i u d) (λ v l e. (and_parts (t.positions v) (not (nat_eq v d)) e).1)) e

-- a single node has no other node near
pub near-alone : (i : Instance) → i.nodes ≡ 1 → near i 0 ≡ 0
unfolding least_way
near-alone i e = ap (λ n. unwrap_or (least_amount n (λ u. not (nat_eq u 0)) (λ u. distance i u 0)) 0) e

pub leg-alone : (i : Instance) (t : TourState) → i.nodes ≡ 1 → leg i t 0 ≡ None
unfolding leg
leg-alone i t e =
    ap (λ n. least_amount n (from_elsewhere t 0) (λ p. distance i p 0)) e
    ∙ (elim (t.positions 0) as (λ b. cond (b && false) (lesser (distance i 0 0) None) None ≡ None) [ true ↦ refl | false ↦ refl ])

-- what a decision asks

pub record Visits (i : Instance) (t : TourState) (d : ℕ) : Type 0 where
  pub away : d ≢ 0
  pub pending : is_open t.pending d ≡ true
  pub reached : is_some (leg i t d) ≡ true
  pub on_time : arrival i t d ≤ closing i d

pub record Returns (i : Instance) (t : TourState) (d : ℕ) : Type 0 where
  pub home : d ≡ 0
  pub done : (v : ℕ) → v < i.nodes → t.pending.must v ≡ false
  pub reached : (is_some (leg i t d) ≡ true) ⊎ (i.nodes ≡ 1)
  pub on_time : arrival i t d ≤ closing i d

pub visits : (i : Instance) (t : TourState) (d : ℕ) → may_visit i t d ≡ true → Visits i t d
visits i t d e =
    let rest = (and_parts (not (nat_eq d 0)) ((is_open t.pending d) && (is_some (leg i t d) && nat_le (arrival i t d) (closing i d))) e).1 in
    let last = (and_parts (is_open t.pending d) (is_some (leg i t d) && nat_le (arrival i t d) (closing i d)) rest).1 in
    record {
      away = eqb-false d 0 (not-true (nat_eq d 0) (and_parts (not (nat_eq d 0)) _ e).0);
      pending = (and_parts (is_open t.pending d) _ rest).0;
      reached = (and_parts (is_some (leg i t d)) _ last).0;
      on_time = leb-true (arrival i t d) (closing i d) (and_parts (is_some (leg i t d)) _ last).1;
    }

pub may_visit-from : (i : Instance) (t : TourState) (d : ℕ) → Visits i t d → may_visit i t d ≡ true
may_visit-from i t d v =
    and_from (not (nat_eq d 0)) _ (ap not (ne_eqb d 0 v.away))
    (and_from (is_open t.pending d) _ v.pending (and_from (is_some (leg i t d)) _ v.reached (le-leb (arrival i t d) (closing i d) v.on_time)))

pub returns : (i : Instance) (t : TourState) (d : ℕ) → may_return i t d ≡ true → Returns i t d
returns i t d e =
    let rest = (and_parts (nat_eq d 0) (all_below i.nodes (λ v. not (t.pending.must v)) && ((is_some (leg i t d) || nat_eq i.nodes 1) && nat_le (arrival i t d) (closing i d))) e).1 in
    let last = (and_parts (all_below i.nodes (λ v. not (t.pending.must v))) ((is_some (leg i t d) || nat_eq i.nodes 1) && nat_le (arrival i t d) (closing i d)) rest).1 in
    record {
      home = eqb-true d 0 (and_parts (nat_eq d 0) _ e).0;
      done = λ v l. not-true (t.pending.must v) (all_below-gives i.nodes (λ v. not (t.pending.must v)) (and_parts (all_below i.nodes (λ v. not (t.pending.must v))) _ rest).0 v l);
      reached = elim (or_cases (is_some (leg i t d)) (nat_eq i.nodes 1) (and_parts (is_some (leg i t d) || nat_eq i.nodes 1) _ last).0) [ inl s ↦ inl s | inr s ↦ inr (eqb-true i.nodes 1 s) ];
      on_time = leb-true (arrival i t d) (closing i d) (and_parts (is_some (leg i t d) || nat_eq i.nodes 1) _ last).1;
    }

pub may_return-from : (i : Instance) (t : TourState) (d : ℕ) → Returns i t d → may_return i t d ≡ true
may_return-from i t d r =
    and_from (nat_eq d 0) _ (eq-eqb d 0 r.home)
    (and_from (all_below i.nodes (λ v. not (t.pending.must v))) _ (all_below-from i.nodes (λ v. not (t.pending.must v)) (λ v l. ap not (r.done v l)))
    (and_from (is_some (leg i t d) || nat_eq i.nodes 1) _
    (elim r.reached [ inl s ↦ or_left (is_some (leg i t d)) (nat_eq i.nodes 1) s | inr s ↦ or_right (is_some (leg i t d)) (nat_eq i.nodes 1) (eq-eqb i.nodes 1 s) ])
    (le-leb (arrival i t d) (closing i d) r.on_time)))

pub goes_on : (i : Instance) (k : ℕ) (t : TourState) (d : ℕ) → k + 1 < i.nodes → may_go i k t d ≡ may_visit i t d
goes_on i k t d l = ap (λ b. cond b (may_visit i t d) (may_return i t d)) (lt-ltb (k + 1) i.nodes l)

pub goes_home : (i : Instance) (k : ℕ) (t : TourState) (d : ℕ) → i.nodes ≤ k + 1 → may_go i k t d ≡ may_return i t d
goes_home i k t d l = ap (λ b. cond b (may_visit i t d) (may_return i t d)) (le-ltb (k + 1) i.nodes l)

-- however it is reached, a node is left no earlier than on the least way to it
pub near-le-arrival : (i : Instance) (t : TourState) (d : ℕ) → is_some (leg i t d) ≡ true → t.pending.time + near i d ≤ arrival i t d
near-le-arrival i t d e = let least = near-le-leg i t d e in omega (arith, least)

-- ---- the state after a step

pub moved-bounded : (i : Instance) (t : TourState) (d : ℕ) → d < i.nodes → IsWithinNodes i.nodes t → IsWithinNodes i.nodes (moved i t d)
unfolding moved
moved-bounded i t d l b = record {
  positions = λ v m. ne_eqb v d (omega arith);
  pending = done-bounded i.nodes t.pending d (departure i t d) b.pending;
}

pub joined-bounded : (n : ℕ) (a b : TourState) → IsWithinNodes n a → IsWithinNodes n b → IsWithinNodes n (joined a b)
unfolding joined
joined-bounded n a b p q = record {
  positions = λ v m. ap₂ ◌||◌ (p.positions v m) (q.positions v m);
  pending = row_laws.joined-bounded n a.pending b.pending p.pending q.pending;
}

pub start-bounded : (i : Instance) → 1 ≤ i.nodes → IsWithinNodes i.nodes (start i)
unfolding start
start-bounded i some = record {
  positions = λ v m. ne_eqb v 0 (omega arith);
  pending = done-bounded i.nodes (rows.start i.nodes) 0 (opening i 0) (row_laws.start-bounded i.nodes);
}

-- ---- what a state is

pub record IsSoundState (n : ℕ) (t : TourState) : Type 0 where
  pub position : ℕ
  pub inside : position < n
  pub there : t.positions position ≡ true
  pub no_must : t.pending.must 0 ≡ false
  pub no_may : t.pending.may 0 ≡ false

pub sound-gives : (n : ℕ) (t : TourState) → is_sound n t ≡ true → IsSoundState n t
sound-gives n t e =
    let parts = and_parts (not (all_below n (λ p. not (t.positions p)))) (not (t.pending.must 0) && not (t.pending.may 0)) e in
    let home = and_parts (not (t.pending.must 0)) (not (t.pending.may 0)) parts.1 in
    let some = all_below-not n (λ p. not (t.positions p)) (not-true (all_below n (λ p. not (t.positions p))) parts.0) in
    record {
      position = some.0;
      inside = some.1;
      there = still (t.positions some.0) some.2;
      no_must = not-true (t.pending.must 0) home.0;
      no_may = not-true (t.pending.may 0) home.1;
    }
  where
    still : (b : Bool) → not b ≡ false → b ≡ true
    still true e = refl
    still false e = absurd (false≢true (sym e))

pub sound-from : (n : ℕ) (t : TourState) → IsSoundState n t → is_sound n t ≡ true
sound-from n t s =
    and_from (not (all_below n (λ p. not (t.positions p)))) _ (ap not (some (cases_Bool (all_below n (λ p. not (t.positions p))))))
    (and_from (not (t.pending.must 0)) (not (t.pending.may 0)) (ap not s.no_must) (ap not s.no_may))
  where
    some : (all_below n (λ p. not (t.positions p)) ≡ true) ⊎ (all_below n (λ p. not (t.positions p)) ≡ false) → all_below n (λ p. not (t.positions p)) ≡ false
    some (inl e) = absurd (false≢true (sym (not-true (t.positions s.position) (all_below-gives n (λ p. not (t.positions p)) e s.position s.inside)) ∙ s.there))
    some (inr e) = e

pub moved-sound : (i : Instance) (t : TourState) (d : ℕ) → d < i.nodes → IsSoundState i.nodes t → IsSoundState i.nodes (moved i t d)
unfolding moved done
moved-sound i t d l s = record {
  position = d;
  inside = l;
  there = eq-eqb d d refl;
  no_must = ap (λ x. x && not (nat_eq 0 d)) s.no_must;
  no_may = ap (λ x. x && not (nat_eq 0 d)) s.no_may;
}

pub joined-sound : (n : ℕ) (a b : TourState) → IsSoundState n a → IsSoundState n b → IsSoundState n (joined a b)
unfolding joined rows.joined
joined-sound n a b p q = record {
  position = p.position;
  inside = p.inside;
  there = or_left (a.positions p.position) (b.positions p.position) p.there;
  no_must = ap (λ x. x && b.pending.must 0) p.no_must;
  no_may = ap (λ x. x && not (a.pending.must 0 && b.pending.must 0)) (ap₂ ◌||◌ (ap₂ ◌||◌ p.no_must p.no_may) (ap₂ ◌||◌ q.no_must q.no_may));
}

pub start-sound : (i : Instance) → 1 ≤ i.nodes → IsSoundState i.nodes (start i)
unfolding start rows.start done
start-sound i some = record {
  position = 0;
  inside = omega arith;
  there = refl;
  no_must = no_home (nat_lt 0 i.nodes);
  no_may = refl;
}
  where
    no_home : (b : Bool) → (b && not (nat_eq 0 0)) ≡ false
    no_home true = refl
    no_home false = refl
