-- A tour in the problem's own words is a feasible solution of the dynamic program, and the other way round.
use Rattle.std.proofs.Common.{◌≡◌, ◌≢◌, ℕ, zero, suc, ◌+◌, ◌-◌, ◌<◌, ◌≤◌, ℤ, pos, ◌+ℤ◌, ◌-ℤ◌, neg_ℤ, max, Bool, true, false, cond, not, ◌&&◌, ◌||◌, nat_eq, nat_lt, nat_le, List, [], ◌∷◌, length, Option, Some, None, refl, sym, ap, ap₂, ◌∙◌, subst, arith, inl, inr, eq-eqb}
use Rattle.std.specs.Prelude.{is_some, unwrap_or}
use Rattle.std.specs.List.{list_any, list_all}
use Rattle.std.proofs.lemmas.Int.{ints}
use Rattle.std.proofs.lemmas.Bool.{cases_eq, cases_lt, false≢true, eqb-true, and_parts, and_from, or_left, not-true, cases_Bool, ne_eqb, leb-true, le-leb, ltb-true, lt-ltb}
use Rattle.node_sets.specs.Sums.{count_below}
use Rattle.node_sets.specs.Sets.{words_for}
use Rattle.node_sets.proofs.Below.{sum_below-none, count_below-none, least_amount-none, least_amount-same, least_amount-skip, least_amount-next}
use Rattle.dp_model.specs.Prefixes.{IsSolution, gain_of, value_of}
use Rattle.pending_rows.specs.Pending as rows
use Rattle.pending_rows.specs.Pending.{is_open, done}
use Rattle.pending_rows.specs.Orders.{are_different}
use Rattle.pending_rows.proofs.Covering.{sum-without}
use Rattle.tsp_windows.specs.Instance.{Instance, IsTourInstance, distance, opening, closing}
use Rattle.tsp_windows.specs.States.{TourState, from_elsewhere, leg, arrival, departure, moved, start, shown, row_for}
use Rattle.tsp_windows.specs.Laws.States.{IsWithinNodes, shown-row_for}
use Rattle.tsp_windows.specs.Program.{program_of}
use Rattle.tsp_windows.specs.OwnWords.{ends_at_home, is_order, end_time, negated, tour_value}
use Rattle.dp_model.specs.Solution.{IsSolutionWith, SolutionGives}
use Rattle.tsp_windows.specs.Laws.Moves.{visits, returns, may_visit-from, may_return-from, goes_on, goes_home, start-bounded}
use Rattle.tsp_windows.specs.Laws.Walks.{IsGone, IsTour, last_time, tour-of_path, path-of_tour, gain-of_tour}

-- ---- a state of one position, as every state is that a tour reaches

-- at one node, with no node that may be left out
pub record IsAtNode (n here : ℕ) (t : TourState) : Type 0 where
  pub inside : here < n
  pub there : (p : ℕ) → t.positions p ≡ nat_eq p here
  pub none : (v : ℕ) → t.pending.may v ≡ false
  pub left : t.pending.must here ≡ false
  pub home : t.pending.must 0 ≡ false

elsewhere-at : (n here d p : ℕ) (t : TourState) → IsAtNode n here t → here ≢ d → from_elsewhere t d p ≡ nat_eq p here
elsewhere-at n here d p t a apart_ =
    elim (cases_eq p here) [
      | inl s ↦ ap₂ ◌&&◌ (a.there p ∙ eq-eqb p here s) (ap not (ne_eqb p d (λ e. apart_ (sym s ∙ e)))) ∙ sym (eq-eqb p here s)
      | inr s ↦ ap (λ b. b && not (nat_eq p d)) (a.there p ∙ ne_eqb p here s) ∙ sym (ne_eqb p here s)
    ]

-- from there each other node is reached on one way
leg-at : (i : Instance) (here d : ℕ) (t : TourState) → IsAtNode i.nodes here t → here ≢ d → leg i t d ≡ Some (distance i here d)
unfolding leg
leg-at i here d t a far =
    least_amount-same i.nodes (from_elsewhere t d) (λ p. nat_eq p here) (λ p. distance i p d) (λ v l. elsewhere-at i.nodes here d v t a far)
    ∙ least_amount-skip (here + 1) i.nodes (λ p. nat_eq p here) (λ p. distance i p d) (omega (arith, a.inside)) (λ v l m. ne_eqb v here (omega arith))
    ∙ least_amount-next 0 here (λ p. nat_eq p here) (λ p. distance i p d) (omega arith) (λ v l m. ne_eqb v here (omega arith)) (eq-eqb here here refl)

pub arrival-at : (i : Instance) (here d : ℕ) (t : TourState) → IsAtNode i.nodes here t → here ≢ d → arrival i t d ≡ t.pending.time + distance i here d
arrival-at i here d t a far = ap (λ o. t.pending.time + unwrap_or o 0) (leg-at i here d t a far)

leg-same : (i : Instance) (here : ℕ) (t : TourState) → IsAtNode i.nodes here t → leg i t here ≡ None
unfolding leg
leg-same i here t a = least_amount-none i.nodes (from_elsewhere t here) (λ p. distance i p here) (λ v l.
    elim (cases_eq v here) [
      | inl s ↦ right (t.positions v) (nat_eq v here) (eq-eqb v here s)
      | inr s ↦ ap (λ b. b && not (nat_eq v here)) (a.there v ∙ ne_eqb v here s)
    ])
  where
    right : (x y : Bool) → y ≡ true → (x && not y) ≡ false
    right true true e = refl
    right false true e = refl
    right x false e = absurd (false≢true e)

-- nor is there a way to itself
arrival-anywhere : (i : Instance) (here d : ℕ) (t : TourState) → IsTourInstance i → IsAtNode i.nodes here t → arrival i t d ≡ t.pending.time + distance i here d
arrival-anywhere i here d t small a =
    elim (cases_eq here d) [
      | inl s ↦ (let none = ap (λ v. leg i t v) (sym s) ∙ leg-same i here t a in
          let zero_way : distance i here d ≡ 0 = ap (distance i here) (sym s) ∙ small.home here a.inside in
          ap (λ o. t.pending.time + unwrap_or o 0) none ∙ ap (λ x. t.pending.time + x) (sym zero_way))
      | inr s ↦ arrival-at i here d t a s
    ]

pub moved-at : (i : Instance) (here d : ℕ) (t : TourState) → IsAtNode i.nodes here t → d < i.nodes → IsAtNode i.nodes d (moved i t d)
unfolding moved done
moved-at i here d t a l = record {
  inside = l;
  there = λ p. refl;
  none = λ v. ap (λ b. b && not (nat_eq v d)) (a.none v);
  left = self (t.pending.must d) (nat_eq d d) (eq-eqb d d refl);
  home = ap (λ b. b && not (nat_eq 0 d)) a.home;
}
  where
    self : (x y : Bool) → y ≡ true → (x && not y) ≡ false
    self true true e = refl
    self false true e = refl
    self x false e = absurd (false≢true e)

-- ---- the visits that are left

-- the visits are the nodes that must be visited, each once, and then node 0
pub record Lists (n : ℕ) (must : ℕ → Bool) (ds : List ℕ) : Type 0 where
  pub whole : length ds ≡ count_below n must + 1
  pub inside : list_all (λ v. nat_lt v n) ds ≡ true
  pub different : are_different ds ≡ true
  pub home : ends_at_home ds ≡ true
  pub wanted : list_all (λ v. must v || nat_eq v 0) ds ≡ true

any-none : (d : ℕ) (ds : List ℕ) → list_any (λ u. nat_eq u d) ds ≡ false → (test : ℕ → Bool) → list_all (λ v. test v || nat_eq v 0) ds ≡ true → list_all (λ v. (test v && not (nat_eq v d)) || nat_eq v 0) ds ≡ true
any-none d [] e test h = refl
any-none d (v ∷ vs) e test h =
    and_from ((test v && not (nat_eq v d)) || nat_eq v 0) _ (kept (test v) (nat_eq v d) (nat_eq v 0) (first (nat_eq v d) (list_any (λ u. nat_eq u d) vs) e) (and_parts (test v || nat_eq v 0) (list_all (λ v. test v || nat_eq v 0) vs) h).0)
    (any-none d vs (second (nat_eq v d) (list_any (λ u. nat_eq u d) vs) e) test (and_parts (test v || nat_eq v 0) (list_all (λ v. test v || nat_eq v 0) vs) h).1)
  where
    first : (a b : Bool) → (a || b) ≡ false → a ≡ false
    first true b e = absurd (false≢true (sym e))
    first false b e = refl

    second : (a b : Bool) → (a || b) ≡ false → b ≡ false
    second true b e = absurd (false≢true (sym e))
    second false b e = e

    kept : (x y z : Bool) → y ≡ false → (x || z) ≡ true → ((x && not y) || z) ≡ true
    kept x true z e h = absurd (false≢true (sym e))
    kept true false z e h = refl
    kept false false z e h = h

-- the other way round: a list of nodes other than one does not hold it
none-any : (d : ℕ) (ds : List ℕ) (test : ℕ → Bool) → d ≢ 0 → list_all (λ v. (test v && not (nat_eq v d)) || nat_eq v 0) ds ≡ true → list_any (λ u. nat_eq u d) ds ≡ false
none-any d [] test n h = refl
none-any d (v ∷ vs) test n h =
    let first : nat_eq v d ≡ false = elim (cases_eq v d) [
      | inl s ↦ absurd (false≢true (sym (hit (test v) (nat_eq v d) (nat_eq v 0) (eq-eqb v d s) (ne_eqb v 0 (λ z. n (sym s ∙ z)))) ∙ (and_parts ((test v && not (nat_eq v d)) || nat_eq v 0) (list_all (λ v. (test v && not (nat_eq v d)) || nat_eq v 0) vs) h).0))
      | inr s ↦ ne_eqb v d s
    ] in
    ap₂ ◌||◌ first (none-any d vs test n (and_parts ((test v && not (nat_eq v d)) || nat_eq v 0) (list_all (λ v. (test v && not (nat_eq v d)) || nat_eq v 0) vs) h).1)
  where
    hit : (x y z : Bool) → y ≡ true → z ≡ false → ((x && not y) || z) ≡ false
    hit x false z e f = absurd (false≢true e)
    hit x true true e f = absurd (false≢true (sym f))
    hit true true false e f = refl
    hit false true false e f = refl

wider : (d : ℕ) (ds : List ℕ) (test : ℕ → Bool) → list_all (λ v. (test v && not (nat_eq v d)) || nat_eq v 0) ds ≡ true → list_all (λ v. test v || nat_eq v 0) ds ≡ true
wider d [] test h = refl
wider d (v ∷ vs) test h =
    and_from (test v || nat_eq v 0) _ (drop_not (test v) (nat_eq v d) (nat_eq v 0) (and_parts ((test v && not (nat_eq v d)) || nat_eq v 0) (list_all (λ v. (test v && not (nat_eq v d)) || nat_eq v 0) vs) h).0)
    (wider d vs test (and_parts ((test v && not (nat_eq v d)) || nat_eq v 0) (list_all (λ v. (test v && not (nat_eq v d)) || nat_eq v 0) vs) h).1)
  where
    drop_not : (x y z : Bool) → ((x && not y) || z) ≡ true → (x || z) ≡ true
    drop_not true y z e = refl
    drop_not false y z e = e

-- one node less must be visited
count-moved : (i : Instance) (t : TourState) (d : ℕ) → d < i.nodes → t.pending.must d ≡ true → count_below i.nodes t.pending.must ≡ count_below i.nodes (moved i t d).pending.must + 1
unfolding moved done
count-moved i t d l e = sum-without i.nodes d t.pending.must (λ _. 1) l e

must-moved-is : (i : Instance) (t : TourState) (d v : ℕ) → (moved i t d).pending.must v ≡ (t.pending.must v && not (nat_eq v d))
unfolding moved done
must-moved-is i t d v = refl

time-moved-is : (i : Instance) (t : TourState) (d : ℕ) → (moved i t d).pending.time ≡ departure i t d
unfolding moved done
time-moved-is i t d = refl

-- ---- a tour is such a list that is kept within the windows

pub record IsInTime (i : Instance) (here : ℕ) (t : TourState) (ds : List ℕ) : Type 0 where
  pub visits : Lists i.nodes t.pending.must ds
  pub time : end_time i here t.pending.time ds ≡ Some (last_time i t ds)

on_time : (i : Instance) (here d : ℕ) (time : ℕ) (vs : List ℕ) → time + distance i here d ≤ closing i d → end_time i here time (d ∷ vs) ≡ end_time i d (max (time + distance i here d) (opening i d)) vs
on_time i here d time vs l = ap (λ b. cond b (end_time i d (max (time + distance i here d) (opening i d)) vs) None) (le-leb (time + distance i here d) (closing i d) l)

all-same : (ds : List ℕ) (p q : ℕ → Bool) → ((v : ℕ) → p v ≡ q v) → list_all p ds ≡ list_all q ds
all-same [] p q h = refl
all-same (v ∷ vs) p q h = ap₂ ◌&&◌ (h v) (all-same vs p q h)

far : (t : TourState) (here d : ℕ) → t.pending.must here ≡ false → t.pending.must d ≡ true → here ≢ d
far t here d e f s = false≢true (sym e ∙ ap t.pending.must s ∙ f)

pending-must : (n here : ℕ) (t : TourState) (d : ℕ) → IsAtNode n here t → is_open t.pending d ≡ true → t.pending.must d ≡ true
pending-must n here t d a e = only (t.pending.must d) (t.pending.may d) (a.none d) e
  where
    only : (x y : Bool) → y ≡ false → (x || y) ≡ true → x ≡ true
    only true y e h = refl
    only false y e h = absurd (false≢true (sym e ∙ h))

-- the last decision
kept-last : (i : Instance) (here : ℕ) (t : TourState) (d k : ℕ) → IsTourInstance i → IsAtNode i.nodes here t → i.nodes ≤ k + 1 → IsGone i k t d → IsInTime i here t (d ∷ [])
kept-last i here t d k small a l g =
    let r = returns i t d (sym (goes_home i k t d l) ∙ g.test) in
    let way = arrival-anywhere i here d t small a in
    record {
      visits = record {
        whole = ap (λ c. c + 1) (sym (sum_below-none i.nodes t.pending.must (λ _. 1) r.done));
        inside = and_from (nat_lt d i.nodes) true (lt-ltb d i.nodes g.choice) refl;
        different = refl;
        home = eq-eqb d 0 r.home;
        wanted = and_from (t.pending.must d || nat_eq d 0) true (right (t.pending.must d) (nat_eq d 0) (eq-eqb d 0 r.home)) refl;
      };
      time = on_time i here d t.pending.time [] (omega (arith, way, r.on_time)) ∙ ap (λ x. Some (max x (opening i d))) (sym way) ∙ ap Some (sym (time-moved-is i t d));
    }
  where
    right : (x y : Bool) → y ≡ true → (x || y) ≡ true
    right true y e = refl
    right false y e = e

kept-more : (i : Instance) (here : ℕ) (t : TourState) (d k : ℕ) (ds : List ℕ) → IsAtNode i.nodes here t → k + 1 < i.nodes → IsGone i k t d → ends_at_home ds ≡ true → IsInTime i d (moved i t d) ds → ends_at_home (d ∷ ds) ≡ true → IsInTime i here t (d ∷ ds)
kept-more i here t d k ds a l g tail rest home =
    let v = visits i t d (sym (goes_on i k t d l) ∙ g.test) in
    let must = pending-must i.nodes here t d a v.pending in
    let apart_ = far t here d a.left must in
    let way = arrival-at i here d t a apart_ in
    let wanted = sym (all-same ds (λ v. (moved i t d).pending.must v || nat_eq v 0) (λ v. (t.pending.must v && not (nat_eq v d)) || nat_eq v 0) (λ v. ap (λ b. b || nat_eq v 0) (must-moved-is i t d v))) ∙ rest.visits.wanted in
    record {
      visits = record {
        whole = (let count = count-moved i t d g.choice must in omega (arith, count, rest.visits.whole));
        inside = and_from (nat_lt d i.nodes) _ (lt-ltb d i.nodes g.choice) rest.visits.inside;
        different = and_from (not (list_any (λ u. nat_eq u d) ds)) _ (ap not (none-any d ds t.pending.must v.away wanted)) rest.visits.different;
        home = home;
        wanted = and_from (t.pending.must d || nat_eq d 0) _ (or_left (t.pending.must d) (nat_eq d 0) must) (wider d ds t.pending.must wanted);
      };
      time = on_time i here d t.pending.time ds (omega (arith, way, v.on_time))
          ∙ ap (λ x. end_time i d (max x (opening i d)) ds) (sym way) ∙ ap (λ x. end_time i d x ds) (sym (time-moved-is i t d)) ∙ rest.time;
    }

pub kept-of_tour : (i : Instance) (k here : ℕ) (t : TourState) (ds : List ℕ) → IsTourInstance i → IsAtNode i.nodes here t → k < i.nodes → k + length ds ≡ i.nodes → IsTour i k t ds → IsInTime i here t ds
kept-of_tour i k here t [] small a l e w = absurd (omega arith)
kept-of_tour i k here t (d ∷ []) small a l e w = kept-last i here t d k small a (omega arith) w.0
kept-of_tour i k here t (d ∷ f ∷ ds) small a l e w =
    let rest = kept-of_tour i (k + 1) d (moved i t d) (f ∷ ds) small (moved-at i here d t a w.0.choice) (omega arith) (omega arith) w.1 in
    kept-more i here t d k (f ∷ ds) a (omega arith) w.0 rest.visits.home rest rest.visits.home

-- ---- and the other way round

late : (i : Instance) (here d time last : ℕ) (vs : List ℕ) → end_time i here time (d ∷ vs) ≡ Some last → time + distance i here d ≤ closing i d
late i here d time last vs e =
    elim (cases_lt (closing i d) (time + distance i here d)) [
      | inl l ↦ absurd (let none : None ≡ Some last = sym (ap (λ b. cond b (end_time i d (max (time + distance i here d) (opening i d)) vs) None) (never l)) ∙ e in cc)
      | inr l ↦ l
    ]
  where
    never : closing i d < time + distance i here d → nat_le (time + distance i here d) (closing i d) ≡ false
    never l = elim (cases_Bool (nat_le (time + distance i here d) (closing i d))) [
      | inl t ↦ absurd (let m = leb-true (time + distance i here d) (closing i d) t in omega arith)
      | inr f ↦ f
    ]

-- the list, and its end in time
pub record IsTourWithEnd (i : Instance) (k : ℕ) (t : TourState) (ds : List ℕ) (last : ℕ) : Type 0 where
  pub tour : IsTour i k t ds
  pub last_is : last_time i t ds ≡ last

made-last : (i : Instance) (k here : ℕ) (t : TourState) (d last : ℕ) → IsTourInstance i → IsAtNode i.nodes here t → k + 1 ≡ i.nodes → (here ≡ 0 → i.nodes ≡ 1) → Lists i.nodes t.pending.must (d ∷ []) → end_time i here t.pending.time (d ∷ []) ≡ Some last → IsTourWithEnd i k t (d ∷ []) last
made-last i k here t d last small a l single h e =
    let home : d ≡ 0 = eqb-true d 0 h.home in
    let soon = late i here d t.pending.time last [] e in
    let finish : Some (max (t.pending.time + distance i here d) (opening i d)) ≡ Some last = sym (on_time i here d t.pending.time [] soon) ∙ e in
    let last_is : max (t.pending.time + distance i here d) (opening i d) ≡ last = cc in
    let way = arrival-anywhere i here d t small a in
    record {
      tour = (
        record {
          layer = omega arith;
          choice = ltb-true d i.nodes (and_parts (nat_lt d i.nodes) true h.inside).0;
          test = goes_home i k t d (omega arith) ∙ may_return-from i t d (record {
            home = home;
            done = count_below-none i.nodes t.pending.must (omega (arith, h.whole));
            reached = elim (cases_eq here d) [
              | inl s ↦ inr (single (s ∙ home))
              | inr s ↦ inl (ap is_some (leg-at i here d t a s))
            ];
            on_time = omega (arith, way, soon);
          });
        },
        tt,
      );
      last_is = time-moved-is i t d ∙ ap (λ x. max x (opening i d)) way ∙ last_is;
    }

home-following : (d : ℕ) (ds : List ℕ) → ends_at_home ds ≡ true → list_any (λ u. nat_eq u d) ds ≡ false → d ≢ 0
home-following d [] e n s = false≢true e
home-following d (v ∷ []) e n s = false≢true (sym n ∙ or_left (nat_eq v d) false (eq-eqb v d (eqb-true v 0 e ∙ sym s)))
home-following d (v ∷ u ∷ vs) e n s = home-following d (u ∷ vs) e (second (nat_eq v d) (list_any (λ u. nat_eq u d) (u ∷ vs)) n) s
  where
    second : (a b : Bool) → (a || b) ≡ false → b ≡ false
    second true b e = absurd (false≢true (sym e))
    second false b e = e

-- the rest of the list is one of the nodes that must be visited after it
lists-rest : (i : Instance) (t : TourState) (d f : ℕ) (ds : List ℕ) → Lists i.nodes t.pending.must (d ∷ f ∷ ds) → d < i.nodes → t.pending.must d ≡ true → Lists i.nodes (moved i t d).pending.must (f ∷ ds)
lists-rest i t d f ds h l must =
    let different = not-true (list_any (λ u. nat_eq u d) (f ∷ ds)) (and_parts (not (list_any (λ u. nat_eq u d) (f ∷ ds))) (are_different (f ∷ ds)) h.different).0 in
    record {
      whole = (let count = count-moved i t d l must in omega (arith, count, h.whole));
      inside = (and_parts (nat_lt d i.nodes) (list_all (λ v. nat_lt v i.nodes) (f ∷ ds)) h.inside).1;
      different = (and_parts (not (list_any (λ u. nat_eq u d) (f ∷ ds))) (are_different (f ∷ ds)) h.different).1;
      home = h.home;
      wanted = all-same (f ∷ ds) (λ v. (moved i t d).pending.must v || nat_eq v 0) (λ v. (t.pending.must v && not (nat_eq v d)) || nat_eq v 0) (λ v. ap (λ b. b || nat_eq v 0) (must-moved-is i t d v))
          ∙ any-none d (f ∷ ds) different t.pending.must (and_parts (t.pending.must d || nat_eq d 0) (list_all (λ v. t.pending.must v || nat_eq v 0) (f ∷ ds)) h.wanted).1;
    }

pub is_made : (i : Instance) (k here : ℕ) (t : TourState) (ds : List ℕ) (last : ℕ) → IsTourInstance i → IsAtNode i.nodes here t → k + length ds ≡ i.nodes → (here ≡ 0 → k ≡ 0) → Lists i.nodes t.pending.must ds → end_time i here t.pending.time ds ≡ Some last → IsTourWithEnd i k t ds last
is_made i k here t [] last small a l single h e = absurd (omega (arith, h.whole))
is_made i k here t (d ∷ []) last small a l single h e = made-last i k here t d last small a (omega arith) (λ z. omega (arith, single z)) h e
is_made i k here t (d ∷ f ∷ ds) last small a l single h e =
    let choice = ltb-true d i.nodes (and_parts (nat_lt d i.nodes) (list_all (λ v. nat_lt v i.nodes) (f ∷ ds)) h.inside).0 in
    let different = not-true (list_any (λ u. nat_eq u d) (f ∷ ds)) (and_parts (not (list_any (λ u. nat_eq u d) (f ∷ ds))) (are_different (f ∷ ds)) h.different).0 in
    let away = home-following d (f ∷ ds) h.home different in
    let must = only (t.pending.must d) (nat_eq d 0) (ne_eqb d 0 away) (and_parts (t.pending.must d || nat_eq d 0) (list_all (λ v. t.pending.must v || nat_eq v 0) (f ∷ ds)) h.wanted).0 in
    let apart_ = far t here d a.left must in
    let way = arrival-at i here d t a apart_ in
    let soon = late i here d t.pending.time last (f ∷ ds) e in
    let go : IsGone i k t d = record {
      layer = omega arith;
      choice = choice;
      test = goes_on i k t d (omega arith) ∙ may_visit-from i t d (record {
        away = away;
        pending = or_left (t.pending.must d) (t.pending.may d) must;
        reached = ap is_some (leg-at i here d t a apart_);
        on_time = omega (arith, way, soon);
      });
    } in
    let then = ap (λ x. end_time i d x (f ∷ ds)) (time-moved-is i t d ∙ ap (λ x. max x (opening i d)) way) ∙ sym (on_time i here d t.pending.time (f ∷ ds) soon) ∙ e in
    let rest = is_made i (k + 1) d (moved i t d) (f ∷ ds) last small (moved-at i here d t a choice) (omega arith) (λ z. absurd (away z)) (lists-rest i t d f ds h choice must) then in
    record { tour = (go, rest.tour); last_is = rest.last_is }
  where
    only : (x y : Bool) → y ≡ false → (x || y) ≡ true → x ≡ true
    only true y e h = refl
    only false y e h = absurd (false≢true (sym e ∙ h))

-- ---- from the start

start-at : (i : Instance) → 1 ≤ i.nodes → IsAtNode i.nodes 0 (start i)
unfolding start rows.start done
start-at i some = record {
  inside = some;
  there = λ p. refl;
  none = λ v. refl;
  left = no_home (nat_lt 0 i.nodes);
  home = no_home (nat_lt 0 i.nodes);
}
  where
    no_home : (b : Bool) → (b && not (nat_eq 0 0)) ≡ false
    no_home true = refl
    no_home false = refl

others : ℕ → ℕ → Bool
others n v = nat_lt v n && not (nat_eq v 0)

count_others : (n m : ℕ) → m ≤ n → count_below m (others n) ≡ m - 1
unfolding others
count_others n zero l = refl
count_others n (suc zero) l = ap (λ b. 0 + cond {A = ℕ} b 1 0) (no_home (nat_lt 0 n))
  where
    no_home : (b : Bool) → (b && not (nat_eq 0 0)) ≡ false
    no_home true = refl
    no_home false = refl
count_others n (suc (suc m)) l =
    ap₂ (λ s b. s + cond b 1 0) (count_others n (suc m) (omega arith)) (and_from (nat_lt (suc m) n) (not (nat_eq (suc m) 0)) (lt-ltb (suc m) n (omega arith)) (ap not (ne_eqb (suc m) 0 (λ z. absurd (omega arith)))))
    ∙ (let e : suc m - 1 + 1 ≡ suc (suc m) - 1 = omega arith in e)

start-must : (i : Instance) → (start i).pending.must ≡ others i.nodes
unfolding start others done rows.start
start-must i = refl

start-count : (i : Instance) → 1 ≤ i.nodes → count_below i.nodes (start i).pending.must + 1 ≡ i.nodes
start-count i some = ap (λ p. count_below i.nodes p + 1) (start-must i) ∙ (let c = count_others i.nodes i.nodes (omega arith) in omega (arith, c))

start-time : (i : Instance) → (start i).pending.time ≡ opening i 0
unfolding start rows.start done
start-time i = refl

all-wanted : (n : ℕ) (ds : List ℕ) → list_all (λ v. nat_lt v n) ds ≡ true → list_all (λ v. others n v || nat_eq v 0) ds ≡ true
unfolding others
all-wanted n [] e = refl
all-wanted n (v ∷ vs) e =
    and_from ((nat_lt v n && not (nat_eq v 0)) || nat_eq v 0) _ (either (nat_lt v n) (nat_eq v 0) (and_parts (nat_lt v n) (list_all (λ v. nat_lt v n) vs) e).0) (all-wanted n vs (and_parts (nat_lt v n) (list_all (λ v. nat_lt v n) vs) e).1)
  where
    either : (x y : Bool) → x ≡ true → ((x && not y) || y) ≡ true
    either true true e = refl
    either true false e = refl
    either false y e = absurd (false≢true e)

order-gives : (i : Instance) (ds : List ℕ) → 1 ≤ i.nodes → is_order i.nodes ds ≡ true → Lists i.nodes (start i).pending.must ds
order-gives i ds some e =
    let e1 = (and_parts (nat_eq (length ds) i.nodes) (list_all (λ v. nat_lt v i.nodes) ds && (are_different ds && ends_at_home ds)) e).1 in
    let e2 = (and_parts (list_all (λ v. nat_lt v i.nodes) ds) (are_different ds && ends_at_home ds) e1).1 in
    let inside = (and_parts (list_all (λ v. nat_lt v i.nodes) ds) (are_different ds && ends_at_home ds) e1).0 in
    record {
      whole = eqb-true (length ds) i.nodes (and_parts (nat_eq (length ds) i.nodes) _ e).0 ∙ sym (start-count i some);
      inside = inside;
      different = (and_parts (are_different ds) (ends_at_home ds) e2).0;
      home = (and_parts (are_different ds) (ends_at_home ds) e2).1;
      wanted = ap (λ (p : ℕ → Bool). list_all (λ v. p v || nat_eq v 0) ds) (start-must i) ∙ all-wanted i.nodes ds inside;
    }

order-from : (i : Instance) (ds : List ℕ) → 1 ≤ i.nodes → Lists i.nodes (start i).pending.must ds → is_order i.nodes ds ≡ true
order-from i ds some h =
    and_from (nat_eq (length ds) i.nodes) _ (eq-eqb (length ds) i.nodes (h.whole ∙ start-count i some))
    (and_from (list_all (λ v. nat_lt v i.nodes) ds) _ h.inside (and_from (are_different ds) (ends_at_home ds) h.different h.home))

root-shown : (i : Instance) → 1 ≤ i.nodes → shown (words_for i.nodes) (row_for (words_for i.nodes) (start i)) ≡ start i
root-shown i some = shown-row_for i.nodes (start i) (start-bounded i some)

root-bounded : (i : Instance) → 1 ≤ i.nodes → IsWithinNodes i.nodes (shown (words_for i.nodes) (row_for (words_for i.nodes) (start i)))
root-bounded i some = subst (IsWithinNodes i.nodes) (sym (root-shown i some)) (start-bounded i some)

-- the value of a tour from the start is the negated time of its end
value-is : (i : Instance) (ds : List ℕ) (last : ℕ) → IsTourInstance i → IsTour i 0 (start i) ds → last_time i (start i) ds ≡ last → neg_ℤ (pos last) ≡ value_of (program_of i) ds
value-is i ds last small tour e =
    let same = root-shown i small.some in
    let at_root = subst (λ t. IsTour i 0 t ds) (sym same) tour in
    let gain = gain-of_tour i 0 (row_for (words_for i.nodes) (start i)) ds (root-bounded i small.some) at_root in
    let gain' = gain ∙ ap (λ t. pos t.pending.time -ℤ pos (last_time i t ds)) same ∙ ap₂ (λ x y. pos x -ℤ pos y) (start-time i) e in
    sum (opening i 0) last (gain_of (program_of i) 0 (row_for (words_for i.nodes) (start i)) ds) gain'
  where
    sum : (a b : ℕ) (g : ℤ) → g ≡ pos a -ℤ pos b → neg_ℤ (pos b) ≡ neg_ℤ (pos a) +ℤ g
    sum a b g e = omega (arith, ints, e)

solution-kept : (i : Instance) (ds : List ℕ) → IsTourInstance i → IsSolution (program_of i) ds → IsTour i 0 (start i) ds × IsInTime i 0 (start i) ds
solution-kept i ds small x =
    let tour = subst (λ t. IsTour i 0 t ds) (root-shown i small.some) (tour-of_path i 0 (row_for (words_for i.nodes) (start i)) ds (root-bounded i small.some) x.prefix) in
    (tour, kept-of_tour i 0 0 (start i) ds small (start-at i small.some) small.some (omega (arith, x.whole)) tour)

-- a tour within the windows is a feasible solution with its value
order-worth : (i : Instance) (ds : List ℕ) (last : ℕ) → IsTourInstance i → is_order i.nodes ds ≡ true → end_time i 0 (opening i 0) ds ≡ Some last → IsSolutionWith (program_of i) ds (neg_ℤ (pos last))
order-worth i ds last small order e =
    let lists = order-gives i ds small.some order in
    let whole : length ds ≡ i.nodes = lists.whole ∙ start-count i small.some in
    let m = is_made i 0 0 (start i) ds last small (start-at i small.some) (omega (arith, whole)) (λ _. refl) lists (ap (λ x. end_time i 0 x ds) (start-time i) ∙ e) in
    record {
      solution = record {
        prefix = path-of_tour i 0 (row_for (words_for i.nodes) (start i)) ds (root-bounded i small.some) (subst (λ t. IsTour i 0 t ds) (sym (root-shown i small.some)) m.tour);
        whole = whole;
      };
      value = value-is i ds last small m.tour m.last_is;
    }

negated-gives : (i : Instance) (ds : List ℕ) (o : Option ℕ) → IsTourInstance i → is_order i.nodes ds ≡ true → end_time i 0 (opening i 0) ds ≡ o → SolutionGives (program_of i) ds (negated o)
negated-gives i ds None small order e =
    λ x. let kept = solution-kept i ds small x in
    let both : None ≡ Some (last_time i (start i) ds) = sym e ∙ ap (λ x. end_time i 0 x ds) (sym (start-time i)) ∙ kept.1.time in cc
negated-gives i ds (Some last) small order e = order-worth i ds last small order e

-- the theorem: the own words give a value exactly where the program has a feasible solution, and the same value
pub solution_gives : (i : Instance) (ds : List ℕ) → IsTourInstance i → SolutionGives (program_of i) ds (tour_value i ds)
solution_gives i ds small =
    elim (cases_Bool (is_order i.nodes ds)) [
      | inl order ↦ subst (SolutionGives (program_of i) ds) (sym (ap (λ b. cond b (negated (end_time i 0 (opening i 0) ds)) None) order)) (negated-gives i ds (end_time i 0 (opening i 0) ds) small order refl)
      | inr disorder ↦ subst (SolutionGives (program_of i) ds) (sym (ap (λ b. cond b (negated (end_time i 0 (opening i 0) ds)) None) disorder))
          (λ x. false≢true (sym disorder ∙ order-from i ds small.some (solution-kept i ds small x).1.visits))
    ]
