-- Tours as lists of decisions, from a state on: what they say of the states that cover it, and what they cost at least.
use Rattle.std.proofs.Common.{◌≡◌, ◌≢◌, ℕ, ◌+◌, ◌<◌, ◌≤◌, ℤ, pos, ◌+ℤ◌, ◌-ℤ◌, Bool, true, false, not, nat_eq, List, [], ◌∷◌, length, refl, sym, ap, ◌∙◌, subst, arith, inl, inr}
use Rattle.std.specs.Prelude.{is_some, unwrap_or}
use Rattle.std.proofs.lemmas.Int.{ints}
use Rattle.std.proofs.lemmas.Bool.{cases_eq, cases_lt, false≢true, and_parts, and_from, or_left, or_right, ne_eqb}
use Rattle.node_sets.specs.Sums.{sum_below, count_below}
use Rattle.node_sets.specs.Sets.{words_for}
use Rattle.node_sets.proofs.Below.{sum_below-none}
use Rattle.dp_model.specs.Prefixes.{IsPath, gain_of}
use Rattle.pending_rows.specs.Pending as rows
use Rattle.pending_rows.specs.Pending.{is_within, done}
use Rattle.pending_rows.proofs.Covering as row_laws
use Rattle.pending_rows.proofs.Covering.{Covers, within-gives, within-from, covers-self, covers-chain, done-covers, sum-most}
use Rattle.tsp_windows.specs.Instance.{Instance, distance, closing, near}
use Rattle.tsp_windows.specs.States.{TourState, from_elsewhere, leg, arrival, departure, may_go, moved, joined, covers, way_left, shown, row_for}
use Rattle.tsp_windows.specs.Laws.States.{IsWithinNodes, shown-row_for}
use Rattle.tsp_windows.specs.Program.{program_of}
use Rattle.tsp_windows.specs.Laws.Moves.{NoMore, least_amount-wider, NoMore-or, NoMore-some, near-le-arrival, near-alone, leg-alone, visits, returns, may_visit-from, may_return-from, goes_on, goes_home, moved-bounded}

-- the decision may be taken
pub record IsGone (i : Instance) (k : ℕ) (t : TourState) (d : ℕ) : Type 0 where
  pub layer : k < i.nodes
  pub choice : d < i.nodes
  pub test : may_go i k t d ≡ true

-- the decisions may be taken one after another
abbrev pub IsTour : Instance → ℕ → TourState → List ℕ → Type 0
IsTour i k t [] = Unit {0}
IsTour i k t (d ∷ ds) = IsGone i k t d × IsTour i (k + 1) (moved i t d) ds

-- the time after them
abbrev pub last_time : Instance → TourState → List ℕ → ℕ
last_time i t [] = t.pending.time
last_time i t (d ∷ ds) = last_time i (moved i t d) ds

-- ---- states that cover others

pub record CoversTour (n : ℕ) (a b : TourState) : Type 0 where
  pub positions : (v : ℕ) → v < n → b.positions v ≡ true → a.positions v ≡ true
  pub pending : Covers n a.pending b.pending

pub covers-gives : (n : ℕ) (a b : TourState) → covers n a b ≡ true → CoversTour n a b
covers-gives n a b e =
    let parts = and_parts (rows.covers n a.pending b.pending) (is_within n b.positions a.positions) e in
    record { positions = within-gives n b.positions a.positions parts.1; pending = row_laws.covers-gives n a.pending b.pending parts.0 }

pub covers-from : (n : ℕ) (a b : TourState) → CoversTour n a b → covers n a b ≡ true
covers-from n a b c =
    and_from (rows.covers n a.pending b.pending) _ (row_laws.covers-from n a.pending b.pending c.pending) (within-from n b.positions a.positions c.positions)

pub CoversTour-self : (n : ℕ) (a : TourState) → CoversTour n a a
CoversTour-self n a = record { positions = λ v l e. e; pending = covers-self n a.pending }

pub CoversTour-chain : (n : ℕ) (a b c : TourState) → CoversTour n a b → CoversTour n b c → CoversTour n a c
CoversTour-chain n a b c p q = record {
  positions = λ v l e. p.positions v l (q.positions v l e);
  pending = covers-chain n a.pending b.pending c.pending p.pending q.pending;
}

-- what is joined covers both
pub joined-covers-left : (n : ℕ) (a b : TourState) → CoversTour n (joined a b) a
unfolding joined
joined-covers-left n a b = record { positions = λ v l e. or_left (a.positions v) (b.positions v) e; pending = row_laws.joined-covers-left n a.pending b.pending }

pub joined-covers-right : (n : ℕ) (a b : TourState) → CoversTour n (joined a b) b
unfolding joined
joined-covers-right n a b = record { positions = λ v l e. or_right (a.positions v) (b.positions v) e; pending = row_laws.joined-covers-right n a.pending b.pending }

leg-within : (i : Instance) (a b : TourState) (d : ℕ) → CoversTour i.nodes a b → NoMore (leg i a d) (leg i b d)
unfolding leg
leg-within i a b d c =
    least_amount-wider i.nodes (from_elsewhere a d) (from_elsewhere b d) (λ p. distance i p d)
    (λ v l e. and_from (a.positions v) (not (nat_eq v d)) (c.positions v l (and_parts (b.positions v) (not (nat_eq v d)) e).0) (and_parts (b.positions v) (not (nat_eq v d)) e).1)

arrival-reached : (i : Instance) (a b : TourState) (d : ℕ) → CoversTour i.nodes a b → is_some (leg i b d) ≡ true → arrival i a d ≤ arrival i b d
arrival-reached i a b d c e = let least = NoMore-or (leg i a d) (leg i b d) (leg-within i a b d c) e in omega (arith, least, c.pending.time)

arrival-alone : (i : Instance) (a b : TourState) (d : ℕ) → CoversTour i.nodes a b → d ≡ 0 → i.nodes ≡ 1 → arrival i a d ≤ arrival i b d
arrival-alone i a b d c h e =
    let left : unwrap_or (leg i a d) 0 ≡ 0 = ap (λ v. unwrap_or (leg i a v) 0) h ∙ ap (λ o. unwrap_or o 0) (leg-alone i a e) in
    omega (arith, left, c.pending.time)

-- what may be taken in the one state may be taken in each that covers it, and no later
pub record TakenNoLater (i : Instance) (k : ℕ) (a b : TourState) (d : ℕ) : Type 0 where
  pub gone : IsGone i k a d
  pub covered : CoversTour i.nodes (moved i a d) (moved i b d)

moved-covers : (i : Instance) (a b : TourState) (d : ℕ) → CoversTour i.nodes a b → arrival i a d ≤ arrival i b d → CoversTour i.nodes (moved i a d) (moved i b d)
unfolding moved
moved-covers i a b d c l = record { positions = λ v m e. e; pending = done-covers i.nodes a.pending b.pending d (departure i a d) (departure i b d) c.pending (omega arith) }

follows-visit : (i : Instance) (k : ℕ) (a b : TourState) (d : ℕ) → CoversTour i.nodes a b → IsGone i k b d → k + 1 < i.nodes → TakenNoLater i k a b d
follows-visit i k a b d c g l =
    let v = visits i b d (sym (goes_on i k b d l) ∙ g.test) in
    let earlier = arrival-reached i a b d c v.reached in
    record {
      gone = record {
        layer = g.layer;
        choice = g.choice;
        test = goes_on i k a d l ∙ may_visit-from i a d (record {
          away = v.away;
          pending = c.pending.pending d g.choice v.pending;
          reached = NoMore-some (leg i a d) (leg i b d) (leg-within i a b d c) v.reached;
          on_time = omega (arith, earlier, v.on_time);
        });
      };
      covered = moved-covers i a b d c earlier;
    }

follows-return : (i : Instance) (k : ℕ) (a b : TourState) (d : ℕ) → CoversTour i.nodes a b → IsGone i k b d → i.nodes ≤ k + 1 → TakenNoLater i k a b d
follows-return i k a b d c g l =
    let r = returns i b d (sym (goes_home i k b d l) ∙ g.test) in
    let earlier : arrival i a d ≤ arrival i b d = elim r.reached [ inl e ↦ arrival-reached i a b d c e | inr e ↦ arrival-alone i a b d c r.home e ] in
    record {
      gone = record {
        layer = g.layer;
        choice = g.choice;
        test = goes_home i k a d l ∙ may_return-from i a d (record {
          home = r.home;
          done = λ v m. none (a.pending.must v) (b.pending.must v) (c.pending.must v m) (r.done v m);
          reached = elim r.reached [ inl e ↦ inl (NoMore-some (leg i a d) (leg i b d) (leg-within i a b d c) e) | inr e ↦ inr e ];
          on_time = omega (arith, earlier, r.on_time);
        });
      };
      covered = moved-covers i a b d c earlier;
    }
  where
    none : (x y : Bool) → (x ≡ true → y ≡ true) → y ≡ false → x ≡ false
    none true y h e = absurd (false≢true (sym e ∙ h refl))
    none false y h e = refl

pub follows : (i : Instance) (k : ℕ) (a b : TourState) (d : ℕ) → CoversTour i.nodes a b → IsGone i k b d → TakenNoLater i k a b d
follows i k a b d c g =
    elim (cases_lt (k + 1) i.nodes) [ inl l ↦ follows-visit i k a b d c g l | inr l ↦ follows-return i k a b d c g l ]

-- each tour from a state is one from each state that covers it, and ends no later
pub tour-covered : (i : Instance) (k : ℕ) (a b : TourState) (ds : List ℕ) → CoversTour i.nodes a b → IsTour i k b ds → IsTour i k a ds × (last_time i a ds ≤ last_time i b ds)
tour-covered i k a b [] c w = (tt, c.pending.time)
tour-covered i k a b (d ∷ ds) c w =
    let f = follows i k a b d c w.0 in
    let rest = tour-covered i (k + 1) (moved i a d) (moved i b d) ds f.covered w.1 in
    ((f.gone, rest.0), rest.1)

-- ---- what a tour costs at least

pub record Costs (i : Instance) (k : ℕ) (t : TourState) (ds : List ℕ) : Type 0 where
  pub few : count_below i.nodes t.pending.must + k + 1 ≤ i.nodes
  pub on_time : (v : ℕ) → v < i.nodes → t.pending.must v ≡ true → t.pending.time + near i v ≤ closing i v
  pub home : t.pending.time + near i 0 ≤ closing i 0
  pub later : t.pending.time + way_left i t ≤ last_time i t ds

-- a visit takes at most one node from those that must be visited
sum-moved : (i : Instance) (t : TourState) (d : ℕ) (f : ℕ → ℕ) → d < i.nodes → sum_below i.nodes t.pending.must f ≤ sum_below i.nodes (moved i t d).pending.must f + f d
unfolding moved done
sum-moved i t d f l = sum-most i.nodes d t.pending.must f l

must-moved : (i : Instance) (t : TourState) (d v : ℕ) → v ≢ d → t.pending.must v ≡ true → (moved i t d).pending.must v ≡ true
unfolding moved done
must-moved i t d v n e = and_from (t.pending.must v) (not (nat_eq v d)) e (ap not (ne_eqb v d n))

time-moved : (i : Instance) (t : TourState) (d : ℕ) → arrival i t d ≤ (moved i t d).pending.time
unfolding moved done
time-moved i t d = omega arith

costs-visit : (i : Instance) (k : ℕ) (t : TourState) (d : ℕ) (ds : List ℕ) → k + 1 < i.nodes → IsGone i k t d → Costs i (k + 1) (moved i t d) ds → Costs i k t (d ∷ ds)
costs-visit i k t d ds l g rest =
    let v = visits i t d (sym (goes_on i k t d l) ∙ g.test) in
    let least = near-le-arrival i t d v.reached in
    let later = time-moved i t d in
    record {
      few = (let count = sum-moved i t d (λ _. 1) g.choice in omega (arith, count, rest.few));
      on_time = λ u m e. elim (cases_eq u d) [
        | inl s ↦ subst (λ x. t.pending.time + near i x ≤ closing i x) (sym s) (omega (arith, least, v.on_time))
        | inr n ↦ (let next = rest.on_time u m (must-moved i t d u n e) in omega (arith, next, least, later))
      ];
      home = omega (arith, rest.home, least, later);
      later = (let ways = sum-moved i t d (near i) g.choice in omega (arith, ways, rest.later, least, later));
    }

costs-return : (i : Instance) (k : ℕ) (t : TourState) (d : ℕ) → k + 1 ≡ i.nodes → IsGone i k t d → Costs i k t (d ∷ [])
costs-return i k t d l g =
    let r = returns i t d (sym (goes_home i k t d (omega arith)) ∙ g.test) in
    let least : t.pending.time + near i d ≤ arrival i t d = elim r.reached [
      | inl e ↦ near-le-arrival i t d e
      | inr e ↦ (let alone : near i d ≡ 0 = ap (near i) r.home ∙ near-alone i e in omega (arith, alone))
    ] in
    let here : near i d ≡ near i 0 = ap (near i) r.home in
    let shut : closing i d ≡ closing i 0 = ap (closing i) r.home in
    let later = time-moved i t d in
    let none = sum_below-none i.nodes t.pending.must (λ _. 1) r.done in
    let ways = sum_below-none i.nodes t.pending.must (near i) r.done in
    record {
      few = omega (arith, none);
      on_time = λ v m e. absurd (false≢true (sym (r.done v m) ∙ e));
      home = omega (arith, least, here, shut, r.on_time);
      later = omega (arith, least, here, later, ways);
    }

pub costs : (i : Instance) (k : ℕ) (t : TourState) (ds : List ℕ) → k < i.nodes → k + length ds ≡ i.nodes → IsTour i k t ds → Costs i k t ds
costs i k t [] l e w = absurd (omega arith)
costs i k t (d ∷ []) l e w = costs-return i k t d (omega arith) w.0
costs i k t (d ∷ f ∷ ds) l e w =
    costs-visit i k t d (f ∷ ds) (omega arith) w.0 (costs i (k + 1) (moved i t d) (f ∷ ds) (omega arith) (omega arith) w.1)

-- ---- paths of the program are tours

pub tour-of_path : (i : Instance) (k : ℕ) (s : List ℤ) (ds : List ℕ) → IsWithinNodes i.nodes (shown (words_for i.nodes) s) → IsPath (program_of i) k s ds → IsTour i k (shown (words_for i.nodes) s) ds
tour-of_path i k s [] b p = tt
tour-of_path i k s (d ∷ ds) b p =
    let next = moved-bounded i (shown (words_for i.nodes) s) d p.0.choice b in
    let same = shown-row_for i.nodes (moved i (shown (words_for i.nodes) s) d) next in (
      record { layer = p.0.layer; choice = p.0.choice; test = p.0.test },
      subst (λ t. IsTour i (k + 1) t ds) same (tour-of_path i (k + 1) (row_for (words_for i.nodes) (moved i (shown (words_for i.nodes) s) d)) ds (subst (IsWithinNodes i.nodes) (sym same) next) p.1),
    )

pub path-of_tour : (i : Instance) (k : ℕ) (s : List ℤ) (ds : List ℕ) → IsWithinNodes i.nodes (shown (words_for i.nodes) s) → IsTour i k (shown (words_for i.nodes) s) ds → IsPath (program_of i) k s ds
path-of_tour i k s [] b w = tt
path-of_tour i k s (d ∷ ds) b w =
    let next = moved-bounded i (shown (words_for i.nodes) s) d w.0.choice b in
    let same = shown-row_for i.nodes (moved i (shown (words_for i.nodes) s) d) next in (
      record { layer = w.0.layer; choice = w.0.choice; test = w.0.test },
      path-of_tour i (k + 1) (row_for (words_for i.nodes) (moved i (shown (words_for i.nodes) s) d)) ds (subst (IsWithinNodes i.nodes) (sym same) next) (subst (λ t. IsTour i (k + 1) t ds) (sym same) w.1),
    )

time-moved-is : (i : Instance) (t : TourState) (d : ℕ) → (moved i t d).pending.time ≡ departure i t d
unfolding moved done
time-moved-is i t d = refl

-- what they gain is the time that they begin at less the time that they end at
pub gain-of_tour : (i : Instance) (k : ℕ) (s : List ℤ) (ds : List ℕ) → IsWithinNodes i.nodes (shown (words_for i.nodes) s) → IsTour i k (shown (words_for i.nodes) s) ds → gain_of (program_of i) k s ds ≡ pos (shown (words_for i.nodes) s).pending.time -ℤ pos (last_time i (shown (words_for i.nodes) s) ds)
gain-of_tour i k s [] b w = omega (arith, ints)
gain-of_tour i k s (d ∷ ds) b w =
    let t = shown (words_for i.nodes) s in
    let next = moved-bounded i (shown (words_for i.nodes) s) d w.0.choice b in
    let same = shown-row_for i.nodes (moved i (shown (words_for i.nodes) s) d) next in
    let rest = gain-of_tour i (k + 1) (row_for (words_for i.nodes) (moved i (shown (words_for i.nodes) s) d)) ds (subst (IsWithinNodes i.nodes) (sym same) next) (subst (λ t. IsTour i (k + 1) t ds) (sym same) w.1) in
    let rest' = subst (λ t. gain_of (program_of i) (k + 1) (row_for (words_for i.nodes) (moved i (shown (words_for i.nodes) s) d)) ds ≡ pos t.pending.time -ℤ pos (last_time i t ds)) same rest in
    let left = time-moved-is i (shown (words_for i.nodes) s) d in
    joined_gain (shown (words_for i.nodes) s).pending.time (departure i (shown (words_for i.nodes) s) d) (last_time i (moved i (shown (words_for i.nodes) s) d) ds) (gain_of (program_of i) (k + 1) (row_for (words_for i.nodes) (moved i (shown (words_for i.nodes) s) d)) ds) (rest' ∙ ap (λ x. pos x -ℤ pos (last_time i (moved i (shown (words_for i.nodes) s) d) ds)) left)
  where
    joined_gain : (a b c : ℕ) (g : ℤ) → g ≡ pos b -ℤ pos c → (pos a -ℤ pos b) +ℤ g ≡ pos a -ℤ pos c
    joined_gain a b c g e = omega (arith, ints, e)
