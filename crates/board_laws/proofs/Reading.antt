-- What a good board says of the feasible solutions and of the counts.
use Rattle.std.proofs.Common.{◌≡◌, ◌≢◌, ℕ, ◌<◌, ◌≤◌, ℤ, ◌≤ℤ◌, List, [], ◌∷◌, ◌++◌, length, Bool, true, false, cond, Option, Some, None, ◌⊎◌, inl, inr, refl, ◌∙◌, length-append, arith, pos, ◌+◌, ◌+ℤ◌, sym, ap, subst, IsTrue}
use Rattle.std.proofs.lemmas.Int.{ints}
use Rattle.std.specs.Prelude.{int_lt}
use Rattle.dp_model.specs.Counts.{tree}
use Rattle.dp_model.specs.Dp.{Dp}
use Rattle.dp_model.specs.Lists.{Each, OneOf}
use Rattle.dp_model.specs.Numbers.{AtMost, OptionAtMost}
use Rattle.dp_model.specs.Prefixes.{IsMatched, IsSolution, value_of}
use Rattle.dp_model.proofs.Members.{Each-then}
use Rattle.board_laws.proofs.Counting.{pots-many}
use Rattle.board_laws.proofs.Frontier.{MatchedBy, HeldBy, matched-below}
use Rattle.board_laws.proofs.Lists.{one-each, one-map, one-out}
use Rattle.board_laws.specs.Board.{BoardState, incumbent_value, value_held, full_slots, frontier, prefixes, reach, reach_of, is_explored}
use Rattle.fringe.specs.Bounds.{raised}
use Rattle.board_laws.specs.Bound.{raised_by, board_bound, IsGreatestBound}
use Rattle.board_laws.specs.GoodBoard.{IsGood, IncumbentHolds, IsBoard}
use Rattle.board_laws.specs.Starts.{whole_search}
use Rattle.board_laws.specs.Laws.{NoneExceedsTheBound, ExploredSettles, ExploredIsWithinReach, ExploredIsBest}
use Rattle.fringe.specs.Tickets.{Ticketed}
use Rattle.std.proofs.lemmas.Bool.Decides.{nat_tests}
use Rattle.dp_model.specs.Solution.{Solution}
use Rattle.dp_model.specs.Best.{IsBest}

-- The bound.

raised-still : (most : Option ℤ) (y z : ℤ) → AtMost z most → AtMost z (raised most y)
raised-still None y z h = absurd h
raised-still (Some m) y z h =
    let go : (b : Bool) → int_lt m y ≡ b → z ≤ℤ cond b y m = λ b. elim b as (λ b. int_lt m y ≡ b → z ≤ℤ cond b y m) [ true ↦ λ e. grind (arith, ints) | false ↦ λ e. h ] in
    go (int_lt m y) refl

raised-here : (most : Option ℤ) (y : ℤ) → AtMost y (raised most y)
raised-here None y = omega (arith, ints)
raised-here (Some m) y =
    let go : (b : Bool) → int_lt m y ≡ b → y ≤ℤ cond b y m = λ b. elim b as (λ b. int_lt m y ≡ b → y ≤ℤ cond b y m) [ true ↦ λ e. omega (arith, ints) | false ↦ λ e. grind (arith, ints) ] in
    go (int_lt m y) refl

raised-keeps : (os : List Ticketed) (most : Option ℤ) (z : ℤ) → AtMost z most → AtMost z (raised_by most os)
raised-keeps [] most z h = h
raised-keeps (o ∷ os) most z h = raised-keeps os (raised most o.subproblem.bound) z (raised-still most o.subproblem.bound z h)

raised-each : (os : List Ticketed) (most : Option ℤ) → Each (λ o. AtMost o.subproblem.bound (raised_by most os)) os
raised-each [] most = tt
raised-each (o ∷ os) most =
    (raised-keeps os (raised most o.subproblem.bound) o.subproblem.bound (raised-here most o.subproblem.bound), raised-each os (raised most o.subproblem.bound))

raised-cases : (most : Option ℤ) (y : ℤ) → (raised most y ≡ most) ⊎ (raised most y ≡ Some y)
raised-cases None y = inr refl
raised-cases (Some m) y = elim (int_lt m y) as (λ b. (Some (cond b y m) ≡ Some m) ⊎ (Some (cond b y m) ≡ Some y)) [ true ↦ inr refl | false ↦ inl refl ]

raised-one : (os : List Ticketed) (most : Option ℤ) → (raised_by most os ≡ most) ⊎ OneOf (λ o. raised_by most os ≡ Some o.subproblem.bound) os
raised-one [] most = inl refl
raised-one (o ∷ os) most =
    let y = o.subproblem.bound in
    let Answer : Type 0 = (raised_by most (o ∷ os) ≡ most) ⊎ OneOf (λ o2. raised_by most (o ∷ os) ≡ Some o2.subproblem.bound) (o ∷ os) in
    elim (raised-one os (raised most y)) as (λ _. Answer) [
      | inl same ↦ elim (raised-cases most y) as (λ _. Answer) [ inl kept ↦ inl (same ∙ kept) | inr here ↦ inr (inl (same ∙ here)) ]
      | inr later ↦ inr (inr later)
    ]

option-most : (inc : Option ℤ) (most : Option ℤ) → ((z : ℤ) → AtMost z inc → AtMost z most) → OptionAtMost inc most
option-most None most up = tt
option-most (Some z) most up = up z (omega (arith, ints))

-- the bound is the greatest of the reach and the bounds of all that is out or open
pub bound-greatest : (b : BoardState) → IsGreatestBound b (board_bound b)
bound-greatest b = record {
  reached = option-most (reach b) (board_bound b) (raised-keeps (frontier b) (reach b));
  each = raised-each (frontier b) (reach b);
  one = raised-one (frontier b) (reach b);
}

held-by-more : (dp : Dp) (inc more : Option ℤ) → ((z : ℤ) → AtMost z inc → AtMost z more) → (o : Ticketed) → HeldBy dp inc o → HeldBy dp more o
held-by-more dp inc more up o h x c =
    elim (h x c) as (λ _. (value_of dp x ≤ℤ o.subproblem.bound) ⊎ AtMost (value_of dp x) more) [ inl a ↦ inl a | inr b ↦ inr (up (value_of dp x) b) ]

-- no feasible solution exceeds the bound
pub bound-holds : (dp : Dp) → NoneExceedsTheBound dp
bound-holds dp b g x s =
    let inc = reach b in
    let most = board_bound b in
    let up : (z : ℤ) → AtMost z inc → AtMost z most = raised-keeps (frontier b) inc in
    elim (g.covers x s (inl refl)) as (λ _. AtMost (value_of dp x) most) [
      | inl a ↦ up (value_of dp x) a
      | inr m ↦ one-out (λ o. (MatchedBy dp x o × HeldBy dp most o) × AtMost o.subproblem.bound most) (AtMost (value_of dp x) most)
          (λ o h. matched-below dp x most o.subproblem.decisions o.subproblem.bound h.0.0 h.0.1 h.1) (frontier b)
          (one-each (λ o. MatchedBy dp x o × HeldBy dp most o) (λ o. AtMost o.subproblem.bound most) (frontier b)
          (one-each (MatchedBy dp x) (HeldBy dp most) (frontier b) (one-map (λ (o : Ticketed). o.subproblem.decisions) (IsMatched dp x) (frontier b) m) (Each-then (HeldBy dp inc) (HeldBy dp most) (frontier b) (held-by-more dp inc most up) g.held))
          (raised-each (frontier b) inc))
    ]

pub raised-append : (most : Option ℤ) (xs ys : List Ticketed) → raised_by (raised_by most xs) ys ≡ raised_by most (xs ++ ys)
raised-append most [] ys = refl
raised-append most (x ∷ xs) ys = raised-append (raised most x.subproblem.bound) xs ys

-- The counts.

some-left : (os : List Ticketed) → os ≢ [] → 1 ≤ length os
some-left [] h = absurd (h refl)
some-left (o ∷ os) h = omega arith

-- where something is open and no cause is held, fewer were taken than there are prefixes
pub taken-fewer : (dp : Dp) (b : BoardState) → IsBoard dp b → IsGood dp b → b.cause ≡ None → b.open_ones ≢ [] → b.taken < tree dp
taken-fewer dp b k g none more =
    let some = some-left b.open_ones more in
    let many = pots-many dp (frontier b) k.own in
    let long = length-append (full_slots b.slots) b.open_ones in
    let balanced = g.balanced none in
    let ends = g.ends in
    omega arith

-- An explored board.

no-length : (os : List Ticketed) → length os ≡ 0 → os ≡ []
no-length [] h = refl
no-length (o ∷ os) h = absurd (omega arith)

-- where nothing is open or out, the frontier is empty
pub explored-empty : (b : BoardState) → IsTrue (is_explored b) → frontier b ≡ []
explored-empty b h =
    let long = length-append (full_slots b.slots) b.open_ones in
    let none : length b.open_ones + length (full_slots b.slots) ≡ 0 = grind (arith, nat_tests) in
    no-length (frontier b) (omega arith)

none-of : (dp : Dp) (x : List ℕ) (os : List Ticketed) → os ≡ [] → OneOf (IsMatched dp x) (prefixes os) → ⊥
none-of dp x os none one = subst (λ (l : List Ticketed). OneOf (IsMatched dp x) (prefixes l)) none one

-- where nothing is open or out, each feasible solution that begins with a start prefix is at most the reach
pub explored-settles : (dp : Dp) → ExploredSettles dp
explored-settles dp starts b g explored x s begun =
    elim (g.covers x s begun) as (λ _. AtMost (value_of dp x) (reach b)) [
      | inl low ↦ low
      | inr one ↦ absurd (none-of dp x (frontier b) (explored-empty b explored) one)
    ]

-- so is each feasible solution in a whole search
pub explored-within : (dp : Dp) → ExploredIsWithinReach dp
explored-within dp b g explored x s = explored-settles dp whole_search b g explored x s (inl refl)

-- without a distance the reach is the incumbent's value
pub reach-zero : (within : ℤ) (inc : Option ℤ) → within ≡ pos 0 → reach_of within inc ≡ inc
reach-zero within None zero = refl
reach-zero within (Some value) zero = ap Some (let same : value +ℤ within ≡ value = omega (arith, ints) in same)

-- a feasible solution that none exceeds is best, and there is none where none is at most none
best-held : (dp : Dp) (held : Option Solution) → IncumbentHolds dp held → ((x : List ℕ) → IsSolution dp x → AtMost (value_of dp x) (value_held held)) → IsBest dp (value_held held)
best-held dp None h most = most
best-held dp (Some best) h most = record { by = best.decisions; solution = h.solution; value = sym h.value; most = most }

-- where nothing is open or out and there is no distance, the incumbent is best
pub explored-best : (dp : Dp) → ExploredIsBest dp
explored-best dp b k g none explored =
    best-held dp b.incumbent k.incumbent
    (subst (λ (r : Option ℤ). (x : List ℕ) → IsSolution dp x → AtMost (value_of dp x) r) (reach-zero b.settings.within (incumbent_value b) none) (explored-within dp b g explored))
