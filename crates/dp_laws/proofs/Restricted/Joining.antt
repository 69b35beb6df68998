-- The candidates joined are, for each state, the first of greatest value.
use Rattle.std.proofs.Common.{◌≡◌, ◌≢◌, ℕ, ℤ, ◌<ℤ◌, ◌≤ℤ◌, int_lt, Bool, true, false, cond, List, [], ◌∷◌, ◌++◌, ◌⊎◌, inl, inr, refl, sym, ◌∙◌, ap, subst, append_assoc, append-nil, arith}
use Rattle.std.proofs.lemmas.Int.{ints}
use Rattle.dp_model.specs.Dp.{Dp}
use Rattle.dp_model.specs.Lists.{Each, OneOf}
use Rattle.dp_model.specs.Reached.{Reached}
use Rattle.dp_model.specs.Rows.{row_same}
use Rattle.dp_model.proofs.Members.{Has, each-has, Each-append, Each-then, Has-append-right}
use Rattle.dp_model.proofs.RowLemmas.{row_same-is}
use Rattle.dp_laws.specs.Restricted.BestOfState.{IsBestOfState, HasBest, IsExpansion, ExpansionsAreUnique}
use Rattle.dp_laws.specs.Restricted.Extensions.{better, joined, all_joined}
use Rattle.dp_laws.specs.Restricted.Ordered.{RowsDiffer}
use Rattle.dp_laws.specs.Restricted.ReductionOrder.{stands_before, placed, in_order}
use Rattle.dp_laws.proofs.Restricted.Differing.{rows-other, better-row, differ-joined, differ-all_joined}
use Rattle.dp_laws.proofs.Restricted.Keeping.{each-in_order}
use Rattle.dp_laws.proofs.Restricted.Orders.{order-in_order, order-unique}

-- One of the members.

-- what follows from a member and what is known of each
pub one-each : {X : Type 0} (P Q : X → Type 0) (A : Type 0) → ((x : X) → P x → Q x → A) → (xs : List X) → OneOf P xs → Each Q xs → A
one-each P Q A f [] h all = absurd h
one-each P Q A f (x ∷ xs) (inl h) all = f x h all.0
one-each P Q A f (x ∷ xs) (inr h) all = one-each P Q A f xs h all.1

pub one-both : {X : Type 0} (P Q R : X → Type 0) → ((x : X) → P x → Q x → R x) → (xs : List X) → OneOf P xs → Each Q xs → OneOf R xs
one-both P Q R f [] h all = absurd h
one-both P Q R f (x ∷ xs) (inl h) all = inl (f x h all.0)
one-both P Q R f (x ∷ xs) (inr h) all = inr (one-both P Q R f xs h all.1)

pub each-both : {X : Type 0} (P Q R : X → Type 0) → ((x : X) → P x → Q x → R x) → (xs : List X) → Each P xs → Each Q xs → Each R xs
each-both P Q R f [] h all = tt
each-both P Q R f (x ∷ xs) h all = (f x h.0 all.0, each-both P Q R f xs h.1 all.1)

module _ (P : Reached → Type 0) where
  pub one-placed : (dp : Dp) (k : ℕ) (new : Reached) (rs : List Reached) → P new ⊎ OneOf P rs → OneOf P (placed dp k new rs)
  one-placed dp k new [] h = h
  one-placed dp k new (r ∷ rs) h =
      elim (stands_before dp k new r) as (λ b. OneOf P (cond b (new ∷ r ∷ rs) (r ∷ placed dp k new rs))) [
        | true ↦ h
        | false ↦ elim h as (λ _. OneOf P (r ∷ placed dp k new rs)) [
          | inl here ↦ inr (one-placed dp k new rs (inl here))
          | inr there ↦ elim there as (λ _. OneOf P (r ∷ placed dp k new rs)) [ inl first ↦ inl first | inr later ↦ inr (one-placed dp k new rs (inr later)) ]
        ]
      ]

  pub one-in_order : (dp : Dp) (k : ℕ) (rs : List Reached) → OneOf P rs → OneOf P (in_order dp k rs)
  one-in_order dp k [] h = absurd h
  one-in_order dp k (r ∷ rs) (inl here) = one-placed dp k r (in_order dp k rs) (inl here)
  one-in_order dp k (r ∷ rs) (inr later) = one-placed dp k r (in_order dp k rs) (inr (one-in_order dp k rs later))

-- States that are there stay there.

abbrev HasRow : List ℤ → List Reached → Type 0
HasRow s rs = OneOf (λ (r : Reached). r.row ≡ s) rs

row-joined : (s : List ℤ) (rs : List Reached) (new : Reached) → HasRow s rs → HasRow s (joined rs new)
row-joined s [] new h = absurd h
row-joined s (r ∷ rs) new h =
    let go : (b : Bool) → row_same r.row new.row ≡ b → HasRow s (cond b (better r new ∷ rs) (r ∷ joined rs new)) =
    λ b. elim b as (λ b. row_same r.row new.row ≡ b → HasRow s (cond b (better r new ∷ rs) (r ∷ joined rs new))) [
      | true ↦ λ same. elim h as (λ _. HasRow s (better r new ∷ rs)) [ inl e ↦ inl (better-row r new (row_same-is r.row new.row same) ∙ e) | inr later ↦ inr later ]
      | false ↦ λ other. elim h as (λ _. HasRow s (r ∷ joined rs new)) [ inl e ↦ inl e | inr later ↦ inr (row-joined s rs new later) ]
    ] in
    go (row_same r.row new.row) refl

row-new : (rs : List Reached) (new : Reached) → HasRow new.row (joined rs new)
row-new [] new = inl refl
row-new (r ∷ rs) new =
    let go : (b : Bool) → row_same r.row new.row ≡ b → HasRow new.row (cond b (better r new ∷ rs) (r ∷ joined rs new)) =
    λ b. elim b as (λ b. row_same r.row new.row ≡ b → HasRow new.row (cond b (better r new ∷ rs) (r ∷ joined rs new))) [
      | true ↦ λ same. (let e = row_same-is r.row new.row same in inl (better-row r new e ∙ e))
      | false ↦ λ other. inr (row-new rs new)
    ] in
    go (row_same r.row new.row) refl

-- The best of a state.

abbrev NoMore : Reached → Reached → Type 0
NoMore r c = c.row ≡ r.row → c.value ≤ℤ r.value

abbrev Less : Reached → Reached → Type 0
Less r c = c.row ≡ r.row → c.value <ℤ r.value

pub best-each : (cs : List Reached) (r : Reached) → IsBestOfState cs r → Each (NoMore r) cs
best-each cs r h =
    subst (Each (NoMore r)) (sym h.split)
    (Each-append (NoMore r) h.before (r ∷ h.after) (Each-then (Less r) (NoMore r) h.before (λ c less same. let e = less same in omega (arith, ints)) h.earlier) ((λ same. omega (arith, ints)), h.later))

pub best-has : (cs : List Reached) (r : Reached) → IsBestOfState cs r → Has r cs
best-has cs r h = subst (Has r) (sym h.split) (Has-append-right r h.before (r ∷ h.after) (inl refl))

best-more : (cs : List Reached) (new r : Reached) → IsBestOfState cs r → NoMore r new → IsBestOfState (cs ++ new ∷ []) r
best-more cs new r h no_more = record {
  before = h.before;
  after = h.after ++ new ∷ [];
  split = ap (λ l. l ++ new ∷ []) h.split ∙ append_assoc h.before (r ∷ h.after) (new ∷ []);
  earlier = h.earlier;
  later = Each-append (NoMore r) h.after (new ∷ []) h.later (no_more, tt);
}

best-new : (cs : List Reached) (new : Reached) → Each (Less new) cs → IsBestOfState (cs ++ new ∷ []) new
best-new cs new h = record { before = cs; after = []; split = refl; earlier = h; later = tt }

best-better : (cs : List Reached) (r new : Reached) → r.row ≡ new.row → IsBestOfState cs r → IsBestOfState (cs ++ new ∷ []) (better r new)
best-better cs r new same h =
    let go : (b : Bool) → int_lt r.value new.value ≡ b → IsBestOfState (cs ++ new ∷ []) (cond b new r) =
    λ b. elim b as (λ b. int_lt r.value new.value ≡ b → IsBestOfState (cs ++ new ∷ []) (cond b new r)) [
      | true ↦ λ e. (
          let up : r.value <ℤ new.value = grind (arith, ints) in
          best-new cs new (Each-then (NoMore r) (Less new) cs (λ c no_more row. let le = no_more (row ∙ sym same) in omega (arith, ints)) (best-each cs r h)))
      | false ↦ λ e. (let le : new.value ≤ℤ r.value = grind (arith, ints) in best-more cs new r h (λ row. le))
    ] in
    go (int_lt r.value new.value) refl

-- where a new candidate of a new state has more than each before it of its state, of which there is none
best-joined : (cs rs : List Reached) (new : Reached) → Each (IsBestOfState cs) rs → RowsDiffer rs
    → (Each (λ r. r.row ≢ new.row) rs → Each (Less new) cs) → Each (IsBestOfState (cs ++ new ∷ [])) (joined rs new)
best-joined cs [] new h differ fresh = (best-new cs new (fresh tt), tt)
best-joined cs (r ∷ rs) new h differ fresh =
    let go : (b : Bool) → row_same r.row new.row ≡ b → Each (IsBestOfState (cs ++ new ∷ [])) (cond b (better r new ∷ rs) (r ∷ joined rs new)) =
    λ b. elim b as (λ b. row_same r.row new.row ≡ b → Each (IsBestOfState (cs ++ new ∷ [])) (cond b (better r new ∷ rs) (r ∷ joined rs new))) [
      | true ↦ λ same. (
          let e = row_same-is r.row new.row same in
          let others = each-both (λ o. r.row ≢ o.row) (IsBestOfState cs) (IsBestOfState (cs ++ new ∷ [])) (λ o apart best. best-more cs new o best (λ row. absurd (apart (e ∙ row)))) rs differ.0 h.1 in
          (best-better cs r new e h.0, others))
      | false ↦ λ other. (
          let apart = rows-other r.row new.row other in
          (best-more cs new r h.0 (λ row. absurd (apart (sym row))), best-joined cs rs new h.1 differ.1 (λ rest. fresh (apart, rest))))
    ] in
    go (row_same r.row new.row) refl

pub best-all_joined : (cs rs news : List Reached) → HasBest cs rs → RowsDiffer rs → HasBest (cs ++ news) (all_joined rs news)
best-all_joined cs rs [] h differ = subst (λ l. HasBest l rs) (sym (append-nil cs)) h
best-all_joined cs rs (new ∷ news) h differ =
    let fresh : Each (λ r. r.row ≢ new.row) rs → Each (Less new) cs = λ none.
    Each-then (λ c. HasRow c.row rs) (Less new) cs (λ c there same. absurd (one-each (λ r. r.row ≡ c.row) (λ r. r.row ≢ new.row) ⊥ (λ r e other. other (e ∙ same)) rs there none)) h.all in
    let next : HasBest (cs ++ new ∷ []) (joined rs new) = record {
      best = best-joined cs rs new h.best differ fresh;
      all = Each-append (λ c. HasRow c.row (joined rs new)) cs (new ∷ []) (Each-then (λ c. HasRow c.row rs) (λ c. HasRow c.row (joined rs new)) cs (λ c there. row-joined c.row rs new there) h.all) (row-new rs new, tt);
    } in
    subst (λ l. HasBest l (all_joined (joined rs new) news)) (append_assoc cs (new ∷ []) news)
    (best-all_joined (cs ++ new ∷ []) (joined rs new) news next (differ-joined rs new differ))

pub best-in_order : (dp : Dp) (k : ℕ) (cs rs : List Reached) → HasBest cs rs → HasBest cs (in_order dp k rs)
best-in_order dp k cs rs h = record {
  best = each-in_order (IsBestOfState cs) dp k rs h.best;
  all = Each-then (λ c. HasRow c.row rs) (λ c. HasRow c.row (in_order dp k rs)) cs (λ c there. one-in_order (λ r. r.row ≡ c.row) dp k rs there) h.all;
}

-- of one state one candidate is the best
best-one : (before other after rest : List Reached) (r s : Reached) → before ++ r ∷ after ≡ other ++ s ∷ rest → r.row ≡ s.row
    → Each (Less r) before → Each (NoMore r) after → Each (Less s) other → Each (NoMore s) rest → r ≡ s
best-one [] [] after rest r s e same a b c d = cc
best-one [] (o ∷ other) after rest r s e same a b c d =
    let head : r ≡ o = cc in let tail : after ≡ other ++ s ∷ rest = cc in
    let up : s.value ≤ℤ r.value = each-has (NoMore r) after s b (subst (Has s) (sym tail) (Has-append-right s other (s ∷ rest) (inl refl))) (sym same) in
    let less : r.value <ℤ s.value = subst (Less s) (sym head) c.0 same in
    absurd (omega (arith, ints))
best-one (o ∷ before) [] after rest r s e same a b c d =
    let head : o ≡ s = cc in let tail : before ++ r ∷ after ≡ rest = cc in
    let up : r.value ≤ℤ s.value = each-has (NoMore s) rest r d (subst (Has r) tail (Has-append-right r before (r ∷ after) (inl refl))) same in
    let less : s.value <ℤ r.value = subst (Less r) head a.0 (sym same) in
    absurd (omega (arith, ints))
best-one (o ∷ before) (q ∷ other) after rest r s e same a b c d =
    let tail : before ++ r ∷ after ≡ other ++ s ∷ rest = cc in best-one before other after rest r s tail same a.1 b c.1 d

pub best-unique : (cs : List Reached) (r s : Reached) → IsBestOfState cs r → IsBestOfState cs s → r.row ≡ s.row → r ≡ s
best-unique cs r s h g same = best-one h.before g.before h.after g.after r s (sym h.split ∙ g.split) same h.earlier h.later g.earlier g.later

-- two lists of the best of each state have the same members
pub best-member : (cs rs qs : List Reached) (r : Reached) → HasBest cs rs → HasBest cs qs → Has r rs → Has r qs
best-member cs rs qs r h g has =
    let mine = each-has (IsBestOfState cs) rs r h.best has in
    let there = each-has (λ c. HasRow c.row qs) cs r g.all (best-has cs r mine) in
    one-both (λ q. q.row ≡ r.row) (IsBestOfState cs) (λ q. q ≡ r) (λ q same best. best-unique cs q r best mine same) qs there g.best

pub expansion : (dp : Dp) (k : ℕ) (cs : List Reached) → IsExpansion dp k cs (in_order dp k (all_joined [] cs))
expansion dp k cs =
    let joins = best-all_joined [] [] cs (record { best = tt; all = tt }) tt in
    record { has = best-in_order dp k cs (all_joined [] cs) joins; order = order-in_order dp k (all_joined [] cs) (differ-all_joined [] cs tt) }

pub expansions-unique : (dp : Dp) → ExpansionsAreUnique dp
expansions-unique dp = record {
  is = λ k cs. expansion dp k cs;
  only = λ k cs rs h. (
      let other = expansion dp k cs in
      order-unique dp k rs (in_order dp k (all_joined [] cs)) h.order other.order
      (record { there = λ r has. best-member cs rs _ r h.has other.has has; back = λ r has. best-member cs _ rs r other.has h.has has }));
}
