-- The greatest rank is that of the one to take.
use Rattle.std.proofs.Common.{◌≡◌, ◌≢◌, ℕ, List, ◌∷◌, true, false, Option, Some, None, inl, inr, refl, sym, ap, subst, arith, Contains, IsPermutation}
use Rattle.std.proofs.lemmas.Bool.Decides.{nat_tests}
use Rattle.std.proofs.lemmas.Int.{ints}
use Rattle.std.proofs.lemmas.List.Elements.{All-contains, All-from_recursion}
use Rattle.std.proofs.lemmas.List.Sorted.{Contains-permutation}
use Rattle.std.specs.BinaryHeap.{IsUpperBound, lt_by_cmp}
use Rattle.fringe.proofs.Filters.{Contains-cons_cases}
use Rattle.fringe.specs.Tickets.{Ticketed}
use Rattle.fringe.specs.Firsts.{is_taken_before}
use Rattle.fringe.specs.declared.rank.Rank.{Rank}
use Rattle.fringe.specs.Ranks.{rank_cmp}
use Rattle.fringe.specs.Slots.{AreRanked, IsFirstSlot, has_rank, in_slot, rank_of}

-- a rank that is not less is not taken after
not_before : (r : Rank) (t : ℕ) (o one : Ticketed) → one.ticket ≡ r.ticket → one.subproblem.value ≡ r.value → one.subproblem.bound ≡ r.bound
    → lt_by_cmp rank_cmp r (rank_of t o) ≡ false → is_taken_before o one ≡ false
not_before r t o one ticket value bound h = grind (arith, ints, nat_tests)

has_parts : (r : Rank) (o : Ticketed) → has_rank r (Some o) ≡ true → (o.ticket ≡ r.ticket) × (o.subproblem.value ≡ r.value) × (o.subproblem.bound ≡ r.bound)
has_parts r o h = (grind (arith, ints, nat_tests), grind (arith, ints, nat_tests), grind (arith, ints, nat_tests))

has_itself : (s : ℕ) (o : Ticketed) → has_rank (rank_of s o) (Some o) ≡ true
has_itself s o = grind (arith, ints, nat_tests)

pub best_of : (slots : List (Option Ticketed)) (ranks : List Rank) (r : Rank) → has_rank r (in_slot slots r.slot) ≡ true → AreRanked slots ranks → IsUpperBound rank_cmp r ranks → IsFirstSlot slots r.slot
best_of slots ranks r has ranked most =
    let go : (x : Option Ticketed) → in_slot slots r.slot ≡ x → has_rank r x ≡ true → IsFirstSlot slots r.slot =
    λ x. elim x as (λ x. in_slot slots r.slot ≡ x → has_rank r x ≡ true → IsFirstSlot slots r.slot) [
      | None ↦ λ e h. absurd (cc)
      | Some one ↦ λ e h. (let p = has_parts r one h in record {
        one = one;
        there = e;
        first = λ t o at. not_before r t o one p.0 p.1 p.2 (All-contains (λ y. lt_by_cmp rank_cmp r y ≡ false) ranks (rank_of t o) (All-from_recursion (λ y. lt_by_cmp rank_cmp r y ≡ false) ranks most) (ranked t o at));
      })
    ] in
    go (in_slot slots r.slot) refl has

-- the ranks of the others are left
pub ranked_others : (slots : List (Option Ticketed)) (ranks rest : List Rank) (r : Rank) → AreRanked slots ranks → IsPermutation ranks (r ∷ rest)
    → (s : ℕ) (o : Ticketed) → in_slot slots s ≡ Some o → s ≢ r.slot → Contains rest (rank_of s o)
ranked_others slots ranks rest r ranked moved s o at other =
    elim (Contains-cons_cases r (rank_of s o) rest (Contains-permutation ranks (r ∷ rest) (rank_of s o) moved (ranked s o at))) as (λ _. Contains rest (rank_of s o)) [
      | inl same ↦ absurd (other (sym (ap (λ (q : Rank). q.slot) same)))
      | inr there ↦ there
    ]

-- where the rank is that of none, the ranks of all are left
pub ranked_stale : (slots : List (Option Ticketed)) (ranks rest : List Rank) (r : Rank) → AreRanked slots ranks → IsPermutation ranks (r ∷ rest)
    → has_rank r (in_slot slots r.slot) ≡ false → AreRanked slots rest
ranked_stale slots ranks rest r ranked moved stale s o at =
    elim (Contains-cons_cases r (rank_of s o) rest (Contains-permutation ranks (r ∷ rest) (rank_of s o) moved (ranked s o at))) as (λ _. Contains rest (rank_of s o)) [
      | inl same ↦ (
          let k : has_rank (rank_of s o) (in_slot slots s) ≡ false = subst (λ (q : Rank). has_rank q (in_slot slots q.slot) ≡ false) same stale in
          let k2 : has_rank (rank_of s o) (Some o) ≡ false = subst (λ x. has_rank (rank_of s o) x ≡ false) at k in
          let h = has_itself s o in absurd (cc))
      | inr there ↦ there
    ]
