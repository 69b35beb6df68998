-- Loops over the members of a set: what the next member adds.
use Rattle.std.proofs.Common.{◌≡◌, ◌≢◌, ℕ, ◌+◌, ◌*◌, ◌<◌, ◌≤◌, ℤ, Bool, true, false, not, ◌&&◌, ◌||◌, nat_eq, nat_lt, List, get_or, Option, refl, sym, ap, ap₂, ◌∙◌, arith, inl, inr, eq-eqb}
use Rattle.std.proofs.lemmas.Bool.{cases_eq, cases_lt, false≢true, or_left, or_right, ne_eqb, lt-ltb, le-ltb}
use Rattle.node_sets.specs.Sums.{all_below, sum_below, lesser, least_amount}
use Rattle.node_sets.specs.Sets.{IsLeastFrom, IsSet, has}
use Rattle.node_sets.proofs.Below.{all_below-gives, all_below-from, sum_below-skip, sum_below-next, sum_below-le, least_amount-skip, least_amount-next}

-- a member is one of the nodes
pub member_inside : (n : ℕ) (row : List ℤ) (from v : ℕ) → IsSet n row → IsLeastFrom (has row) from v → v < n
member_inside n row from v set next =
    elim (cases_lt v n) [
      | inl l ↦ l
      | inr l ↦ absurd (false≢true (sym (set.within v l) ∙ next.passes))
    ]

-- the next member that counts
pub leg_takes : (row : List ℤ) (f : ℕ → ℕ) (from p to way : ℕ) (least : Option ℕ) → IsLeastFrom (has row) from p → p ≢ to → way ≡ f p → least ≡ least_amount from (λ p. has row p && not (nat_eq p to)) f → lesser way least ≡ least_amount (p + 1) (λ p. has row p && not (nat_eq p to)) f
leg_takes row f from p to way least next apart e l =
    ap₂ lesser e l
    ∙ sym (least_amount-next from p (λ p. has row p && not (nat_eq p to)) f next.reached (λ u a b. ap (λ x. x && not (nat_eq u to)) (next.skipped u a b)) (ap₂ (λ x y. x && not y) next.passes (ne_eqb p to apart)))

-- the member that does not count
pub leg_skips : (row : List ℤ) (f : ℕ → ℕ) (from p to : ℕ) (least : Option ℕ) → IsLeastFrom (has row) from p → p ≡ to → least ≡ least_amount from (λ p. has row p && not (nat_eq p to)) f → least ≡ least_amount (p + 1) (λ p. has row p && not (nat_eq p to)) f
leg_skips row f from p to least next same l =
    l ∙ sym (least_amount-skip from (p + 1) (λ p. has row p && not (nat_eq p to)) f (let r = next.reached in omega (arith, r)) passed)
  where
    none : (x y : Bool) → y ≡ true → (x && not y) ≡ false
    none true true e = refl
    none false true e = refl
    none x false e = absurd (false≢true e)

    passed : (u : ℕ) → from ≤ u → u < p + 1 → (has row u && not (nat_eq u to)) ≡ false
    passed u a b = elim (cases_eq u p) [
      | inl s ↦ none (has row u) (nat_eq u to) (eq-eqb u to (s ∙ same))
      | inr s ↦ ap (λ x. x && not (nat_eq u to)) (next.skipped u a (omega arith))
    ]

-- no member is left
pub leg_ends : (n : ℕ) (row : List ℤ) (f : ℕ → ℕ) (from to : ℕ) (least : Option ℕ) → from ≤ n → ((v : ℕ) → from ≤ v → has row v ≡ false) → least ≡ least_amount from (λ p. has row p && not (nat_eq p to)) f → least ≡ least_amount n (λ p. has row p && not (nat_eq p to)) f
leg_ends n row f from to least inside none l =
    l ∙ sym (least_amount-skip from n (λ p. has row p && not (nat_eq p to)) f inside (λ u a b. ap (λ x. x && not (nat_eq u to)) (none u a)))

-- whether it is not too late to leave for a member
abbrev pub in_time : List ℕ → List ℤ → ℕ → ℕ → Bool
in_time too_late members time v = nat_lt time (get_or too_late v 0) || not (has members v)

-- a member for which it is too late to leave
pub members_late : (n : ℕ) (too_late : List ℕ) (members : List ℤ) (time from v : ℕ) → v < n → IsLeastFrom (has members) from v → get_or too_late v 0 ≤ time → all_below n (in_time too_late members time) ≡ false
members_late n too_late members time from v inside next late =
    not_all (all_below n (in_time too_late members time)) (λ all. false≢true (sym (ap₂ (λ x y. x || not y) (le-ltb time (get_or too_late v 0) late) next.passes) ∙ all_below-gives n (in_time too_late members time) all v inside))
  where
    not_all : (b : Bool) → (b ≡ true → ⊥) → b ≡ false
    not_all true h = absurd (h refl)
    not_all false h = refl

pub members_early : (too_late : List ℕ) (members : List ℤ) (time from v : ℕ) → IsLeastFrom (has members) from v → time < get_or too_late v 0 → ((u : ℕ) → u < from → in_time too_late members time u ≡ true) → (u : ℕ) → u < v + 1 → in_time too_late members time u ≡ true
members_early too_late members time from v next early before u l =
    elim (cases_lt u from) [
      | inl a ↦ before u a
      | inr a ↦ (elim (cases_eq u v) [
        | inl s ↦ ap (in_time too_late members time) s ∙ or_left (nat_lt time (get_or too_late v 0)) (not (has members v)) (lt-ltb time (get_or too_late v 0) early)
        | inr s ↦ or_right (nat_lt time (get_or too_late u 0)) (not (has members u)) (ap not (next.skipped u a (omega arith)))
      ])
    ]

pub members_end : (n : ℕ) (too_late : List ℕ) (members : List ℤ) (time from : ℕ) → ((v : ℕ) → from ≤ v → has members v ≡ false) → ((u : ℕ) → u < from → in_time too_late members time u ≡ true) → all_below n (in_time too_late members time) ≡ true
members_end n too_late members time from none before =
    all_below-from n (in_time too_late members time) (λ u l. elim (cases_lt u from) [
      | inl a ↦ before u a
      | inr a ↦ or_right (nat_lt time (get_or too_late u 0)) (not (has members u)) (ap not (none u a))
    ])

pub members_add : (nearest : List ℕ) (members : List ℤ) (from v total way : ℕ) → IsLeastFrom (has members) from v → way ≡ get_or nearest v 0 → total ≡ sum_below from (has members) (λ v. get_or nearest v 0) → total + way ≡ sum_below (v + 1) (has members) (λ v. get_or nearest v 0)
members_add nearest members from v total way next e t =
    ap₂ ◌+◌ t e ∙ sym (sum_below-next from v (has members) (λ v. get_or nearest v 0) next.reached next.skipped next.passes)

pub members_total : (n : ℕ) (nearest : List ℕ) (members : List ℤ) (from total : ℕ) → from ≤ n → ((v : ℕ) → from ≤ v → has members v ≡ false) → total ≡ sum_below from (has members) (λ v. get_or nearest v 0) → total ≡ sum_below n (has members) (λ v. get_or nearest v 0)
members_total n nearest members from total inside none t =
    t ∙ sym (sum_below-skip from n (has members) (λ v. get_or nearest v 0) inside (λ u a b. none u a))

-- sums of ways stay small
pub members_small : (nearest : List ℕ) (members : List ℤ) (from total : ℕ) → ((v : ℕ) → get_or nearest v 0 < 4294967296) → total ≡ sum_below from (has members) (λ v. get_or nearest v 0) → total ≤ from * 4294967296
members_small nearest members from total small t =
    let most = sum_below-le from (has members) (λ v. get_or nearest v 0) 4294967296 (λ v l. let s = small v in omega (arith, s)) in omega (arith, t, most)
