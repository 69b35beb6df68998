-- States that cover others.
use Rattle.std.proofs.Common.{◌≡◌, ◌≢◌, ℕ, zero, suc, ◌+◌, ◌<◌, ◌≤◌, Bool, true, false, cond, not, ◌&&◌, ◌||◌, nat_eq, nat_lt, refl, sym, ap, ap₂, ◌∙◌, arith, inl, inr, ◌⊎◌, eq-eqb}
use Rattle.std.proofs.lemmas.Bool.{cases_eq, false≢true, and_parts, and_from, or_left, or_right, or_cases, not-true, cases_Bool, ne_eqb, leb-true, le-leb, lt-ltb}
use Rattle.std.proofs.Math.Bool.{and-or_distrib_right}
use Rattle.node_sets.specs.Sums.{sum_below, count_below}
use Rattle.node_sets.proofs.Below.{all_below-gives, all_below-from, sum_below-same, sum_below-removed}
use Rattle.pending_rows.specs.Pending.{Pending, is_open, without, start, done, joined, is_within, covers}

-- ---- sets within others

pub within-gives : (n : ℕ) (part whole : ℕ → Bool) → is_within n part whole ≡ true → (v : ℕ) → v < n → part v ≡ true → whole v ≡ true
within-gives n part whole e v l p =
    elim (or_cases (whole v) (not (part v)) (all_below-gives n (λ v. whole v || not (part v)) e v l)) [
      | inl w ↦ w
      | inr q ↦ absurd (false≢true (sym (not-true (part v) q) ∙ p))
    ]

within-one : (a b : Bool) → (a ≡ true → b ≡ true) → (b || not a) ≡ true
within-one true b h = or_left b false (h refl)
within-one false b h = or_right b true refl

pub within-from : (n : ℕ) (part whole : ℕ → Bool) → ((v : ℕ) → v < n → part v ≡ true → whole v ≡ true) → is_within n part whole ≡ true
within-from n part whole h = all_below-from n (λ v. whole v || not (part v)) (λ v l. within-one (part v) (whole v) (h v l))

-- ---- covering

pub record Covers (n : ℕ) (a b : Pending) : Type 0 where
  pub must : (v : ℕ) → v < n → a.must v ≡ true → b.must v ≡ true
  pub pending : (v : ℕ) → v < n → is_open b v ≡ true → is_open a v ≡ true
  pub time : a.time ≤ b.time

pub covers-gives : (n : ℕ) (a b : Pending) → covers n a b ≡ true → Covers n a b
covers-gives n a b e =
    let parts = and_parts (is_within n a.must b.must) _ e in
    let rest = and_parts (is_within n (is_open b) (is_open a)) _ parts.1 in
    record { must = within-gives n a.must b.must parts.0; pending = within-gives n (is_open b) (is_open a) rest.0; time = leb-true a.time b.time rest.1 }

pub covers-from : (n : ℕ) (a b : Pending) → Covers n a b → covers n a b ≡ true
covers-from n a b c =
    and_from (is_within n a.must b.must) _ (within-from n a.must b.must c.must)
    (and_from (is_within n (is_open b) (is_open a)) _ (within-from n (is_open b) (is_open a) c.pending) (le-leb a.time b.time c.time))

pub covers-self : (n : ℕ) (a : Pending) → Covers n a a
covers-self n a = record { must = λ v l e. e; pending = λ v l e. e; time = omega arith }

pub covers-chain : (n : ℕ) (a b c : Pending) → Covers n a b → Covers n b c → Covers n a c
covers-chain n a b c p q = record {
  must = λ v l e. q.must v l (p.must v l e);
  pending = λ v l e. p.pending v l (q.pending v l e);
  time = omega (arith, p.time, q.time);
}

pub open_joined : (a b c d : Bool) → (a || b) ≡ true ⊎ ((c || d) ≡ true) → ((a && c) || (((a || b) || (c || d)) && not (a && c))) ≡ true
open_joined true b true d h = refl
open_joined true b false d h = refl
open_joined false true c d h = refl
open_joined false false true d h = refl
open_joined false false false true h = refl
open_joined false false false false (inl e) = absurd (false≢true e)
open_joined false false false false (inr e) = absurd (false≢true e)

-- a joined state covers both
pub joined-covers-left : (n : ℕ) (a b : Pending) → Covers n (joined a b) a
unfolding joined
joined-covers-left n a b = record {
  must = λ v l e. (and_parts (a.must v) (b.must v) e).0;
  pending = λ v l e. open_joined (a.must v) (a.may v) (b.must v) (b.may v) (inl e);
  time = omega arith;
}

pub joined-covers-right : (n : ℕ) (a b : Pending) → Covers n (joined a b) b
unfolding joined
joined-covers-right n a b = record {
  must = λ v l e. (and_parts (a.must v) (b.must v) e).1;
  pending = λ v l e. open_joined (a.must v) (a.may v) (b.must v) (b.may v) (inr e);
  time = omega arith;
}

-- a step keeps it, where it is no later
pub done-covers : (n : ℕ) (a b : Pending) (d s t : ℕ) → Covers n a b → s ≤ t → Covers n (done a d s) (done b d t)
unfolding done
done-covers n a b d s t c l = record {
  must = λ v m e. and_from (b.must v) (not (nat_eq v d)) (c.must v m (and_parts (a.must v) (not (nat_eq v d)) e).0) (and_parts (a.must v) (not (nat_eq v d)) e).1;
  pending = λ v m e. part (a.must v) (a.may v) (b.must v) (b.may v) (not (nat_eq v d)) (c.pending v m) e;
  time = l;
}
  where
    part : (x y z w keep : Bool) → ((z || w) ≡ true → (x || y) ≡ true) → ((z && keep) || (w && keep)) ≡ true → ((x && keep) || (y && keep)) ≡ true
    part x y z w keep h e =
        let left = and_parts (z || w) keep (and-or_distrib_right z w keep ∙ e) in
        sym (and-or_distrib_right x y keep) ∙ and_from (x || y) keep (h left.0) left.1

-- ---- sums over a set without a number

kept : (b : Bool) (v d : ℕ) → v ≢ d → (b && not (nat_eq v d)) ≡ b
kept true v d n = ap not (ne_eqb v d n)
kept false v d n = refl

gone : (b : Bool) (v : ℕ) → (b && not (nat_eq v v)) ≡ false
gone true v = ap not (eq-eqb v v refl)
gone false v = refl

pub sum-without : (n d : ℕ) (test : ℕ → Bool) (f : ℕ → ℕ) → d < n → test d ≡ true → sum_below n test f ≡ sum_below n (without test d) f + f d
sum-without n d test f l e = sum_below-removed n d test (without test d) f l e (gone (test d) d) (λ v m. kept (test v) v d m)

-- a number that is no member
pub without-other : (n d : ℕ) (test : ℕ → Bool) (f : ℕ → ℕ) → test d ≡ false → sum_below n test f ≡ sum_below n (without test d) f
without-other n d test f e =
    sum_below-same n test (without test d) f (λ v m. elim (cases_eq v d) [
      | inl s ↦ ap test s ∙ e ∙ sym (ap (λ b. b && not (nat_eq v d)) (ap test s ∙ e))
      | inr m ↦ sym (kept (test v) v d m)
    ])

-- a step takes at most one number out
pub sum-most : (n d : ℕ) (test : ℕ → Bool) (f : ℕ → ℕ) → d < n → sum_below n test f ≤ sum_below n (without test d) f + f d
sum-most n d test f l =
    elim (cases_Bool (test d)) [
      | inl e ↦ (let removed = sum-without n d test f l e in omega (arith, removed))
      | inr e ↦ (let same = without-other n d test f e in omega (arith, same))
    ]

-- a set that lies in another has no more members
pub count-within : (n : ℕ) (part whole : ℕ → Bool) → ((v : ℕ) → v < n → part v ≡ true → whole v ≡ true) → count_below n part ≤ count_below n whole
count-within zero part whole h = omega arith
count-within (suc n) part whole h =
    let rest = count-within n part whole (λ v l. h v (omega arith)) in
    step (part n) (whole n) (h n (omega arith)) rest
  where
    step : (a b : Bool) → (a ≡ true → b ≡ true) → count_below n part ≤ count_below n whole → count_below n part + cond {A = ℕ} a 1 0 ≤ count_below n whole + cond {A = ℕ} b 1 0
    step true true k r = omega (arith, r)
    step true false k r = absurd (false≢true (k refl))
    step false true k r = omega (arith, r)
    step false false k r = omega (arith, r)

-- larger amounts of the same members
pub sum-more : (n : ℕ) (test : ℕ → Bool) (f g : ℕ → ℕ) → ((v : ℕ) → f v ≤ g v) → sum_below n test f ≤ sum_below n test g
sum-more zero test f g h = omega arith
sum-more (suc n) test f g h =
    let rest = sum-more n test f g h in
    let here = h n in
    elim (test n) as (λ b. sum_below n test f + cond b (f n) 0 ≤ sum_below n test g + cond b (g n) 0) [ true ↦ omega (arith, rest, here) | false ↦ omega (arith, rest) ]

-- at the start all must be done
count-below-all : (n m : ℕ) → m ≤ n → count_below m (λ v. nat_lt v n) ≡ m
count-below-all n zero l = refl
count-below-all n (suc m) l =
    ap₂ (λ s b. s + cond {A = ℕ} b 1 0) (count-below-all n m (omega arith)) (lt-ltb m n (omega arith)) ∙ (let e : m + 1 ≡ suc m = omega arith in e)

pub count-start : (n : ℕ) → count_below n (start n).must + 0 ≡ n
unfolding start
count-start n = let all = count-below-all n n (omega arith) in omega (arith, all)
