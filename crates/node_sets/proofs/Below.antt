-- Sums, counts, least amounts and tests over the numbers below a limit.
use Rattle.std.proofs.Common.{◌≡◌, ◌≢◌, ℕ, zero, suc, ◌+◌, ◌*◌, ◌<◌, ◌≤◌, Bool, true, false, cond, not, ◌&&◌, nat_eq, None, eq-eqb, refl, sym, ap, ap₂, ◌∙◌, arith, inl, inr}
use Rattle.std.proofs.Common.{add-one, add-zero, add-suc, add_assoc}
use Rattle.std.proofs.lemmas.Bool.{cases_eq, cases_lt, cases_Bool, and_parts, ne_eqb}
use Rattle.node_sets.specs.Sums.{all_below, sum_below, count_below, lesser, least_amount}

-- ---- tests

pub all_below-gives : (n : ℕ) (test : ℕ → Bool) → all_below n test ≡ true → (v : ℕ) → v < n → test v ≡ true
all_below-gives zero test e v l = absurd (omega arith)
all_below-gives (suc n) test e v l =
    elim (cases_eq v n) [
      | inl s ↦ ap test s ∙ (and_parts (test n) (all_below n test) e).0
      | inr s ↦ all_below-gives n test (and_parts (test n) (all_below n test) e).1 v (omega arith)
    ]

pub all_below-from : (n : ℕ) (test : ℕ → Bool) → ((v : ℕ) → v < n → test v ≡ true) → all_below n test ≡ true
all_below-from zero test h = refl
all_below-from (suc n) test h = ap₂ ◌&&◌ (h n (omega arith)) (all_below-from n test (λ v l. h v (omega arith)))

-- ---- sums

pub sum_below-same : (n : ℕ) (p q : ℕ → Bool) (f : ℕ → ℕ) → ((v : ℕ) → v < n → p v ≡ q v) → sum_below n p f ≡ sum_below n q f
sum_below-same zero p q f h = refl
sum_below-same (suc n) p q f h = ap₂ ◌+◌ (sum_below-same n p q f (λ v l. h v (omega arith))) (ap (λ b. cond b (f n) 0) (h n (omega arith)))

-- numbers that do not pass add nothing
pub sum_below-skip : (n m : ℕ) (p : ℕ → Bool) (f : ℕ → ℕ) → n ≤ m → ((v : ℕ) → n ≤ v → v < m → p v ≡ false) → sum_below m p f ≡ sum_below n p f
sum_below-skip n zero p f l h = let e : zero ≡ n = omega arith in ap (λ k. sum_below k p f) e
sum_below-skip n (suc m) p f l h =
    elim (cases_lt n (suc m)) [
      | inl k ↦ ap₂ (λ s b. s + cond b (f m) 0) (sum_below-skip n m p f (omega arith) (λ v a b. h v a (omega arith))) (h m (omega arith) (omega arith)) ∙ add-zero (sum_below n p f)
      | inr k ↦ (let e : suc m ≡ n = omega arith in ap (λ k. sum_below k p f) e)
    ]

pub sum_below-none : (n : ℕ) (p : ℕ → Bool) (f : ℕ → ℕ) → ((v : ℕ) → v < n → p v ≡ false) → sum_below n p f ≡ 0
sum_below-none n p f h = sum_below-skip 0 n p f (omega arith) (λ v a b. h v b)

-- the next number that passes adds its amount
pub sum_below-next : (n m : ℕ) (p : ℕ → Bool) (f : ℕ → ℕ) → n ≤ m → ((v : ℕ) → n ≤ v → v < m → p v ≡ false) → p m ≡ true → sum_below (m + 1) p f ≡ sum_below n p f + f m
sum_below-next n m p f l h e = ap (λ k. sum_below k p f) (add-one m) ∙ ap₂ (λ s b. s + cond b (f m) 0) (sum_below-skip n m p f l h) e

moved : (a b c : ℕ) → a + b + c ≡ a + c + b
moved a b c = omega arith

-- a number that passed and does no more takes its amount away
pub sum_below-removed : (n d : ℕ) (p q : ℕ → Bool) (f : ℕ → ℕ) → d < n → p d ≡ true → q d ≡ false → ((v : ℕ) → v ≢ d → q v ≡ p v) → sum_below n p f ≡ sum_below n q f + f d
sum_below-removed zero d p q f l e g h = absurd (omega arith)
sum_below-removed (suc n) d p q f l e g h =
    elim (cases_eq n d) [
      | inl s ↦ ap₂ (λ x b. x + cond b (f n) 0) (sum_below-same n p q f (λ v m. sym (h v (omega arith)))) (ap p s ∙ e)
          ∙ ap (λ k. sum_below n q f + f k) s ∙ sym (ap (λ b. sum_below n q f + cond b (f n) 0 + f d) (ap q s ∙ g) ∙ ap (λ x. x + f d) (add-zero (sum_below n q f)))
      | inr s ↦ ap₂ (λ x b. x + cond b (f n) 0) (sum_below-removed n d p q f (omega arith) e g h) (sym (h n s)) ∙ moved (sum_below n q f) (f d) (cond (q n) (f n) 0)
    ]

pub sum_below-le : (n : ℕ) (p : ℕ → Bool) (f : ℕ → ℕ) (most : ℕ) → ((v : ℕ) → v < n → f v ≤ most) → sum_below n p f ≤ n * most
sum_below-le zero p f most h = omega arith
sum_below-le (suc n) p f most h =
    let rest = sum_below-le n p f most (λ v l. h v (omega arith)) in
    let here = h n (omega arith) in
    elim (p n) as (λ b. sum_below n p f + cond b (f n) 0 ≤ suc n * most) [ true ↦ omega (arith, rest, here) | false ↦ omega (arith, rest, here) ]

pub count_below-le : (n : ℕ) (p : ℕ → Bool) → count_below n p ≤ n
count_below-le n p = omega (arith, sum_below-le n p (λ _. 1) 1 (λ v l. omega arith))

and_true : (b : Bool) → (b && true) ≡ b
and_true true = refl
and_true false = refl

-- a count without one number that passes, and without one that does not
pub count_below-removed : (n d : ℕ) (p : ℕ → Bool) → d < n → p d ≡ true → count_below n p ≡ count_below n (λ v. p v && not (nat_eq v d)) + 1
count_below-removed n d p l e =
    sum_below-removed n d p (λ v. p v && not (nat_eq v d)) (λ _. 1) l e (ap₂ (λ a b. a && not b) e (eq-eqb d d refl)) (λ v s. ap (λ b. p v && not b) (ne_eqb v d s) ∙ and_true (p v))

pub count_below-kept : (n d : ℕ) (p : ℕ → Bool) → p d ≡ false → count_below n (λ v. p v && not (nat_eq v d)) ≡ count_below n p
count_below-kept n d p e =
    sum_below-same n (λ v. p v && not (nat_eq v d)) p (λ _. 1) (λ v _. elim (cases_eq v d) [
      | inl s ↦ ap (λ b. b && not (nat_eq v d)) (ap p s ∙ e) ∙ sym (ap p s ∙ e)
      | inr s ↦ ap (λ b. p v && not b) (ne_eqb v d s) ∙ and_true (p v)
    ])

-- where none is counted, none passes
pub count_below-none : (n : ℕ) (p : ℕ → Bool) → count_below n p ≡ 0 → (v : ℕ) → v < n → p v ≡ false
count_below-none n p e v l =
    elim (cases_Bool (p v)) [
      | inl passes ↦ absurd (omega (arith, count_below-removed n v p l passes))
      | inr fails ↦ fails
    ]

-- the sum up to a limit, and over what comes after it
pub sum_below-add : (n m : ℕ) (p : ℕ → Bool) (f : ℕ → ℕ) → sum_below (n + m) p f ≡ sum_below n p f + sum_below m (λ v. p (n + v)) (λ v. f (n + v))
sum_below-add n zero p f = ap (λ k. sum_below k p f) (add-zero n) ∙ sym (add-zero (sum_below n p f))
sum_below-add n (suc m) p f =
    ap (λ k. sum_below k p f) (add-suc n m) ∙ ap (λ s. s + cond (p (n + m)) (f (n + m)) 0) (sum_below-add n m p f) ∙ add_assoc (sum_below n p f) (sum_below m (λ v. p (n + v)) (λ v. f (n + v))) (cond (p (n + m)) (f (n + m)) 0)

-- ---- least amounts

pub least_amount-skip : (n m : ℕ) (p : ℕ → Bool) (f : ℕ → ℕ) → n ≤ m → ((v : ℕ) → n ≤ v → v < m → p v ≡ false) → least_amount m p f ≡ least_amount n p f
least_amount-skip n zero p f l h = let e : zero ≡ n = omega arith in ap (λ k. least_amount k p f) e
least_amount-skip n (suc m) p f l h =
    elim (cases_lt n (suc m)) [
      | inl k ↦ ap (λ b. cond b (lesser (f m) (least_amount m p f)) (least_amount m p f)) (h m (omega arith) (omega arith)) ∙ least_amount-skip n m p f (omega arith) (λ v a b. h v a (omega arith))
      | inr k ↦ (let e : suc m ≡ n = omega arith in ap (λ k. least_amount k p f) e)
    ]

pub least_amount-none : (n : ℕ) (p : ℕ → Bool) (f : ℕ → ℕ) → ((v : ℕ) → v < n → p v ≡ false) → least_amount n p f ≡ None
least_amount-none n p f h = least_amount-skip 0 n p f (omega arith) (λ v a b. h v b)

pub least_amount-next : (n m : ℕ) (p : ℕ → Bool) (f : ℕ → ℕ) → n ≤ m → ((v : ℕ) → n ≤ v → v < m → p v ≡ false) → p m ≡ true → least_amount (m + 1) p f ≡ lesser (f m) (least_amount n p f)
least_amount-next n m p f l h e =
    ap (λ k. least_amount k p f) (add-one m) ∙ ap (λ b. cond b (lesser (f m) (least_amount m p f)) (least_amount m p f)) e ∙ ap (lesser (f m)) (least_amount-skip n m p f l h)

pub least_amount-same : (n : ℕ) (p q : ℕ → Bool) (f : ℕ → ℕ) → ((v : ℕ) → v < n → p v ≡ q v) → least_amount n p f ≡ least_amount n q f
least_amount-same zero p q f h = refl
least_amount-same (suc n) p q f h = ap₂ (λ b o. cond b (lesser (f n) o) o) (h n (omega arith)) (least_amount-same n p q f (λ v l. h v (omega arith)))
