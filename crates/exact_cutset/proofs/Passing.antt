-- Paths that pass through children.
use Rattle.std.proofs.Common.{◌≡◌, ℕ, zero, suc, ◌≤◌, nat_eq, Bool, true, false, cond, ◌&&◌, ◌||◌, List, [], ◌∷◌, ◌++◌, length, take, refl, sym, ◌∙◌, ap, arith}
use Rattle.dp_model.specs.Decisions.{begins}
use Rattle.dp_model.specs.Lists.{Each}
use Rattle.dp_laws.specs.Diagrams.Cutsets.{passes, outermost}

module _ {X : Type 0} (path : X → List ℕ) where
  or-none : (a : Bool) → (a || false) ≡ a
  or-none true = refl
  or-none false = refl

  pub passes-last : (xs : List X) (c : X) (q : List ℕ) → passes path (xs ++ c ∷ []) q ≡ (passes path xs q || begins (path c) q)
  passes-last [] c q = or-none (begins (path c) q)
  passes-last (x ∷ xs) c q =
      let rest = passes-last xs c q in
      elim (begins (path x) q) as (λ v. (v || passes path (xs ++ c ∷ []) q) ≡ ((v || passes path xs q) || begins (path c) q)) [ true ↦ refl | false ↦ rest ]

  pub outermost-same : (a b cs : List X) → ((q : List ℕ) → passes path a q ≡ passes path b q) → outermost path a cs ≡ outermost path b cs
  outermost-same a b [] same = refl
  outermost-same a b (c ∷ cs) same =
      let here = same (path c) in
      let skip = outermost-same a b cs same in
      let next = outermost-same (c ∷ a) (c ∷ b) cs (λ q. ap (λ v. begins (path c) q || v) (same q)) in
      elim (passes path b (path c)) as (λ v. passes path a (path c) ≡ v → cond (passes path a (path c)) (outermost path a cs) (c ∷ outermost path (c ∷ a) cs) ≡ cond v (outermost path b cs) (c ∷ outermost path (c ∷ b) cs)) [
        | true ↦ λ e. rw e skip
        | false ↦ λ e. rw e (ap (λ l. c ∷ l) next)
      ] here

  or-turn : (a b : Bool) → (a || b) ≡ (b || a)
  or-turn true true = refl
  or-turn true false = refl
  or-turn false true = refl
  or-turn false false = refl

  -- a child that does not pass through those before is kept
  pub outermost-kept : (xs cs : List X) (c : X) → passes path xs (path c) ≡ false → outermost path xs (c ∷ cs) ≡ c ∷ outermost path (xs ++ c ∷ []) cs
  outermost-kept xs cs c e =
      let same = outermost-same (c ∷ xs) (xs ++ c ∷ []) cs (λ q. or-turn (begins (path c) q) (passes path xs q) ∙ sym (passes-last xs c q)) in
      ap (λ v. cond v (outermost path xs cs) (c ∷ outermost path (c ∷ xs) cs)) e ∙ ap (λ l. c ∷ l) same

  pub outermost-left-out : (xs cs : List X) (c : X) → passes path xs (path c) ≡ true → outermost path xs (c ∷ cs) ≡ outermost path xs cs
  outermost-left-out xs cs c e = ap (λ v. cond v (outermost path xs cs) (c ∷ outermost path (c ∷ xs) cs)) e

  begins-take : (p q : List ℕ) (k : ℕ) → length p ≤ k → begins p (take k q) ≡ begins p q
  begins-take [] q k low = refl
  begins-take (a ∷ p) q zero low = absurd (omega arith)
  begins-take (a ∷ p) [] (suc k) low = refl
  begins-take (a ∷ p) (b ∷ q) (suc k) low = ap (λ v. nat_eq a b && v) (begins-take p q k (omega arith))

  -- short ones are passed on the front of a path
  pub passes-front : (xs : List X) (k : ℕ) (q : List ℕ) → Each (λ x. length (path x) ≤ k) xs → passes path xs (take k q) ≡ passes path xs q
  passes-front [] k q h = refl
  passes-front (x ∷ xs) k q h =
      let one = begins-take (path x) q k h.0 in
      let rest = passes-front xs k q h.1 in
      ap (λ v. v || passes path xs (take k q)) one ∙ ap (λ v. begins (path x) q || v) rest

  pub each-short : (xs : List X) (k n : ℕ) → k ≤ n → Each (λ x. length (path x) ≤ k) xs → Each (λ x. length (path x) ≤ n) xs
  each-short [] k n low h = tt
  each-short (x ∷ xs) k n low h = (let one = h.0 in omega arith, each-short xs k n low h.1)

  pub each-short-last : (xs : List X) (c : X) (n : ℕ) → Each (λ x. length (path x) ≤ n) xs → length (path c) ≤ n → Each (λ x. length (path x) ≤ n) (xs ++ c ∷ [])
  each-short-last [] c n h low = (low, tt)
  each-short-last (x ∷ xs) c n h low = (h.0, each-short-last xs c n h.1 low)
