-- The members of a list with one more in front, and of what a filter keeps.
use Rattle.std.proofs.Common.{◌≡◌, ℕ, zero, suc, ◌<◌, List, [], ◌∷◌, length, get_or, filter, Bool, true, false, cond, ◌⊎◌, inl, inr, sym, ◌∙◌, ap, subst, arith, Contains}

pub Contains-cons : {X : Type 0} (head x : X) (rest : List X) → Contains rest x → Contains (head ∷ rest) x
Contains-cons head x rest p = (suc p.0, omega (arith, p.1), p.2)

pub Contains-cons_cases : {X : Type 0} (head x : X) (rest : List X) → Contains (head ∷ rest) x → (head ≡ x) ⊎ Contains rest x
Contains-cons_cases {X} head x rest p = by_index p.0 p.1 p.2
  where
    by_index : (k : ℕ) → k < suc (length rest) → get_or (head ∷ rest) k x ≡ x → (head ≡ x) ⊎ Contains rest x
    by_index zero within found = inl found
    by_index (suc k) within found = inr (k, omega arith, found)

pub contains_filter : {X : Type 0} (p : X → Bool) (xs : List X) (x : X) → Contains xs x → p x ≡ true → Contains (filter p xs) x
contains_filter p [] x h t = absurd (let k = h.1 in omega arith)
contains_filter {X} p (y ∷ ys) x h t = elim (Contains-cons_cases y x ys h) as (λ _. Contains (filter p (y ∷ ys)) x) [
  | inl same ↦ (
      let here : p y ≡ true = ap p same ∙ t in
      subst (λ (b : Bool). Contains (cond b (y ∷ filter p ys) (filter p ys)) x) (sym here) (0, omega arith, same))
  | inr rest ↦ (
      let k = contains_filter p ys x rest t in
      elim (p y) as (λ b. Contains (cond b (y ∷ filter p ys) (filter p ys)) x) [ true ↦ Contains-cons y x (filter p ys) k | false ↦ k ])
]
