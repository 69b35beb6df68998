-- What is left of a list keeps a fact of each member and of each two.
use Rattle.std.proofs.Common.{ℕ, zero, suc, Bool, true, false, cond, List, [], ◌∷◌, take, filter}
use Rattle.dp_model.specs.Lists.{Each}
use Rattle.dp_laws.specs.Pairs.{EachTwo}

pub each-filter : {X : Type 0} (P : X → Type 0) (p : X → Bool) (xs : List X) → Each P xs → Each P (filter p xs)
each-filter P p [] h = tt
each-filter P p (x ∷ xs) h =
    elim (p x) as (λ b. Each P (cond b (x ∷ filter p xs) (filter p xs))) [ true ↦ (h.0, each-filter P p xs h.1) | false ↦ each-filter P p xs h.1 ]

pub each-take : {X : Type 0} (P : X → Type 0) (n : ℕ) (xs : List X) → Each P xs → Each P (take n xs)
each-take P zero xs h = tt
each-take P (suc n) [] h = tt
each-take P (suc n) (x ∷ xs) h = (h.0, each-take P n xs h.1)

pub two-filter : {X : Type 0} (R : X → X → Type 0) (p : X → Bool) (xs : List X) → EachTwo R xs → EachTwo R (filter p xs)
two-filter R p [] h = tt
two-filter R p (x ∷ xs) h =
    elim (p x) as (λ b. EachTwo R (cond b (x ∷ filter p xs) (filter p xs))) [ true ↦ (each-filter (R x) p xs h.0, two-filter R p xs h.1) | false ↦ two-filter R p xs h.1 ]

pub two-take : {X : Type 0} (R : X → X → Type 0) (n : ℕ) (xs : List X) → EachTwo R xs → EachTwo R (take n xs)
two-take R zero xs h = tt
two-take R (suc n) [] h = tt
two-take R (suc n) (x ∷ xs) h = (each-take (R x) n xs h.0, two-take R n xs h.1)
