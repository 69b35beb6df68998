-- Facts of each member of a list, of one of them and of each two.
use Rattle.std.proofs.Common.{◌≡◌, ℕ, ◌≤◌, List, [], ◌∷◌, ◌++◌, map, filter, Bool, true, false, cond, ◌⊎◌, inl, inr, refl, arith}
use Rattle.std.specs.List.{sum_by}
use Rattle.std.proofs.lemmas.List.Sums.{sum_by-cons, sum_by-append}
use Rattle.dp_model.specs.Lists.{Each, OneOf}
use Rattle.dp_model.proofs.Members.{Each-append, Each-map, Each-then, Has, one-of-has}
use Rattle.dp_laws.specs.Pairs.{EachTwo}
use Rattle.dp_laws.proofs.Lists.{two-filter, each-filter}
use Rattle.dp_laws.proofs.Restricted.Permutations.{two-append}

pub each-front : {X : Type 0} (P : X → Type 0) (xs ys : List X) → Each P (xs ++ ys) → Each P xs
each-front P [] ys h = tt
each-front P (x ∷ xs) ys h = (h.0, each-front P xs ys h.1)

pub each-back : {X : Type 0} (P : X → Type 0) (xs ys : List X) → Each P (xs ++ ys) → Each P ys
each-back P [] ys h = h
each-back P (x ∷ xs) ys h = each-back P xs ys h.1

-- what a filter keeps passes
pub each-passes : {X : Type 0} (p : X → Bool) (xs : List X) → Each (λ x. p x ≡ true) (filter p xs)
each-passes p [] = tt
each-passes p (x ∷ xs) =
    let go : (b : Bool) → p x ≡ b → Each (λ x. p x ≡ true) (cond b (x ∷ filter p xs) (filter p xs)) =
    λ b. elim b as (λ b. p x ≡ b → Each (λ x. p x ≡ true) (cond b (x ∷ filter p xs) (filter p xs))) [ true ↦ λ e. (e, each-passes p xs) | false ↦ λ e. each-passes p xs ] in
    go (p x) refl

pub one-left : {X : Type 0} (P : X → Type 0) (xs ys : List X) → OneOf P xs → OneOf P (xs ++ ys)
one-left P [] ys h = absurd h
one-left P (x ∷ xs) ys (inl h) = inl h
one-left P (x ∷ xs) ys (inr h) = inr (one-left P xs ys h)

pub one-right : {X : Type 0} (P : X → Type 0) (xs ys : List X) → OneOf P ys → OneOf P (xs ++ ys)
one-right P [] ys h = h
one-right P (x ∷ xs) ys h = inr (one-right P xs ys h)

-- one of a list that a filter keeps or leaves out
pub one-filter : {X : Type 0} (P : X → Type 0) (p : X → Bool) (xs : List X) → OneOf P xs → OneOf P (filter p xs) ⊎ OneOf (λ x. P x × (p x ≡ false)) xs
one-filter P p [] h = absurd h
one-filter P p (x ∷ xs) (inl h) =
    let go : (b : Bool) → p x ≡ b → OneOf P (cond b (x ∷ filter p xs) (filter p xs)) ⊎ OneOf (λ x. P x × (p x ≡ false)) (x ∷ xs) =
    λ b. elim b as (λ b. p x ≡ b → OneOf P (cond b (x ∷ filter p xs) (filter p xs)) ⊎ OneOf (λ x. P x × (p x ≡ false)) (x ∷ xs)) [ true ↦ λ e. inl (inl h) | false ↦ λ e. inr (inl (h, e)) ] in
    go (p x) refl
one-filter P p (x ∷ xs) (inr h) =
    elim (one-filter P p xs h) as (λ _. OneOf P (cond (p x) (x ∷ filter p xs) (filter p xs)) ⊎ OneOf (λ x. P x × (p x ≡ false)) (x ∷ xs)) [
      | inl a ↦ inl (elim (p x) as (λ b. OneOf P (cond b (x ∷ filter p xs) (filter p xs))) [ true ↦ inr a | false ↦ a ])
      | inr b ↦ inr (inr b)
    ]

pub one-map : {X Y : Type 0} (f : X → Y) (P : Y → Type 0) (xs : List X) → OneOf P (map f xs) → OneOf (λ x. P (f x)) xs
one-map f P [] h = absurd h
one-map f P (x ∷ xs) (inl h) = inl h
one-map f P (x ∷ xs) (inr h) = inr (one-map f P xs h)

pub one-mapped : {X Y : Type 0} (f : X → Y) (P : Y → Type 0) (xs : List X) → OneOf (λ x. P (f x)) xs → OneOf P (map f xs)
one-mapped f P [] h = absurd h
one-mapped f P (x ∷ xs) (inl h) = inl h
one-mapped f P (x ∷ xs) (inr h) = inr (one-mapped f P xs h)

-- one member with what is known of each
pub one-each : {X : Type 0} (P Q : X → Type 0) (xs : List X) → OneOf P xs → Each Q xs → OneOf (λ x. P x × Q x) xs
one-each P Q [] h all = absurd h
one-each P Q (x ∷ xs) (inl h) all = inl (h, all.0)
one-each P Q (x ∷ xs) (inr h) all = inr (one-each P Q xs h all.1)

-- where each member is in another list, so is one of them
pub one-among : {X Y : Type 0} (f : X → Y) (P : Y → Type 0) (xs : List X) (ys : List Y) → Each (λ x. Has (f x) ys) xs → OneOf P (map f xs) → OneOf P ys
one-among f P [] ys all one = absurd one
one-among f P (x ∷ xs) ys all (inl here) = one-of-has P ys (f x) here all.0
one-among f P (x ∷ xs) ys all (inr there) = one-among f P xs ys all.1 there

-- what follows from any member follows
pub one-out : {X : Type 0} (P : X → Type 0) (A : Type 0) → ((x : X) → P x → A) → (xs : List X) → OneOf P xs → A
one-out P A f [] h = absurd h
one-out P A f (x ∷ xs) (inl h) = f x h
one-out P A f (x ∷ xs) (inr h) = one-out P A f xs h

pub two-map : {X Y : Type 0} (f : X → Y) (R : Y → Y → Type 0) (xs : List X) → EachTwo (λ x y. R (f x) (f y)) xs → EachTwo R (map f xs)
two-map f R [] h = tt
two-map f R (x ∷ xs) h = (Each-map f (R (f x)) xs h.0, two-map f R xs h.1)

pub two-front : {X : Type 0} (R : X → X → Type 0) (xs ys : List X) → EachTwo R (xs ++ ys) → EachTwo R xs
two-front R [] ys h = tt
two-front R (x ∷ xs) ys h = (each-front (R x) xs ys h.0, two-front R xs ys h.1)

pub two-back : {X : Type 0} (R : X → X → Type 0) (xs ys : List X) → EachTwo R (xs ++ ys) → EachTwo R ys
two-back R [] ys h = h
two-back R (x ∷ xs) ys h = two-back R xs ys h.1

pub two-across : {X : Type 0} (R : X → X → Type 0) (xs ys : List X) → EachTwo R (xs ++ ys) → Each (λ x. Each (R x) ys) xs
two-across R [] ys h = tt
two-across R (x ∷ xs) ys h = (each-back (R x) xs ys h.0, two-across R xs ys h.1)

pub sum-filter : {X : Type 0} (f : X → ℕ) (p : X → Bool) (xs : List X) → sum_by f (filter p xs) ≤ sum_by f xs
sum-filter f p [] = omega arith
sum-filter f p (x ∷ xs) =
    let rest = sum-filter f p xs in let whole = sum_by-cons f x xs in let kept = sum_by-cons f x (filter p xs) in
    elim (p x) as (λ b. sum_by f (cond b (x ∷ filter p xs) (filter p xs)) ≤ sum_by f (x ∷ xs)) [ true ↦ omega arith | false ↦ omega arith ]

-- Lists of which the second part loses some.

pub each-less : {X : Type 0} (P : X → Type 0) (p : X → Bool) (xs ys : List X) → Each P (xs ++ ys) → Each P (xs ++ filter p ys)
each-less P p xs ys h = Each-append P xs (filter p ys) (each-front P xs ys h) (each-filter P p ys (each-back P xs ys h))

pub two-less : {X : Type 0} (R : X → X → Type 0) (p : X → Bool) (xs ys : List X) → EachTwo R (xs ++ ys) → EachTwo R (xs ++ filter p ys)
two-less R p xs ys h =
    two-append R xs (filter p ys) (two-front R xs ys h) (two-filter R p ys (two-back R xs ys h))
    (Each-then (λ a. Each (R a) ys) (λ a. Each (R a) (filter p ys)) xs (λ a k. each-filter (R a) p ys k) (two-across R xs ys h))

pub sum-less : {X : Type 0} (f : X → ℕ) (p : X → Bool) (xs ys : List X) → sum_by f (xs ++ filter p ys) ≤ sum_by f (xs ++ ys)
sum-less f p xs ys =
    let left = sum_by-append f xs (filter p ys) in let right = sum_by-append f xs ys in let less = sum-filter f p ys in omega arith

-- two facts of each
pub each-both : {X : Type 0} (P Q : X → Type 0) (xs : List X) → Each P xs → Each Q xs → Each (λ x. P x × Q x) xs
each-both P Q [] h k = tt
each-both P Q (x ∷ xs) h k = ((h.0, k.0), each-both P Q xs h.1 k.1)
