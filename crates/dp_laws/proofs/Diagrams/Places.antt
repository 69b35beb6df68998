-- What stands at a place of a list, and what a greatest number is.
use Rattle.std.proofs.Common.{◌≡◌, ℕ, zero, suc, ◌<◌, ◌⊎◌, length, length-append, subst, ◌++◌, ℤ, ◌≤ℤ◌, List, [], ◌∷◌, slice_get, Option, Some, None, inl, inr, refl, ◌∙◌, ap, arith, unwrap_or}
use Rattle.std.proofs.lemmas.Int.{ints}
use Rattle.std.specs.List.{filter_map, cons_option}
use Rattle.dp_model.specs.Numbers.{AtMost, greatest, greatest_from}
use Rattle.dp_model.specs.Decisions.{below}
use Rattle.dp_model.proofs.Members.{Has}
use Rattle.dp_model.proofs.Solutions.{greatest_from-least, greatest_from-most}

-- what an option has is what it has
pub same-Some : {X : Type 0} (x y : X) → Some x ≡ Some y → x ≡ y
same-Some x y e = ap (λ (o : Option _). unwrap_or o x) e

-- what stands at a place is in the list
pub Has-at : {X : Type 0} (xs : List X) (i : ℕ) (x : X) → slice_get xs i ≡ Some x → Has x xs
Has-at [] i x e = absurd (let none : None ≡ Some x = e in cc)
Has-at (y ∷ ys) zero x e = inl (same-Some y x e)
Has-at (y ∷ ys) (suc i) x e = inr (Has-at ys i x e)

-- what is in a list comes again where something is made of it
pub Has-filter_map : {X Y : Type 0} (f : X → Option Y) (xs : List X) (x : X) (y : Y) → Has x xs → f x ≡ Some y → Has y (filter_map f xs)
Has-filter_map f [] x y h e = absurd h
Has-filter_map f (z ∷ xs) x y (inl same) e =
    let here : f z ≡ Some y = ap f same ∙ e in
    rw here (inl refl)
Has-filter_map f (z ∷ xs) x y (inr later) e =
    let rest = Has-filter_map f xs x y later e in
    elim (f z) as (λ o. Has y (cons_option o (filter_map f xs))) [ None ↦ rest | Some w ↦ inr rest ]

-- none of a list's numbers exceeds its greatest
pub greatest-most : (xs : List ℤ) (m x : ℤ) → Some m ≡ greatest xs → Has x xs → x ≤ℤ m
greatest-most [] m x e h = absurd h
greatest-most (z ∷ xs) m x e (inl same) =
    let top : m ≡ greatest_from z xs = same-Some m (greatest_from z xs) e in
    let least : z ≤ℤ greatest_from z xs = greatest_from-least z xs in
    omega (arith, ints)
greatest-most (z ∷ xs) m x e (inr later) =
    let top : m ≡ greatest_from z xs = same-Some m (greatest_from z xs) e in
    let most : x ≤ℤ greatest_from z xs = greatest_from-most z xs x later in
    omega (arith, ints)

-- a list with a number has a greatest, which is no less
pub greatest-at_least : (xs : List ℤ) (x : ℤ) → Has x xs → AtMost x (greatest xs)
greatest-at_least [] x h = absurd h
greatest-at_least (z ∷ xs) x h = greatest-most (z ∷ xs) (greatest_from z xs) x refl h

-- what something is made of
pub Has-filter_map-from : {X Y : Type 0} (f : X → Option Y) (xs : List X) (y : Y) → Has y (filter_map f xs) → (x : X) × Has x xs × (f x ≡ Some y)
Has-filter_map-from f [] y h = absurd h
Has-filter_map-from f (z ∷ xs) y h =
    let From : Type 0 = (x : _) × Has x (z ∷ xs) × (f x ≡ Some y) in
    let split : (o : Option _) → f z ≡ o → Has y (cons_option o (filter_map f xs)) → From = λ o. elim o as (λ o. f z ≡ o → Has y (cons_option o (filter_map f xs)) → From) [
      | None ↦ λ e k. (let r = Has-filter_map-from f xs y k in (r.0, inr r.1, r.2))
      | Some w ↦ λ e k. elim k as (λ _. From) [ inl same ↦ (z, inl refl, e ∙ ap Some same) | inr later ↦ (let r = Has-filter_map-from f xs y later in (r.0, inr r.1, r.2)) ]
    ] in
    split (f z) refl h

-- the number at a place of the numbers below n

pub slice_get-append : {X : Type 0} (xs ys : List X) (i : ℕ) (x : X) → slice_get xs i ≡ Some x → slice_get (xs ++ ys) i ≡ Some x
slice_get-append [] ys i x e = absurd (let none : None ≡ Some x = e in cc)
slice_get-append (z ∷ xs) ys zero x e = e
slice_get-append (z ∷ xs) ys (suc i) x e = slice_get-append xs ys i x e

pub slice_get-last : {X : Type 0} (xs : List X) (x : X) (i : ℕ) → length xs ≡ i → slice_get (xs ++ x ∷ []) i ≡ Some x
slice_get-last [] x zero e = refl
slice_get-last [] x (suc i) e = absurd (omega arith)
slice_get-last (z ∷ xs) x zero e = absurd (omega arith)
slice_get-last (z ∷ xs) x (suc i) e = slice_get-last xs x i (omega arith)

pub length-below : (n : ℕ) → length (below n) ≡ n
length-below zero = refl
length-below (suc n) = let rest = length-below n in length-append (below n) (n ∷ []) ∙ omega arith

pub below-at : (n i : ℕ) → i < n → slice_get (below n) i ≡ Some i
below-at zero i h = absurd (omega arith)
below-at (suc n) i h =
    let at : (i < n) ⊎ (n ≡ i) = grind arith in
    elim at as (λ _. slice_get (below n ++ n ∷ []) i ≡ Some i) [
      | inl less ↦ slice_get-append (below n) (n ∷ []) i i (below-at n i less)
      | inr same ↦ (let last = slice_get-last (below n) n n (length-below n) in subst (λ x. slice_get (below n ++ n ∷ []) x ≡ Some x) same last)
    ]
