-- What is an element of a list.
use Rattle.std.proofs.Common.{◌≡◌, ℕ, zero, suc, ◌<◌, List, [], ◌∷◌, ◌++◌, map, filter, Bool, true, false, cond, IsTrue, ◌⊎◌, inl, inr, refl, sym, ◌∙◌, ap, subst, arith}
use Rattle.std.specs.List.{flat_map}
use Rattle.dp_model.specs.Decisions.{below}
use Rattle.dp_model.specs.Lists.{OneOf, Each}

-- the element is in the list
abbrev pub Has : {X : Type 0} → X → List X → Type 0
Has x xs = OneOf (λ y. y ≡ x) xs

pub each-has : {X : Type 0} (P : X → Type 0) (xs : List X) (x : X) → Each P xs → Has x xs → P x
each-has P [] x all h = absurd h
each-has P (y ∷ ys) x all (inl same) = subst P same all.0
each-has P (y ∷ ys) x all (inr later) = each-has P ys x all.1 later

pub one-of-has : {X : Type 0} (P : X → Type 0) (xs : List X) (x : X) → P x → Has x xs → OneOf P xs
one-of-has P [] x p h = absurd h
one-of-has P (y ∷ ys) x p (inl same) = inl (subst P (sym same) p)
one-of-has P (y ∷ ys) x p (inr later) = inr (one-of-has P ys x p later)

pub each-of-all : {X : Type 0} (P : X → Type 0) (xs : List X) → ((x : X) → Has x xs → P x) → Each P xs
each-of-all P [] all = tt
each-of-all P (y ∷ ys) all = (all y (inl refl), each-of-all P ys (λ x h. all x (inr h)))

pub Has-append-left : {X : Type 0} (x : X) (xs ys : List X) → Has x xs → Has x (xs ++ ys)
Has-append-left x [] ys h = absurd h
Has-append-left x (z ∷ xs) ys (inl same) = inl same
Has-append-left x (z ∷ xs) ys (inr later) = inr (Has-append-left x xs ys later)

pub Has-append-right : {X : Type 0} (x : X) (xs ys : List X) → Has x ys → Has x (xs ++ ys)
Has-append-right x [] ys h = h
Has-append-right x (z ∷ xs) ys h = inr (Has-append-right x xs ys h)

pub Has-append-cases : {X : Type 0} (x : X) (xs ys : List X) → Has x (xs ++ ys) → Has x xs ⊎ Has x ys
Has-append-cases x [] ys h = inr h
Has-append-cases x (z ∷ xs) ys (inl same) = inl (inl same)
Has-append-cases x (z ∷ xs) ys (inr later) = elim (Has-append-cases x xs ys later) as (λ _. Has x (z ∷ xs) ⊎ Has x ys) [ inl a ↦ inl (inr a) | inr b ↦ inr b ]

pub Has-map : {X Y : Type 0} (f : X → Y) (xs : List X) (x : X) → Has x xs → Has (f x) (map f xs)
Has-map f [] x h = absurd h
Has-map f (z ∷ xs) x (inl same) = inl (ap f same)
Has-map f (z ∷ xs) x (inr later) = inr (Has-map f xs x later)

pub Has-map-from : {X Y : Type 0} (f : X → Y) (xs : List X) (y : Y) → Has y (map f xs) → (x : X) × Has x xs × (f x ≡ y)
Has-map-from f [] y h = absurd h
Has-map-from f (z ∷ xs) y (inl same) = (z, inl refl, same)
Has-map-from f (z ∷ xs) y (inr later) = let r = Has-map-from f xs y later in (r.0, inr r.1, r.2)

pub Has-filter : {X : Type 0} (p : X → Bool) (xs : List X) (x : X) → Has x xs → IsTrue (p x) → Has x (filter p xs)
Has-filter p [] x h t = absurd h
Has-filter p (z ∷ xs) x (inl same) t =
    let here : p z ≡ true = ap p same ∙ t in
    subst (λ (b : Bool). Has x (cond b (z ∷ filter p xs) (filter p xs))) (sym here) (inl same)
Has-filter p (z ∷ xs) x (inr later) t =
    elim (p z) as (λ b. Has x (cond b (z ∷ filter p xs) (filter p xs))) [ true ↦ inr (Has-filter p xs x later t) | false ↦ Has-filter p xs x later t ]

pub Has-filter-from : {X : Type 0} (p : X → Bool) (xs : List X) (x : X) → Has x (filter p xs) → Has x xs × IsTrue (p x)
Has-filter-from p [] x h = absurd h
Has-filter-from p (z ∷ xs) x h =
    let go : (b : Bool) → p z ≡ b → Has x (cond b (z ∷ filter p xs) (filter p xs)) → Has x (z ∷ xs) × IsTrue (p x) = λ b. elim b as (λ b. p z ≡ b → Has x (cond b (z ∷ filter p xs) (filter p xs)) → Has x (z ∷ xs) × IsTrue (p x)) [
      | true ↦ λ e k. elim k as (λ _. Has x (z ∷ xs) × IsTrue (p x)) [ inl same ↦ (inl same, ap p (sym same) ∙ e) | inr later ↦ (let r = Has-filter-from p xs x later in (inr r.0, r.1)) ]
      | false ↦ λ e k. (let r = Has-filter-from p xs x k in (inr r.0, r.1))
    ] in go (p z) refl h

pub Has-flat_map : {X Y : Type 0} (f : X → List Y) (xs : List X) (x : X) (y : Y) → Has x xs → Has y (f x) → Has y (flat_map f xs)
Has-flat_map f [] x y h k = absurd h
Has-flat_map f (z ∷ xs) x y (inl same) k = Has-append-left y (f z) (flat_map f xs) (subst (λ w. Has y (f w)) (sym same) k)
Has-flat_map f (z ∷ xs) x y (inr later) k = Has-append-right y (f z) (flat_map f xs) (Has-flat_map f xs x y later k)

pub Has-flat_map-from : {X Y : Type 0} (f : X → List Y) (xs : List X) (y : Y) → Has y (flat_map f xs) → (x : X) × Has x xs × Has y (f x)
Has-flat_map-from f [] y h = absurd h
Has-flat_map-from f (z ∷ xs) y h = elim (Has-append-cases y (f z) (flat_map f xs) h) as (λ _. (x : _) × Has x (z ∷ xs) × Has y (f x)) [
  | inl a ↦ (z, inl refl, a)
  | inr b ↦ (let r = Has-flat_map-from f xs y b in (r.0, inr r.1, r.2))
]

pub Has-below : (n d : ℕ) → d < n → Has d (below n)
Has-below zero d h = absurd (omega arith)
Has-below (suc n) d h =
    let at : (d < n) ⊎ (n ≡ d) = grind arith in
    elim at as (λ _. Has d (below n ++ n ∷ [])) [ inl less ↦ Has-append-left d (below n) (n ∷ []) (Has-below n d less) | inr same ↦ Has-append-right d (below n) (n ∷ []) (inl same) ]

pub Has-below-from : (n d : ℕ) → Has d (below n) → d < n
Has-below-from zero d h = absurd h
Has-below-from (suc n) d h = elim (Has-append-cases d (below n) (n ∷ []) h) as (λ _. d < suc n) [
  | inl a ↦ (let less = Has-below-from n d a in omega arith)
  | inr b ↦ elim b as (λ _. d < suc n) [ inl same ↦ omega arith | inr never ↦ absurd never ]
]

pub Each-append : {X : Type 0} (P : X → Type 0) (xs ys : List X) → Each P xs → Each P ys → Each P (xs ++ ys)
Each-append P [] ys a b = b
Each-append P (x ∷ xs) ys a b = (a.0, Each-append P xs ys a.1 b)

pub Each-map : {X Y : Type 0} (f : X → Y) (P : Y → Type 0) (xs : List X) → Each (λ x. P (f x)) xs → Each P (map f xs)
Each-map f P [] a = tt
Each-map f P (x ∷ xs) a = (a.0, Each-map f P xs a.1)

pub Each-then : {X : Type 0} (P Q : X → Type 0) (xs : List X) → ((x : X) → P x → Q x) → Each P xs → Each Q xs
Each-then P Q [] f a = tt
Each-then P Q (x ∷ xs) f a = (f x a.0, Each-then P Q xs f a.1)
