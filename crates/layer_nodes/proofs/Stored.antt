-- Nodes of a layer in memory, one after another.
use Rattle.std.proofs.Common.{◌≡◌, ℕ, zero, suc, ◌<◌, ◌≤◌, List, [], ◌∷◌, length, map, take, drop, set, get_or, refl, inl, inr, ap, ◌∙◌, subst, arith}
use Rattle.dp_model.specs.Lists.{Each, OneOf}
use Rattle.dp_laws.proofs.Lists.{each-take}
use Rattle.layer_nodes.specs.Steps.{AreAmong}

-- ---- members of lists

pub each-set : {X : Type 0} (P : X → Type 0) (xs : List X) (i : ℕ) (x : X) → P x → Each P xs → Each P (set xs i x)
each-set P [] i x p h = tt
each-set P (y ∷ xs) zero x p h = (p, h.1)
each-set P (y ∷ xs) (suc i) x p h = (h.0, each-set P xs i x p h.1)

pub each-get : {X : Type 0} (P : X → Type 0) (xs : List X) (i : ℕ) (d : X) → Each P xs → i < length xs → P (get_or xs i d)
each-get P [] i d h less = absurd (omega arith)
each-get P (x ∷ xs) zero d h less = h.0
each-get P (x ∷ xs) (suc i) d h less = each-get P xs i d h.1 (omega arith)

pub each-drop : {X : Type 0} (P : X → Type 0) (n : ℕ) (xs : List X) → Each P xs → Each P (drop n xs)
each-drop P zero xs h = h
each-drop P (suc n) [] h = tt
each-drop P (suc n) (x ∷ xs) h = each-drop P n xs h.1

pub length-take-most : {X : Type 0} (n : ℕ) (xs : List X) → length (take n xs) ≤ length xs
length-take-most zero xs = omega arith
length-take-most (suc n) [] = omega arith
length-take-most (suc n) (x ∷ xs) = let rest = length-take-most n xs in omega arith

-- what holds of the old ones holds of the new ones
pub among-each : {X : Type 0} (P : X → Type 0) (old new : List X) → AreAmong old new → Each P old → Each P new
among-each P old [] a h = tt
among-each P old (x ∷ new) a h = (found P old x a.0 h, among-each P old new a.1 h)
  where
    found : {X : Type 0} (P : X → Type 0) (old : List X) (x : X) → OneOf (λ other. other ≡ x) old → Each P old → P x
    found P [] x one h = absurd one
    found P (y ∷ old) x (inl e) h = subst P e h.0
    found P (y ∷ old) x (inr r) h = found P old x r h.1

pub among-self : {X : Type 0} (xs : List X) → AreAmong xs xs
among-self [] = tt
among-self (x ∷ xs) = (inl refl, more x xs xs (among-self xs))
  where
    more : {X : Type 0} (x : X) (xs new : List X) → AreAmong xs new → AreAmong (x ∷ xs) new
    more x xs [] h = tt
    more x xs (y ∷ new) h = (inr h.0, more x xs new h.1)

pub among-map : {X Y : Type 0} (f : X → Y) (old new : List X) → AreAmong old new → AreAmong (map f old) (map f new)
among-map f old [] h = tt
among-map f old (x ∷ new) h = (found f old x h.0, among-map f old new h.1)
  where
    found : {X Y : Type 0} (f : X → Y) (old : List X) (x : X) → OneOf (λ other. other ≡ x) old → OneOf (λ other. other ≡ f x) (map f old)
    found f [] x one = absurd one
    found f (y ∷ old) x (inl e) = inl (ap f e)
    found f (y ∷ old) x (inr r) = inr (found f old x r)

pub among-take : {X : Type 0} (n : ℕ) (old new : List X) → AreAmong old new → AreAmong old (take n new)
among-take n old new h = each-take (λ x. OneOf (λ other. other ≡ x) old) n new h

pub get_or-any : {X : Type 0} (xs : List X) (j : ℕ) (a b : X) → j < length xs → get_or xs j a ≡ get_or xs j b
get_or-any [] j a b less = absurd (omega arith)
get_or-any (x ∷ xs) zero a b less = refl
get_or-any (x ∷ xs) (suc j) a b less = get_or-any xs j a b (omega arith)

-- an element that was read, beside any other default
pub read-is : {X : Type 0} (xs : List X) (i : ℕ) (x d : X) → i < length xs → x ≡ get_or xs i x → x ≡ get_or xs i d
read-is xs i x d less is = is ∙ get_or-any xs i x d less
