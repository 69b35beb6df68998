-- A list with one member more.
use Rattle.std.proofs.Common.{◌≡◌, ℕ, ◌+◌, List, [], ◌∷◌, ◌++◌, length, ◌⊎◌, inl, inr, refl, sym, ◌∙◌, ap, subst, append_assoc, length-append, arith}
use Rattle.std.specs.List.{sum_by}
use Rattle.std.proofs.lemmas.List.Sums.{sum_by-cons, sum_by-append}
use Rattle.dp_model.specs.Lists.{Each, OneOf}
use Rattle.dp_laws.specs.Pairs.{EachTwo}

-- the whole list is the rest with one more, somewhere
pub record IsWith {X : Type 0} (o : X) (rest whole : List X) : Type 0 where
  pub front : List X
  pub back : List X
  pub rest_is : rest ≡ front ++ back
  pub whole_is : whole ≡ front ++ o ∷ back

pub with-here : {X : Type 0} (o : X) (xs : List X) → IsWith o xs (o ∷ xs)
with-here o xs = record { front = []; back = xs; rest_is = refl; whole_is = refl }

pub with-there : {X : Type 0} (o x : X) (rest whole : List X) → IsWith o rest whole → IsWith o (x ∷ rest) (x ∷ whole)
with-there o x rest whole w = record { front = x ∷ w.front; back = w.back; rest_is = ap (λ l. x ∷ l) w.rest_is; whole_is = ap (λ l. x ∷ l) w.whole_is }

pub with-left : {X : Type 0} (o : X) (zs rest whole : List X) → IsWith o rest whole → IsWith o (zs ++ rest) (zs ++ whole)
with-left o zs rest whole w = record {
  front = zs ++ w.front;
  back = w.back;
  rest_is = ap (λ l. zs ++ l) w.rest_is ∙ sym (append_assoc zs w.front w.back);
  whole_is = ap (λ l. zs ++ l) w.whole_is ∙ sym (append_assoc zs w.front (o ∷ w.back));
}

pub with-right : {X : Type 0} (o : X) (rest whole zs : List X) → IsWith o rest whole → IsWith o (rest ++ zs) (whole ++ zs)
with-right o rest whole zs w = record {
  front = w.front;
  back = w.back ++ zs;
  rest_is = ap (λ l. l ++ zs) w.rest_is ∙ append_assoc w.front w.back zs;
  whole_is = ap (λ l. l ++ zs) w.whole_is ∙ append_assoc w.front (o ∷ w.back) zs;
}

-- Each.

out_each : {X : Type 0} (P : X → Type 0) (o : X) (front back : List X) → Each P (front ++ o ∷ back) → P o × Each P (front ++ back)
out_each P o [] back h = h
out_each P o (x ∷ front) back h = let r = out_each P o front back h.1 in (r.0, (h.0, r.1))

in_each : {X : Type 0} (P : X → Type 0) (o : X) (front back : List X) → P o → Each P (front ++ back) → Each P (front ++ o ∷ back)
in_each P o [] back p h = (p, h)
in_each P o (x ∷ front) back p h = (h.0, in_each P o front back p h.1)

pub each-out : {X : Type 0} (P : X → Type 0) (o : X) (rest whole : List X) → IsWith o rest whole → Each P whole → P o × Each P rest
each-out P o rest whole w h =
    let r = out_each P o w.front w.back (subst (λ l. Each P l) w.whole_is h) in (r.0, subst (λ l. Each P l) (sym w.rest_is) r.1)

pub each-in : {X : Type 0} (P : X → Type 0) (o : X) (rest whole : List X) → IsWith o rest whole → P o → Each P rest → Each P whole
each-in P o rest whole w p h = subst (λ l. Each P l) (sym w.whole_is) (in_each P o w.front w.back p (subst (λ l. Each P l) w.rest_is h))

-- OneOf.

out_one : {X : Type 0} (P : X → Type 0) (o : X) (front back : List X) → OneOf P (front ++ o ∷ back) → P o ⊎ OneOf P (front ++ back)
out_one P o [] back h = h
out_one P o (x ∷ front) back (inl h) = inr (inl h)
out_one P o (x ∷ front) back (inr h) = elim (out_one P o front back h) as (λ _. P o ⊎ OneOf P (x ∷ (front ++ back))) [ inl a ↦ inl a | inr b ↦ inr (inr b) ]

in_one : {X : Type 0} (P : X → Type 0) (o : X) (front back : List X) → P o ⊎ OneOf P (front ++ back) → OneOf P (front ++ o ∷ back)
in_one P o [] back h = h
in_one P o (x ∷ front) back (inl h) = inr (in_one P o front back (inl h))
in_one P o (x ∷ front) back (inr (inl h)) = inl h
in_one P o (x ∷ front) back (inr (inr h)) = inr (in_one P o front back (inr h))

pub one-out_of : {X : Type 0} (P : X → Type 0) (o : X) (rest whole : List X) → IsWith o rest whole → OneOf P whole → P o ⊎ OneOf P rest
one-out_of P o rest whole w h =
    elim (out_one P o w.front w.back (subst (λ l. OneOf P l) w.whole_is h)) as (λ _. P o ⊎ OneOf P rest) [ inl a ↦ inl a | inr b ↦ inr (subst (λ l. OneOf P l) (sym w.rest_is) b) ]

pub one-in : {X : Type 0} (P : X → Type 0) (o : X) (rest whole : List X) → IsWith o rest whole → P o ⊎ OneOf P rest → OneOf P whole
one-in P o rest whole w h = subst (λ l. OneOf P l) (sym w.whole_is) (in_one P o w.front w.back (subst (λ l. P o ⊎ OneOf P l) w.rest_is h))

-- EachTwo, where the fact goes both ways.

out_two : {X : Type 0} (R : X → X → Type 0) → ((x y : X) → R x y → R y x) → (o : X) (front back : List X) → EachTwo R (front ++ o ∷ back) → Each (R o) (front ++ back) × EachTwo R (front ++ back)
out_two R flip o [] back h = h
out_two R flip o (x ∷ front) back h =
    let r = out_two R flip o front back h.1 in
    let s = out_each (R x) o front back h.0 in
    ((flip x o s.0, r.0), (s.1, r.1))

in_two : {X : Type 0} (R : X → X → Type 0) → ((x y : X) → R x y → R y x) → (o : X) (front back : List X) → Each (R o) (front ++ back) → EachTwo R (front ++ back) → EachTwo R (front ++ o ∷ back)
in_two R flip o [] back h k = (h, k)
in_two R flip o (x ∷ front) back h k = (in_each (R x) o front back (flip o x h.0) k.0, in_two R flip o front back h.1 k.1)

pub two-out : {X : Type 0} (R : X → X → Type 0) → ((x y : X) → R x y → R y x) → (o : X) (rest whole : List X) → IsWith o rest whole → EachTwo R whole → Each (R o) rest × EachTwo R rest
two-out R flip o rest whole w h =
    let r = out_two R flip o w.front w.back (subst (λ l. EachTwo R l) w.whole_is h) in (subst (λ l. Each (R o) l) (sym w.rest_is) r.0, subst (λ l. EachTwo R l) (sym w.rest_is) r.1)

pub two-in : {X : Type 0} (R : X → X → Type 0) → ((x y : X) → R x y → R y x) → (o : X) (rest whole : List X) → IsWith o rest whole → Each (R o) rest → EachTwo R rest → EachTwo R whole
two-in R flip o rest whole w h k =
    subst (λ l. EachTwo R l) (sym w.whole_is) (in_two R flip o w.front w.back (subst (λ l. Each (R o) l) w.rest_is h) (subst (λ l. EachTwo R l) w.rest_is k))

-- Sums and lengths.

pub sum-with : {X : Type 0} (f : X → ℕ) (o : X) (rest whole : List X) → IsWith o rest whole → sum_by f whole ≡ f o + sum_by f rest
sum-with f o rest whole w =
    let whole_sum = ap (sum_by f) w.whole_is ∙ sum_by-append f w.front (o ∷ w.back) in
    let one = sum_by-cons f o w.back in
    let rest_sum = ap (sum_by f) w.rest_is ∙ sum_by-append f w.front w.back in
    omega arith

pub length-with : {X : Type 0} (o : X) (rest whole : List X) → IsWith o rest whole → length whole ≡ length rest + 1
length-with o rest whole w =
    let whole_length = ap length w.whole_is ∙ length-append w.front (o ∷ w.back) in
    let rest_length = ap length w.rest_is ∙ length-append w.front w.back in
    omega arith
