-- Names in lists, and names that all differ.
use Rattle.std.proofs.Common.{◌≡◌, ◌∙◌, ◌<◌, ◌&&◌, ◌||◌, ℕ, Bool, true, false, not, refl, sym, ap, subst, zero, suc, List, [], ◌∷◌, length, Some, arith, nat_le, true≢false}
use Rattle.std.specs.Prelude.{slice_get}
use Rattle.std.specs.Str.{bytes_eq}
use Rattle.std.proofs.lemmas.Slice.Eq.{bytes_eq-Decides}
use Rattle.solver_words.specs.Grammar.{Text, Syntax, apart, clear_of, contains, is_well_formed}

pub same_bytes : (a : Text) → bytes_eq a a ≡ true
same_bytes a = (bytes_eq-Decides a a).1 refl

pub are_same : (a b : Text) → bytes_eq a b ≡ true → a ≡ b
are_same a b e = (bytes_eq-Decides a b).0 e

pub two_names : (a b : Text) (t : Bool) → bytes_eq a b ≡ t → bytes_eq b a ≡ t
two_names a b true e = (bytes_eq-Decides b a).1 (sym (are_same a b e))
two_names a b false e = other (bytes_eq b a) refl
  where
    other : (u : Bool) → bytes_eq b a ≡ u → bytes_eq b a ≡ false
    other false h = h
    other true h = absurd (true≢false (sym ((bytes_eq-Decides a b).1 (sym (are_same b a h))) ∙ e))

pub both : (a b : Bool) → (a && b) ≡ true → (a ≡ true) × (b ≡ true)
both true b e = (refl, e)
both false b e = absurd (true≢false (sym e))

pub not_true : (b : Bool) → not b ≡ true → b ≡ false
not_true true e = absurd (true≢false (sym e))
not_true false e = refl

pub neither : (a b : Bool) → (a || b) ≡ false → (a ≡ false) × (b ≡ false)
neither true b e = absurd (true≢false e)
neither false b e = (refl, e)

-- the same as facts
pub record IsWellFormed (f : Syntax) : Type 0 where
  pub own : apart f.positional ≡ true
  pub not_valued : clear_of f.valued f.positional ≡ true
  pub not_flag : clear_of f.flags f.positional ≡ true
  pub valued_not_flag : clear_of f.flags f.valued ≡ true
  pub few : nat_le (length f.positional) 100 ≡ true

pub well_formed_facts : (f : Syntax) → is_well_formed f ≡ true → IsWellFormed f
well_formed_facts f e =
    let a = both (apart f.positional) _ e in
    let b = both (clear_of f.valued f.positional) _ a.1 in
    let c = both (clear_of f.flags f.positional) _ b.1 in
    let d = both (clear_of f.flags f.valued) _ c.1 in
    record { own = a.0; not_valued = b.0; not_flag = c.0; valued_not_flag = d.0; few = d.1 }

-- a member that is in the list
pub there : (xs : List Text) (k : ℕ) (x : Text) → slice_get xs k ≡ Some x → contains x xs ≡ true
there [] k x e = absurd (cc)
there (y ∷ ys) zero x e = let same : y ≡ x = cc in rw (← same, same_bytes y) refl
there (y ∷ ys) (suc k) x e = later (bytes_eq y x) (there ys k x e)
  where
    later : (t : Bool) → contains x ys ≡ true → (t || contains x ys) ≡ true
    later true h = refl
    later false h = h

-- a member of the one list is not in the other
clear_by : (others : List Text) (x : Text) (xs : List Text) → clear_of others xs ≡ true → (y : Text) (t : Bool) → bytes_eq x y ≡ t → contains x others ≡ false
    → (contains y xs ≡ true → contains y others ≡ false) → contains y (x ∷ xs) ≡ true → contains y others ≡ false
clear_by others x xs c y true e here next h = subst (λ z. contains z others ≡ false) (are_same x y e) here
clear_by others x xs c y false e here next h = next (rw e at h)

pub outside : (others xs : List Text) → clear_of others xs ≡ true → (y : Text) → contains y xs ≡ true → contains y others ≡ false
outside others [] c y h = absurd (true≢false (sym h))
outside others (x ∷ xs) c y h =
    let parts = both (not (contains x others)) _ c in
    clear_by others x xs parts.1 y (bytes_eq x y) refl (not_true _ parts.0) (λ e. outside others xs parts.1 y e) h

-- a name that is in the list is not one that is not
pub differs : (xs : List Text) (x y : Text) → contains x xs ≡ true → contains y xs ≡ false → bytes_eq x y ≡ false
differs xs x y in_it out = by (bytes_eq x y) refl
  where
    by : (t : Bool) → bytes_eq x y ≡ t → bytes_eq x y ≡ false
    by false e = e
    by true e = absurd (true≢false (sym in_it ∙ (ap (λ z. contains z xs) (are_same x y e) ∙ out)))

-- two places of a list whose members differ
pub places : (xs : List Text) → apart xs ≡ true → (j i : ℕ) (a b : Text) → j < i → slice_get xs j ≡ Some a → slice_get xs i ≡ Some b → bytes_eq a b ≡ false
places [] d j i a b lt e h = absurd (cc)
places (x ∷ xs) d zero zero a b lt e h = absurd (omega arith)
places (x ∷ xs) d zero (suc i) a b lt e h =
    let parts = both (not (contains x xs)) _ d in
    let same : x ≡ a = cc in
    two_names b a false (subst (λ z. bytes_eq b z ≡ false) same (differs xs b x (there xs i b h) (not_true _ parts.0)))
places (x ∷ xs) d (suc j) zero a b lt e h = absurd (omega arith)
places (x ∷ xs) d (suc j) (suc i) a b lt e h = places xs (both (not (contains x xs)) _ d).1 j i a b (omega arith) e h

-- an option is no positional word
pub absent : (f : Syntax) → IsWellFormed f → (name : Text) → contains name f.valued ≡ true → contains name f.positional ≡ false
absent f is name here = by (contains name f.positional) refl
  where
    by : (t : Bool) → contains name f.positional ≡ t → contains name f.positional ≡ false
    by false e = e
    by true e = absurd (true≢false (sym here ∙ outside f.valued f.positional is.not_valued name e))
