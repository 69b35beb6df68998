-- Views in a list, and for how many seats they stand.
use Rattle.std.proofs.Common.{◌≡◌, ℕ, zero, suc, ◌+◌, ◌<◌, ◌≤◌, ◌≢◌, ◌⊎◌, inl, inr, ⊎_elim, List, [], ◌∷◌, ◌++◌, length, set, sym, refl, ap, ◌∙◌, arith}
use Rattle.std.specs.List.{AllByRecursion}
use mathlib.Core.Option.{some, some-injective, some-ne-none}
use lib.ListN.{get_elem?}
use Rattle.turn.specs.Rule.{parts_of}
use Rattle.turn.specs.declared.view.SeatView.{SeatView}

module _ {A : Type 0} where
  pub below : (l : List A) (i : ℕ) (a : A) → get_elem? l i ≡ some a → i < length l
  below [] i a e = absurd (some-ne-none a (sym e))
  below (x ∷ xs) zero a e = omega arith
  below (x ∷ xs) (suc i) a e = let h = below xs i a e in omega arith

  -- two elements at one place
  pub one_place : (l : List A) (i j : ℕ) (a b : A) → i ≡ j → get_elem? l i ≡ some a → get_elem? l j ≡ some b → a ≡ b
  one_place l i j a b e f g = some-injective a b (sym f ∙ (ap (λ k. get_elem? l k) e ∙ g))

  pub weaken : (P Q : A → Type 0) → ((x : A) → P x → Q x) → (xs : List A) → AllByRecursion P xs → AllByRecursion Q xs
  weaken P Q f [] h = tt
  weaken P Q f (x ∷ xs) h = (f x h.0, weaken P Q f xs h.1)

  pub both_of : (P : A → Type 0) (xs ys : List A) → AllByRecursion P xs → AllByRecursion P ys → AllByRecursion P (xs ++ ys)
  both_of P [] ys f g = g
  both_of P (x ∷ xs) ys f g = (f.0, both_of P xs ys f.1 g)

  -- an element of a longer list is one of the list, or the last
  pub at_end : (l : List A) (a b : A) (j : ℕ) → get_elem? (l ++ a ∷ []) j ≡ some b → (get_elem? l j ≡ some b) ⊎ ((j ≡ length l) × (a ≡ b))
  at_end [] a b zero e = inr (refl, some-injective a b e)
  at_end [] a b (suc j) e = absurd (some-ne-none b (sym e))
  at_end (x ∷ xs) a b zero e = inl e
  at_end (x ∷ xs) a b (suc j) e = ⊎_elim (λ h. inl h) (λ t. let n = t.0 in inr (omega arith, t.1)) (at_end xs a b j e)

module _ {V : Type 0} where
  pub parts_set : (l : List (SeatView V)) (i : ℕ) (v w : SeatView V) → get_elem? l i ≡ some v → parts_of (set l i w) + v.parts ≡ parts_of l + w.parts
  parts_set [] i v w e = absurd (some-ne-none v (sym e))
  parts_set (x ∷ xs) zero v w e = let h : x.parts ≡ v.parts = ap (λ (y : SeatView V). y.parts) (some-injective x v e) in omega arith
  parts_set (x ∷ xs) (suc i) v w e = let h = parts_set xs i v w e in omega arith

  pub parts_append : (l m : List (SeatView V)) → parts_of (l ++ m) ≡ parts_of l + parts_of m
  parts_append [] m = omega arith
  parts_append (x ∷ xs) m = let h = parts_append xs m in omega arith

  pub parts_at : (l : List (SeatView V)) (i : ℕ) (v : SeatView V) → get_elem? l i ≡ some v → v.parts ≤ parts_of l
  parts_at [] i v e = absurd (some-ne-none v (sym e))
  parts_at (x ∷ xs) zero v e = let h : x.parts ≡ v.parts = ap (λ (y : SeatView V). y.parts) (some-injective x v e) in omega arith
  parts_at (x ∷ xs) (suc i) v e = let h = parts_at xs i v e in omega arith

  -- where one view stands for all seats, each other stands for none
  pub others_none : (l : List (SeatView V)) (i j : ℕ) (v w : SeatView V) → get_elem? l i ≡ some v → get_elem? l j ≡ some w → v.parts ≡ parts_of l → j ≢ i → w.parts ≡ 0
  others_none [] i j v w e f all ne = absurd (some-ne-none v (sym e))
  others_none (x ∷ xs) zero zero v w e f all ne = absurd (ne refl)
  others_none (x ∷ xs) zero (suc j) v w e f all ne = let h : x.parts ≡ v.parts = ap (λ (y : SeatView V). y.parts) (some-injective x v e) in let n = parts_at xs j w f in omega arith
  others_none (x ∷ xs) (suc i) zero v w e f all ne = let h : x.parts ≡ w.parts = ap (λ (y : SeatView V). y.parts) (some-injective x w f) in let n = parts_at xs i v e in omega arith
  others_none (x ∷ xs) (suc i) (suc j) v w e f all ne = let n = parts_at xs i v e in others_none xs i j v w e f (omega arith) (λ h. ne (ap suc h))
