-- Lists that are put in order, by a test of which stands before which.
use Rattle.std.proofs.Common.{◌≡◌, ℕ, zero, suc, ◌+◌, ◌<◌, Bool, true, false, cond, List, [], ◌∷◌, length, get_or, IsPermutation, IsSortedBy, refl, subst, arith}
use Rattle.std.proofs.lemmas.List.Sorted.{IsPermutation-refl, IsPermutation-cons, IsPermutation-trans, IsPermutation-append_left, IsPermutation-append_comm}
use Rattle.std.specs.Cmp.{IsStrictWeakOrder}
use Rattle.dp_model.specs.Lists.{Each}
use Rattle.dp_model.proofs.Members.{Each-then}
use Rattle.dp_laws.specs.Pairs.{EachTwo}
use Rattle.layer_candidates.proofs.HeldRows.{each-here}

module _ {X : Type 0} (lt : X → X → Bool) (order : IsStrictWeakOrder lt) where
  -- an element at its place
  abbrev put : X → List X → List X
  put x [] = x ∷ []
  put x (y ∷ ys) = cond (lt x y) (x ∷ y ∷ ys) (y ∷ put x ys)

  -- the elements in order
  abbrev pub put_all : List X → List X
  put_all [] = []
  put_all (x ∷ xs) = put x (put_all xs)

  abbrev Up : List X → Type 0
  Up xs = EachTwo (λ a b. lt b a ≡ false) xs

  each-put : (P : X → Type 0) (x : X) (ys : List X) → P x → Each P ys → Each P (put x ys)
  each-put P x [] h all = (h, tt)
  each-put P x (y ∷ ys) h all = elim (lt x y) as (λ b. Each P (cond b (x ∷ y ∷ ys) (y ∷ put x ys))) [ true ↦ (h, all) | false ↦ (all.0, each-put P x ys h all.1) ]

  up-put : (x : X) (ys : List X) → Up ys → Up (put x ys)
  up-put x [] up = (tt, tt)
  up-put x (y ∷ ys) up =
      let go : (b : Bool) → lt x y ≡ b → Up (cond b (x ∷ y ∷ ys) (y ∷ put x ys)) =
      λ b. elim b as (λ b. lt x y ≡ b → Up (cond b (x ∷ y ∷ ys) (y ∷ put x ys))) [
        | true ↦ λ e. (let back = order.one_way x y e in ((back, Each-then (λ b. lt b y ≡ false) (λ b. lt b x ≡ false) ys (λ b h. order.chain b y x h back) up.0), up))
        | false ↦ λ e. (each-put (λ b. lt b y ≡ false) x ys e up.0, up-put x ys up.1)
      ] in
      go (lt x y) refl

  up-all : (xs : List X) → Up (put_all xs)
  up-all [] = tt
  up-all (x ∷ xs) = up-put x (put_all xs) (up-all xs)

  moved-put : (x : X) (ys : List X) → IsPermutation (x ∷ ys) (put x ys)
  moved-put x [] = IsPermutation-refl (x ∷ [])
  moved-put x (y ∷ ys) =
      let change : IsPermutation (x ∷ y ∷ ys) (y ∷ x ∷ ys) = IsPermutation-append_left ys (x ∷ y ∷ []) (y ∷ x ∷ []) (IsPermutation-append_comm (x ∷ []) (y ∷ [])) in
      elim (lt x y) as (λ b. IsPermutation (x ∷ y ∷ ys) (cond b (x ∷ y ∷ ys) (y ∷ put x ys))) [
        | true ↦ IsPermutation-refl (x ∷ y ∷ ys)
        | false ↦ IsPermutation-trans (x ∷ y ∷ ys) (y ∷ x ∷ ys) (y ∷ put x ys) change (IsPermutation-cons y (x ∷ ys) (put x ys) (moved-put x ys))
      ]

  pub moved-all : (xs : List X) → IsPermutation xs (put_all xs)
  moved-all [] = IsPermutation-refl []
  moved-all (x ∷ xs) = IsPermutation-trans (x ∷ xs) (x ∷ put_all xs) (put x (put_all xs)) (IsPermutation-cons x xs (put_all xs) (moved-all xs)) (moved-put x (put_all xs))

  two-next : (xs : List X) (k : ℕ) (d : X) → k + 1 < length xs → Up xs → lt (get_or xs (k + 1) d) (get_or xs k d) ≡ false
  two-next [] k d within up = absurd (omega arith)
  two-next (x ∷ xs) zero d within up = each-here (λ b. lt b x ≡ false) xs 0 d up.0 (omega arith)
  two-next (x ∷ xs) (suc k) d within up =
      let one : suc (k + 1) ≡ suc k + 1 = omega arith in
      subst (λ n. lt (get_or (x ∷ xs) n d) (get_or xs k d) ≡ false) one (two-next xs k d (omega arith) up.1)

  pub sorted-all : (xs : List X) → IsSortedBy lt (put_all xs)
  sorted-all xs k d low within = two-next (put_all xs) k d (omega arith) (up-all xs)
