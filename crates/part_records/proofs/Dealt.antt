-- What is dealt out stands in one part, once.
use Rattle.std.proofs.Common.{◌≡◌, ℕ, zero, suc, ◌+◌, ◌<◌, ◌≤◌, nat_eq, Bool, true, false, cond, List, [], ◌∷◌, ◌++◌, IsPermutation, inl, inr, refl, sym, ◌∙◌, ap, ap₂, subst, arith}
use Rattle.std.proofs.lemmas.Bool.Decides.{nat_tests}
use Rattle.std.proofs.lemmas.Grind.{flat_map-append}
use Rattle.std.proofs.lemmas.List.Sorted.{IsPermutation-append_left, IsPermutation-cons, IsPermutation-middle, IsPermutation-refl, IsPermutation-trans}
use Rattle.std.specs.List.{flat_map}
use Rattle.dp_model.specs.Decisions.{below}
use Rattle.dp_model.proofs.Members.{Has}
use Rattle.dp_model.proofs.RowLemmas.{nat_eq-self}
use Rattle.board_laws.specs.Starts.{chosen}

module _ {X : Type 0} where
  none-dealt : (n : ℕ) → flat_map {X = ℕ} {A = X} (λ k. []) (below n) ≡ []
  none-dealt zero = refl
  none-dealt (suc n) = flat_map-append {X = ℕ} {A = X} (λ k. []) (below n) (n ∷ []) ∙ ap (λ l. l ++ []) (none-dealt n)

  -- with one member more in the part a
  abbrev with-one : X → ℕ → (ℕ → List X) → ℕ → List X
  with-one x a f k = cond (nat_eq a k) (x ∷ f k) (f k)

  one-step : (f : ℕ → List X) (n : ℕ) → flat_map f (below (suc n)) ≡ flat_map f (below n) ++ (f n ++ [])
  one-step f n = flat_map-append f (below n) (n ∷ [])

  untouched : (x : X) (a : ℕ) (f : ℕ → List X) (n : ℕ) → n ≤ a → flat_map (with-one x a f) (below n) ≡ flat_map f (below n)
  untouched x a f zero le = refl
  untouched x a f (suc n) le =
      let other : nat_eq a n ≡ false = grind (arith, nat_tests) in
      one-step (with-one x a f) n ∙ (ap₂ (λ l r. l ++ (r ++ [])) (untouched x a f n (omega arith)) (ap (λ b. cond b (x ∷ f n) (f n)) other) ∙ sym (one-step f n))

  put-in : (x : X) (a : ℕ) (f : ℕ → List X) (n : ℕ) → a < n → IsPermutation (flat_map (with-one x a f) (below n)) (x ∷ flat_map f (below n))
  put-in x a f zero less = absurd (omega arith)
  put-in x a f (suc n) less =
      let before = flat_map (with-one x a f) (below n) in
      let plain = flat_map f (below n) in
      let rest = f n ++ [] in
      let Goal : Bool → Type 0 = λ b. IsPermutation (before ++ (cond b (x ∷ f n) (f n) ++ [])) (x ∷ (plain ++ rest)) in
      let go : (b : Bool) → nat_eq a n ≡ b → Goal b = λ b. elim b as (λ b. nat_eq a n ≡ b → Goal b) [
        | true ↦ λ e. subst (λ l. IsPermutation (l ++ x ∷ rest) (x ∷ (plain ++ rest))) (sym (untouched x a f n (let same : n ≤ a = grind (arith, nat_tests) in same))) (IsPermutation-middle plain x rest)
        | false ↦ λ e. IsPermutation-append_left rest before (x ∷ plain) (put-in x a f n (let lower : a < n = grind (arith, nat_tests) in lower))
      ] in
      subst (λ l. IsPermutation l (x ∷ flat_map f (below (suc n)))) (sym (one-step (with-one x a f) n))
      (subst (λ l. IsPermutation (before ++ (with-one x a f n ++ [])) (x ∷ l)) (sym (one-step f n)) (go (nat_eq a n) refl))

  -- where each place is dealt to a part below n, the parts have each member once
  pub dealt-once : (m : ℕ → ℕ) (n : ℕ) → ((j : ℕ) → m j < n) → (i : ℕ) (xs : List X) → IsPermutation (flat_map (λ k. chosen (λ j. nat_eq (m j) k) i xs) (below n)) xs
  dealt-once m n less i [] = subst (λ l. IsPermutation l []) (sym (none-dealt n)) (IsPermutation-refl [])
  dealt-once m n less i (x ∷ xs) =
      let f : ℕ → List X = λ k. chosen (λ j. nat_eq (m j) k) (i + 1) xs in
      IsPermutation-trans (flat_map (with-one x (m i) f) (below n)) (x ∷ flat_map f (below n)) (x ∷ xs) (put-in x (m i) f n (less i)) (IsPermutation-cons x (flat_map f (below n)) xs (dealt-once m n less (i + 1) xs))

  -- a part that has the member
  pub record IsDealt (m : ℕ → ℕ) (n i : ℕ) (xs : List X) (x : X) : Type 0 where
    pub index : ℕ
    pub less : index < n
    pub has : Has x (chosen (λ j. nat_eq (m j) index) i xs)

  pub member-dealt : (m : ℕ → ℕ) (n : ℕ) → ((j : ℕ) → m j < n) → (i : ℕ) (xs : List X) (x : X) → Has x xs → IsDealt m n i xs x
  member-dealt m n less i [] x has = absurd has
  member-dealt m n less i (y ∷ xs) x (inl same) = record {
    index = m i;
    less = less i;
    has = subst (λ b. Has x (cond b (y ∷ chosen (λ j. nat_eq (m j) (m i)) (i + 1) xs) (chosen (λ j. nat_eq (m j) (m i)) (i + 1) xs))) (sym (nat_eq-self (m i))) (inl same);
  }
  member-dealt m n less i (y ∷ xs) x (inr later) =
      let r = member-dealt m n less (i + 1) xs x later in
      let rest = chosen (λ j. nat_eq (m j) r.index) (i + 1) xs in
      record {
        index = r.index;
        less = r.less;
        has = elim (nat_eq (m i) r.index) as (λ b. Has x (cond b (y ∷ rest) rest)) [ true ↦ inr r.has | false ↦ r.has ];
      }
