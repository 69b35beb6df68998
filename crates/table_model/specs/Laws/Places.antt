-- What a test at places says of each place.
use Rattle.std.proofs.Common.{◌≡◌, ℕ, zero, suc, ◌+◌, ◌<◌, Bool, true, false, cond, ◌&&◌, ◌||◌, Option, Some, None, refl, sym, ap, subst, ◌∙◌, arith}
use Rattle.std.proofs.lemmas.Bool.{and_parts}
use Rattle.table_model.specs.Places.{or_else, first_of, holds_at_all, holds_at_one}

holds_from : (test : ℕ → Bool) (k n j : ℕ) → holds_at_all test k n ≡ true → j < n → test (k + j) ≡ true
holds_from test k zero j h below = absurd (omega arith)
holds_from test k (suc n) zero h below = let here : k + 0 ≡ k = omega arith in ap test here ∙ (and_parts _ _ h).0
holds_from test k (suc n) (suc j) h below =
    let there : k + suc j ≡ k + 1 + j = omega arith in
    ap test there ∙ holds_from test (k + 1) n j (and_parts _ _ h).1 (omega arith)

-- a test that holds at all places holds at each
pub holds_each : (test : ℕ → Bool) (n j : ℕ) → holds_at_all test 0 n ≡ true → j < n → test j ≡ true
holds_each test n j h below = let same : j ≡ 0 + j = omega arith in ap test same ∙ holds_from test 0 n j h below

-- a place at which a test holds
pub record Passes (test : ℕ → Bool) (most : ℕ) : Type 0 where
  pub place : ℕ
  pub below : place < most
  pub passes : test place ≡ true

passes_from : (test : ℕ → Bool) (k n : ℕ) → holds_at_one test k n ≡ true → Passes test (k + n)
passes_from test k zero h = absurd (grind arith)
passes_from test k (suc n) h =
    elim (test k) as (λ b. test k ≡ b → (b || holds_at_one test (k + 1) n) ≡ true → Passes test (k + suc n)) [
      | true ↦ λ e _. record { place = k; below = omega arith; passes = e }
      | false ↦ λ _ rest.
          let p = passes_from test (k + 1) n rest in
          record { place = p.place; below = let b = p.below in omega (arith, b); passes = p.passes }
    ] refl h

-- a test that holds at one place holds at some
pub passes_at : (test : ℕ → Bool) (n : ℕ) → holds_at_one test 0 n ≡ true → Passes test n
passes_at test n h = let p = passes_from test 0 n h in record { place = p.place; below = let b = p.below in omega (arith, b); passes = p.passes }

-- where nothing is first, none of the two is there
pub none_of_two : {X : Type 0} (x y : Option X) → or_else x y ≡ None → (x ≡ None) × (y ≡ None)
none_of_two None y h = (refl, h)
none_of_two (Some x) y h = absurd (grind arith)

none_from : {X : Type 0} (f : ℕ → Option X) (k n j : ℕ) → first_of f k n ≡ None → j < n → f (k + j) ≡ None
none_from f k zero j h below = absurd (omega arith)
none_from f k (suc n) zero h below = let here : k + 0 ≡ k = omega arith in ap f here ∙ (none_of_two _ _ h).0
none_from f k (suc n) (suc j) h below =
    let there : k + suc j ≡ k + 1 + j = omega arith in
    ap f there ∙ none_from f (k + 1) n j (none_of_two _ _ h).1 (omega arith)

-- where there is no first place, no place gives anything
pub none_each : {X : Type 0} (f : ℕ → Option X) (n j : ℕ) → first_of f 0 n ≡ None → j < n → f j ≡ None
none_each f n j h below = let same : j ≡ 0 + j = omega arith in ap f same ∙ none_from f 0 n j h below

-- what gives nothing passes
pub passes_where_none : {X : Type 0} (b : Bool) (x : X) → cond b None (Some x) ≡ None → b ≡ true
passes_where_none true x h = refl
passes_where_none false x h = absurd (grind arith)
