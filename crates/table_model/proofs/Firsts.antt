-- How a test, and a search for the first, go on to the next place.
use Rattle.std.proofs.Common.{◌≡◌, ℕ, suc, ◌+◌, ◌-◌, ◌<◌, Bool, true, false, Option, Some, None, refl, sym, ap, ◌∙◌, arith}
use Rattle.table_model.specs.Places.{holds_at_all, holds_at_one, first_of}

pub holds_next : (test : ℕ → Bool) (k m : ℕ) → k < m → test k ≡ true → holds_at_all test k (m - k) ≡ holds_at_all test (k + 1) (m - (k + 1))
holds_next test k m less e =
    let more : m - k ≡ suc (m - (k + 1)) = omega arith in
    ap (holds_at_all test k) more ∙ rw e refl

pub holds_not : (test : ℕ → Bool) (k m : ℕ) → k < m → test k ≡ false → holds_at_all test k (m - k) ≡ false
holds_not test k m less e =
    let more : m - k ≡ suc (m - (k + 1)) = omega arith in
    ap (holds_at_all test k) more ∙ rw e refl

pub first_next : {X : Type 0} (f : ℕ → Option X) (k m : ℕ) → k < m → f k ≡ None → first_of f k (m - k) ≡ first_of f (k + 1) (m - (k + 1))
first_next f k m less e =
    let more : m - k ≡ suc (m - (k + 1)) = omega arith in
    ap (first_of f k) more ∙ rw e refl

pub first_here : {X : Type 0} (f : ℕ → Option X) (k m : ℕ) (x : X) → k < m → f k ≡ Some x → first_of f k (m - k) ≡ Some x
first_here f k m x less e =
    let more : m - k ≡ suc (m - (k + 1)) = omega arith in
    ap (first_of f k) more ∙ rw e refl

pub one_next : (test : ℕ → Bool) (k m : ℕ) → k < m → test k ≡ false → holds_at_one test k (m - k) ≡ holds_at_one test (k + 1) (m - (k + 1))
one_next test k m less e =
    let more : m - k ≡ suc (m - (k + 1)) = omega arith in
    ap (holds_at_one test k) more ∙ rw e refl

pub one_here : (test : ℕ → Bool) (k m : ℕ) → k < m → test k ≡ true → holds_at_one test k (m - k) ≡ true
one_here test k m less e =
    let more : m - k ≡ suc (m - (k + 1)) = omega arith in
    ap (holds_at_one test k) more ∙ rw e refl
