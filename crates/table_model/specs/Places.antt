-- Tests at places, one after another.
use Rattle.std.specs.Prelude.{ℕ, zero, suc, ◌+◌, Bool, true, false, ◌&&◌, ◌||◌, Option, Some, None}

abbrev pub or_else : {X : Type 0} → Option X → Option X → Option X
or_else None other = other
or_else (Some x) other = Some x

-- what the first place that gives something gives, of n places from k on
abbrev pub first_of : {X : Type 0} → (ℕ → Option X) → ℕ → ℕ → Option X
first_of f k zero = None
first_of f k (suc n) = or_else (f k) (first_of f (k + 1) n)

-- whether the test holds at n places from k on
abbrev pub holds_at_all : (ℕ → Bool) → ℕ → ℕ → Bool
holds_at_all test k zero = true
holds_at_all test k (suc n) = test k && holds_at_all test (k + 1) n

-- whether the test holds at one of n places from k on
abbrev pub holds_at_one : (ℕ → Bool) → ℕ → ℕ → Bool
holds_at_one test k zero = false
holds_at_one test k (suc n) = test k || holds_at_one test (k + 1) n
