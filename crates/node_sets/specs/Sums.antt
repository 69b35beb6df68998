-- What is said of the numbers below a limit that pass a test: that all do, how many, a sum over them, the least of their amounts.
use Rattle.std.specs.Prelude.{ℕ, zero, suc, ◌+◌, min, Bool, true, cond, ◌&&◌, Option, Some, None}

-- every number below the limit passes
abbrev pub all_below : ℕ → (ℕ → Bool) → Bool
all_below zero test = true
all_below (suc n) test = test n && all_below n test

-- the sum of the amounts of the numbers below the limit that pass
abbrev pub sum_below : ℕ → (ℕ → Bool) → (ℕ → ℕ) → ℕ
sum_below zero test amount = 0
sum_below (suc n) test amount = sum_below n test amount + cond (test n) (amount n) 0

-- how many numbers below the limit pass
abbrev pub count_below : ℕ → (ℕ → Bool) → ℕ
count_below n test = sum_below n test (λ _. 1)

-- the lesser of an amount and an option, where none is above every amount
abbrev pub lesser : ℕ → Option ℕ → Option ℕ
lesser amount None = Some amount
lesser amount (Some other) = Some (min other amount)

-- the least amount of the numbers below the limit that pass, or none where no number passes
abbrev pub least_amount : ℕ → (ℕ → Bool) → (ℕ → ℕ) → Option ℕ
least_amount zero test amount = None
least_amount (suc n) test amount = cond (test n) (lesser (amount n) (least_amount n test amount)) (least_amount n test amount)
