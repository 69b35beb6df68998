-- A step keeps what the turn asks of a move.
use Rattle.std.proofs.Common.{◌≡◌, ℕ, zero, suc, ℤ, ◌≢◌, ⊎_elim, List, [], ◌∷◌, Some, None, length, slice_get, slice_set, subst, sym, refl, ap, length-set}
use Rattle.turn.specs.Order.{NoLess}
use Rattle.turn.proofs.Order.{no_less-same, no_less-left}
use Rattle.tests_turn.specs.Counter.{CounterView, one_out, slot_of, with_taken, with_finished, IsStep}
use Rattle.tests_turn.specs.declared.counter.Terms.{Terms}

abbrev pub terms_of : CounterView → Terms
terms_of c = record { limit = c.limit; workers = length c.slots }

pub get_else : {A : Type 0} (l : List A) (i j : ℕ) (a : A) → j ≢ i → slice_get (slice_set l i a) j ≡ slice_get l j
get_else [] i j a ne = refl
get_else (x ∷ xs) zero zero a ne = absurd (ne refl)
get_else (x ∷ xs) zero (suc j) a ne = refl
get_else (x ∷ xs) (suc i) zero a ne = refl
get_else (x ∷ xs) (suc i) (suc j) a ne = get_else xs i j a (λ e. ne (ap suc e))

abbrev pub Keeps : CounterView → CounterView → ℕ → Type 0
Keeps before after number = (terms_of after ≡ terms_of before) × NoLess before.best after.best × ((other : ℕ) → other ≢ number → slot_of after other ≡ slot_of before other)

keeps_taken : (before : CounterView) (number d : ℕ) → Keeps before (with_taken before number d) number
keeps_taken before number d = (ap (λ (n : ℕ). let t : Terms = record { limit = before.limit; workers = n } in t) (length-set before.slots number (Some d)), no_less-same before.best, λ other ne. ap one_out (get_else before.slots number other (Some d) ne))

keeps_finished : (before : CounterView) (number : ℕ) (value : ℤ) → Keeps before (with_finished before number value) number
keeps_finished before number value = (ap (λ (n : ℕ). let t : Terms = record { limit = before.limit; workers = n } in t) (length-set before.slots number None), no_less-left before.best (Some value), λ other ne. ap one_out (get_else before.slots number other None ne))

pub keeps_step : (before after : CounterView) (number : ℕ) → IsStep before after number → Keeps before after number
keeps_step before after number step = ⊎_elim
    (λ t. subst (λ c. Keeps before c number) (sym t.1) (keeps_taken before number t.0))
    (λ t. subst (λ c. Keeps before c number) (sym t.1) (keeps_finished before number t.0)) step
