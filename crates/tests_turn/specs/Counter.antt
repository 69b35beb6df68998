-- The counter as contracts see it, and its two steps.
use Rattle.std.specs.Prelude.{◌≡◌, ◌⊎◌, ℕ, ℤ, ◌+◌, List, [], ◌∷◌, Option, Some, None, slice_get, slice_set}
use Rattle.turn.specs.Order.{greater}

pub record CounterView : Type 0 where
  pub limit : ℕ
  pub next : ℕ
  pub best : Option ℤ
  pub slots : List (Option ℕ)

-- the number that a worker has out, as decisions
abbrev pub one_out : Option (Option ℕ) → Option (List ℕ)
one_out None = None
one_out (Some None) = None
one_out (Some (Some d)) = Some (d ∷ [])

abbrev pub slot_of : CounterView → ℕ → Option (List ℕ)
slot_of c who = one_out (slice_get c.slots who)

abbrev pub with_taken : CounterView → ℕ → ℕ → CounterView
with_taken c who d = record c { next = c.next + 1; slots = slice_set c.slots who (Some d) }

abbrev pub with_finished : CounterView → ℕ → ℤ → CounterView
with_finished c who value = record c { best = greater c.best (Some value); slots = slice_set c.slots who None }

abbrev pub Took : CounterView → CounterView → ℕ → Type 0
Took before after who = (d : ℕ) × (after ≡ with_taken before who d)

abbrev pub Finished : CounterView → CounterView → ℕ → Type 0
Finished before after who = (value : ℤ) × (after ≡ with_finished before who value)

abbrev pub IsStep : CounterView → CounterView → ℕ → Type 0
IsStep before after who = Took before after who ⊎ Finished before after who
