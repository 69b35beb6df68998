-- The greatest bound, over slots in any order.
use Rattle.std.proofs.Common.{◌≡◌, ℕ, zero, suc, ◌≤◌, ℤ, List, [], ◌∷◌, length, map, drop, true, false, cond, int_lt, nat_lt, Option, Some, None, refl, sym, ◌∙◌, ap, arith}
use Rattle.std.proofs.lemmas.Int.{ints}
use Rattle.dp_model.specs.Numbers.{greatest}
use Rattle.fringe.specs.Bounds.{raised}
use Rattle.fringe.specs.Tickets.{Ticketed, by_ticket}
use Rattle.fringe.proofs.Bounds.{raised_by, raised_greatest}
use Rattle.fringe.specs.Slots.{opened, raised_one}

-- the greatest bound, from the first slot on
abbrev pub raised_slots : Option ℤ → List (Option Ticketed) → Option ℤ
raised_slots most [] = most
raised_slots most (x ∷ slots) = raised_slots (raised_one most x) slots

more : (a b : ℤ) → cond (int_lt a b) b a ≡ cond (int_lt b a) a b
more a b = grind (arith, ints)

more-twice : (z a b : ℤ) → cond (int_lt (cond (int_lt z a) a z) b) b (cond (int_lt z a) a z) ≡ cond (int_lt (cond (int_lt z b) b z) a) a (cond (int_lt z b) b z)
more-twice z a b = grind (arith, ints)

turned : (m : Option ℤ) (a b : ℤ) → raised (raised m a) b ≡ raised (raised m b) a
turned None a b = ap (λ (z : ℤ). Some z) (more a b)
turned (Some z) a b = ap (λ (z : ℤ). Some z) (more-twice z a b)

raised_put : (m : Option ℤ) (o : Ticketed) (os : List Ticketed) → raised_by m (by_ticket o os) ≡ raised_by (raised m o.subproblem.bound) os
raised_put m o [] = refl
raised_put m o (x ∷ os) =
    elim (nat_lt o.ticket x.ticket) as (λ b. raised_by m (cond b (o ∷ x ∷ os) (x ∷ by_ticket o os)) ≡ raised_by (raised (raised m o.subproblem.bound) x.subproblem.bound) os) [
      | true ↦ refl
      | false ↦ raised_put (raised m x.subproblem.bound) o os ∙ ap (λ n. raised_by n os) (turned m x.subproblem.bound o.subproblem.bound)
    ]

raised_opened : (m : Option ℤ) (slots : List (Option Ticketed)) → raised_slots m slots ≡ raised_by m (opened slots)
raised_opened m [] = refl
raised_opened m (None ∷ slots) = raised_opened m slots
raised_opened m (Some o ∷ slots) = raised_opened (raised m o.subproblem.bound) slots ∙ sym (raised_put m o (opened slots))

pub greatest_opened : (slots : List (Option Ticketed)) → raised_slots None slots ≡ greatest (map (λ o. o.subproblem.bound) (opened slots))
greatest_opened slots = raised_opened None slots ∙ raised_greatest (opened slots)

pub dropped_all : (slots : List (Option Ticketed)) (n : ℕ) → length slots ≤ n → drop n slots ≡ []
dropped_all [] zero h = refl
dropped_all [] (suc n) h = refl
dropped_all (x ∷ slots) zero h = absurd (omega arith)
dropped_all (x ∷ slots) (suc n) h = dropped_all slots n (omega arith)
