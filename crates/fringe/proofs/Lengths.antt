-- How many are open.
use Rattle.std.proofs.Common.{◌≡◌, ℕ, ℤ, zero, suc, ◌+◌, ◌≤◌, take, List, [], ◌∷◌, length, map, true, false, cond, nat_lt, count_by, is_none, Option, Some, None, refl, ◌∙◌, ap, arith, add-one}
use Rattle.std.proofs.lemmas.List.Sums.{sum_by-cons}
use Rattle.fringe.specs.Tickets.{Ticketed, by_ticket}
use Rattle.fringe.specs.Slots.{in_slot, key_of, key_row, opened}

put_length : (o : Ticketed) (os : List Ticketed) → length (by_ticket o os) ≡ suc (length os)
put_length o [] = refl
put_length o (x ∷ os) = elim (nat_lt o.ticket x.ticket) as (λ b. length (cond b (o ∷ x ∷ os) (x ∷ by_ticket o os)) ≡ suc (suc (length os))) [ true ↦ refl | false ↦ ap suc (put_length o os) ]

-- each slot has an open one or no key
pub opened_count : (slots : List (Option Ticketed)) → length slots ≡ length (opened slots) + count_by is_none (map key_of slots)
opened_count [] = refl
opened_count (None ∷ slots) =
    let k = opened_count slots in
    let l : length (opened (None ∷ slots)) ≡ length (opened slots) = refl in
    let n : count_by is_none (map key_of (None ∷ slots)) ≡ 1 + count_by is_none (map key_of slots) = sum_by-cons (λ (x : Option (List ℤ)). cond (is_none x) 1 0) None (map key_of slots) in
    omega arith
opened_count (Some o ∷ slots) =
    let k = opened_count slots in
    let l : length (opened (Some o ∷ slots)) ≡ suc (length (opened slots)) = put_length o (opened slots) in
    let n : count_by is_none (map key_of (Some o ∷ slots)) ≡ 0 + count_by is_none (map key_of slots) = sum_by-cons (λ (x : Option (List ℤ)). cond (is_none x) 1 0) (Some (key_row o)) (map key_of slots) in
    omega arith

-- one more or less
pub put_count : (o : Ticketed) (os : List Ticketed) → length (by_ticket o os) ≡ length os + 1
put_count o os = let k = put_length o os in omega arith

-- those of the first slots
pub taken_count : (slots : List (Option Ticketed)) (n : ℕ) → length (opened (take n slots)) ≤ length (opened slots)
taken_count [] zero = omega arith
taken_count [] (suc n) = omega arith
taken_count (x ∷ slots) zero = omega arith
taken_count (None ∷ slots) (suc n) = taken_count slots n
taken_count (Some o ∷ slots) (suc n) = let k = taken_count slots n in let a = put_length o (opened (take n slots)) in let b = put_length o (opened slots) in omega arith

some_next : (slots : List (Option Ticketed)) (n : ℕ) (o : Ticketed) → in_slot slots n ≡ Some o → length (opened (take (suc n) slots)) ≡ length (opened (take n slots)) + 1
some_next [] n o at = absurd (cc)
some_next (None ∷ slots) zero o at = absurd (cc)
some_next (Some p ∷ slots) zero o at = refl
some_next (None ∷ slots) (suc n) o at = some_next slots n o at
some_next (Some p ∷ slots) (suc n) o at =
    let k = some_next slots n o at in
    let a = put_length p (opened (take n slots)) in let b = put_length p (opened (take (suc n) slots)) in omega arith

none_next : (slots : List (Option Ticketed)) (n : ℕ) → in_slot slots n ≡ None → length (opened (take (suc n) slots)) ≡ length (opened (take n slots))
none_next [] zero at = refl
none_next [] (suc n) at = refl
none_next (None ∷ slots) zero at = refl
none_next (Some p ∷ slots) zero at = absurd (cc)
none_next (None ∷ slots) (suc n) at = none_next slots n at
none_next (Some p ∷ slots) (suc n) at =
    let k = none_next slots n at in
    let a = put_length p (opened (take n slots)) in let b = put_length p (opened (take (suc n) slots)) in omega arith

-- one slot more, which has one or none
pub some_count : (slots : List (Option Ticketed)) (n : ℕ) (o : Ticketed) → in_slot slots n ≡ Some o → length (opened (take (n + 1) slots)) ≡ length (opened (take n slots)) + 1
some_count slots n o at = ap (λ k. length (opened (take k slots))) (add-one n) ∙ some_next slots n o at

pub none_count : (slots : List (Option Ticketed)) (n : ℕ) → in_slot slots n ≡ None → length (opened (take (n + 1) slots)) ≡ length (opened (take n slots))
none_count slots n at = ap (λ k. length (opened (take k slots))) (add-one n) ∙ none_next slots n at
