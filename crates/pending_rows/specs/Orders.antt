-- Orders: lists in which each number below a limit stands once.
use Rattle.std.specs.Prelude.{ℕ, Bool, true, not, ◌&&◌, nat_eq, nat_lt, List, [], ◌∷◌, length}
use Rattle.std.specs.List.{list_any, list_all}

-- no number stands in the list twice
abbrev pub are_different : List ℕ → Bool
are_different [] = true
are_different (v ∷ vs) = not (list_any (λ u. nat_eq u v) vs) && are_different vs

-- each number below n stands in the list once
abbrev pub is_order : ℕ → List ℕ → Bool
is_order n vs = nat_eq (length vs) n && (list_all (λ v. nat_lt v n) vs && are_different vs)
