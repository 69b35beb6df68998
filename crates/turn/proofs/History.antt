-- Moves one after the other.
use Rattle.std.proofs.Common.{◌≡◌, ℕ, List, [], ◌∷◌, ◌++◌, ◌⊎◌, ⊎_elim, subst, sym, refl}
use Rattle.turn.specs.History.{Moved, HasMoved}

module _ {V : Type 0} (moves : V → V → ℕ → Type 0) where
  moved_more : (first : V) (line : List (ℕ × V)) (last next : V) (number : ℕ) → Moved moves first line last → moves last next number → Moved moves first (line ++ (number, next) ∷ []) next
  moved_more first [] last next number h move = (subst (λ v. moves v next number) (sym h) move, refl)
  moved_more first (m ∷ line) last next number h move = (h.0, moved_more m.1 line last next number h.1 move)

  pub not_moved : (first : V) → HasMoved moves first first
  not_moved first = record { line = []; moved = refl }

  -- no move more, or one
  pub moved_once : (first last next : V) (number : ℕ) → HasMoved moves first last → (next ≡ last) ⊎ moves last next number → HasMoved moves first next
  moved_once first last next number h move = ⊎_elim
      (λ same. subst (HasMoved moves first) (sym same) h)
      (λ one. record { line = h.line ++ (number, next) ∷ []; moved = moved_more first h.line last next number h.moved one }) move
