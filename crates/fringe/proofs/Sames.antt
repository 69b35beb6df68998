-- Where no entry of a fold has the one of a depth and state, no slot has it.
use Rattle.std.proofs.Common.{◌≡◌, ℕ, ℤ, ◌<◌, List, length, Bool, true, false, Option, Some, None, refl, sym, ◌∙◌, ap₂, subst}
use Rattle.fringe.specs.Tickets.{Ticketed}
use Rattle.fringe.specs.Fringe.{is_same}
use Rattle.fringe.proofs.Rows.{same-depth, same-row}
use Rattle.fringe.specs.declared.index.Node.{Node}
use Rattle.dp_model.specs.Folds.{fold_of}
use Rattle.fringe.specs.Index.{entry_fold, entry_slot}
use Rattle.fringe.specs.Slots.{AreIndexed, in_slot, is_same_in}

pub none_same : (slots : List (Option Ticketed)) (nodes : List Node) (depth : ℕ) (row : List ℤ) → AreIndexed slots nodes
    → ((j : ℕ) → j < length nodes → entry_fold nodes j ≡ fold_of depth row → is_same_in depth row (in_slot slots (entry_slot nodes j)) ≡ false)
    → (s : ℕ) → is_same_in depth row (in_slot slots s) ≡ false
none_same slots nodes depth row entered none s =
    let go : (x : Option Ticketed) → in_slot slots s ≡ x → is_same_in depth row x ≡ false =
    λ x. elim x as (λ x. in_slot slots s ≡ x → is_same_in depth row x ≡ false) [
      | None ↦ λ e. refl
      | Some o ↦ λ e. (let turn : (b : Bool) → is_same depth row o ≡ b → b ≡ false =
          λ b. elim b as (λ b. is_same depth row o ≡ b → b ≡ false) [
            | true ↦ λ t. (
                let n = entered s o e in
                let fold = n.fold_is ∙ sym (ap₂ (λ d r. fold_of d r) (same-depth depth row o t) (same-row depth row o t)) in
                let k : is_same_in depth row (in_slot slots (entry_slot nodes n.place)) ≡ false = none n.place n.within fold in
                let k2 : is_same_in depth row (in_slot slots s) ≡ false = subst (λ m. is_same_in depth row (in_slot slots m) ≡ false) n.slot_is k in
                let k3 : is_same_in depth row (Some o) ≡ false = subst (λ x. is_same_in depth row x ≡ false) e k2 in
                sym t ∙ k3)
            | false ↦ λ t. refl
          ] in turn (is_same depth row o) refl)
    ] in
    go (in_slot slots s) refl
