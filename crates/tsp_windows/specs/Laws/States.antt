-- Rows and the states that they stand for.
use Rattle.std.proofs.Common.{◌≡◌, ℕ, ◌≤◌, Bool, false, ap, ap₂, ◌∙◌}
use Rattle.std.proofs.Math.Path.{fun_ext}
use Rattle.std.proofs.lemmas.List.{take_at, drop_at}
use Rattle.node_sets.specs.Sets.{has, row_of, words_for}
use Rattle.node_sets.proofs.Made.{length-row_of}
use Rattle.pending_rows.specs.Pending as rows
use Rattle.pending_rows.specs.Pending.{Pending}
use Rattle.pending_rows.proofs.RowParts as row_laws
use Rattle.pending_rows.proofs.RowParts.{IsWithin, has-row_of-all, words_enough}
use Rattle.tsp_windows.specs.States.{TourState, positions_of, pending_of, shown, row_for}

-- no set of the state has a member at or above n
pub record IsWithinNodes (n : ℕ) (t : TourState) : Type 0 where
  pub positions : (v : ℕ) → n ≤ v → t.positions v ≡ false
  pub pending : IsWithin n t.pending

pub positions_of-row_for : (words : ℕ) (t : TourState) → positions_of words (row_for words t) ≡ row_of words t.positions
positions_of-row_for words t = take_at (row_of words t.positions) _ words (length-row_of words t.positions)

pub pending_of-row_for : (words : ℕ) (t : TourState) → pending_of words (row_for words t) ≡ rows.row_for words t.pending
pending_of-row_for words t = drop_at (row_of words t.positions) _ words (length-row_of words t.positions)

-- a row stands for the state that it was made for
pub shown-row_for : (n : ℕ) (t : TourState) → IsWithinNodes n t → shown (words_for n) (row_for (words_for n) t) ≡ t
unfolding shown
shown-row_for n t h =
    ap₂ (λ (p : ℕ → Bool) (r : Pending). let s : TourState = record { positions = p; pending = r } in s)
    (ap has (positions_of-row_for (words_for n) t) ∙ fun_ext (has-row_of-all (words_for n) n t.positions (words_enough n) h.positions))
    (ap (rows.shown (words_for n)) (pending_of-row_for (words_for n) t) ∙ row_laws.shown-row_for n t.pending h.pending)
