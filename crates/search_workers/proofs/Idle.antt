-- Boards with nothing out.
use Rattle.std.proofs.Common.{◌≡◌, ℕ, zero, suc, List, [], ◌∷◌, map, length, slice_get, Option, Some, None, option_map, refl, ap, arith}
use Rattle.std.specs.List.{All, range_with_len}
use Rattle.turn.specs.Seats.{first_of, number_of, IsFresh}
use Rattle.turn.specs.declared.turn.Seat.{Seat}
use Rattle.turn.specs.declared.turn.Turn.{Turn}
use Rattle.turn.proofs.Numbers.{all_within}
use Rattle.dp_model.specs.Dp.{Dp}
use Rattle.fringe.specs.Tickets.{Ticketed}
use Rattle.board_laws.specs.Board.{BoardState, slot_content, full_slots}
use Rattle.board.specs.Moves.{out_at}
use Rattle.kept_board.specs.View.{KeptView}
use Rattle.kept_board.specs.declared.tag.KeptTag.{KeptTag}
use Rattle.search_workers.specs.Later.{IsLater}
use Rattle.search_workers.specs.Ready.{IsReadySeat}
use Rattle.search_workers.proofs.Histories.{HasRun}

decisions_of : Option (Option Ticketed) → Option (List ℕ)
decisions_of s = option_map (λ o. o.subproblem.decisions) (slot_content s)

not_some : (o : Ticketed) (os : List Ticketed) → o ∷ os ≡ [] → ⊥
not_some o os e = cc

nothing_in : (slots : List (Option Ticketed)) → full_slots slots ≡ [] → (who : ℕ) → decisions_of (slice_get slots who) ≡ None
unfolding decisions_of
nothing_in [] e who = refl
nothing_in (None ∷ slots) e zero = refl
nothing_in (None ∷ slots) e (suc who) = nothing_in slots e who
nothing_in (Some o ∷ slots) e who = absurd (not_some o (full_slots slots) e)

-- where no slot is full, no worker has anything out
pub nothing_at : (b : BoardState) → full_slots b.slots ≡ [] → (who : ℕ) → out_at b who ≡ None
unfolding decisions_of
nothing_at b e who = nothing_in b.slots e who

some_out : (o : Ticketed) → Some o.subproblem.decisions ≡ None → ⊥
some_out o e = cc

none_full : (slots : List (Option Ticketed)) → ((who : ℕ) → decisions_of (slice_get slots who) ≡ None) → full_slots slots ≡ []
unfolding decisions_of
none_full [] h = refl
none_full (None ∷ slots) h = none_full slots (λ who. h (suc who))
none_full (Some o ∷ slots) h = absurd (some_out o (h 0))

-- where no worker has anything out, no slot is full
pub idle_slots : (b : BoardState) → ((who : ℕ) → out_at b who ≡ None) → full_slots b.slots ≡ []
unfolding decisions_of
idle_slots b h = none_full b.slots h

same_idle : (ss ts : List (Option Ticketed)) → length ss ≡ length ts → full_slots ss ≡ [] → full_slots ts ≡ [] → ss ≡ ts
same_idle [] [] e f g = refl
same_idle [] (t ∷ ts) e f g = absurd (omega arith)
same_idle (s ∷ ss) [] e f g = absurd (omega arith)
same_idle (None ∷ ss) (None ∷ ts) e f g = ap (λ l. None ∷ l) (same_idle ss ts (omega arith) f g)
same_idle (Some o ∷ ss) (t ∷ ts) e f g = absurd (not_some o (full_slots ss) f)
same_idle (None ∷ ss) (Some o ∷ ts) e f g = absurd (not_some o (full_slots ts) g)

-- a run between boards with nothing out
pub idle-later : (dp : Dp) (b later : BoardState) → HasRun dp b later → full_slots b.slots ≡ [] → full_slots later.slots ≡ [] → IsLater dp b later
idle-later dp b later h idle none = record { steps = h.steps; run = h.run; slots = same_idle later.slots b.slots h.long none idle }

-- seats that nobody took the turn by yet are ready
pub ready : {D : Type 0} (turn : Turn (KeptView D) (KeptTag D)) (items : List (Seat (KeptView D))) (n : ℕ) → All (IsFresh turn) items → map number_of items ≡ range_with_len 0 n → (first_of turn).board.board.settings.workers ≡ n → All (IsReadySeat turn) items
ready turn items n fresh numbers wide k d lt =
    let f = fresh k d lt in
    record { worker = record { own = f.own; within = let w = all_within items n numbers k d lt in omega arith }; nothing_out = f.nothing_out }
