-- The rule of a turn: one word, which is 0 while the turn is free, and one slot, where the value then is.
use Rattle.std.specs.Prelude.{◌≡◌, ◌≢◌, ℕ, ℤ, ◌+◌, ◌-◌, ◌<◌, ◌≤◌, true, false, List, [], ◌∷◌, ◌++◌, length, slice_index, Option, None, Some}
use Rattle.std.specs.List.{AllByRecursion}
use mathlib.Core.Option.{some}
use lib.ListN.{get_elem?}
use Rattle.atomic_table.specs.Table.{State, Me}
use Rattle.turn.specs.History.{HasMoved}
use Rattle.turn.specs.Order.{NoLess, greater}
use Rattle.turn.specs.declared.view.SeatView.{SeatView}
use Rattle.turn.specs.declared.view.TurnKey.{TurnKey}

module _ {V : Type 0} where
  -- for how many seats the views stand
  abbrev pub parts_of : List (SeatView V) → ℕ
  parts_of [] = 0
  parts_of (w ∷ ws) = w.parts + parts_of ws

  -- the first seat, which stands for all until the others are made
  abbrev pub first_view : TurnKey V → SeatView V
  first_view key = record { first = Some key.first.value; number = 0; parts = key.seats; last = true; also = []; seen = None; out = None; holds = false; had = None }

  -- the last seat, after the next one was made of it: it stands for one
  abbrev pub lone_view : SeatView V → SeatView V
  lone_view v = record v { parts = 1; last = false }

  -- the next seat, which stands for all that are still to be made
  abbrev pub next_of : SeatView V → SeatView V
  next_of v = record { first = v.first; number = v.number + 1; parts = v.parts - 1; last = true; also = []; seen = None; out = None; holds = false; had = None }

  -- what a seat knows once it holds the value
  abbrev pub holding : SeatView V → V → SeatView V
  holding v value = record v { holds = true; had = Some value }

  -- two seats as one, which has seen what either saw
  abbrev pub joined : SeatView V → SeatView V → SeatView V
  joined v w = record v { parts = v.parts + w.parts; last = false; also = (w.number, w.out) ∷ (v.also ++ w.also); seen = greater v.seen w.seen }

  -- what a seat that is given up knows
  abbrev pub spent_view : SeatView V
  spent_view = record { first = None; number = 0; parts = 0; last = false; also = []; seen = None; out = None; holds = false; had = None }

  -- the value is at home, and no seat holds the turn
  pub record IsFree (value : V) (s : State (Option V) (SeatView V)) : Type 0 where
    pub home : get_elem? s.homes 0 ≡ some (some (Some value))
    pub idle : (j : ℕ) (w : SeatView V) → get_elem? s.views j ≡ some w → w.holds ≡ false

  -- one seat holds the turn, and this is what it found
  pub record IsHeld (value : V) (s : State (Option V) (SeatView V)) : Type 0 where
    pub holder : ℕ
    pub view : SeatView V
    pub there : get_elem? s.views holder ≡ some view
    pub holds_is : view.holds ≡ true
    pub found_is : view.had ≡ Some value
    pub alone : (j : ℕ) (w : SeatView V) → get_elem? s.views j ≡ some w → w.holds ≡ true → j ≡ holder

  module _ {T : Type 0} (tag : V → T) (seen : V → Option ℤ) (out : V → ℕ → Option (List ℕ)) where
    -- what a seat had out that was joined to another is still out, and no seat has its number
    pub record IsStill (value : V) (views : List (SeatView V)) (p : ℕ × Option (List ℕ)) : Type 0 where
      pub out_is : out value p.0 ≡ p.1
      pub view : SeatView V
      pub there : get_elem? views p.0 ≡ some view
      pub spent : view.parts ≡ 0

    -- what a seat that stands for some knows of the value that was left last
    pub record Knows (key : TurnKey V) (value : V) (views : List (SeatView V)) (place : ℕ) (w : SeatView V) : Type 0 where
      pub first_is : w.first ≡ Some key.first.value
      pub no_less : NoLess w.seen (seen value)
      pub out_is : out value w.number ≡ w.out
      pub number_is : w.number ≡ place
      pub still : AllByRecursion (IsStill value views) w.also
      pub last_is : w.last ≡ true → (place + 1 ≡ length views) × (place + w.parts ≡ key.seats)

    -- The value is what was left last, after moves from the first one. It is at home, or one seat holds the turn and found it.
    pub record IsTurn (moves : V → V → ℕ → Type 0) (key : TurnKey V) (s : State (Option V) (SeatView V)) : Type 0 where
      pub one_word : length s.words ≡ 1
      pub value : V
      pub tag_is : tag value ≡ tag key.first.value
      pub past : HasMoved moves key.first.value value
      pub parts_are : parts_of s.views ≡ key.seats
      pub known : (j : ℕ) (w : SeatView V) → get_elem? s.views j ≡ some w → 0 < w.parts → Knows key value s.views j w
      pub few : length s.views ≤ key.seats
      pub rest : (n : ℕ) → length s.views ≤ n → out value n ≡ None
      pub spent : (j : ℕ) (w : SeatView V) → get_elem? s.views j ≡ some w → w.parts ≡ 0 → w.holds ≡ false
      pub free : slice_index s.words 0 ≡ 0 → IsFree value s
      pub held : slice_index s.words 0 ≢ 0 → IsHeld value s

    -- after it left this value
    abbrev pub left_at : SeatView V → V → SeatView V
    left_at v value = record v { seen = seen value; out = out value v.number; holds = false; had = Some value }

    -- what a seat finds: a value with the tag, no less than it saw, with its own decisions still out
    pub record Finds (w : SeatView V) (value : V) : Type 0 where
      pub first : V
      pub first_is : w.first ≡ Some first
      pub tag_is : tag value ≡ tag first
      pub no_less : NoLess w.seen (seen value)
      pub out_is : out value w.number ≡ w.out

    -- a try finds the turn free and takes it, or changes nothing
    abbrev pub Takes : Me (Option V) (SeatView V) → ℕ → Me (Option V) (SeatView V) → Type 0
    Takes m n after =
        (n ≡ 0 → (value : V) × (after ≡ (holding m.0 value, (0, Some value) ∷ [])) × Finds m.0 value)
        × (n ≢ 0 → after ≡ m)

    -- a seat leaves with a value
    abbrev pub Leaves : Me (Option V) (SeatView V) → Me (Option V) (SeatView V) → Type 0
    Leaves m after = (value : V) × (m.1 ≡ (0, Some value) ∷ []) × (after ≡ (left_at m.0 value, []))
