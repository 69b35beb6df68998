-- What clauses say of a turn, a seat and a guard.
use Rattle.std.specs.Prelude.{◌≡◌, ℕ, ℤ, ◌+◌, ◌-◌, ◌<◌, ◌++◌, map, length, true, false, List, [], ◌∷◌, Option, None, Some}
use Rattle.atomic_table.specs.declared.shared.Seat.{Seat as Place}
use Rattle.std.specs.List.{All}
use Rattle.turn.specs.Order.{NoLess}
use Rattle.turn.specs.declared.view.SeatView.{SeatView}
use Rattle.turn.specs.declared.turn.Seat.{Seat}
use Rattle.turn.specs.declared.turn.Turn.{Turn}

module _ {V : Type 0} where
  -- the seen value of what the seat left last
  abbrev pub seen_of : Seat V → Option ℤ
  seen_of s = s.place.me.0.seen

  -- the decisions that it then had checked out
  abbrev pub out_of : Seat V → Option (List ℕ)
  out_of s = s.place.me.0.out

  -- the value that the seat left last; none where it has not left yet
  abbrev pub left_by : Seat V → Option V
  left_by s = s.place.me.0.had

  -- the number of a seat
  abbrev pub number_of : Seat V → ℕ
  number_of s = s.number

  -- its number, with what it has out
  abbrev pub pair_of : Seat V → ℕ × Option (List ℕ)
  pair_of s = (s.number, out_of s)

  module _ {T : Type 0} where
    -- the value that the turn was made with
    abbrev pub first_of : Turn V T → V
    first_of t = t.table.shared.key.first.value

    -- how many seats it was made with
    abbrev pub seats_of : Turn V T → ℕ
    seats_of t = t.table.shared.key.seats

    -- the view of the seat that was made last
    abbrev pub maker : Turn V T → ℕ → ℕ → SeatView V
    maker t number seats = record { first = Some (first_of t); number = number; parts = seats - number; last = true; also = []; seen = None; out = None; holds = false; had = None }

    -- The seat is one of the turn's. It does not hold it.
    pub record IsSeatOf (t : Turn V T) (s : Seat V) : Type 0 where
      pub table_is : s.place.table_id ≡ t.table.shared.table_id
      pub first_is : s.place.me.0.first ≡ Some (first_of t)
      pub one_part : s.place.me.0.parts ≡ 1
      pub alone : s.place.me.0.also ≡ []
      pub idle : s.place.me.0.holds ≡ false
      pub empty : s.place.me.1 ≡ []

    -- The seat is one of the turn's, holds it, and found this value.
    pub record IsHolding (t : Turn V T) (s : Seat V) (found : V) : Type 0 where
      pub table_is : s.place.table_id ≡ t.table.shared.table_id
      pub first_is : s.place.me.0.first ≡ Some (first_of t)
      pub one_part : s.place.me.0.parts ≡ 1
      pub alone : s.place.me.0.also ≡ []
      pub holds_is : s.place.me.0.holds ≡ true
      pub found_is : s.place.me.0.had ≡ Some found
      pub out_is_here : s.place.me.1 ≡ (0, None) ∷ []

    -- the seat is one of the turn's, which nobody took it by yet
    pub record IsFresh (t : Turn V T) (s : Seat V) : Type 0 where
      pub own : IsSeatOf t s
      pub nothing_seen : seen_of s ≡ None
      pub nothing_out : out_of s ≡ None
      pub nothing_left : left_by s ≡ None

    -- the last seat's place, which stands for all seats from this number on
    pub record IsMaker (t : Turn V T) (p : Place (Option V) (SeatView V)) (number seats : ℕ) : Type 0 where
      pub table_is : p.table_id ≡ t.table.shared.table_id
      pub me_is : p.me ≡ (maker t number seats, [])
      pub count_is : seats_of t ≡ seats

    -- The place stands for all these seats, which are all there are, and does not hold the turn
    pub record IsWhole (t : Turn V T) (p : Place (Option V) (SeatView V)) (all : List (Seat V)) : Type 0 where
      pub table_is : p.table_id ≡ t.table.shared.table_id
      pub all_parts : p.me.0.parts ≡ seats_of t
      pub idle : p.me.0.holds ≡ false
      pub empty : p.me.1 ≡ []
      pub others : List (Seat V)
      pub first : Seat V
      pub all_is : all ≡ others ++ first ∷ []
      pub seen : All (λ s. NoLess (seen_of s) p.me.0.seen) (others ++ first ∷ [])
      pub also_is : p.me.0.also ≡ map pair_of others
      pub own_is : (p.me.0.number, p.me.0.out) ≡ pair_of first

    -- all the seats but these are one place by now
    pub record IsJoining (t : Turn V T) (p : Place (Option V) (SeatView V)) (left all : List (Seat V)) : Type 0 where
      pub table_is : p.table_id ≡ t.table.shared.table_id
      pub empty : p.me.1 ≡ []
      pub idle : p.me.0.holds ≡ false
      pub some_parts : 0 < p.me.0.parts
      pub parts_are : p.me.0.parts + length left ≡ seats_of t
      pub own : All (IsSeatOf t) left
      pub others : List (Seat V)
      pub first : Seat V
      pub all_is : all ≡ left ++ (others ++ first ∷ [])
      pub seen : All (λ s. NoLess (seen_of s) p.me.0.seen) (others ++ first ∷ [])
      pub also_is : p.me.0.also ≡ map pair_of others
      pub own_is : (p.me.0.number, p.me.0.out) ≡ pair_of first
