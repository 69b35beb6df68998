-- Rounds and workers that cannot go on.
use Rattle.std.specs.Prelude.{◌≡◌, ◌⊎◌, ℕ, ℤ, List, [], Option, Some, None}
use Rattle.disk.specs.Counts.{Rose}
use Rattle.disk.specs.declared.disk.Disk.{Ghosts}
use Rattle.turn.specs.declared.turn.Seat.{Seat}
use Rattle.turn.specs.declared.turn.Turn.{Turn}
use Rattle.turn.specs.Order.{NoLess}
use Rattle.turn.specs.Seats.{first_of, seen_of, out_of, left_by}
use Rattle.dp_model.specs.Dp.{Dp}
use Rattle.board_laws.specs.Board.{BoardState, incumbent_value}
use Rattle.board_laws.specs.Steps.{halted, given_back}
use Rattle.board_laws.specs.declared.cause.Cause.TheVariants.{Journal as of_journal}
use Rattle.board.specs.Moves.{out_at}
use Rattle.kept_board.specs.Moves.{IsMove}
use Rattle.kept_board.specs.View.{KeptView, tag_of}
use Rattle.kept_board.specs.declared.error.KeptError.{KeptError}
use Rattle.kept_board.specs.declared.error.KeptError.TheVariants.{Journal, OutOfMemory}
use Rattle.kept_board.specs.declared.tag.KeptTag.{KeptTag}
use Rattle.search_workers.specs.Later.{NoRoundFollows}
use Rattle.search_workers.specs.Offered.{IsOffered}
use Rattle.search_workers.specs.declared.workers.stopped.Stopped.{Stopped}
use Rattle.search_workers.specs.declared.workers.stopped.Stopped.TheVariants.{GaveBack, Refused}

-- the board as a refused step leaves it: want of memory changes nothing, and a fault of the disk halts the search for the journal
abbrev pub refused_by : KeptError → BoardState → BoardState
refused_by OutOfMemory b = b
refused_by Journal b = halted b of_journal

-- solutions were offered, and then a step was refused
pub record IsRefused (dp : Dp) (b : BoardState) (error : KeptError) (later : BoardState) : Type 0 where
  pub last : BoardState
  pub offered : IsOffered dp b last
  pub is : later ≡ refused_by error last

-- what a worker that stopped has out: nothing once it gave back, else what it had
abbrev pub IsLeftOut : Stopped → Option (List ℕ) → Option (List ℕ) → Type 0
IsLeftOut GaveBack before out = out ≡ None
IsLeftOut (Refused error) before out = out ≡ before

module _ {D : Type 0} (on : Ghosts D) where
  -- the search is halted for the journal, since the disk has failed
  pub record IsHalted (found : KeptView D) : Type 0 where
    pub cause : found.board.board.cause ≡ Some of_journal
    pub rose : Rose (on.faults found.made) (on.faults found.disk)

  -- why this worker stops that found this and left that: the search was halted for the journal, and it gave back; a call of the disk
  -- failed and halted the search; or there was no memory, and nothing has changed
  abbrev pub IsWhy : ℕ → Stopped → KeptView D → KeptView D → Type 0
  IsWhy who GaveBack found left = IsHalted found × (left.board.board ≡ given_back found.board.board who)
  IsWhy who (Refused Journal) found left = Rose (on.faults found.disk) (on.faults left.disk) × (left.board.board ≡ halted found.board.board of_journal)
  IsWhy who (Refused OutOfMemory) found left = (left.board.board ≡ found.board.board) × (left.disk ≡ found.disk)

module _ {D : Type 0} (on : Ghosts D) where
  -- the board is as it was found, or a call of the disk failed and halted the search
  abbrev pub IsSameOrHalted : KeptView D → KeptView D → Type 0
  IsSameOrHalted found left = (left.board.board ≡ found.board.board)
      ⊎ (Rose (on.faults found.disk) (on.faults left.disk) × (left.board.board ≡ halted found.board.board of_journal))

-- the value that the seat left last is of its turn's search, and the seat knows the incumbent's value and what it has out itself as they
-- are there
pub record HasLeft {D : Type 0} (turn : Turn (KeptView D) (KeptTag D)) (seat : Seat (KeptView D)) : Type 0 where
  pub left : KeptView D
  pub left_is : left_by seat ≡ Some left
  pub same : tag_of left ≡ tag_of (first_of turn)
  pub seen_is : seen_of seat ≡ incumbent_value left.board.board
  pub out_is : out_of seat ≡ out_at left.board.board seat.number

-- no round can follow on the board that the seat left last
pub record HasEndedAt {D : Type 0} (turn : Turn (KeptView D) (KeptTag D)) (seat : Seat (KeptView D)) : Type 0 where
  pub last : HasLeft turn seat
  pub ended : NoRoundFollows last.left.board.board

-- nothing is open on the board that the seat left last, and no cause is held
pub record HasNothingOpen {D : Type 0} (turn : Turn (KeptView D) (KeptTag D)) (seat : Seat (KeptView D)) : Type 0 where
  pub last : HasLeft turn seat
  pub none : last.left.board.board.open_ones ≡ []
  pub going : last.left.board.board.cause ≡ None

-- a seat found a value of its turn's search and left its board as it was, or a call of the disk failed and halted the search
pub record HasFoundSame {D : Type 0} (on : Ghosts D) (turn : Turn (KeptView D) (KeptTag D)) (seat : Seat (KeptView D)) : Type 0 where
  pub last : HasLeft turn seat
  pub found : KeptView D
  pub same : tag_of found ≡ tag_of (first_of turn)
  pub left_same : IsSameOrHalted on found last.left

module _ {D : Type 0} (on : Ghosts D) (meaning : List ℤ → Dp) where
  -- A worker stopped for this reason. It found a value of its turn's search, with an incumbent no less than what its seat had seen before
  -- and with what the seat had out; and it left the same, or what one move of the seat's number made of it.
  pub record WasStopped (turn : Turn (KeptView D) (KeptTag D)) (before seat : Seat (KeptView D)) (stopped : Stopped) : Type 0 where
    pub last : HasLeft turn seat
    pub found : KeptView D
    pub same : tag_of found ≡ tag_of (first_of turn)
    pub no_less : NoLess (seen_of before) (incumbent_value found.board.board)
    pub out_is : out_at found.board.board seat.number ≡ out_of before
    pub move : (last.left ≡ found) ⊎ IsMove on meaning found last.left seat.number
    pub why : IsWhy on seat.number stopped found last.left
