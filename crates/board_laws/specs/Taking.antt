-- Which open subproblem is taken, and what Take answers.
use Rattle.std.specs.Prelude.{ℕ, ◌+◌, ◌-◌, ◌^◌, Bool, cond, ◌||◌, List, [], ◌∷◌, nat_eq, nat_lt, slice_set, Option, Some, None}
use Rattle.dp_model.specs.Subproblem.{Subproblem}
use Rattle.fringe.specs.Firsts.{first_taken, IsFirstTaken}
use Rattle.fringe.specs.Tickets.{without, Ticketed}
use Rattle.board_laws.specs.declared.cause.Cause.{Cause}
use Rattle.board_laws.specs.declared.cause.Cause.TheVariants.{Budget}
use Rattle.board_laws.specs.declared.taken.Taken.{Taken}
use Rattle.board_laws.specs.declared.taken.Taken.TheVariants.{Sub, WaitForOthers, Finished, Halted}
use Rattle.board_laws.specs.Board.{BoardState, is_explored}

-- the slot has the first of the list
abbrev pub HasFirst : List Ticketed → Option Ticketed → Type 0
HasFirst os None = ⊥
HasFirst os (Some o) = IsFirstTaken os o

-- the budget is used up, or tickets come near to their end
abbrev pub is_budget_up : BoardState → Bool
is_budget_up b = nat_eq b.taken b.settings.budget || nat_lt (2 ^ 64 - 2 ^ 29) b.next_ticket

-- what Take answers where no cause is held
abbrev pub take_open : BoardState → List Ticketed → Taken
take_open b [] = WaitForOthers
take_open b (o ∷ os) = cond (is_budget_up b) (Halted Budget) Sub

-- what Take answers
abbrev pub take_unless : BoardState → Option Cause → Taken
take_unless b (Some cause) = Halted cause
take_unless b None = take_open b b.open_ones

-- what Take answers: the first rule that applies
abbrev pub take_gives : BoardState → Taken
take_gives b = cond (is_explored b) Finished (take_unless b b.cause)

-- the board with a subproblem moved into a slot
abbrev pub checked_out : BoardState → ℕ → Option Ticketed → BoardState
checked_out b who None = b
checked_out b who (Some o) = record b { open_ones = without o.ticket b.open_ones; slots = slice_set b.slots who (Some o); taken = b.taken + 1 }

-- the board after an answer of Take: on `Sub` the first open subproblem goes to the worker's slot
abbrev pub after_answer : BoardState → ℕ → Taken → BoardState
after_answer b who Sub = checked_out b who (first_taken b.open_ones)
after_answer b who WaitForOthers = b
after_answer b who Finished = b
after_answer b who (Halted cause) = b

-- Take
abbrev pub after_take : BoardState → ℕ → BoardState
after_take b who = after_answer b who (take_gives b)

-- what the copy holds after Take
abbrev pub copy_of : Subproblem → Option Ticketed → Subproblem
copy_of c None = c
copy_of c (Some o) = o.subproblem

-- what the caller's subproblem is after an answer: on `Sub` that of the first open one
abbrev pub handed_out : Taken → BoardState → Subproblem → Subproblem
handed_out Sub b c = copy_of c (first_taken b.open_ones)
handed_out WaitForOthers b c = c
handed_out Finished b c = c
handed_out (Halted cause) b c = c
