-- The steps of a board beside Take: Improve, Finish, GiveBack and Halt, and the first board.
use Rattle.std.specs.Prelude.{ℕ, zero, suc, ◌+◌, ℤ, cond, List, [], ◌∷◌, ◌++◌, length, map, filter, nat_eq, slice_set, Option, Some, None}
use Rattle.dp_model.specs.Solution.{Solution}
use Rattle.dp_model.specs.Dp.{Dp}
use Rattle.dp_model.specs.Numbers.{is_above, add_some}
use Rattle.dp_model.specs.Subproblem.{Subproblem}
use Rattle.fringe.specs.Pushing.{after_push}
use Rattle.fringe.specs.Tickets.{Ticketed}
use Rattle.board_laws.specs.declared.cause.Cause.{Cause}
use Rattle.board_laws.specs.declared.cause.Cause.TheVariants.{Budget, Memory, Journal}
use Rattle.board_laws.specs.declared.fate.Fate.{Fate}
use Rattle.board_laws.specs.declared.settings.Settings.{Settings}
use Rattle.board_laws.specs.Board.{BoardState, reach_of, reach, slot_at}
use Rattle.board_laws.specs.Entering.{entering, replaced, without_all, entry_of, put_all}
use Rattle.board_laws.specs.Fates.{fates_on, tickets_after}

-- Improve, by a better solution: it is the incumbent, and what is open is dropped where its bound is at most the new reach
abbrev pub improved : BoardState → Solution → BoardState
improved b best = record b { incumbent = Some best; open_ones = filter (λ o. is_above (reach_of b.settings.within (Some best.value)) o.subproblem.bound) b.open_ones }

-- Finish by these fates: the slot becomes empty, and the children enter in order
abbrev pub finished_with : Dp → BoardState → ℕ → List Subproblem → List Fate → BoardState
finished_with dp b who cs fs = record b {
  open_ones = without_all (replaced fs) b.open_ones ++ entering cs fs;
  slots = slice_set b.slots who None;
  entries = put_all b.settings.table_limit b.entries (map (entry_of dp) (entering cs fs));
  finished = b.finished + 1;
  next_ticket = tickets_after b.next_ticket fs;
}

-- Finish
abbrev pub finished_by : Dp → BoardState → ℕ → List Subproblem → BoardState
finished_by dp b who cs = finished_with dp b who cs (fates_on dp b cs)

-- the open ones after a push by the fringe's rule, unless the bound is at most the reach
abbrev pub back_among : Option ℤ → Ticketed → List Ticketed → List Ticketed
back_among reach o os = cond (is_above reach o.subproblem.bound) (after_push o os) os

-- the board with what a slot had open again
abbrev pub given_back_from : BoardState → ℕ → Option Ticketed → BoardState
given_back_from b who None = b
given_back_from b who (Some o) = record b { open_ones = back_among (reach b) o b.open_ones; slots = slice_set b.slots who None }

-- GiveBack: the slot becomes empty, and what it had is open again under its own ticket, by the fringe's rule
abbrev pub given_back : BoardState → ℕ → BoardState
given_back b who = given_back_from b who (slot_at b who)

-- the cause that is held after a halt: a journal's stays for good, want of memory only where none is held
abbrev pub cause_after : Option Cause → Cause → Option Cause
cause_after held Budget = held
cause_after held Journal = Some Journal
cause_after None Memory = Some Memory
cause_after (Some held) Memory = Some held

-- Halt
abbrev pub halted : BoardState → Cause → BoardState
halted b cause = record b { cause = cause_after b.cause cause }

-- the root's value and its rough bound, or none where it is known to have no completion
abbrev pub root_bound : Dp → Option ℤ
root_bound dp = add_some dp.root_value (dp.rough 0 dp.root)

-- the root with its rough bound, or none
abbrev pub root_with : Dp → Option ℤ → Option Subproblem
root_with dp None = None
root_with dp (Some bound) = Some (record { decisions = []; row = dp.root; value = dp.root_value; bound = bound })

-- the root as a subproblem, where it has a bound
abbrev pub root_subproblem : Dp → Option Subproblem
root_subproblem dp = root_with dp (root_bound dp)

-- the list of one with ticket 0, or none
abbrev pub root_opened : Option Subproblem → List Ticketed
root_opened None = []
root_opened (Some c) = record { ticket = 0; subproblem = c } ∷ []

-- this many empty slots
abbrev pub empty_slots : ℕ → List (Option Ticketed)
empty_slots zero = []
empty_slots (suc n) = None ∷ empty_slots n

-- the empty solution of an instance without variables
abbrev pub first_incumbent : Dp → Option Solution
first_incumbent dp = cond (nat_eq dp.vars 0) (Some (record { decisions = []; value = dp.root_value })) None

-- what is open at first: the root, where there are variables
abbrev pub first_open : Dp → List Ticketed
first_open dp = cond (nat_eq dp.vars 0) [] (root_opened (root_subproblem dp))

-- a board of which nothing is out: nothing was taken or finished, the table is empty, and no cause is held
abbrev pub fresh_board : Settings → Option Solution → List Ticketed → ℕ → BoardState
fresh_board settings best os next = record {
  incumbent = best;
  open_ones = os;
  slots = empty_slots settings.workers;
  entries = [];
  settings = settings;
  taken = 0;
  finished = 0;
  next_ticket = next;
  cause = None;
}

-- the board at the start of a search: the root is not put into the table
abbrev pub first_board : Dp → Settings → BoardState
first_board dp settings = fresh_board settings (first_incumbent dp) (first_open dp) (length (first_open dp))
