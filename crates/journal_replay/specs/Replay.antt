-- What the records of a journal make of a search.
use Rattle.std.specs.Prelude.{ℕ, ◌+◌, ℤ, List, [], ◌∷◌, ◌++◌, length, map, find, nat_eq, Option, option_map, Some, None}
use Rattle.dp_model.specs.Dp.{Dp}
use Rattle.dp_model.specs.Prefixes.{state_of, value_of}
use Rattle.dp_model.specs.Solution.{Solution}
use Rattle.dp_model.specs.Subproblem.{Subproblem}
use Rattle.fringe.specs.Tickets.{Ticketed, without}
use Rattle.board_laws.specs.declared.settings.Settings.{Settings}
use Rattle.board_laws.specs.Board.{BoardState}
use Rattle.board_laws.specs.Restoring.{MayRestore, restored_board}
use Rattle.board_laws.specs.Steps.{first_incumbent, first_open}
use Rattle.journal_bytes.specs.Bodies.{ChildView, IncumbentView, ListedView, RecordView, Improve, Finish, Snapshot}

-- the incumbent, the subproblems that are listed, in order of ticket, and the next ticket
pub record Replayed : Type 0 where
  pub incumbent : Option Solution
  pub listed : List Ticketed
  pub next_ticket : ℕ

-- before the first record: the start of a search
abbrev pub replay_start : Dp → Replayed
replay_start dp = record { incumbent = first_incumbent dp; listed = first_open dp; next_ticket = length (first_open dp) }

-- the one with the ticket, where it is listed
abbrev pub listed_at : ℕ → List Ticketed → Option Ticketed
listed_at ticket os = find (λ o. nat_eq o.ticket ticket) os

-- decisions and a bound as a subproblem, with the state and the value of the decisions
abbrev pub sub_of : Dp → List ℕ → ℤ → Subproblem
sub_of dp ds bound = record { decisions = ds; row = state_of dp ds; value = value_of dp ds; bound = bound }

-- a child of a record as a subproblem
abbrev pub child_of : Dp → ChildView → Subproblem
child_of dp c = sub_of dp c.decisions c.bound

-- the others than the one that a child replaced
abbrev pub unless_replaced : Option ℕ → List Ticketed → List Ticketed
unless_replaced None os = os
unless_replaced (Some ticket) os = without ticket os

-- with a subproblem more: the one that it replaced goes, and it comes last, with the next ticket
abbrev pub with_sub : Replayed → Option ℕ → Subproblem → Replayed
with_sub s replaced c = record s {
  listed = unless_replaced replaced s.listed ++ record { ticket = s.next_ticket; subproblem = c } ∷ [];
  next_ticket = s.next_ticket + 1;
}

-- after a child
abbrev pub with_child : Dp → Replayed → ChildView → Replayed
with_child dp s c = with_sub s c.replaced (child_of dp c)

-- after children, one after another
abbrev pub with_children : Dp → Replayed → List ChildView → Replayed
with_children dp s [] = s
with_children dp s (c ∷ cs) = with_children dp (with_child dp s c) cs

-- without the one with the ticket
abbrev pub taken_off : ℕ → Replayed → Replayed
taken_off ticket s = record s { listed = without ticket s.listed }

-- a subproblem of a snapshot as it is listed
abbrev pub listed_of : Dp → ListedView → Ticketed
listed_of dp o = record { ticket = o.ticket; subproblem = sub_of dp o.decisions o.bound }

-- the incumbent of a snapshot
abbrev pub best_of : IncumbentView → Solution
best_of b = record { decisions = b.decisions; value = b.value }

-- what a snapshot makes of a search, whatever was before it
abbrev pub restarted : Dp → Option IncumbentView → ℕ → List ListedView → Replayed
restarted dp best next os = record { incumbent = option_map best_of best; listed = map (listed_of dp) os; next_ticket = next }

-- after a record: Improve sets the incumbent and drops nothing, Finish takes its ticket out and lists its children, and a Snapshot
-- begins anew
abbrev pub after_record : Dp → Replayed → RecordView → Replayed
after_record dp s (Improve value ds) = record s { incumbent = Some (record { decisions = ds; value = value }) }
after_record dp s (Finish ticket cs) = with_children dp (taken_off ticket s) cs
after_record dp s (Snapshot best next os) = restarted dp best next os

-- after records, one after another
abbrev pub after_records : Dp → Replayed → List RecordView → Replayed
after_records dp s [] = s
after_records dp s (r ∷ rs) = after_records dp (after_record dp s r) rs

-- what the records of a journal make of a search
abbrev pub replay_of : Dp → List RecordView → Replayed
replay_of dp rs = after_records dp (replay_start dp) rs

-- a search may be restored from it
abbrev pub MayRestoreFrom : Dp → Replayed → Type 0
MayRestoreFrom dp s = MayRestore dp s.incumbent s.listed s.next_ticket

-- the board that is restored from it
abbrev pub restored_from : Settings → Replayed → BoardState
restored_from settings s = restored_board settings s.incumbent s.listed s.next_ticket
