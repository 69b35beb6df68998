-- What every board keeps, and what a good one keeps beside.
use Rattle.std.specs.Prelude.{◌≡◌, ◌≢◌, ℕ, ◌+◌, ◌-◌, ◌*◌, ◌^◌, ◌<◌, ◌≤◌, ℤ, List, length, sum_by, Option, Some, None, IsTrue}
use Rattle.dp_model.specs.Solution.{Solution, IsSolutionWith}
use Rattle.dp_model.specs.Counts.{pot, tree}
use Rattle.dp_model.specs.Cover.{IsHeld}
use Rattle.dp_model.specs.Dp.{Dp}
use Rattle.dp_model.specs.declared.limits.TheConstants.{MOST_WIDTH, MOST_WORKERS}
use Rattle.dp_model.specs.Gaps.{IsStateOf}
use Rattle.dp_model.specs.Lists.{Each}
use Rattle.dp_model.specs.Numbers.{IsFar, is_above}
use Rattle.dp_model.specs.Subproblem.{IsOwn}
use Rattle.dp_laws.specs.Pairs.{EachTwo}
use Rattle.fringe.specs.Fringe.{AreDifferent}
use Rattle.fringe.specs.Tickets.{Ticketed, IsEarlier}
use Rattle.dominance_table.specs.Entries.{TableEntry}
use Rattle.board_laws.specs.declared.cause.Cause.TheVariants.{Budget}
use Rattle.board_laws.specs.Board.{AreSettings, BoardState, reach, full_slots, frontier, prefixes}
use Rattle.board_laws.specs.Starts.{CoversFrom, whole_search}
use Rattle.dp_laws.specs.Children.{AreApart}
use Rattle.dp_laws.specs.Floors.{IsFloor}

-- the incumbent, where there is one, is a feasible solution with its value
abbrev pub IncumbentHolds : Dp → Option Solution → Type 0
IncumbentHolds dp None = Unit {0}
IncumbentHolds dp (Some best) = IsSolutionWith dp best.decisions best.value

-- no two of the list have one ticket, and each has one that was given out
pub record TicketsHold (next : ℕ) (os : List Ticketed) : Type 0 where
  pub distinct : EachTwo (λ a b. a.ticket ≢ b.ticket) os
  pub given : Each (λ o. o.ticket < next) os

-- an entry: its row is a state of its depth, which has variables to decide, its bucket and its rank are those of the state, and its
-- ticket was given out
pub record IsEntry (dp : Dp) (next : ℕ) (e : TableEntry) : Type 0 where
  pub shorter : e.depth < dp.vars
  pub state : IsStateOf dp e.depth e.row
  pub bucket : e.bucket ≡ dp.bucket e.depth e.row
  pub rank : e.rank ≡ dp.rank e.depth e.row
  pub given : e.ticket < next

-- what every board keeps, wherever it comes from: the incumbent is feasible, each of the frontier is a prefix of its own whose bound is
-- of a bounded size, what is open is above the reach, in order of ticket, and differs in depth or state, entries are states of their
-- depth, and the counts and tickets stay within the settings
pub record IsBoard (dp : Dp) (b : BoardState) : Type 0 where
  pub settings : AreSettings b.settings
  pub incumbent : IncumbentHolds dp b.incumbent
  pub own : Each (λ o. IsOwn dp o.subproblem) (frontier b)
  pub far : Each (λ o. IsFar o.subproblem.bound) (frontier b)
  pub tickets : TicketsHold b.next_ticket (frontier b)
  pub above : Each (λ o. IsTrue (is_above (reach b) o.subproblem.bound)) b.open_ones
  pub ordered : EachTwo IsEarlier b.open_ones
  pub different : EachTwo AreDifferent b.open_ones
  pub entries : Each (IsEntry dp b.next_ticket) b.entries
  pub limited : length b.entries ≤ b.settings.table_limit
  pub slots : length b.slots ≡ b.settings.workers
  pub out : b.finished + length (full_slots b.slots) ≤ b.taken
  pub budget : b.taken ≤ b.settings.budget
  pub room : 1 ≤ length (full_slots b.slots) → b.next_ticket + MOST_WIDTH * length (full_slots b.slots) ≤ 2 ^ 64 - MOST_WIDTH * MOST_WORKERS
  pub cause : b.cause ≢ Some Budget

-- the floor of an entry beside open and checked-out subproblems
abbrev pub HasFloor : Dp → Option ℤ → List Ticketed → TableEntry → Type 0
HasFloor dp reach os e = IsFloor dp reach (prefixes os) e.depth e.row e.value

-- how many prefixes begin with that of a subproblem, and how many more than itself
abbrev pub pot_of : Dp → Ticketed → ℕ
pot_of dp o = pot dp o.subproblem.decisions

-- how many prefixes begin with that of a subproblem and are longer
abbrev pub share_of : Dp → Ticketed → ℕ
share_of dp o = pot_of dp o - 1

-- what a good board of a search from some start prefixes keeps beside: the frontier covers from them with the reach, every bound is held,
-- every entry has its floor, no prefix of the frontier begins with another, and the counts are bounded by the number of prefixes that there are
pub record IsGoodFrom (dp : Dp) (starts : List (List ℕ)) (b : BoardState) : Type 0 where
  pub covers : CoversFrom dp starts (reach b) (prefixes (frontier b))
  pub held : Each (λ o. IsHeld dp (reach b) o.subproblem.decisions o.subproblem.bound) (frontier b)
  pub floors : Each (HasFloor dp (reach b) (frontier b)) b.entries
  pub apart : EachTwo (λ a o. AreApart a.subproblem o.subproblem) (frontier b)
  pub ends : b.finished + sum_by (pot_of dp) (frontier b) ≤ tree dp
  pub balanced : b.cause ≡ None → b.finished + length (full_slots b.slots) ≡ b.taken
  pub shares : b.next_ticket + sum_by (share_of dp) (frontier b) ≤ tree dp

-- a good board of a whole search
abbrev pub IsGood : Dp → BoardState → Type 0
IsGood dp b = IsGoodFrom dp whole_search b
