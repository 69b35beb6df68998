-- What a fringe keeps of its slots, their keys, its ranks and its index.
use Rattle.std.specs.Prelude.{◌≡◌, ℕ, ℤ, ◌+◌, ◌*◌, ◌<◌, ◌≤◌, true, false, List, length, map, Option, Some, None}
use Rattle.row_region.specs.Region.{RegionView}
use Rattle.fringe.specs.declared.store.TheConstants.{SLACK}
use Rattle.fringe.specs.Tickets.{Ticketed}
use Rattle.fringe.specs.Fringe.{is_same, same_at}
use Rattle.fringe.specs.Index.{IndexView}
use Rattle.fringe.specs.Ranks.{RanksView}
use Rattle.fringe.specs.Slots.{IsOpen, AreRanked, AreIndexed, in_slot, is_same_in, key_of, opened}

-- each slot has the key of its open one in the region, each open one its rank in the heap and its entry in the index, and there is
-- room for `spare` more
pub record IsFringeStore (words spare : ℕ) (slots : List (Option Ticketed)) (keys : RegionView) (ranks : RanksView) (index : IndexView) : Type 0 where
  pub held : IsOpen words slots
  pub keyed : keys.rows ≡ map key_of slots
  pub width : keys.words ≡ 1
  pub ranked : AreRanked slots ranks.ranks
  pub entered : AreIndexed slots index.nodes
  pub keys_room : spare ≤ keys.spare
  pub ranks_room : ranks.len + spare ≤ ranks.room
  pub index_room : 0 < length slots → length slots < index.room

-- the heap has no more stale ranks than open subproblems, but for the slack
pub record HasFewRanks (slots : List (Option Ticketed)) (ranks : RanksView) : Type 0 where
  pub few : ranks.len ≤ 2 * (length (opened slots) + SLACK) + 1

-- the slot has the one of the depth and state, with this ticket and value
pub record HasSame (slots : List (Option Ticketed)) (depth : ℕ) (row : List ℤ) (slot ticket : ℕ) (worth : ℤ) : Type 0 where
  pub one : Ticketed
  pub there : in_slot slots slot ≡ Some one
  pub same : is_same depth row one ≡ true
  pub found : same_at depth row (opened slots) ≡ Some one
  pub ticket_is : ticket ≡ one.ticket
  pub worth_is : worth ≡ one.subproblem.value

-- no slot has one of the depth and state
pub record HasNone (slots : List (Option Ticketed)) (depth : ℕ) (row : List ℤ) : Type 0 where
  pub none : (s : ℕ) → is_same_in depth row (in_slot slots s) ≡ false
  pub found : same_at depth row (opened slots) ≡ None
