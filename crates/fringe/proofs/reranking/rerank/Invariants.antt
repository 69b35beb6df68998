use Rattle.std.proofs.Common.{◌≡◌, ◌≤◌, ◌<◌, ℕ, Some, length, take, Contains}
use Rattle.fringe.specs.Tickets.{Ticketed}
use Rattle.fringe.specs.Slots.{in_slot, opened, rank_of}
use Rattle.fringe.proofs.reranking.rerank.Given as goal

-- each open one of the slots so far has its rank
abbrev pub invariant-loop-slot : goal.invariant-loop-slot
invariant-loop-slot l = record {
  room : l.initial.ranks.room ≤ l.ranks.room;
  len : l.ranks.len ≡ length (opened (take l.slot l.slots));
  ranked : (s : ℕ) (o : Ticketed) → s < l.slot → in_slot l.slots s ≡ Some o → Contains l.ranks.ranks (rank_of s o);
}
