use Rattle.std.proofs.Common.{◌≡◌, drop}
use Rattle.board_laws.specs.Bound.{raised_by}
use Rattle.board_laws.specs.Board.{full_slots}
use Rattle.board.proofs.full.raised_by_slots.Given as goal

abbrev pub invariant-loop-slot : goal.invariant-loop-slot
invariant-loop-slot l = raised_by l.most (full_slots (drop l.slot-index l.slots)) ≡ raised_by l.initial.most (full_slots l.slots)
