use Rattle.std.proofs.Common.{◌≡◌, ◌+◌, ◌≤◌, ◌++◌, drop, vec_len, vec_capacity}
use Rattle.board_laws.specs.Fates.{fate_of, fates_by}
use Rattle.board.specs.Contents.{contents}
use Rattle.board.proofs.deciding.decide_all.Given as goal

abbrev pub invariant-loop-sub : goal.invariant-loop-sub
invariant-loop-sub g l = record {
  fates : l.into.items ++ fates_by (fate_of (g.M.DpModel.meaning (g.M.DpModel.numbers l.model)) l.reach l.fringe.open_ones l.table.entries) l.next (contents (drop l.sub-index l.subs))
      ≡ fates_by (fate_of (g.M.DpModel.meaning (g.M.DpModel.numbers l.model)) l.reach l.fringe.open_ones l.table.entries) l.initial.next (contents l.subs);
  many : vec_len l.into ≡ l.sub-index;
  capacity : vec_capacity l.into ≡ vec_capacity l.initial.into;
  tickets : l.next ≤ l.initial.next + l.sub-index;
}
