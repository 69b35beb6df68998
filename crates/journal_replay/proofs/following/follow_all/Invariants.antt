use Rattle.std.proofs.Common.{map, drop}
use Rattle.std.specs.Prelude.{vec_len}
use Rattle.journal_bytes.specs.Views.{record_view}
use Rattle.journal_replay.specs.Places.{AreCells}
use Rattle.journal_replay.proofs.Adding.{FollowsOn}
use Rattle.journal_replay.proofs.following.follow_all.Given as goal

abbrev pub invariant-loop-entry : goal.invariant-loop-entry
invariant-loop-entry g l =
    FollowsOn (g.M.DpModel.meaning (g.M.DpModel.numbers l.model)) l.state l.offset (map record_view (drop l.entry-index l.records)) l.fn.state l.first (map record_view l.records)
    × AreCells (g.M.DpModel.meaning (g.M.DpModel.numbers l.model)) (vec_len l.rows.row) (vec_len l.rows.spare)
