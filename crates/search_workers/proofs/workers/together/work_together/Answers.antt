use Rattle.std.proofs.Common.{arith, sym, subst, slice_index_or}
use Rattle.turn.specs.Seats.{seats_of}
use Rattle.turn.proofs.Numbers.{length_is}
use Rattle.kept_board.specs.View.{KeptView}
use Rattle.search_workers.specs.Prepared.{IsPreparedDesk}
use Rattle.search_workers.proofs.workers.together.work_together.Goals as goal

pub fan_all-requires-clause-lengths : goal.fan_all-requires-clause-lengths
fan_all-requires-clause-lengths g c κs within =
    omega (arith, c.requires.workers, c.len.ensures, c.in-Ok.seats.ok.0, length_is c.in-Ok.seats.items 0 (seats_of c.in-Ok.turn) c.in-Ok.ensures.numbers, c.in-Ok.ensures.count)

pub returns-in-Ok-clause-prepared : goal.returns-in-Ok-clause-prepared
returns-in-Ok-clause-prepared g c k d less =
    subst (λ (v : KeptView g.row.D.Denot). IsPreparedDesk (g.M.DpModel.meaning (g.M.DpModel.numbers c.args.model.now)) v.board.board.settings.width (slice_index_or c.fan_all.new.desks.items k d)) c.in-Ok.ensures.first (c.fan_all.ensures.prepared k d less)

pub fan_all-requires-clause-prepared : goal.fan_all-requires-clause-prepared
fan_all-requires-clause-prepared g c κs within k d less =
    subst (λ (v : KeptView g.row.D.Denot). IsPreparedDesk (g.M.DpModel.meaning (g.M.DpModel.numbers c.args.model.now)) v.board.board.settings.width (slice_index_or c.args.desks.now.items k d)) (sym c.in-Ok.ensures.first) (c.requires.prepared k d less)
