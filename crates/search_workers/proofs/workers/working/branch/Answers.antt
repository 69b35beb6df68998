use Rattle.std.proofs.Common.{◌∙◌, sym, subst}
use Rattle.turn.specs.Seats.{seen_of}
use Rattle.search_workers.specs.Stopped.{WasStopped}
use Rattle.search_workers.proofs.Moves.{no-less-then}
use Rattle.search_workers.proofs.Refusing.{err_then}
use Rattle.search_workers.proofs.Stopping.{no-memory, stopped-since}
use Rattle.search_workers.proofs.workers.working.branch.Goals as goal

pub returns-in_err-relax_one-clause-no_less : goal.returns-in_err-relax_one-clause-no_less
returns-in_err-relax_one-clause-no_less g c =
    no-less-then (seen_of c.args.seat.now) (seen_of c.restrict_one.new.seat) (seen_of c.relax_one.new.seat) c.restrict_one.ensures.no_less c.relax_one.ensures.no_less

pub returns-in_err-relax_one-clause-why : goal.returns-in_err-relax_one-clause-why
returns-in_err-relax_one-clause-why g c =
    let t = c.args.crew.now.turn.now in
    let first = c.args.seat.now in
    let seat = c.relax_one.new.seat in
    err_then c.from_residual-in_err-relax_one.result
    (λ e same. subst (WasStopped g.D.Disk g.M.DpModel.meaning t first seat) (sym same)
    (stopped-since g.D.Disk g.M.DpModel.meaning t first c.restrict_one.new.seat seat c.in_err-relax_one.field-0.0 c.restrict_one.ensures.no_less c.in_ok-restricted.ensures.out c.in_err-relax_one.ensures.why))
    c.from_residual-in_err-relax_one.ensures.1

pub returns-in-Err-clause-why : goal.returns-in-Err-clause-why
returns-in-Err-clause-why g c =
    no-memory g.D.Disk g.M.DpModel.meaning c.args.crew.now.turn.now c.args.seat.now c.relax_one.new.seat c.in_ok-relax_one.ensures.left
    (no-less-then (seen_of c.args.seat.now) (seen_of c.restrict_one.new.seat) (seen_of c.relax_one.new.seat) c.restrict_one.ensures.no_less c.relax_one.ensures.no_less) (c.in_ok-relax_one.ensures.out ∙ c.in_ok-restricted.ensures.out)
