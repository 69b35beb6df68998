use Rattle.std.proofs.Common.{refl, sym, subst}
use Rattle.kept_board.specs.declared.error.KeptError.{KeptError}
use Rattle.kept_board.specs.declared.error.KeptError.TheVariants.{OutOfMemory}
use Rattle.search_workers.specs.Stopped.{IsRefused}
use Rattle.kept_board.specs.Moves.{IsMove}
use Rattle.search_workers.proofs.Moves.{moved_then}
use Rattle.search_workers.proofs.Offers.{IsOffered-trans}
use Rattle.search_workers.proofs.Refusing.{refused_here, refused_then, err_then}
use Rattle.search_workers.proofs.rounds.exploring.branch_on.Goals as goal

pub returns-in_err-threshold-clause-refused : goal.returns-in_err-threshold-clause-refused
returns-in_err-threshold-clause-refused g c =
    let dp = g.M.DpModel.meaning (g.M.DpModel.numbers c.args.model.now) in
    let b = c.args.kept.now.board.board in
    let later = c.relax.new.kept.board.board in
    err_then c.from_residual-in_err-threshold.result
    (λ e same. subst (λ (x : KeptError). IsRefused dp b x later) (sym same) (refused_then dp b c.restrict.new.kept.board.board later c.in_err-threshold.field-0.0 c.in_ok-restricted.ensures.offered c.in_err-threshold.ensures.refused))
    c.from_residual-in_err-threshold.ensures.1

pub returns-in_err-threshold-clause-moved : goal.returns-in_err-threshold-clause-moved
returns-in_err-threshold-clause-moved g c = moved_then (IsMove g.D.Disk g.M.DpModel.meaning) c.args.kept.now c.restrict.new.kept c.relax.new.kept c.restrict.ensures.moved c.relax.ensures.moved

pub returns-in_err-children-clause-refused : goal.returns-in_err-children-clause-refused
returns-in_err-children-clause-refused g c =
    let dp = g.M.DpModel.meaning (g.M.DpModel.numbers c.args.model.now) in
    let b = c.args.kept.now.board.board in
    let later = c.relax.new.kept.board.board in
    err_then c.from_residual-in_err-children.result
    (λ e same. subst (λ (x : KeptError). IsRefused dp b x later) (sym same)
    (refused_then dp b later later OutOfMemory (IsOffered-trans _ _ _ _ c.in_ok-restricted.ensures.offered c.in_ok-threshold.ensures.offered) (refused_here dp later later OutOfMemory refl)))
    c.from_residual-in_err-children.ensures.1

pub returns-in_err-children-clause-moved : goal.returns-in_err-children-clause-moved
returns-in_err-children-clause-moved g c = moved_then (IsMove g.D.Disk g.M.DpModel.meaning) c.args.kept.now c.restrict.new.kept c.relax.new.kept c.restrict.ensures.moved c.relax.ensures.moved

pub returns-clause-offered : goal.returns-clause-offered
returns-clause-offered g c = IsOffered-trans _ _ _ _ c.in_ok-restricted.ensures.offered c.in_ok-threshold.ensures.offered

pub returns-clause-moved : goal.returns-clause-moved
returns-clause-moved g c = moved_then (IsMove g.D.Disk g.M.DpModel.meaning) c.args.kept.now c.restrict.new.kept c.relax.new.kept c.restrict.ensures.moved c.relax.ensures.moved
