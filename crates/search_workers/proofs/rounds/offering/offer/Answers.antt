use Rattle.std.proofs.Common.{sym, subst}
use Rattle.turn.specs.History.{HasMoved}
use Rattle.turn.proofs.History.{not_moved}
use Rattle.kept_board.specs.Moves.{IsMove}
use Rattle.kept_board.specs.View.{KeptView}
use Rattle.search_workers.specs.Offered.{IsOffered}
use Rattle.search_workers.proofs.Moves.{moved_by}
use Rattle.search_workers.proofs.Offers.{IsOffered-refl, offered_by, reach-offered}
use Rattle.search_workers.proofs.rounds.offering.offer.Goals as goal
use Rattle.search_workers.proofs.rounds.offering.offer.Goals.{in-Some+in_ok-improve, in_default}

pub returns-in_err-improve-clause-moved : goal.returns-in_err-improve-clause-moved
returns-in_err-improve-clause-moved g c = moved_by (IsMove g.D.Disk g.M.DpModel.meaning) c.args.kept.now c.improve.new.self 0 (c.improve.ensures.moves 0)

pub returns-clause-offered : goal.returns-clause-offered
returns-clause-offered g c =
    let dp = g.M.DpModel.meaning c.args.kept.now.board.numbers in
    elim c.match-found.branch [
      | in-Some+in_ok-improve w ↦ subst (λ (v : KeptView g.row.D.Denot). IsOffered dp c.args.kept.now.board.board v.board.board) (sym w.kept-is) (offered_by _ _ _ _ _ w.in_ok-improve.ensures.answer w.in_ok-improve.ensures.step)
      | in_default w ↦ subst (λ (v : KeptView g.row.D.Denot). IsOffered dp c.args.kept.now.board.board v.board.board) (sym w.kept-is) (IsOffered-refl _ _)
    ]

pub returns-clause-before : goal.returns-clause-before
returns-clause-before g c = reach-offered _ _ _ (returns-clause-offered g c)

pub returns-clause-moved : goal.returns-clause-moved
returns-clause-moved g c =
    let moves = IsMove g.D.Disk g.M.DpModel.meaning in
    let k = c.args.kept.now in
    elim c.match-found.branch [
      | in-Some+in_ok-improve w ↦ subst (HasMoved moves k) (sym w.kept-is) (moved_by moves k w.improve.new.self 0 (w.improve.ensures.moves 0))
      | in_default w ↦ subst (HasMoved moves k) (sym w.kept-is) (not_moved moves k)
    ]
