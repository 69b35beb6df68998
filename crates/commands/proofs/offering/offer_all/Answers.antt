use Rattle.std.proofs.Common.{inl}
use Rattle.std.proofs.lemmas.List.{take_rest}
use Rattle.board_laws.specs.Board.{incumbent_value}
use Rattle.board_laws.proofs.Carrying.{option-self}
use Rattle.board_laws.proofs.Running.{option-then}
use Rattle.part_reports.specs.Reports.{report_view, value_told}
use Rattle.commands.proofs.AfterOffers.{better-after, more-offers, still-going, tested-next, worth-next, worth-none}
use Rattle.commands.proofs.offering.offer_all.Goals as goal

pub loop-rest-preserved : goal.loop-rest-preserved
loop-rest-preserved g c =
    let meaning = g.M.DpModel.meaning in
    let inv = c.loop-rest.invariant in
    let kept = c.loop-rest.kept in
    let now = c.offer.new.kept in
    let rest = c.loop-rest.rest.now in
    let r = c.report-item.result in
    let e = c.in_default-offer.ensures in
    record {
      after = more-offers meaning c.args.kept.now kept now inv.after e.after;
      going = still-going (meaning kept.board.numbers) kept now e.after e.going inv.going;
      tested = tested-next (meaning c.args.kept.now.board.numbers) rest (take_rest rest 1) inv.tested;
      taken = λ told least more. inv.taken told (option-then (incumbent_value kept.board.board) (incumbent_value now.board.board) told (better-after (meaning kept.board.numbers) kept now e.after) least)
          (worth-next rest r told (take_rest rest 1) c.in-len1-up.len_at_least c.report-item.is (option-then (value_told (report_view r)) (incumbent_value now.board.board) told e.taken least) more);
    }

pub returns-in-Err-clause-after : goal.returns-in-Err-clause-after
returns-in-Err-clause-after g c = more-offers g.M.DpModel.meaning c.args.kept.now c.loop-rest.kept c.offer.new.kept c.loop-rest.invariant.after c.offer.ensures.after

pub returns-clause-taken : goal.returns-clause-taken
returns-clause-taken g c =
    let value = incumbent_value c.loop-rest.kept.board.board in
    inl (c.loop-rest.invariant.taken value (option-self value) (worth-none c.loop-rest.rest.now value c.in_default.len_below))
