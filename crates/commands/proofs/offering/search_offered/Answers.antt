use Rattle.std.proofs.Common.{map, sym}
use Rattle.part_reports.specs.Reports.{report_view}
use Rattle.commands.proofs.AfterOffers.{keeps-after, keeps-alone, same-numbers, searched-after, still-ready, taken-after}
use Rattle.commands.proofs.offering.search_offered.Goals as goal

pub search_from-requires-clause-numbers : goal.search_from-requires-clause-numbers
search_from-requires-clause-numbers g c κs within =
    same-numbers g.M.DpModel.meaning (g.M.DpModel.numbers c.args.model.now) c.args.kept c.offer_all.new.kept c.requires.numbers c.offer_all.ensures.after

pub search_from-requires-clause-ready : goal.search_from-requires-clause-ready
search_from-requires-clause-ready g c κs within =
    still-ready g.M.DpModel.meaning (g.M.DpModel.numbers c.args.model.now) c.args.kept c.offer_all.new.kept c.requires.numbers c.offer_all.ensures.after c.args.search c.args.desks.now c.requires.ready

pub returns-in-Ok-clause-searched : goal.returns-in-Ok-clause-searched
returns-in-Ok-clause-searched g c = λ own agrees.
    searched-after g.M.DpModel.meaning (g.M.DpModel.numbers c.args.model.now) c.args.kept c.offer_all.new.kept c.requires.numbers c.offer_all.ensures.after g.D.Disk c.search_from.result.1 own c.args.search c.search_from.result.0 (c.search_from.ensures.searched own agrees)

pub returns-in-Ok-clause-taken : goal.returns-in-Ok-clause-taken
returns-in-Ok-clause-taken g c = λ own agrees.
    taken-after g.M.DpModel.meaning (g.M.DpModel.numbers c.args.model.now) c.args.kept c.offer_all.new.kept c.requires.numbers c.offer_all.ensures.after g.D.Disk c.search_from.result.1 (map report_view c.args.offers.now) c.in-Ok.ensures.taken c.search_from.ensures.failed c.search_from.result.0
    (c.search_from.ensures.rises own agrees)

pub returns-in-Ok-clause-keeps : goal.returns-in-Ok-clause-keeps
returns-in-Ok-clause-keeps g c =
    keeps-after g.M.DpModel.meaning (g.M.DpModel.numbers c.args.model.now) c.args.kept c.offer_all.new.kept c.requires.numbers c.offer_all.ensures.after g.D.Disk c.search_from.result.1 c.search_from.ensures.keeps

pub returns-in-Err-clause-keeps : goal.returns-in-Err-clause-keeps
returns-in-Err-clause-keeps g c =
    keeps-alone g.M.DpModel.meaning (g.M.DpModel.numbers c.args.model.now) c.args.kept c.offer_all.new.kept c.requires.numbers c.offer_all.ensures.after g.D.Disk c.into_parts-disk.result.1 c.into_parts-disk.ensures.kept (sym c.into_parts-disk.ensures.disk)
