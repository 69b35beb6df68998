use Rattle.std.proofs.Common.{map, option_map, subst}
use Rattle.journal_bytes.specs.Views.{incumbent_view, listed_view}
use Rattle.journal_replay.specs.Places.{BestGives, ListedGives}
use Rattle.journal_replay.proofs.Listing.{restart-gives, restart-refuses}
use Rattle.journal_replay.proofs.restarting.restarted.Goals as goal

pub returns-in-Some-clause-gives : goal.returns-in-Some-clause-gives
returns-in-Some-clause-gives g c =
    let dp = g.M.DpModel.meaning (g.M.DpModel.numbers c.args.model.now) in
    let best = option_map incumbent_view c.args.incumbent.now in
    let listed = map listed_view c.args.listed.now in
    let held = subst (BestGives dp best) c.in-Ok.is c.in_ok-best.ensures.gives in
    let placed = subst (λ places. ListedGives dp c.args.next listed (option_map (λ v. v.items) places)) c.in-Some.is c.in_ok-places.ensures in
    restart-gives dp best c.args.next listed c.in-Ok.best c.in-Some.places.items c.restored.result held.0 held.1 placed c.restored.ensures

pub returns-in-None-clause-gives : goal.returns-in-None-clause-gives
returns-in-None-clause-gives g c =
    let dp = g.M.DpModel.meaning (g.M.DpModel.numbers c.args.model.now) in
    let best = option_map incumbent_view c.args.incumbent.now in
    let listed = map listed_view c.args.listed.now in
    let held = subst (BestGives dp best) c.in-Ok.is c.in_ok-best.ensures.gives in
    let none = subst (λ places. ListedGives dp c.args.next listed (option_map (λ v. v.items) places)) c.in-None.is c.in_ok-places.ensures in
    restart-refuses dp best c.args.next listed c.in-Ok.best held.0 held.1 none
