use Rattle.commands.proofs.Starts.{begun}
use Rattle.commands.proofs.starting.begin_search.Goals as goal

pub returns-in-Ok-clause-begun : goal.returns-in-Ok-clause-begun
returns-in-Ok-clause-begun g c =
    let dp = g.M.DpModel.meaning (g.M.DpModel.numbers c.args.model) in
    let p = c.in_ok-settings in
    let e = c.in-Ok.ensures in
    begun dp c.args.search p.settings p.desks p.ensures.prepared c.in-Ok.board e.first e.board e.good
