use Rattle.std.proofs.Common.{◌∙◌}
use Rattle.commands.proofs.Starts.{goes-on, passed-on}
use Rattle.commands.proofs.starting.go_on.Goals as goal

pub returns-in-Ok-clause-goes_on : goal.returns-in-Ok-clause-goes_on
returns-in-Ok-clause-goes_on g c =
    let dp = g.M.DpModel.meaning (g.M.DpModel.numbers c.args.model) in
    let p = c.in_ok-settings in
    let e = c.in-Ok.ensures in
    goes-on dp c.args.search p.settings p.desks p.ensures.prepared c.in-Ok.board e.first c.args.records.now e.accepted e.board

pub returns-in_err-settings-clause-refused : goal.returns-in_err-settings-clause-refused
returns-in_err-settings-clause-refused g c =
    let dp = g.M.DpModel.meaning (g.M.DpModel.numbers c.args.model) in
    passed-on dp c.args.search c.args.records.now c.in_err-settings.field-0.0 c.in_err-settings.ensures.refused c.from_residual.result c.from_residual.ensures.1

pub restored-requires-clause-within : goal.restored-requires-clause-within
restored-requires-clause-within g c κs within = c.in_ok-settings.ensures.prepared.asked.distance ∙ c.requires.within
