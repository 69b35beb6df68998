use Rattle.std.proofs.Common.{sym, subst}
use Rattle.dp_model.specs.Laws.{IsLawful}
use Rattle.commands.specs.Starts.{IsUnready}
use Rattle.commands.proofs.Starts.{all-prepared, are-settings, unready}
use Rattle.commands.proofs.starting.prepared.Given as given
use Rattle.commands.proofs.starting.prepared.Goals as goal

laws_of : (g : given.Over) (m : g.row.M.Denot) → IsLawful (g.M.DpModel.meaning (g.M.DpModel.numbers m))
laws_of g m = (g.met.M.DpModel g.world.𝓛 g.world.𝓜 g.world.𝓡 ((λ s x. x), (λ x. x), (λ x. x), λ x. x)).lawful m

pub returns-in-Ok-clause-prepared : goal.returns-in-Ok-clause-prepared
returns-in-Ok-clause-prepared g c =
    let dp = g.M.DpModel.meaning (g.M.DpModel.numbers c.args.model.now) in
    all-prepared dp c.args.search c.width_for-width.result c.width_for-width.ensures c.in-Ok.desks c.in-Ok.ensures c.settings_for.result c.settings_for.ensures

pub returns-in-Ok-clause-settings : goal.returns-in-Ok-clause-settings
returns-in-Ok-clause-settings g c =
    let dp = g.M.DpModel.meaning (g.M.DpModel.numbers c.args.model.now) in
    let all = all-prepared dp c.args.search c.width_for-width.result c.width_for-width.ensures c.in-Ok.desks c.in-Ok.ensures c.settings_for.result c.settings_for.ensures in
    are-settings dp c.args.search c.settings_for.result c.requires all.asked

pub returns-in-Err-clause-refused : goal.returns-in-Err-clause-refused
returns-in-Err-clause-refused g c =
    let dp = g.M.DpModel.meaning (g.M.DpModel.numbers c.args.model.now) in
    subst (IsUnready dp c.args.search) (sym c.unprepared.ensures) (unready dp c.args.search c.width_for-width.result c.width_for-width.ensures (laws_of g c.args.model.now) c.in-Err.error c.in-Err.ensures)
