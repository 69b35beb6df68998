use Rattle.std.proofs.Common.{IfOk, subst}
use Rattle.commands.specs.Searches.{HasExplored}
use Rattle.commands.proofs.Over.{over, searched}
use Rattle.commands.proofs.Rising.{rises, still-failed}
use Rattle.commands.proofs.searching.search_from.Goals as goal

pub concluded-requires-clause-over : goal.concluded-requires-clause-over
concluded-requires-clause-over g c κs within =
    let dp = g.M.DpModel.meaning (g.M.DpModel.numbers c.args.model.now) in
    let e = subst (λ r. IfOk r (HasExplored g.D.Disk dp c.args.kept c.explore-explored.result.1)) c.in-Ok.is c.explore-explored.ensures.explored in
    over g.D.Disk dp c.args.search c.args.kept c.explore-explored.result.1 c.in-Ok.board e c.args.desks.now c.requires.ready

pub returns-in-Ok-clause-searched : goal.returns-in-Ok-clause-searched
returns-in-Ok-clause-searched g c = λ own agrees.
    let dp = g.M.DpModel.meaning (g.M.DpModel.numbers c.args.model.now) in
    let e = subst (λ r. IfOk r (HasExplored g.D.Disk dp c.args.kept c.explore-explored.result.1)) c.in-Ok.is c.explore-explored.ensures.explored in
    searched g.D.Disk dp c.args.search c.args.kept c.explore-explored.result.1 c.in-Ok.board e own
    (over g.D.Disk dp c.args.search c.args.kept c.explore-explored.result.1 c.in-Ok.board e c.args.desks.now c.requires.ready) c.concluded.result (c.concluded.ensures own agrees)

pub returns-in-Ok-clause-rises : goal.returns-in-Ok-clause-rises
returns-in-Ok-clause-rises g c = λ own agrees.
    let dp = g.M.DpModel.meaning (g.M.DpModel.numbers c.args.model.now) in
    let e = subst (λ r. IfOk r (HasExplored g.D.Disk dp c.args.kept c.explore-explored.result.1)) c.in-Ok.is c.explore-explored.ensures.explored in
    rises g.D.Disk dp c.args.kept c.explore-explored.result.1 c.in-Ok.board e own c.args.search c.concluded.result (c.concluded.ensures own agrees)

pub returns-in-Ok-clause-failed : goal.returns-in-Ok-clause-failed
returns-in-Ok-clause-failed g c =
    let dp = g.M.DpModel.meaning (g.M.DpModel.numbers c.args.model.now) in
    let e = subst (λ r. IfOk r (HasExplored g.D.Disk dp c.args.kept c.explore-explored.result.1)) c.in-Ok.is c.explore-explored.ensures.explored in
    still-failed g.D.Disk dp c.args.kept c.explore-explored.result.1 c.in-Ok.board e
