use Rattle.std.proofs.Common.{sym, subst}
use Rattle.dp_model.specs.Laws.{IsLawful}
use Rattle.journal_replay.specs.Replay.{MayRestoreFrom}
use Rattle.journal_replay.proofs.Restored.{accepted-restore}
use Rattle.journal_replay.proofs.replaying.replay.Given as given
use Rattle.journal_replay.proofs.replaying.replay.Goals as goal

laws_of : (g : given.Over) (m : g.row.M.Denot) → IsLawful (g.M.DpModel.meaning (g.M.DpModel.numbers m))
laws_of g m = (g.met.M.DpModel g.world.𝓛 g.world.𝓜 g.world.𝓡 ((λ s x. x), (λ x. x), (λ x. x), λ x. x)).lawful m

pub restore-requires-clause-may : goal.restore-requires-clause-may
restore-requires-clause-may g c κs within =
    let m = c.deref.result.now in
    let state = c.in_ok-state.state in
    subst (λ x. MayRestoreFrom (g.M.DpModel.meaning (g.M.DpModel.numbers x)) state) c.deref.ensures
    (subst (λ s. MayRestoreFrom (g.M.DpModel.meaning (g.M.DpModel.numbers m)) s) (sym c.in_ok-state.ensures.state) (accepted-restore (g.M.DpModel.meaning (g.M.DpModel.numbers m)) (laws_of g m) c.args.records.now.records c.in_ok-state.ensures.accepted))
