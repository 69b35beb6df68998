use Rattle.std.proofs.Common.{ℕ, Option, sym, ◌∙◌, ap, subst}
use Rattle.layer_build.specs.contracts.workspace.Workspace.{the_view}
use Rattle.layer_build.specs.Layers.{SpaceView, last_depth, reduced_first}
use Rattle.layer_build.specs.UnderWay.{IsUnderWay}
use Rattle.layer_build.proofs.Going.{deep}
use Rattle.layer_build.proofs.Merged.{counted-under-way}
use Rattle.layer_build.proofs.workspace.Workspace.count_reduced.Goals as goal

pub returns-clause-seen : goal.returns-clause-seen
returns-clause-seen c =
    let i = c.self.inside in
    ap (λ (o : Option ℕ). record (the_view i) { first_reduced = o }) c.reduced_first-self-inside.ensures
    ∙ (ap (λ (k : ℕ). record (the_view i) { first_reduced = reduced_first i.first_reduced k }) (sym (deep i c.self.invariant))
    ∙ ap (λ (s : SpaceView). record s { first_reduced = reduced_first s.first_reduced (last_depth s) }) c.self.view_is)

pub returns-clause-under_way : goal.returns-clause-under_way
returns-clause-under_way c dp u =
    subst (IsUnderWay dp) (sym (returns-clause-seen c)) (counted-under-way dp c.args.self.now (reduced_first c.args.self.now.first_reduced (last_depth c.args.self.now)) u)
