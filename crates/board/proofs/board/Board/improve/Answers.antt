use Rattle.std.proofs.Common.{◌+ℤ◌, sym, ◌∙◌, ap, subst, FitsSigned, to_z, of_z, w64, rules}
use Rattle.std.proofs.lemmas.Int.{to_z-of_z}
use Rattle.std.specs.Arc.{arc_value}
use Rattle.dp_model.specs.Laws.{IsLawful}
use Rattle.dp_model.specs.Numbers.{is_above}
use Rattle.dp_model.specs.Solution.{IsSolutionWith}
use Rattle.fringe.specs.Tickets.{above_value}
use Rattle.board_laws.specs.Improving.{after_offer}
use Rattle.board_laws.specs.declared.improved.Improved.TheVariants.{Yes}
use Rattle.board.specs.View.{BoardView, tag_of}
use Rattle.board.proofs.Keeping.{improve-kept, improve-step, reach-fits, held-value}
use Rattle.board.proofs.Sums.{far-sum}
use Rattle.board.proofs.board.Board.improve.Given as given
use Rattle.board.proofs.board.Board.improve.Goals as goal

laws_of : (g : given.Over) (m : g.row.M.Denot) → IsLawful (g.M.DpModel.meaning (g.M.DpModel.numbers m))
laws_of g m = (g.met.M.DpModel g.world.𝓛 g.world.𝓜 g.world.𝓡 ((λ s x. x), (λ x. x), (λ x. x), λ x. x)).lawful m

pub overflow_add-value : goal.overflow_add-value
overflow_add-value g c =
    let value : FitsSigned w64 c.in-Some.value = search rules in
    let within : FitsSigned w64 c.self.inside.settings.within = search rules in
    let worth : IsSolutionWith (g.M.DpModel.meaning (g.M.DpModel.numbers (arc_value c.self.inside.model))) c.args.decisions.now c.in-Some.value =
    subst (λ m. IsSolutionWith (g.M.DpModel.meaning (g.M.DpModel.numbers m)) c.args.decisions.now c.in-Some.value) c.deref.ensures (record { solution = c.in-Some.ensures.solution; value = c.in-Some.ensures.value }) in
    (far-sum c.in-Some.value c.self.inside.settings.within value within (reach-fits _ (laws_of g (arc_value c.self.inside.model)) c.self.inside.settings c.self.invariant.board.settings c.args.decisions.now c.in-Some.value worth)).fits

pub invariant_of-self-2 : goal.invariant_of-self-2
invariant_of-self-2 g c =
    let value : FitsSigned w64 c.in-Some.value = search rules in
    let within : FitsSigned w64 c.self.inside.settings.within = search rules in
    let worth : IsSolutionWith (g.M.DpModel.meaning (g.M.DpModel.numbers (arc_value c.self.inside.model))) c.args.decisions.now c.in-Some.value =
    subst (λ m. IsSolutionWith (g.M.DpModel.meaning (g.M.DpModel.numbers m)) c.args.decisions.now c.in-Some.value) c.deref.ensures (record { solution = c.in-Some.ensures.solution; value = c.in-Some.ensures.value }) in
    let sum = far-sum c.in-Some.value c.self.inside.settings.within value within (reach-fits _ (laws_of g (arc_value c.self.inside.model)) c.self.inside.settings c.self.invariant.board.settings c.args.decisions.now c.in-Some.value worth) in
    let is = to_z-of_z w64 c.in-Some.value value in
    let up = sym c.is_above.ensures ∙ c.if-not-is_above.false in
    let best = held-value c.self.inside.best.items c.self.inside.best_value in
    let left = c.drop_up_to.ensures.step ∙ (ap (λ z. above_value z c.self.inside.fringe.open_ones) sum.is ∙ ap (λ v. above_value (v +ℤ c.self.inside.settings.within) c.self.inside.fringe.open_ones) (sym is)) in
    rw c.copy_decisions.ensures.copied
    (improve-kept _ _ _ c.args.decisions.now (to_z w64 (of_z w64 c.in-Some.value)) c.drop_up_to.new.self.open_ones c.self.inside.fringe c.drop_up_to.new.self _ _ _ _ _ _ c.self.invariant
    (record { solution = worth.solution; value = is ∙ worth.value }) (ap (λ b. is_above b (to_z w64 (of_z w64 c.in-Some.value))) best ∙ up) left c.drop_up_to.ensures.words c.drop_up_to.ensures.spare c.copy_decisions.ensures.capacity)

pub returns-clause-step : goal.returns-clause-step
returns-clause-step g c =
    let value : FitsSigned w64 c.in-Some.value = search rules in
    let within : FitsSigned w64 c.self.inside.settings.within = search rules in
    let worth : IsSolutionWith (g.M.DpModel.meaning (g.M.DpModel.numbers (arc_value c.self.inside.model))) c.args.decisions.now c.in-Some.value =
    subst (λ m. IsSolutionWith (g.M.DpModel.meaning (g.M.DpModel.numbers m)) c.args.decisions.now c.in-Some.value) c.deref.ensures (record { solution = c.in-Some.ensures.solution; value = c.in-Some.ensures.value }) in
    let sum = far-sum c.in-Some.value c.self.inside.settings.within value within (reach-fits _ (laws_of g (arc_value c.self.inside.model)) c.self.inside.settings c.self.invariant.board.settings c.args.decisions.now c.in-Some.value worth) in
    let is = to_z-of_z w64 c.in-Some.value value in
    let left = c.drop_up_to.ensures.step ∙ (ap (λ z. above_value z c.self.inside.fringe.open_ones) sum.is ∙ ap (λ v. above_value (v +ℤ c.self.inside.settings.within) c.self.inside.fringe.open_ones) (sym is)) in
    rw c.copy_decisions.ensures.copied
    (improve-step _ _ c.args.decisions.now (to_z w64 (of_z w64 c.in-Some.value)) c.drop_up_to.new.self.open_ones c.self.invariant.board (is ∙ worth.value) left
    ∙ ap (λ (v : BoardView). after_offer (g.M.DpModel.meaning v.numbers) Yes v.board c.args.decisions.now) c.self.view_is)

pub returns-clause-tag : goal.returns-clause-tag
returns-clause-tag g c = ap tag_of c.self.view_is

pub returns-clause-room : goal.returns-clause-room
returns-clause-room g c = ap (λ (v : BoardView). v.room) c.self.view_is

pub returns-in_default-clause-tag : goal.returns-in_default-clause-tag
returns-in_default-clause-tag g c = ap tag_of c.self.view_is

pub returns-in_default-clause-room : goal.returns-in_default-clause-room
returns-in_default-clause-room g c = ap (λ (v : BoardView). v.room) c.self.view_is

pub returns-in_default-clause-step : goal.returns-in_default-clause-step
returns-in_default-clause-step g c = ap (λ (v : BoardView). v.board) c.self.view_is

pub returns-then-not-is_above-clause-tag : goal.returns-then-not-is_above-clause-tag
returns-then-not-is_above-clause-tag g c = ap tag_of c.self.view_is

pub returns-then-not-is_above-clause-room : goal.returns-then-not-is_above-clause-room
returns-then-not-is_above-clause-room g c = ap (λ (v : BoardView). v.room) c.self.view_is

pub returns-then-not-is_above-clause-step : goal.returns-then-not-is_above-clause-step
returns-then-not-is_above-clause-step g c = ap (λ (v : BoardView). v.board) c.self.view_is
