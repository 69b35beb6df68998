use Rattle.std.proofs.Common.{◌+ℤ◌, [], FitsSigned, w64, sym, ◌∙◌, ap, subst, arith}
use Rattle.std.proofs.lemmas.Int.{ints, to_z-of_z}
use Rattle.dp_model.specs.Laws.{IsLawful}
use Rattle.dp_model.specs.Numbers.{IsFar}
use Rattle.board_laws.specs.Board.{reach_of}
use Rattle.board_laws.specs.GoodBoard.{IncumbentHolds}
use Rattle.board_laws.specs.Restoring.{pushed_above}
use Rattle.board.specs.Kept.{best_of}
use Rattle.board.specs.Opened.{ticketed}
use Rattle.board.proofs.Keeping.{held-by, held-value}
use Rattle.board.proofs.Listed.{listed-cells}
use Rattle.board.proofs.restoring.restored_start.Given as given
use Rattle.board.proofs.restoring.restored_start.Goals as goal

laws_of : (g : given.Over) (m : g.row.M.Denot) → IsLawful (g.M.DpModel.meaning (g.M.DpModel.numbers m))
laws_of g m = (g.met.M.DpModel g.world.𝓛 g.world.𝓜 g.world.𝓡 ((λ s x. x), (λ x. x), (λ x. x), λ x. x)).lawful m

pub reach_of-reach-requires : goal.reach_of-reach-requires
reach_of-reach-requires g c v is =
    let dp = g.M.DpModel.meaning (g.M.DpModel.numbers c.args.model.now) in
    let settings = c.args.settings.now in
    let held = best_of c.copy_incumbent.new.best.items c.in_ok-best_value.best_value in
    let holds : IncumbentHolds dp held = subst (IncumbentHolds dp) (sym c.in_ok-best_value.ensures.copied) c.requires.may.incumbent in
    let least = c.requires.settings.distance.least in
    let most = c.requires.settings.distance.most in
    let fits : FitsSigned w64 settings.within = omega (arith, ints) in
    subst (λ z. IsFar (v +ℤ z)) (sym (to_z-of_z w64 settings.within fits))
    (held-by dp (laws_of g c.args.model.now) settings c.requires.settings held holds v (held-value c.copy_incumbent.new.best.items c.in_ok-best_value.best_value ∙ is))

pub push_above-requires-clause-cells : goal.push_above-requires-clause-cells
push_above-requires-clause-cells g c =
    listed-cells _ (laws_of g c.args.model.now) (ticketed c.args.opened.items) c.in_ok-fringe.fringe.words (c.in_ok-fringe.ensures.words ∙ c.words.ensures) c.requires.may.own

pub returns-clause-open : goal.returns-clause-open
returns-clause-open g c =
    let settings = c.args.settings.now in
    let value = c.in_ok-best_value.best_value in
    let least = c.requires.settings.distance.least in
    let most = c.requires.settings.distance.most in
    let fits : FitsSigned w64 settings.within = omega (arith, ints) in
    c.push_above.ensures.pushed ∙ ap (λ r. pushed_above r [] (ticketed c.args.opened.items))
    (c.reach_of-reach.ensures ∙ (ap (λ z. reach_of z value) (to_z-of_z w64 settings.within fits) ∙ ap (reach_of settings.within) (sym (held-value c.copy_incumbent.new.best.items value))))
