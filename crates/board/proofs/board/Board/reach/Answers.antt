use Rattle.std.proofs.Common.{◌+ℤ◌, FitsSigned, w64, sym, ◌∙◌, subst, rules}
use Rattle.std.proofs.lemmas.Int.{to_z-of_z}
use Rattle.std.specs.Arc.{arc_value}
use Rattle.dp_model.specs.Laws.{IsLawful}
use Rattle.dp_model.specs.Numbers.{IsFar}
use Rattle.board.proofs.Keeping.{held-fits, held-value}
use Rattle.board.proofs.board.Board.reach.Given as given
use Rattle.board.proofs.board.Board.reach.Goals as goal

laws_of : (g : given.Over) (m : g.row.M.Denot) → IsLawful (g.M.DpModel.meaning (g.M.DpModel.numbers m))
laws_of g m = (g.met.M.DpModel g.world.𝓛 g.world.𝓜 g.world.𝓡 ((λ s x. x), (λ x. x), (λ x. x), λ x. x)).lawful m

pub reach_of-requires : goal.reach_of-requires
reach_of-requires g c value is =
    let within : FitsSigned w64 c.self.inside.settings.within = search rules in
    subst (λ z. IsFar (value +ℤ z)) (sym (to_z-of_z w64 c.self.inside.settings.within within))
    (held-fits _ (laws_of g (arc_value c.self.inside.model)) _ c.self.invariant.board value (held-value c.self.inside.best.items c.self.inside.best_value ∙ is))
