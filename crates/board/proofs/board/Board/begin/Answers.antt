use Rattle.std.proofs.Common.{◌≡◌, ◌∙◌, subst}
use Rattle.std.specs.Arc.{arc_value}
use Rattle.dp_model.specs.Laws.{IsLawful}
use Rattle.board.specs.Starting.{IsStart}
use Rattle.board.proofs.Starts.{IsFirstStart, first-start-is, first-start-board, first-start-good, made-good}
use Rattle.board.proofs.board.Board.begin.Given as given
use Rattle.board.proofs.board.Board.begin.Goals as goal

laws_of : (g : given.Over) (m : g.row.M.Denot) → IsLawful (g.M.DpModel.meaning (g.M.DpModel.numbers m))
laws_of g m = (g.met.M.DpModel g.world.𝓛 g.world.𝓜 g.world.𝓡 ((λ s x. x), (λ x. x), (λ x. x), λ x. x)).lawful m

pub fresh-requires-clause-of : goal.fresh-requires-clause-of
fresh-requires-clause-of g c κs within = subst (λ m. IsStart (g.M.DpModel.meaning (g.M.DpModel.numbers m)) c.in_ok-start.start) c.deref-2.ensures c.in_ok-start.ensures.of

pub fresh-requires-clause-board : goal.fresh-requires-clause-board
fresh-requires-clause-board g c κs within =
    let is = subst (λ m. IsFirstStart (g.M.DpModel.meaning (g.M.DpModel.numbers m)) c.in_ok-start.start) c.deref-2.ensures (record { best = c.in_ok-start.ensures.best; opens = c.in_ok-start.ensures.«open»; next = c.in_ok-start.ensures.next }) in
    first-start-board _ (laws_of g (arc_value c.args.model)) c.args.settings c.in_ok-start.start c.requires is

pub fresh-requires-clause-row : goal.fresh-requires-clause-row
fresh-requires-clause-row g c κs within = c.in_ok-blank.ensures.row ∙ subst (λ m. c.words.result ≡ (g.M.DpModel.meaning (g.M.DpModel.numbers m)).words) c.deref.ensures c.words.ensures

pub fresh-requires-clause-spare : goal.fresh-requires-clause-spare
fresh-requires-clause-spare g c κs within = c.in_ok-blank.ensures.spare ∙ subst (λ m. c.words.result ≡ (g.M.DpModel.meaning (g.M.DpModel.numbers m)).words) c.deref.ensures c.words.ensures

pub returns-clause-board : goal.returns-clause-board
returns-clause-board g c =
    let is = subst (λ m. IsFirstStart (g.M.DpModel.meaning (g.M.DpModel.numbers m)) c.in_ok-start.start) c.deref-2.ensures (record { best = c.in_ok-start.ensures.best; opens = c.in_ok-start.ensures.«open»; next = c.in_ok-start.ensures.next }) in
    c.fresh.ensures.board ∙ first-start-is _ c.args.settings c.in_ok-start.start is

pub returns-clause-good : goal.returns-clause-good
returns-clause-good g c =
    let is = subst (λ m. IsFirstStart (g.M.DpModel.meaning (g.M.DpModel.numbers m)) c.in_ok-start.start) c.deref-2.ensures (record { best = c.in_ok-start.ensures.best; opens = c.in_ok-start.ensures.«open»; next = c.in_ok-start.ensures.next }) in
    made-good g.M.DpModel.meaning _ _ c.fresh.result c.fresh.ensures.numbers c.fresh.ensures.board c.fresh.ensures.first (first-start-good _ (laws_of g (arc_value c.args.model)) c.args.settings c.in_ok-start.start c.requires is)
