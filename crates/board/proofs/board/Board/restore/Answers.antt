use Rattle.std.proofs.Common.{◌≡◌, ◌∙◌, sym, subst}
use Rattle.std.specs.Arc.{arc_value}
use Rattle.dp_model.specs.Laws.{IsLawful}
use Rattle.board_laws.specs.Restoring.{MayRestore}
use Rattle.board.specs.Opened.{solution_in, ticketed}
use Rattle.board.specs.Starting.{IsStart}
use Rattle.board.proofs.Starts.{IsRestoredStart, restored-start-is, restored-start-board}
use Rattle.board.proofs.board.Board.restore.Given as given
use Rattle.board.proofs.board.Board.restore.Goals as goal

laws_of : (g : given.Over) (m : g.row.M.Denot) → IsLawful (g.M.DpModel.meaning (g.M.DpModel.numbers m))
laws_of g m = (g.met.M.DpModel g.world.𝓛 g.world.𝓜 g.world.𝓡 ((λ s x. x), (λ x. x), (λ x. x), λ x. x)).lawful m

pub restored_start-requires-clause-may : goal.restored_start-requires-clause-may
restored_start-requires-clause-may g c κs within =
    subst (λ m. MayRestore (g.M.DpModel.meaning (g.M.DpModel.numbers m)) (solution_in (g.M.DpModel.meaning (g.M.DpModel.numbers m)) c.args.incumbent) (ticketed c.args.opened.items) c.args.next) (sym c.deref-2.ensures) c.requires.may

pub fresh-requires-clause-of : goal.fresh-requires-clause-of
fresh-requires-clause-of g c κs within = subst (λ m. IsStart (g.M.DpModel.meaning (g.M.DpModel.numbers m)) c.in_ok-start.start) c.deref-2.ensures c.in_ok-start.ensures.of

pub fresh-requires-clause-board : goal.fresh-requires-clause-board
fresh-requires-clause-board g c κs within =
    let is = subst (λ m. IsRestoredStart c.args.settings (solution_in (g.M.DpModel.meaning (g.M.DpModel.numbers m)) c.args.incumbent) (ticketed c.args.opened.items) c.args.next c.in_ok-start.start) c.deref-2.ensures
    (record { best_is = c.in_ok-start.ensures.best; opens = c.in_ok-start.ensures.«open»; next_is = c.in_ok-start.ensures.next }) in
    restored-start-board _ (laws_of g (arc_value c.args.model)) c.args.settings _ _ c.args.next c.in_ok-start.start c.requires.settings c.requires.may is

pub fresh-requires-clause-row : goal.fresh-requires-clause-row
fresh-requires-clause-row g c κs within = c.in_ok-blank.ensures.row ∙ subst (λ m. c.words.result ≡ (g.M.DpModel.meaning (g.M.DpModel.numbers m)).words) c.deref.ensures c.words.ensures

pub fresh-requires-clause-spare : goal.fresh-requires-clause-spare
fresh-requires-clause-spare g c κs within = c.in_ok-blank.ensures.spare ∙ subst (λ m. c.words.result ≡ (g.M.DpModel.meaning (g.M.DpModel.numbers m)).words) c.deref.ensures c.words.ensures

pub returns-clause-board : goal.returns-clause-board
returns-clause-board g c =
    let is = subst (λ m. IsRestoredStart c.args.settings (solution_in (g.M.DpModel.meaning (g.M.DpModel.numbers m)) c.args.incumbent) (ticketed c.args.opened.items) c.args.next c.in_ok-start.start) c.deref-2.ensures
    (record { best_is = c.in_ok-start.ensures.best; opens = c.in_ok-start.ensures.«open»; next_is = c.in_ok-start.ensures.next }) in
    c.fresh.ensures.board ∙ restored-start-is c.args.settings _ _ c.args.next c.in_ok-start.start is
