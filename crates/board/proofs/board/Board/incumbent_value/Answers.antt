use Rattle.std.proofs.Common.{sym, ◌∙◌, ap}
use Rattle.board_laws.specs.Board.{incumbent_value}
use Rattle.board.specs.View.{BoardView}
use Rattle.board.proofs.Keeping.{held-value}
use Rattle.board.proofs.board.Board.incumbent_value.Goals as goal

pub returns-clause-value : goal.returns-clause-value
returns-clause-value g c = sym (held-value c.self.inside.best.items c.self.inside.best_value) ∙ ap (λ (v : BoardView). incumbent_value v.board) c.self.view_is
