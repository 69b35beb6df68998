use Rattle.std.proofs.Common.{◌≡◌, ◌-◌, ◌≤◌, ◌++◌}
use Rattle.dp_model.specs.Decisions.{below}
use Rattle.wide_layers.specs.Candidates.{candidates_by}
use Rattle.wide_layers.specs.Pieces.{AreRight}
use Rattle.wide_layers.proofs.making.push_all.Given as goal

abbrev pub invariant-decisions : goal.invariant-decisions
invariant-decisions g l = record {
  candidates : l.piece.candidates ≡ l.fn.piece.candidates ++ candidates_by (g.M.DpModel.meaning (g.M.DpModel.numbers l.model)) l.k l.parent.place l.parent.state.now (below l.decision);
  right : AreRight (g.M.DpModel.meaning (g.M.DpModel.numbers l.model)) l.k l.fn.piece → AreRight (g.M.DpModel.meaning (g.M.DpModel.numbers l.model)) l.k l.piece;
  words : l.piece.words ≡ l.fn.piece.words;
  within : l.decision ≤ l.choices;
}

abbrev pub decreases-decisions : goal.decreases-decisions
decreases-decisions g l = l.choices - l.decision
