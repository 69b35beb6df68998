use Rattle.std.proofs.Common.{◌≡◌, ◌-◌}
use Rattle.layer_build.specs.Layers.{last_layer}
use Rattle.wide_layers.specs.Candidates.{state_at, candidates_from}
use Rattle.wide_layers.proofs.making.make.Given as goal

abbrev pub invariant-parents : goal.invariant-parents
invariant-parents g l = record {
  candidates : l.piece.candidates ≡ candidates_from (g.M.DpModel.meaning (g.M.DpModel.numbers l.model)) l.k (state_at (last_layer l.space.layers)) l.from (l.i - l.from);
  words : l.piece.words ≡ (g.M.DpModel.meaning (g.M.DpModel.numbers l.model)).words;
}
