use Rattle.std.proofs.Common.{◌≡◌, drop}
use Rattle.bound_cover.specs.Exploring.{layer_of}
use Rattle.cover_join.specs.Joined.{root_row}
use Rattle.cover_join.proofs.finding.root_arcs.Given as goal

abbrev pub invariant-loop-row : goal.invariant-loop-row
invariant-loop-row g l =
    let dp = g.M.DpModel.meaning (g.M.DpModel.numbers l.model) in
    root_row dp l.text.best (drop l.row (layer_of l.text.cover 0)) ≡ root_row dp l.text.best (layer_of l.text.cover 0)
