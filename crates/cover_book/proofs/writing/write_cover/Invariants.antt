use Rattle.std.proofs.Common.{◌≡◌, take}
use Rattle.bound_cover.specs.Clamping.{clamped_layers}
use Rattle.cover_book.proofs.writing.write_cover.Given as goal

abbrev pub invariant-layers : goal.invariant-layers
invariant-layers g l = l.cover ≡ clamped_layers (g.M.DpModel.meaning (g.M.DpModel.numbers l.model)) 0 (take l.k l.rows)
