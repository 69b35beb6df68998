use Rattle.std.proofs.Common.{◌≡◌, ◌++◌, ◌∷◌, [], map, take}
use Rattle.bound_cover.specs.Clamping.{clamped_row}
use Rattle.cover_book.proofs.writing.add_layer.Given as goal

abbrev pub invariant-rows : goal.invariant-rows
invariant-rows g l = l.cover ≡ l.fn.cover ++ map (clamped_row (g.M.DpModel.meaning (g.M.DpModel.numbers l.model)) l.k) (take l.i l.layer) ∷ []
