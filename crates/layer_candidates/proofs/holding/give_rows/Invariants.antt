use Rattle.std.proofs.Common.{drop, map}
use Rattle.layer_candidates.specs.HeldRows.{HasExchanged}
use Rattle.layer_candidates.proofs.holding.give_rows.Given as goal

abbrev pub invariant-things : goal.invariant-things
invariant-things g l = HasExchanged l.fn.region (map g.T.HasRow.place l.things) l.region (drop l.i (map g.T.HasRow.place l.things))
