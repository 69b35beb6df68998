use Rattle.std.proofs.Common.{List, ℤ, sym, subst, ap, ◌∙◌, arith}
use Rattle.std.proofs.lemmas.Int.{ints}
use Rattle.pair_rows.specs.Instance.{Instance}
use Rattle.pair_rows.specs.Limits.{IsInstance}
use Rattle.max_cut.specs.Laws.Graph.{rank_of-most}
use Rattle.max_cut.specs.Laws.Listing.{rows-kept}
use Rattle.max_cut.specs.Program.{rows_in}
use Rattle.max_cut.specs.Shown.{instance_in}
use Rattle.max_cut.proofs.listing.rows_of.Goals as goal

pub listed-requires : goal.listed-requires
listed-requires c = rw c.deref.ensures.value (omega (arith, ints, rank_of-most (instance_in c.args.model.now) c.args.model.now.graph))

pub prepared-requires : goal.prepared-requires
prepared-requires c = subst (λ (i : Instance). IsInstance i) (sym (c.in_ok-list.ensures ∙ ap (λ (ws : List ℤ). rows_in (record { vertices = c.args.model.now.vertices; weights = ws })) c.deref.ensures.value)) (rows-kept (instance_in c.args.model.now) c.args.model.now.graph)
