use Rattle.std.proofs.Common.{List, sym, subst, ap, ◌∙◌}
use Rattle.pair_rows.specs.Instance.{Instance}
use Rattle.pair_rows.specs.Limits.{IsInstance}
use Rattle.qubo.specs.declared.line.Line.{Line}
use Rattle.qubo.specs.Laws.Listing.{rows-kept}
use Rattle.qubo.specs.Program.{rows_in}
use Rattle.qubo.specs.Shown.{instance_in}
use Rattle.qubo.proofs.listing.rows_of.Goals as goal

pub prepared-requires : goal.prepared-requires
prepared-requires c = subst (λ (i : Instance). IsInstance i) (sym (c.in_ok-list.ensures ∙ ap (λ (ls : List Line). rows_in (record { variables = c.args.model.now.variables; lines = ls })) c.deref.ensures.value)) (rows-kept (instance_in c.args.model.now) c.args.model.now.kept)
