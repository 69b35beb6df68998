use Rattle.std.proofs.Common.{ap, sym, ◌∙◌}
use Rattle.pending_rows.specs.Pending.{Pending, is_open}
use Rattle.tsp_windows.proofs.instance.TspWindows.next_open.Goals as goal

pub returns-clause-skipped : goal.returns-clause-skipped
returns-clause-skipped c v low high =
    ap (λ (p : Pending). is_open p v) (sym c.pending_of.ensures.shown) ∙ c.next_open.ensures.skipped v low high
