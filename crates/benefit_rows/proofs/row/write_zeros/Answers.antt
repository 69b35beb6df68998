use Rattle.benefit_rows.proofs.Zeros.{zeros_written}
use Rattle.benefit_rows.proofs.row.write_zeros.Goals as goal

pub returns-then-done-out : goal.returns-then-done-out
returns-then-done-out c = zeros_written _ _ _ c.if-done-out.true c.requires (c.fill.ensures.after (λ y same. same))
