use Rattle.std.proofs.Common.{arith}
use Rattle.node_sets.proofs.Made.{row_is}
use Rattle.node_sets.proofs.Changes.{clear_cells, clear_members}
use Rattle.node_sets.proofs.member.clear.Goals as goal

pub returns-clause-members : goal.returns-clause-members
returns-clause-members c = clear_members _ _ (c.fill.ensures.after (λ y same. same))

pub returns-clause-row : goal.returns-clause-row
returns-clause-row c =
    row_is _ _ _ (clear_cells _ _ (c.fill.ensures.after (λ y same. same))) (omega arith) (clear_members _ _ (c.fill.ensures.after (λ y same. same)))
