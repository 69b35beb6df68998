use Rattle.std.proofs.Common.{arith}
use Rattle.node_sets.proofs.Combined.{combined_more, combined_members}
use Rattle.node_sets.proofs.Made.{row_is}
use Rattle.node_sets.specs.declared.pairing.Pairing.TheVariants.{Union}
use Rattle.node_sets.proofs.combine.union_with.Goals as goal

pub loop-i-preserved : goal.loop-i-preserved
loop-i-preserved c =
    rw (c.put.ensures, c.words-word.ensures)
    (combined_more Union _ _ _ _ _ _ c.loop-i.invariant c.requires.other_cells (omega arith) c.word.ensures c.word-in-loop-i.ensures)

pub returns-clause-members : goal.returns-clause-members
returns-clause-members c =
    combined_members Union _ _ _ c.loop-i.i c.requires.other_cells c.requires.same (omega arith) (omega arith) c.loop-i.invariant

pub returns-clause-row : goal.returns-clause-row
returns-clause-row c =
    row_is _ _ _ c.loop-i.invariant.cells (omega arith)
    (combined_members Union _ _ _ c.loop-i.i c.requires.other_cells c.requires.same (omega arith) (omega arith) c.loop-i.invariant)
