use Rattle.std.proofs.Common.{arith}
use Rattle.node_sets.specs.declared.pairing.Pairing.TheVariants.{Intersection}
use Rattle.node_sets.proofs.Combined.{combined_more, combined_members, joined_more, joined_members}
use Rattle.node_sets.proofs.Made.{row_is}
use Rattle.node_sets.proofs.combine.join.Goals as goal

pub words-preserved : goal.words-preserved
words-preserved c = record {
  must = rw c.put.ensures
      (combined_more Intersection _ _ _ _ _ _ c.words.invariant.must c.requires.other_must_cells (omega arith) c.word-mine.ensures c.word-others.ensures);
  may = rw c.put-in-words.ensures
      (joined_more _ _ _ _ _ _ _ _ _ _ _ c.words.invariant.must c.words.invariant.may c.requires.other_must_cells c.requires.other_may_cells (omega arith) c.word-mine.ensures c.word.ensures c.word-others.ensures c.word-in-words.ensures);
}

pub returns-clause-must : goal.returns-clause-must
returns-clause-must c =
    row_is _ _ _ c.words.invariant.must.cells (omega arith)
    (combined_members Intersection _ _ _ c.words.i c.requires.other_must_cells c.requires.other_must_same (omega arith) (omega arith) c.words.invariant.must)

pub returns-clause-may : goal.returns-clause-may
returns-clause-may c =
    row_is _ _ _ c.words.invariant.may.cells (omega arith)
    (joined_members _ _ _ _ _ c.words.i c.requires.must_cells c.requires.other_must_cells c.requires.may_same c.requires.other_must_same c.requires.other_may_same (omega arith) (omega arith) c.words.invariant.may)
