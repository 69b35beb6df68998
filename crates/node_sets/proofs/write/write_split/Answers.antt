use Rattle.std.proofs.Common.{nat_eq, arith}
use Rattle.node_sets.proofs.Written.{written_more, without_more, written_all}
use Rattle.node_sets.proofs.write.write_split.Goals as goal

pub words-preserved : goal.words-preserved
words-preserved c = record {
  one = rw c.put.ensures
      (written_more _ (λ u. nat_eq u c.args.v) _ _ _ c.words.invariant.one (omega arith) (omega arith) (omega arith) c.word_of_one-bit.ensures);
  must = rw c.put-in-words.ensures
      (without_more _ c.args.v _ _ _ _ _ c.requires.must_cells c.words.invariant.must (omega arith) (omega arith) c.word.ensures (omega arith) c.word_of_one-bit.ensures);
  may = rw c.put-in-words-2.ensures
      (without_more _ c.args.v _ _ _ _ _ c.requires.may_cells c.words.invariant.may (omega arith) (omega arith) c.word-in-words.ensures (omega arith) c.word_of_one-bit.ensures);
}

pub returns-clause-one : goal.returns-clause-one
returns-clause-one c = written_all _ _ _ _ (omega arith) (omega arith) c.words.invariant.one

pub returns-clause-must : goal.returns-clause-must
returns-clause-must c = written_all _ _ _ _ (omega arith) (omega arith) c.words.invariant.must

pub returns-clause-may : goal.returns-clause-may
returns-clause-may c = written_all _ _ _ _ (omega arith) (omega arith) c.words.invariant.may
