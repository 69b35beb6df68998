use Rattle.std.proofs.Common.{arith}
use Rattle.node_sets.proofs.Tests.{none_in_first_either, next_in_first_either, none_in_word_either, next_in_word_either, either-past, either_at_end}
use Rattle.node_sets.proofs.test.next_of_either.Goals as goal

pub returns-then-from-one-clause-none : goal.returns-then-from-one-clause-none
returns-then-from-one-clause-none c v l = either-past _ _ v c.requires.same (omega arith)

pub returns-then-rest-ne0-clause-some : goal.returns-then-rest-ne0-clause-some
returns-then-rest-ne0-clause-some c =
    let next = next_in_first_either _ _ c.requires.one_cells c.requires.two_cells c.args.from _ _ c.word.ensures c.word-2.ensures (omega arith) in omega (arith, next.0)

pub returns-then-rest-ne0-clause-next : goal.returns-then-rest-ne0-clause-next
returns-then-rest-ne0-clause-next c =
    (next_in_first_either _ _ c.requires.one_cells c.requires.two_cells c.args.from _ _ c.word.ensures c.word-2.ensures (omega arith)).1

pub loop-i-init : goal.loop-i-init
loop-i-init c = none_in_first_either _ _ c.requires.one_cells c.requires.two_cells c.args.from _ _ c.word.ensures c.word-2.ensures (omega arith)

pub returns-then-all-ne0-clause-some : goal.returns-then-all-ne0-clause-some
returns-then-all-ne0-clause-some c =
    let next = next_in_word_either _ _ c.requires.one_cells c.requires.two_cells c.args.from c.loop-i.i _ _ c.word-in-loop-i.ensures c.word-in-loop-i-2.ensures (omega arith) (omega arith) c.loop-i.invariant in omega (arith, next.0)

pub returns-then-all-ne0-clause-next : goal.returns-then-all-ne0-clause-next
returns-then-all-ne0-clause-next c =
    (next_in_word_either _ _ c.requires.one_cells c.requires.two_cells c.args.from c.loop-i.i _ _ c.word-in-loop-i.ensures c.word-in-loop-i-2.ensures (omega arith) (omega arith) c.loop-i.invariant).1

pub loop-i-preserved : goal.loop-i-preserved
loop-i-preserved c = none_in_word_either _ _ c.requires.one_cells c.requires.two_cells c.args.from c.loop-i.i _ _ c.word-in-loop-i.ensures c.word-in-loop-i-2.ensures (omega arith) c.loop-i.invariant

pub returns-clause-none : goal.returns-clause-none
returns-clause-none c = either_at_end c.args.one.now c.args.two.now c.args.from c.loop-i.i c.requires.same (omega arith) c.loop-i.invariant
