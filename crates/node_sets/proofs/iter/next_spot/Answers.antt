use Rattle.std.proofs.Common.{arith}
use Rattle.node_sets.proofs.Tests.{none_in_word, none_at_end}
use Rattle.node_sets.proofs.Comings.{whole_word, none_in_rest}
use Rattle.node_sets.proofs.iter.next_spot.Goals as goal

pub words-init : goal.words-init
words-init c = none_in_rest _ c.args.spot.word c.args.spot.from _ c.requires (omega arith)

pub words-preserved : goal.words-preserved
words-preserved c = none_in_word _ c.args.spot.from c.words.i _ c.word-bits.ensures (omega arith) c.words.invariant

pub returns-then-bits-ne0-clause-rest : goal.returns-then-bits-ne0-clause-rest
returns-then-bits-ne0-clause-rest c = whole_word _ c.words.i _ c.requires.cells c.requires.short c.word-bits.ensures

pub returns-clause-none : goal.returns-clause-none
returns-clause-none c = none_at_end _ c.args.spot.from c.words.i (omega arith) c.words.invariant

pub returns-then-bits-ne0-clause-skipped : goal.returns-then-bits-ne0-clause-skipped
returns-then-bits-ne0-clause-skipped c = c.words.invariant
