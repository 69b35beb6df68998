use Rattle.node_sets.specs.Sets.{words_for}
use Rattle.pending_rows.proofs.Tests.{open_shown}
use Rattle.pending_rows.proofs.states.next_open.Goals as goal

pub returns-in-Some-clause-skipped : goal.returns-in-Some-clause-skipped
returns-in-Some-clause-skipped c v low high =
    open_shown (words_for c.args.n) c.args.s.now _ _ v c.parts_of-state.ensures.must c.parts_of-state.ensures.may (c.in-Some.ensures.next.skipped v low high)

pub returns-in-None-clause-skipped : goal.returns-in-None-clause-skipped
returns-in-None-clause-skipped c v low high =
    open_shown (words_for c.args.n) c.args.s.now _ _ v c.parts_of-state.ensures.must c.parts_of-state.ensures.may (c.in-None.ensures.none v low)
