use Rattle.std.proofs.Common.{◌∙◌, arith}
use Rattle.node_sets.specs.Sets.{words_for}
use Rattle.node_sets.proofs.Below.{count_below-le}
use Rattle.pending_rows.specs.Pending.{shown}
use Rattle.pending_rows.proofs.Tests.{count_shown}
use Rattle.pending_rows.proofs.Written.{time_cell}
use Rattle.pending_rows.proofs.states.left.Goals as goal

pub overflow_cast-result : goal.overflow_cast-result
overflow_cast-result c =
    let same = c.count.ensures ∙ count_shown c.args.n (words_for c.args.n) c.args.s.now _ c.parts_of.ensures.must c.parts_of.ensures.must_set in
    let most = count_below-le c.args.n (shown (words_for c.args.n) c.args.s.now).must in
    record { sfits = omega (arith, same, most, c.requires.few) }

pub returns : goal.returns
returns c =
    let same = c.count.ensures ∙ count_shown c.args.n (words_for c.args.n) c.args.s.now _ c.parts_of.ensures.must c.parts_of.ensures.must_set in
    let most = count_below-le c.args.n (shown (words_for c.args.n) c.args.s.now).must in
    time_cell _ _ same (omega (arith, same, most, c.requires.few))
