use Rattle.std.proofs.Common.{◌*◌, ◌+◌, arith}
use Rattle.node_sets.specs.Sets.{has}
use Rattle.node_sets.proofs.Below.{count_below-le}
use Rattle.node_sets.proofs.Counts.{count_more, count_next}
use Rattle.node_sets.proofs.test.count.Goals as goal

pub overflow_add-total : goal.overflow_add-total
overflow_add-total c =
    let more = count_more _ c.words.i _ c.word.ensures (omega arith) in
    let most = count_below-le (32 * (c.words.i + 1)) (has c.args.row.now) in
    record { fits = omega (arith, more, most, c.words.invariant) }

pub words-preserved : goal.words-preserved
words-preserved c =
    count_next _ c.words.i _ c.words.total c.word.ensures (omega arith) c.words.invariant
