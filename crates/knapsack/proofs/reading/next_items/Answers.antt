use Rattle.std.proofs.Common.{arith, sym, ◌∙◌}
use Rattle.tokens.proofs.Chains.{times_more, times_done, times_steps}
use Rattle.knapsack.specs.Reading.{item_after}
use Rattle.knapsack.proofs.reading.next_items.Goals as goal

pub loop-preserved : goal.loop-preserved
loop-preserved c = record {
  reads =
      sym (times_more item_after c.args.count c.loop.counter c.loop.items.items c.next_item.new.items.items c.loop.tokens c.next_item.new.tokens c.loop-test.true c.in_ok-next_item.ensures.reads)
      ∙ c.loop.invariant.reads;
  many = omega (arith, c.in_ok-next_item.ensures.one, c.loop.invariant.many);
  small = c.in_ok-next_item.ensures.small;
}

pub returns-clause-reads : goal.returns-clause-reads
returns-clause-reads c = sym c.loop.invariant.reads ∙ times_done item_after c.args.count c.loop.counter c.loop.items.items c.loop.tokens c.loop-test.false

pub returns-in_err-next_item-clause-reads : goal.returns-in_err-next_item-clause-reads
returns-in_err-next_item-clause-reads c = grind (arith, times_steps, c.loop.invariant, c.loop-test.true)
