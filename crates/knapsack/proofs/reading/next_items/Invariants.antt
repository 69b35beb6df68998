use Rattle.std.proofs.Common.{◌≡◌, ◌+◌, ◌-◌, length, true}
use Rattle.std.specs.List.{list_all}
use Rattle.tokens.specs.Grammar.{times}
use Rattle.knapsack.specs.Instance.{is_small_item}
use Rattle.knapsack.specs.Reading.{item_after}
use Rattle.knapsack.proofs.reading.next_items.Given as goal

-- reading goes on with what was made so far
abbrev pub invariant-loop : goal.invariant-loop
invariant-loop l = record {
  reads : times item_after (l.count - l.counter) l.items.items l.tokens ≡ times item_after l.count l.initial.items.items l.initial.tokens;
  many : length l.items.items ≡ length l.initial.items.items + l.counter;
  small : list_all is_small_item l.items.items ≡ true;
}
