use Rattle.std.proofs.Common.{◌≡◌, ◌-◌}
use Rattle.std.specs.Prelude.{codes}
use Rattle.cover_text.specs.Grammar.{until, stands}
use Rattle.cover_text.specs.Tested.{tested_at}
use Rattle.cover_text.proofs.tested.test_layers.Given as goal

abbrev pub invariant-loop : goal.invariant-loop
invariant-loop g l =
    let dp = g.M.DpModel.meaning (g.M.DpModel.numbers l.model) in
    record {
      reads : until (stands (codes "end")) (tested_at dp l.most) (l.most - l.counter) l.tests l.tokens ≡ until (stands (codes "end")) (tested_at dp l.most) l.most l.initial.tests l.initial.tokens;
      count : l.tests.count ≡ l.counter;
      same : l.checker ≡ l.initial.checker;
    }
