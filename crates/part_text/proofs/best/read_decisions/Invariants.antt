use Rattle.std.proofs.Common.{◌≡◌, ◌-◌}
use Rattle.tokens.specs.Text.{ends_line}
use Rattle.part_text.specs.Grammar.{until}
use Rattle.part_text.specs.Reports.{decision_at}
use Rattle.part_text.proofs.best.read_decisions.Given as goal

abbrev pub invariant-loop : goal.invariant-loop
invariant-loop l =
    until ends_line decision_at (l.most - l.counter) l.decisions.items l.tokens
    ≡ until ends_line decision_at l.most l.initial.decisions.items l.initial.tokens
