use Rattle.std.proofs.Common.{◌≡◌, ◌-◌}
use Rattle.tokens.specs.Text.{ends_line}
use Rattle.cover_text.specs.Grammar.{until}
use Rattle.cover_text.specs.Heads.{decision_at}
use Rattle.cover_text.proofs.head.read_decisions.Given as goal

abbrev pub invariant-loop : goal.invariant-loop
invariant-loop l =
    until ends_line decision_at (l.most - l.counter) l.decisions.items l.tokens
    ≡ until ends_line decision_at l.most l.initial.decisions.items l.initial.tokens
