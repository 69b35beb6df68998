use Rattle.std.proofs.Common.{◌≡◌, ◌-◌, map}
use Rattle.tokens.specs.Text.{is_at_end}
use Rattle.part_text.specs.Grammar.{until}
use Rattle.part_text.specs.Reports.{next_at, settled_view}
use Rattle.part_text.proofs.reading.read_more.Given as goal

abbrev pub invariant-loop : goal.invariant-loop
invariant-loop l =
    until is_at_end (next_at l.most) (l.most - l.counter) (map settled_view l.reports.items) l.tokens
    ≡ until is_at_end (next_at l.most) l.most (map settled_view l.initial.reports.items) l.initial.tokens
