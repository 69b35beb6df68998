use Rattle.std.proofs.Common.{◌≡◌, ◌+◌, ◌-◌, length, true}
use Rattle.std.specs.List.{list_all}
use Rattle.tokens.specs.Grammar.{times}
use Rattle.qubo.specs.Quadratic.{is_line}
use Rattle.qubo.specs.Reading.{line_after}
use Rattle.qubo.proofs.reading.next_lines.Given as goal

-- reading goes on with what was made so far
abbrev pub invariant-loop : goal.invariant-loop
invariant-loop l = record {
  reads : times (line_after l.variables) (l.count - l.counter) l.lines.items l.tokens ≡ times (line_after l.variables) l.count l.initial.lines.items l.initial.tokens;
  many : length l.lines.items ≡ length l.initial.lines.items + l.counter;
  kept : list_all (is_line l.variables) l.lines.items ≡ true;
}
