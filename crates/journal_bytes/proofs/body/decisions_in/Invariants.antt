use Rattle.std.proofs.Common.{◌≡◌, ◌-◌}
use Rattle.std.specs.Int.{w32}
use Rattle.journal_bytes.specs.Bodies.{number_at, many}
use Rattle.journal_bytes.proofs.Loop.{with_front}
use Rattle.journal_bytes.proofs.body.decisions_in.Given as goal

abbrev pub invariant-loop : goal.invariant-loop
invariant-loop l = with_front l.decisions.items (many (number_at w32) (l.count - l.counter) l.rest) ≡ many (number_at w32) l.count l.bytes
