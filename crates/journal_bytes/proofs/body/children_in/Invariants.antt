use Rattle.std.proofs.Common.{◌≡◌, ◌-◌, map}
use Rattle.journal_bytes.specs.Bodies.{child_at, many}
use Rattle.journal_bytes.specs.Views.{child_view}
use Rattle.journal_bytes.proofs.Loop.{with_front}
use Rattle.journal_bytes.proofs.body.children_in.Given as goal

abbrev pub invariant-loop : goal.invariant-loop
invariant-loop l = with_front (map child_view l.children.items) (many child_at (l.count - l.counter) l.rest) ≡ many child_at l.count l.bytes
