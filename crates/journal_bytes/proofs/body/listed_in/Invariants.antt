use Rattle.std.proofs.Common.{◌≡◌, ◌-◌, map}
use Rattle.journal_bytes.specs.Bodies.{listed_at, many}
use Rattle.journal_bytes.specs.Views.{listed_view}
use Rattle.journal_bytes.proofs.Loop.{with_front}
use Rattle.journal_bytes.proofs.body.listed_in.Given as goal

abbrev pub invariant-loop : goal.invariant-loop
invariant-loop l = with_front (map listed_view l.listed.items) (many listed_at (l.count - l.counter) l.rest) ≡ many listed_at l.count l.bytes
