use Rattle.std.proofs.Common.{◌+◌, ◌≤◌, length}
use Rattle.disk.specs.Disk.{Torn}
use Rattle.disk.proofs.content.tear.Given as goal

abbrev pub invariant-loop-i : goal.invariant-loop-i
invariant-loop-i l = record { torn : Torn l.at l.count l.fn.image.items l.image.items; long : l.at + l.count ≤ length l.image.items }
