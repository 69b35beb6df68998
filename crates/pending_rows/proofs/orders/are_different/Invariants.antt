use Rattle.std.proofs.Common.{length, ◌≡◌}
use Rattle.pending_rows.specs.Orders.{are_different}
use Rattle.pending_rows.proofs.orders.are_different.Given as goal

abbrev pub invariant-numbers : goal.invariant-numbers
invariant-numbers l = are_different l.rest ≡ are_different l.list

abbrev pub decreases-numbers : goal.decreases-numbers
decreases-numbers l = length l.rest
