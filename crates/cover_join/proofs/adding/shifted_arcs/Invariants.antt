use Rattle.std.proofs.Common.{◌≡◌, ◌++◌, length, map}
use Rattle.cover_join.specs.Joined.{shifted_arc}
use Rattle.cover_join.proofs.adding.shifted_arcs.Given as goal

abbrev pub invariant-loop-rest : goal.invariant-loop-rest
invariant-loop-rest l = l.out.items ++ map (shifted_arc l.before) l.rest ≡ map (shifted_arc l.before) l.arcs

abbrev pub decreases-loop-rest : goal.decreases-loop-rest
decreases-loop-rest l = length l.rest
