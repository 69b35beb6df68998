use Rattle.max_cut.proofs.Crossings.{Crosses}
use Rattle.max_cut.proofs.sides.weight_of_cut.Given as goal

-- the weight so far and the weight across the rest make the weight
abbrev pub invariant-loop-k : goal.invariant-loop-k
invariant-loop-k l = Crosses l.weights l.rest l.sides l.k l.total
