use Rattle.layer_build.proofs.Walked.{NoneExact}
use Rattle.layer_build.proofs.walking.exact_place.Given as goal

abbrev pub invariant-nodes : goal.invariant-nodes
invariant-nodes l = NoneExact l.layer.nodes l.i
