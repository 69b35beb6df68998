use Rattle.layer_build.proofs.Walked.{IsWalked}
use Rattle.layer_build.proofs.walking.write_path.Given as goal

abbrev pub invariant-steps : goal.invariant-steps
invariant-steps l = IsWalked l.stack l.prefix l.out l.depth l.node l.k l.at

abbrev pub decreases-steps : goal.decreases-steps
decreases-steps l = l.k
