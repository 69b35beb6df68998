use Rattle.layer_candidates.proofs.Walked.{IsWalkedBack}
use Rattle.layer_candidates.proofs.walking.write_path.Given as goal

abbrev pub invariant-steps : goal.invariant-steps
invariant-steps l = IsWalkedBack l.prefix l.steps l.last l.fn.out l.out l.step l.at

abbrev pub decreases-steps : goal.decreases-steps
decreases-steps l = l.step
