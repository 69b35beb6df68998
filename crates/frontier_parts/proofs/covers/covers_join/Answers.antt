use Rattle.frontier_parts.proofs.Covered.{branching_covers, root_passes, cover_bounds}
use Rattle.frontier_parts.proofs.Runs.{cover_raised}
use Rattle.frontier_parts.proofs.covers.covers_join.Goals as goal

pub returns : goal.returns
returns c = record {
  branching = λ dp claim q branches laws prefix short are. branching_covers dp laws claim q prefix branches short are;
  raised = λ dp claim more p layers place up is. cover_raised dp claim more p layers place up is;
  root = λ dp claim layers place is. root_passes dp claim layers place is;
  bounds = λ dp claim p layers place laws prefix is x h. cover_bounds dp laws claim p prefix layers place is x h;
}
