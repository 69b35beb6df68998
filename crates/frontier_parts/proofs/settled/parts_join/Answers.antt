use Rattle.frontier_parts.proofs.Joined.{joined_best, joined_within, dealt_covers}
use Rattle.frontier_parts.proofs.Settling.{settled_later, covered_settles}
use Rattle.frontier_parts.proofs.settled.parts_join.Goals as goal

pub returns : goal.returns
returns c = record {
  best = λ dp inc parts shown covers each. joined_best dp inc parts shown covers each;
  within = λ dp within inc parts covers each. joined_within dp inc within parts covers each;
  begun = λ dp inc P deals. dealt_covers dp inc P deals;
  later = λ dp inc later part up is. settled_later dp inc later part up is;
  covered = λ dp inc p layers place laws prefix is. covered_settles dp laws inc p layers place prefix is;
}
