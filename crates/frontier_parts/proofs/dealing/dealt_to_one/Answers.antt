use Rattle.std.proofs.lemmas.Nat.{mod_below}
use Rattle.frontier_parts.specs.Dealing.{turn_of}
use Rattle.frontier_parts.proofs.Turns.{dealt-own, dealt-alone}
use Rattle.frontier_parts.proofs.dealing.dealt_to_one.Goals as goal

pub returns : goal.returns
returns c = record {
  there = λ bounds of i some. mod_below (turn_of bounds i) of some;
  own = λ bounds of i within. dealt-own bounds of i within;
  alone = λ bounds of index i has. dealt-alone bounds of index i has;
}
