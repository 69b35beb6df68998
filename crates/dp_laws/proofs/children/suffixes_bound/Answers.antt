use Rattle.dp_model.proofs.Members.{each-of-all}
use Rattle.dp_model.specs.Prefixes.{IsContinuation, gain_of}
use Rattle.dp_laws.specs.Diagrams.Seen.{IsBounded}
use Rattle.dp_laws.proofs.Diagrams.Suffixes.{bounded}
use Rattle.dp_laws.proofs.children.suffixes_bound.Goals as goal

pub returns : goal.returns
returns c = λ dp p w t k layer more laws all long. each-of-all (λ node. (c : _) → IsContinuation dp k node.row c → IsBounded t node (gain_of dp k node.row c)) layer (λ node has c path. bounded dp laws p w t k layer more all long node has c path)
