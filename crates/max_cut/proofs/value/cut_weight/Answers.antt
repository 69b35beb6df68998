use Rattle.std.proofs.Common.{arith}
use Rattle.std.proofs.lemmas.Int.{ints}
use Rattle.max_cut.specs.Laws.Graph.{rank_of-most}
use Rattle.max_cut.specs.Shown.{instance_in}
use Rattle.max_cut.proofs.value.cut_weight.Goals as goal

pub weight_of_cut-requires-clause-sizes : goal.weight_of_cut-requires-clause-sizes
weight_of_cut-requires-clause-sizes c = rw c.as_slice.ensures.value (omega (arith, ints, rank_of-most (instance_in c.args.model.now) c.args.model.now.graph))
