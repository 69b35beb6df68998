use Rattle.layer_build.specs.Layers.{diagram_of}
use Rattle.exact_cutset.proofs.Taken.{IsTakenTo}
use Rattle.exact_cutset.proofs.taking.take_layer.Given as goal

abbrev pub invariant-nodes : goal.invariant-nodes
invariant-nodes g l = IsTakenTo (g.M.DpModel.meaning (g.M.DpModel.numbers l.model)) (diagram_of l.space) l.depth l.node l.initial.out l.out
