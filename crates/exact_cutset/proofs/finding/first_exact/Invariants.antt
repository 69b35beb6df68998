use Rattle.std.proofs.Common.{◌≡◌, drop}
use Rattle.dp_laws.specs.Diagrams.Cutsets.{first_exact}
use Rattle.layer_build.specs.Layers.{diagram_of}
use Rattle.relaxed_dd.specs.Shown.{last_of, layer_in}
use Rattle.exact_cutset.proofs.finding.first_exact.Given as goal

abbrev pub invariant-nodes : goal.invariant-nodes
invariant-nodes l =
    first_exact (drop l.node (layer_in (diagram_of l.space) (last_of (diagram_of l.space)))) ≡ first_exact (layer_in (diagram_of l.space) (last_of (diagram_of l.space)))
