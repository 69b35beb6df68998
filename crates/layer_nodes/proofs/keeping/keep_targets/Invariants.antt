use Rattle.std.proofs.Common.{List}
use Rattle.dp_laws.specs.Diagrams.Nodes.{DdNode}
use Rattle.dp_laws.specs.Rules.Reducing.{keep_redirects}
use Rattle.layer_nodes.proofs.Redirected.{IsChanged}
use Rattle.layer_nodes.proofs.keeping.keep_targets.Given as goal

abbrev pub invariant-routes : goal.invariant-routes
invariant-routes l = (layer : List DdNode) → IsChanged (keep_redirects l.width layer) l.fn.routes l.routes l.i
