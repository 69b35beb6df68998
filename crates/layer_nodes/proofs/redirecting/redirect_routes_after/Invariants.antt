use Rattle.std.proofs.Common.{◌++◌}
use Rattle.dp_laws.specs.Rules.Reducing.{staying}
use Rattle.layer_nodes.proofs.Redirected.{IsChanged}
use Rattle.layer_nodes.proofs.redirecting.redirect_routes_after.Given as goal

abbrev pub invariant-routes : goal.invariant-routes
invariant-routes l = IsChanged (staying l.first ++ l.redirects) l.fn.routes l.routes l.i
