use Rattle.layer_nodes.proofs.Redirected.{IsChanged}
use Rattle.layer_nodes.proofs.redirecting.redirect_routes.Given as goal

abbrev pub invariant-routes : goal.invariant-routes
invariant-routes l = IsChanged l.redirects l.fn.routes l.routes l.i
