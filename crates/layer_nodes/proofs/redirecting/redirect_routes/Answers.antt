use Rattle.std.proofs.Common.{rules, pos, None}
use Rattle.layer_nodes.specs.declared.routing.Route.{Route}
use Rattle.layer_nodes.proofs.Redirected.{changed-more, changed-all}
use Rattle.layer_nodes.proofs.redirecting.redirect_routes.Goals as goal

abbrev none : Route
none = record { target = None; longer = pos 0 }

pub routes-preserved : goal.routes-preserved
routes-preserved c = changed-more c.args.redirects.now c.args.routes.now c.routes.routes c.routes.i c.redirect_route.result none c.routes.invariant c.routes-test.true c.redirect_route.ensures

pub returns : goal.returns
returns c = changed-all c.args.redirects.now c.args.routes.now c.routes.routes c.routes.i c.routes.invariant (search rules)
