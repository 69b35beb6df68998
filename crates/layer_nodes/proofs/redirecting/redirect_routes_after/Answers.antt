use Rattle.std.proofs.Common.{rules, ◌++◌, ◌+◌, pos, None, sym, subst}
use Rattle.layer_nodes.specs.declared.routing.Route.{Route}
use Rattle.dp_laws.specs.Rules.Reducing.{staying}
use Rattle.layer_nodes.proofs.Redirected.{IsChanged, changed-more, changed-all}
use Rattle.layer_nodes.proofs.redirecting.redirect_routes_after.Goals as goal

abbrev none : Route
none = record { target = None; longer = pos 0 }

pub routes-preserved : goal.routes-preserved
routes-preserved c =
    let ls = staying c.args.first ++ c.args.redirects.now in
    subst (λ l. IsChanged ls c.args.routes.now l (c.routes.i + 1)) (sym c.put_route.ensures)
    (changed-more ls c.args.routes.now c.routes.routes c.routes.i _ none c.routes.invariant c.routes-test.true c.redirect_after-new.ensures)

pub returns : goal.returns
returns c = changed-all (staying c.args.first ++ c.args.redirects.now) c.args.routes.now c.routes.routes c.routes.i c.routes.invariant (search rules)
