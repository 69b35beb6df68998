use Rattle.std.proofs.Common.{rules, ◌+◌, pos, None, sym, ◌∙◌, subst}
use Rattle.layer_nodes.specs.declared.routing.Route.{Route}
use Rattle.dp_laws.specs.Rules.Reducing.{keep_redirects}
use Rattle.layer_nodes.proofs.Kept.{kept-is}
use Rattle.layer_nodes.proofs.Redirected.{IsChanged, changed-none, changed-more, changed-all}
use Rattle.layer_nodes.proofs.keeping.keep_targets.Goals as goal

abbrev none : Route
none = record { target = None; longer = pos 0 }

pub routes-init : goal.routes-init
routes-init c = λ layer. changed-none (keep_redirects c.args.width layer) c.args.routes.now

pub routes-preserved : goal.routes-preserved
routes-preserved c = λ layer.
    let ls = keep_redirects c.args.width layer in
    subst (λ l. IsChanged ls c.args.routes.now l (c.routes.i + 1)) (sym c.put_route.ensures)
    (changed-more ls c.args.routes.now c.routes.routes c.routes.i _ none (c.routes.invariant layer) c.routes-test.true
    (λ far. c.lose_target-new.ensures ∙ kept-is c.args.width layer _))

pub returns : goal.returns
returns c = λ layer wide. changed-all (keep_redirects c.args.width layer) c.args.routes.now c.routes.routes c.routes.i (c.routes.invariant layer) (search rules)
