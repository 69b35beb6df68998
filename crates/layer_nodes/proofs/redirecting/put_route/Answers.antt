use Rattle.std.proofs.Common.{◌≡◌, None, set, unwrap_or, sym, ◌∙◌, ap}
use Rattle.layer_nodes.proofs.Pruned.{set-own}
use Rattle.layer_nodes.proofs.redirecting.put_route.Goals as goal

pub returns-in_default : goal.returns-in_default
returns-in_default c =
    let a = c.args in
    let none : a.new ≡ None = c.in_default.is in
    sym (ap (λ o. set a.routes.now a.i (unwrap_or o a.route)) none ∙ set-own a.routes.now a.i a.route c.requires)
