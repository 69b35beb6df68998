use Rattle.std.proofs.Common.{sym, ◌∙◌, ap, to_z, of_z, ◌+◌, ◌%◌, ◌^◌, w64}
use Rattle.dp_laws.specs.Rules.Redirects.{Redirect}
use Rattle.layer_nodes.proofs.Redirected.{short-redirect, rerouted-some, sum-is}
use Rattle.layer_nodes.proofs.redirecting.redirect_route.Goals as goal

pub returns-in-Some : goal.returns-in-Some
returns-in-Some c = λ far.
    let there = sym c.redirect_of.ensures ∙ c.in-Some.is in
    let small = short-redirect c.args.redirects.now c.args.route.target c.in-Some.redirect c.requires.short there in
    let place = ap (λ (l : Redirect). l.place) c.redirect.view_is in
    let longer = ap (λ (l : Redirect). l.longer) c.redirect.view_is in
    rerouted-some c.args.redirects.now c.args.route c.in-Some.redirect _ _ there place
    (ap (λ l. to_z w64 ((of_z w64 c.args.route.longer + of_z w64 l) % 2 ^ 64)) longer ∙ sum-is c.args.route.longer c.in-Some.redirect.longer far small)
