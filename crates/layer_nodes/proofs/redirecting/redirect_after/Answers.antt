use Rattle.std.proofs.Common.{rules, ◌≡◌, ◌+◌, ◌<◌, Some, unwrap_or, FitsSigned, w64, sym, ◌∙◌, ap, subst, arith}
use Rattle.std.proofs.lemmas.Int.{to_z-of_z}
use Rattle.dp_model.specs.Numbers.{IsFar}
use Rattle.layer_nodes.specs.Redirecting.{rerouted}
use Rattle.layer_nodes.proofs.Following.{before-first, following-first}
use Rattle.layer_nodes.proofs.redirecting.redirect_after.Goals as goal

pub returns-in_err-place : goal.returns-in_err-place
returns-in_err-place c = λ far.
    let a = c.args in
    let less : c.in_ok-route.field-0 < a.first = (let not = c.in_err-place.ensures in grind arith) in
    ap (λ o. unwrap_or o a.route) c.from_residual-in_err-place.ensures ∙ before-first a.redirects.now a.route a.first c.in_ok-route.field-0 c.in_ok-route.was less

pub returns : goal.returns
returns c = λ far.
    let a = c.args in
    let fits : FitsSigned w64 a.route.longer = search rules in
    let longer = to_z-of_z w64 a.route.longer fits in
    let at = c.in_ok-place.ensures in
    let sum : c.in_ok-route.field-0 ≡ a.first + c.in_ok-place.place = (let low = at.0 in let is = at.1 in omega arith) in
    c.redirect_route.ensures (subst IsFar (sym longer) far)
    ∙ (ap (λ l. rerouted a.redirects.now (record { target = Some c.in_ok-place.place; longer = l })) longer
    ∙ following-first a.redirects.now a.route a.first c.in_ok-route.field-0 c.in_ok-place.place c.in_ok-route.was sum)
