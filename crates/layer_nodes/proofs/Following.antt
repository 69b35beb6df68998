-- Routes that get new targets only where the old ones stand after the first nodes.
use Rattle.std.proofs.Common.{◌≡◌, ℕ, ◌+◌, ◌<◌, pos, List, ◌++◌, slice_get, Option, Some, option_and_then, sym, ◌∙◌, ap}
use Rattle.dp_laws.proofs.Diagrams.Places.{slice_get-append}
use Rattle.dp_laws.proofs.Rules.Merged.{following, length-staying, staying-at}
use Rattle.dp_laws.specs.Rules.Redirects.{Redirect}
use Rattle.dp_laws.specs.Rules.Reducing.{staying}
use Rattle.layer_nodes.specs.declared.routing.Route.{Route}
use Rattle.layer_nodes.specs.Redirecting.{redirect_of, rerouted_by, rerouted}
use Rattle.layer_nodes.proofs.Kept.{plus-none}

-- a target before the first place stays
pub before-first : (ls : List (Option Redirect)) (route : Route) (first i : ℕ) → route.target ≡ Some i → i < first → route ≡ rerouted (staying first ++ ls) route
before-first ls route first i e less =
    let at : redirect_of (staying first ++ ls) (Some i) ≡ Some (record { place = i; longer = pos 0 }) =
    ap (option_and_then (λ (l : Option Redirect). l)) (slice_get-append (staying first) ls i (Some (record { place = i; longer = pos 0 })) (staying-at first i less)) in
    ap (λ (t : Option ℕ). record route { target = t }) e
    ∙ (ap (λ l. record route { target = Some i; longer = l }) (sym (plus-none route.longer))
    ∙ sym (ap (λ (t : Option ℕ). rerouted_by route (redirect_of (staying first ++ ls) t)) e ∙ ap (rerouted_by route) at))

-- another is that of the redirects from there on
pub following-first : (ls : List (Option Redirect)) (route : Route) (first i j : ℕ) → route.target ≡ Some i → i ≡ first + j → rerouted ls (record route { target = Some j }) ≡ rerouted (staying first ++ ls) route
following-first ls route first i j e sum =
    let at : redirect_of (staying first ++ ls) (Some i) ≡ redirect_of ls (Some j) =
    ap (λ k. option_and_then (λ (l : Option Redirect). l) (slice_get (staying first ++ ls) k)) sum ∙ ap (option_and_then (λ (l : Option Redirect). l)) (following (staying first) ls first j (length-staying first)) in
    sym (ap (λ (t : Option ℕ). rerouted_by route (redirect_of (staying first ++ ls) t)) e ∙ ap (rerouted_by route) at)
