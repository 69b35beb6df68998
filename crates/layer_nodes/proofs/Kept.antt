-- Routes that lose their targets after a width.
use Rattle.std.proofs.Common.{◌≡◌, ℕ, zero, suc, ◌+◌, ◌-◌, ◌<◌, ◌≤◌, nat_lt, ℤ, pos, ◌+ℤ◌, true, false, cond, List, ◌++◌, length, replicate, slice_get, Option, Some, None, option_and_then, ◌⊎◌, inl, inr, refl, sym, ◌∙◌, ap, arith}
use Rattle.std.proofs.lemmas.Int.{ints}
use Rattle.dp_laws.specs.Diagrams.Nodes.{DdNode}
use Rattle.dp_laws.proofs.Diagrams.Places.{slice_get-append}
use Rattle.dp_laws.proofs.Rules.Merged.{following, length-staying, staying-at}
use Rattle.dp_laws.specs.Rules.Redirects.{Redirect}
use Rattle.dp_laws.specs.Rules.Reducing.{staying, keep_redirects}
use Rattle.layer_nodes.specs.declared.routing.Route.{Route}
use Rattle.layer_nodes.specs.Keeping.{kept_target, kept_route}
use Rattle.layer_nodes.specs.Redirecting.{redirect_of, rerouted_by, rerouted}

none-there : (m j : ℕ) → option_and_then (λ (l : Option Redirect). l) (slice_get (replicate m None) j) ≡ None
none-there zero j = refl
none-there (suc m) zero = refl
none-there (suc m) (suc j) = none-there m j

pub plus-none : (z : ℤ) → z +ℤ pos 0 ≡ z
plus-none z = omega (arith, ints)

-- a target below the width stays, and another is lost
kept-some : (width m i : ℕ) → redirect_of (staying width ++ replicate m None) (Some i) ≡ cond (nat_lt i width) (Some (record { place = i; longer = pos 0 })) None
kept-some width m i = go (let at : (i < width) ⊎ (width ≤ i) = grind arith in at)
  where
    go : (i < width) ⊎ (width ≤ i) → redirect_of (staying width ++ replicate m None) (Some i) ≡ cond (nat_lt i width) (Some (record { place = i; longer = pos 0 })) None
    go (inl less) =
        let test : nat_lt i width ≡ true = grind arith in
        ap (option_and_then (λ (l : Option Redirect). l)) (slice_get-append (staying width) (replicate m None) i (Some (record { place = i; longer = pos 0 })) (staying-at width i less))
        ∙ ap (λ b. cond b (Some (record { place = i; longer = pos 0 })) None) (sym test)
    go (inr more) =
        let test : nat_lt i width ≡ false = grind arith in
        let sum : i ≡ width + (i - width) = omega arith in
        ap (λ j. option_and_then (λ (l : Option Redirect). l) (slice_get (staying width ++ replicate m None) j)) sum
        ∙ (ap (option_and_then (λ (l : Option Redirect). l)) (following (staying width) (replicate m None) width (i - width) (length-staying width))
        ∙ (none-there m (i - width) ∙ ap (λ b. cond b (Some (record { place = i; longer = pos 0 })) None) (sym test)))

by-test : (route : Route) (i : ℕ) → (b : _) → record route { target = cond b (Some i) None } ≡ rerouted_by route (cond b (Some (record { place = i; longer = pos 0 })) None)
by-test route i true = ap (λ l. record route { target = Some i; longer = l }) (sym (plus-none route.longer))
by-test route i false = refl

kept-target : (width m : ℕ) (route : Route) (target : Option ℕ) → record route { target = kept_target width target } ≡ rerouted_by route (redirect_of (staying width ++ replicate m None) target)
kept-target width m route None = refl
kept-target width m route (Some i) = by-test route i (nat_lt i width) ∙ ap (rerouted_by route) (sym (kept-some width m i))

pub kept-is : (width : ℕ) (layer : List DdNode) (route : Route) → kept_route width route ≡ rerouted (keep_redirects width layer) route
kept-is width layer route = kept-target width (length layer - width) route route.target
