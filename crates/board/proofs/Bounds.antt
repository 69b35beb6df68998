-- The greatest of a number and the bounds of a list, by the greatest of the bounds.
use Rattle.std.proofs.Common.{◌≡◌, ℤ, List, [], ◌∷◌, map, cond, Option, Some, None, refl, sym, ◌∙◌, ap, arith}
use Rattle.std.proofs.lemmas.Int.{ints}
use Rattle.std.specs.Prelude.{int_lt}
use Rattle.dp_model.specs.Numbers.{greatest, greatest_from}
use Rattle.fringe.specs.Tickets.{Ticketed}
use Rattle.fringe.specs.Bounds.{raised}
use Rattle.board_laws.specs.Bound.{raised_by}

abbrev bounds : List Ticketed → List ℤ
bounds os = map (λ (o : Ticketed). o.subproblem.bound) os

raised-twice : (most : Option ℤ) (z y : ℤ) → raised (raised most z) y ≡ raised most (cond (int_lt z y) y z)
raised-twice None z y = refl
raised-twice (Some m) z y = ap Some (grind (arith, ints))

raised-from : (os : List Ticketed) (most : Option ℤ) (z : ℤ) → raised_by (raised most z) os ≡ raised most (greatest_from z (bounds os))
raised-from [] most z = refl
raised-from (o ∷ os) most z =
    let y = o.subproblem.bound in
    ap (λ m. raised_by m os) (raised-twice most z y) ∙ raised-from os most (cond (int_lt z y) y z)

pub raised_none : (most : Option ℤ) (os : List Ticketed) → None ≡ greatest (map (λ (o : Ticketed). o.subproblem.bound) os) → most ≡ raised_by most os
raised_none most [] h = refl
raised_none most (o ∷ os) h = absurd (cc)

pub raised_some : (most : Option ℤ) (os : List Ticketed) (z : ℤ) → Some z ≡ greatest (map (λ (o : Ticketed). o.subproblem.bound) os) → raised most z ≡ raised_by most os
raised_some most [] z h = absurd (cc)
raised_some most (o ∷ os) z h =
    let same : z ≡ greatest_from o.subproblem.bound (bounds os) = cc in
    ap (raised most) same ∙ sym (raised-from os most o.subproblem.bound)
