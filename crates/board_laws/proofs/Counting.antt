-- How many prefixes begin with one of several that are apart.
use Rattle.std.proofs.Common.{◌≡◌, ℕ, ◌+◌, ◌<◌, ◌≤◌, List, [], ◌∷◌, length, refl, arith}
use Rattle.std.specs.List.{sum_by}
use Rattle.std.proofs.lemmas.List.Sums.{sum_by-cons}
use Rattle.dp_model.specs.Counts.{pot}
use Rattle.dp_model.specs.Dp.{Dp}
use Rattle.dp_model.specs.Lists.{Each}
use Rattle.dp_model.specs.Subproblem.{IsOwn, IsChild}
use Rattle.dp_model.proofs.Members.{Each-map, Each-then}
use Rattle.dp_laws.specs.Antichains.{NeitherBegins, IsExtension}
use Rattle.dp_laws.specs.Pairs.{EachTwo}
use Rattle.dp_laws.proofs.Counting.{sum-map, pots-below, pots-positive}
use Rattle.fringe.specs.Tickets.{Ticketed}
use Rattle.board_laws.proofs.Lists.{two-map}
use Rattle.board_laws.specs.Board.{prefixes}
use Rattle.dp_laws.specs.Children.{AreApart}
use Rattle.board_laws.specs.GoodBoard.{pot_of, share_of}

-- together fewer prefixes begin with children that are apart than with their parent
pub children-below : (dp : Dp) (p : List ℕ) (os : List Ticketed) → length p < dp.vars → Each (λ o. IsChild dp p o.subproblem) os
    → EachTwo (λ a o. AreApart a.subproblem o.subproblem) os → sum_by (pot_of dp) os < pot dp p
children-below dp p os short own two =
    let extensions = Each-then (λ (o : Ticketed). IsChild dp p o.subproblem) (λ o. IsExtension dp p o.subproblem.decisions) os
    (λ o c. record { prefix = c.own.prefix; extends = c.extends; deeper = c.deeper }) own in
    let same = sum-map (pot dp) (λ (o : Ticketed). o.subproblem.decisions) os in
    let less = pots-below dp p (prefixes os) short (Each-map (λ (o : Ticketed). o.subproblem.decisions) (IsExtension dp p) os extensions)
    (two-map (λ (o : Ticketed). o.subproblem.decisions) NeitherBegins os two) in
    omega arith

-- the counts are the shares beside one for each
pub pots-split : (dp : Dp) (os : List Ticketed) → Each (λ o. IsOwn dp o.subproblem) os → sum_by (pot_of dp) os ≡ sum_by (share_of dp) os + length os
pots-split dp [] h = refl
pots-split dp (o ∷ os) h =
    let some = pots-positive dp o.subproblem.decisions h.0.shorter in
    let rest = pots-split dp os h.1 in let left = sum_by-cons (pot_of dp) o os in let right = sum_by-cons (share_of dp) o os in omega arith

-- there are at least as many prefixes as there are in the list
pub pots-many : (dp : Dp) (os : List Ticketed) → Each (λ o. IsOwn dp o.subproblem) os → length os ≤ sum_by (pot_of dp) os
pots-many dp os h = let split = pots-split dp os h in omega arith
