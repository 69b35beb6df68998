use Rattle.std.proofs.Common.{subst, map, rules, IsPermutation}
use Rattle.std.specs.List.Sorted.{IsNonDecreasingBy}
use Rattle.std.proofs.lemmas.List.Sorted.{IsNonDecreasingBy-from_sort_by_key, IsPermutation-map}
use Rattle.fringe.specs.Listing.{referred}
use Rattle.fringe.proofs.Orders.{rising, sorted_opened}
use Rattle.fringe.proofs.listing.list_by_ticket.Goals as goal

pub returns : goal.returns
returns c =
    let slots = c.args.slots.now in
    let before = c.in_ok-list.list.items in
    let after = c.sort_unstable_by_key.new.self.items in
    let up : IsNonDecreasingBy (λ p. p.0) after = IsNonDecreasingBy-from_sort_by_key (λ p. p.0) after c.sort_unstable_by_key.ensures.sorted (λ a r q k. search rules) in
    let moved : IsPermutation (map referred before) (map referred after) = IsPermutation-map referred before after c.sort_unstable_by_key.ensures.permutation in
    sorted_opened slots (map referred after) c.requires (subst (λ l. IsPermutation l (map referred after)) c.in_ok-list.ensures moved) (rising after up)
