use Rattle.std.proofs.Common.{◌++◌, ◌≡◌, List, subst, map, ◌∙◌, ap, rules, IsPermutation}
use Rattle.std.proofs.lemmas.List.Sorted.{IsNonDecreasingBy-from_sort_by_key, IsPermutation-map, IsPermutation-append_comm, IsPermutation-trans}
use Rattle.std.specs.List.Sorted.{IsNonDecreasingBy}
use Rattle.fringe.specs.Tickets.{Ticketed}
use Rattle.fringe.specs.Listing.{referred}
use Rattle.fringe.proofs.Orders.{rising}
use Rattle.board_laws.specs.Board.{full_slots}
use Rattle.board.proofs.Orders.{sorted-is}
use Rattle.board.proofs.listing.list_frontier.Goals as goal

pub returns : goal.returns
returns c =
    let full = full_slots c.args.slots.now in
    let os = c.args.fringe.now.open_ones in
    let before = c.in_ok-all.all.items in
    let after = c.sort_unstable_by_key.new.self.items in
    let up : IsNonDecreasingBy (λ p. p.0) after = IsNonDecreasingBy-from_sort_by_key (λ p. p.0) after c.sort_unstable_by_key.ensures.sorted (λ a r q k. search rules) in
    let moved : IsPermutation (map referred before) (map referred after) = IsPermutation-map referred before after c.sort_unstable_by_key.ensures.permutation in
    let are : map referred before ≡ os ++ full = c.in_ok-all.ensures ∙ ap (λ (l : List Ticketed). l ++ full) c.in_ok-listed.ensures in
    sorted-is (full ++ os) (map referred after) c.requires
    (IsPermutation-trans (full ++ os) (os ++ full) (map referred after) (IsPermutation-append_comm full os) (subst (λ (l : List Ticketed). IsPermutation l (map referred after)) are moved))
    (rising after up)
