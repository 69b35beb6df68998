use Rattle.std.proofs.Common.{rules, ◌≡◌, filter, Bool, heap_items, sym, subst, Contains}
use Rattle.std.proofs.lemmas.Fn.{filter_same}
use Rattle.std.proofs.lemmas.List.Sorted.{Contains-permutation}
use Rattle.fringe.specs.declared.rank.Rank.{Rank}
use Rattle.fringe.specs.Ranks.{RanksView}
use Rattle.fringe.specs.Slots.{has_rank, in_slot}
use Rattle.fringe.proofs.Filters.{contains_filter}
use Rattle.fringe.proofs.ranks.Ranks.keep_fresh.Goals as goal

pub returns-clause-kept : goal.returns-clause-kept
returns-clause-kept c rank has fresh =
    let f = c.retain.ensures.filtered in
    let p : Rank → Bool = λ r. has_rank r (in_slot c.args.slots.now r.slot) in
    let there : Contains (heap_items c.self.inside.heap) rank = subst (λ (v : RanksView). Contains v.ranks rank) (sym c.self.view_is) has in
    let e : f.0 ≡ filter p (heap_items c.self.inside.heap) = filter_same _ p _ (λ x b f' k. search rules) _ _ f.1 in
    Contains-permutation f.0 _ rank f.2 (subst (λ l. Contains l rank) (sym e) (contains_filter p (heap_items c.self.inside.heap) rank there fresh))
