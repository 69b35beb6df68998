use Rattle.std.proofs.Common.{◌≡◌, ℕ, map, length, vec_len, rules, sym, ap, ◌∙◌, subst, arith, []}
use Rattle.dp_model.specs.Lists.{Each}
use Rattle.dp_laws.specs.Rules.Compiling.{prune}
use Rattle.layer_nodes.specs.Nodes.{told_by, LayerView}
use Rattle.layer_nodes.specs.Stored.{Room}
use Rattle.layer_nodes.specs.Steps.{IsRanked, MayBeLengthened}
use Rattle.dp_laws.specs.Rules.Pruning.{pruned_nodes}
use Rattle.dp_laws.proofs.Rules.Pruned.{few-pruned}
use Rattle.layer_build.specs.contracts.workspace.Workspace.{the_view}
use Rattle.layer_build.specs.Layers.{SpaceView, last_depth, on_last_two}
use Rattle.layer_build.specs.Stacked.{place_above, HaveDepths}
use Rattle.layer_build.specs.UnderWay.{IsUnderWay}
use Rattle.layer_build.proofs.Held.{newest-held, newest-live}
use Rattle.layer_build.proofs.Kept.{pruned-under-way}
use Rattle.layer_build.proofs.Depths.{prune-depths}
use Rattle.layer_build.proofs.Shown.{stays, ranked-of}
use Rattle.layer_build.proofs.Going.{deep, count-seen, nodes-seen, lengths-seen, under, lent, above-within}
use Rattle.layer_build.proofs.Changing.{HasChanged, HasGivenBack, fewer-by, changed, changed-space, changed-seen, changed-ranks, struck-layers}
use Rattle.layer_build.proofs.workspace.Workspace.strike.Goals as goal

pub index_mut-requires : goal.index_mut-requires
index_mut-requires g c =
    let i = c.self.inside in let h = c.self.invariant in
    let within = above-within i h in
    let e = c.place_above-at.ensures in
    let long : vec_len i.stack.layers ≡ length i.stack.layers.items = search rules in
    omega arith

pub strike-requires-clause-nodes : goal.strike-requires-clause-nodes
strike-requires-clause-nodes g c κs within =
    let dp = g.M.DpModel.meaning (g.M.DpModel.numbers c.args.model.now) in
    nodes-seen dp c.self.inside c.self.invariant (under dp c.self.inside c.args.self.now c.self.view_is c.requires.under_way)

pub strike-requires-clause-lengths : goal.strike-requires-clause-lengths
strike-requires-clause-lengths g c κs within =
    let dp = g.M.DpModel.meaning (g.M.DpModel.numbers c.args.model.now) in
    let i = c.self.inside in let h = c.self.invariant in
    let place = above-within i h in
    let x = lent i.stack.layers.items c.place_above-at.result (place_above i.stack.vars i.stack.first i.stack.last) c.index_mut.result.now _ c.index_mut.ensures.value c.place_above-at.ensures place in
    subst (λ (l : LayerView). Each MayBeLengthened l.nodes) (sym x) (lengths-seen dp i h (under dp i c.args.self.now c.self.view_is c.requires.under_way))

pub strike-requires-clause-room : goal.strike-requires-clause-room
strike-requires-clause-room g c κs within =
    let dp = g.M.DpModel.meaning (g.M.DpModel.numbers c.args.model.now) in
    let i = c.self.inside in let h = c.self.invariant in
    let u = under dp i c.args.self.now c.self.view_is c.requires.under_way in
    let few = u.few in
    let count = count-seen i h in
    let fit = ap (λ (r : Room). r.most) h.redirects_fit in
    omega arith

pub strike-requires-clause-held : goal.strike-requires-clause-held
strike-requires-clause-held g c κs within = newest-held c.self.inside.words c.self.inside.width c.self.inside.held c.self.inside.stack c.self.invariant.rows

pub strike-requires-clause-live : goal.strike-requires-clause-live
strike-requires-clause-live g c κs within = newest-live c.self.inside.words c.self.inside.width c.self.inside.held c.self.inside.stack c.self.invariant.rows

pub invariant_of-self : goal.invariant_of-self
invariant_of-self g c =
    let dp = g.M.DpModel.meaning (g.M.DpModel.numbers c.args.model.now) in
    let i = c.self.inside in let h = c.self.invariant in
    let u = under dp i c.args.self.now c.self.view_is c.requires.under_way in
    let e = c.strike.ensures in
    let at = c.place_above-at.result in let old = c.index_mut.result.now in
    let x = c.strike.new.above in let n = c.strike.new.next in let region = c.strike.new.region in let r = c.strike.new.redirects in
    let place = above-within i h in
    let above = lent i.stack.layers.items at (place_above i.stack.vars i.stack.first i.stack.last) old _ c.index_mut.ensures.value c.place_above-at.ensures place in
    let is : HasChanged i at old _ x n r = record { place = c.place_above-at.ensures; lent = c.index_mut.ensures.value; above = above; rest = e.rest; rooms = e.next_rooms; redirects_stay = e.redirects } in
    let given : HasGivenBack i n region = record { held = e.held; exchanged = e.exchanged; fewer = fewer-by (pruned_nodes dp i.stack.last c.args.threshold [] 0) i.stack.newest.nodes n.nodes e.next (λ l same. few-pruned dp i.stack.last c.args.threshold [] 0 l) } in
    let seen = struck-layers dp i h u.one c.args.threshold at old _ x n region r i.first_reduced is e.above e.next in
    changed-space i h at old _ x n region r i.first_reduced is given (subst (HaveDepths i.stack.first) (sym seen) (prune-depths dp i.stack.last c.args.threshold i.stack.first _ h.depths))

pub returns-clause-layers : goal.returns-clause-layers
returns-clause-layers g c =
    let dp = g.M.DpModel.meaning (g.M.DpModel.numbers c.args.model.now) in
    let i = c.self.inside in let h = c.self.invariant in
    let u = under dp i c.args.self.now c.self.view_is c.requires.under_way in
    let e = c.strike.ensures in
    let at = c.place_above-at.result in let old = c.index_mut.result.now in
    let x = c.strike.new.above in let n = c.strike.new.next in let region = c.strike.new.region in let r = c.strike.new.redirects in
    let place = above-within i h in
    let above = lent i.stack.layers.items at (place_above i.stack.vars i.stack.first i.stack.last) old _ c.index_mut.ensures.value c.place_above-at.ensures place in
    let is : HasChanged i at old _ x n r = record { place = c.place_above-at.ensures; lent = c.index_mut.ensures.value; above = above; rest = e.rest; rooms = e.next_rooms; redirects_stay = e.redirects } in
    let seen = struck-layers dp i h u.one c.args.threshold at old _ x n region r i.first_reduced is e.above e.next in
    let whole = changed-seen i at old _ x n region r i.first_reduced is (on_last_two (prune dp i.stack.last c.args.threshold) (the_view i).layers) seen in
    let here : the_view (changed i at x n region r i.first_reduced) ≡ record (the_view i) { layers = on_last_two (prune dp (last_depth (the_view i)) c.args.threshold) (the_view i).layers; told = map told_by n.nodes } =
    whole ∙ ap (λ (k : ℕ). record (the_view i) { layers = on_last_two (prune dp k c.args.threshold) (the_view i).layers; told = map told_by n.nodes }) (sym (deep i h)) in
    here ∙ ap (λ (s : SpaceView). record s { layers = on_last_two (prune dp (last_depth s) c.args.threshold) s.layers; told = map told_by n.nodes }) c.self.view_is

pub returns-clause-under_way : goal.returns-clause-under_way
returns-clause-under_way g c =
    let dp = g.M.DpModel.meaning (g.M.DpModel.numbers c.args.model.now) in
    let i = c.self.inside in let h = c.self.invariant in
    let u = under dp i c.args.self.now c.self.view_is c.requires.under_way in
    let e = c.strike.ensures in
    let at = c.place_above-at.result in let old = c.index_mut.result.now in
    let x = c.strike.new.above in let n = c.strike.new.next in let region = c.strike.new.region in let r = c.strike.new.redirects in
    let place = above-within i h in
    let above = lent i.stack.layers.items at (place_above i.stack.vars i.stack.first i.stack.last) old _ c.index_mut.ensures.value c.place_above-at.ensures place in
    let is : HasChanged i at old _ x n r = record { place = c.place_above-at.ensures; lent = c.index_mut.ensures.value; above = above; rest = e.rest; rooms = e.next_rooms; redirects_stay = e.redirects } in
    let given : HasGivenBack i n region = record { held = e.held; exchanged = e.exchanged; fewer = fewer-by (pruned_nodes dp i.stack.last c.args.threshold [] 0) i.stack.newest.nodes n.nodes e.next (λ l same. few-pruned dp i.stack.last c.args.threshold [] 0 l) } in
    let seen = struck-layers dp i h u.one c.args.threshold at old _ x n region r i.first_reduced is e.above e.next in
    let whole = changed-seen i at old _ x n region r i.first_reduced is (on_last_two (prune dp i.stack.last c.args.threshold) (the_view i).layers) seen in
    let here : the_view (changed i at x n region r i.first_reduced) ≡ record (the_view i) { layers = on_last_two (prune dp (last_depth (the_view i)) c.args.threshold) (the_view i).layers; told = map told_by n.nodes } =
    whole ∙ ap (λ (k : ℕ). record (the_view i) { layers = on_last_two (prune dp k c.args.threshold) (the_view i).layers; told = map told_by n.nodes }) (sym (deep i h)) in
    let space = changed-space i h at old _ x n region r i.first_reduced is given (subst (HaveDepths i.stack.first) (sym seen) (prune-depths dp i.stack.last c.args.threshold i.stack.first _ h.depths)) in
    let ranked = stays (IsRanked dp i.stack.last) i.stack.newest.nodes n.nodes e.stay (ranked-of dp i.stack.last i.stack.newest.nodes (nodes-seen dp i h u)) in
    let deep-seen : (the_view (changed i at x n region r i.first_reduced)).layers ≡ on_last_two (prune dp (last_depth (the_view i)) c.args.threshold) (the_view i).layers = ap (λ (s : SpaceView). s.layers) here in
    subst (IsUnderWay dp) (sym here)
    (pruned-under-way dp (the_view i) (map told_by n.nodes) c.args.threshold u
    (changed-ranks dp (prune dp (last_depth (the_view i)) c.args.threshold) i h u at x n region r i.first_reduced space deep-seen ranked))
