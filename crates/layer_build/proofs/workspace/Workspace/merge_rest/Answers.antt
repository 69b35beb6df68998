use Rattle.std.proofs.Common.{◌≡◌, ℕ, ◌<◌, Option, map, length, vec_len, rules, sym, ap, ◌∙◌, subst, arith}
use Rattle.dp_model.specs.Lists.{Each}
use Rattle.dp_laws.specs.Rules.Compiling.{merge_rest}
use Rattle.layer_nodes.specs.Nodes.{told_by, LayerView}
use Rattle.layer_nodes.specs.Stored.{Room}
use Rattle.layer_nodes.specs.Steps.{MayBeLengthened}
use Rattle.dp_laws.specs.Rules.Reducing.{merged_layer}
use Rattle.layer_build.proofs.Kept.{merged-length}
use Rattle.layer_build.specs.contracts.workspace.Workspace.{the_view}
use Rattle.layer_build.specs.Layers.{SpaceView, last_depth, last_layer, on_last_two, reduced_first}
use Rattle.layer_build.specs.Stacked.{place_above, HaveDepths}
use Rattle.layer_build.specs.UnderWay.{IsUnderWay}
use Rattle.layer_build.proofs.Held.{newest-held, newest-live}
use Rattle.layer_build.proofs.Kept.{merged-under-way}
use Rattle.layer_build.proofs.Depths.{merge-depths}
use Rattle.layer_build.proofs.Going.{deep, count-seen, nodes-seen, lengths-seen, words-seen, under, lent, above-within, wide-less}
use Rattle.layer_build.proofs.Changing.{HasChanged, HasGivenBack, fewer-by, changed, changed-space, changed-seen, changed-ranks, changed-layers}
use Rattle.layer_build.proofs.workspace.Workspace.merge_rest.Goals as goal

pub index_mut-requires : goal.index_mut-requires
index_mut-requires g c =
    let i = c.self.inside in let h = c.self.invariant in
    let within = above-within i h in
    let e = c.place_above-at.ensures in
    let long : vec_len i.stack.layers ≡ length i.stack.layers.items = search rules in
    omega arith

pub merge_rest-requires-clause-positive : goal.merge_rest-requires-clause-positive
merge_rest-requires-clause-positive g c κs within =
    let dp = g.M.DpModel.meaning (g.M.DpModel.numbers c.args.model.now) in
    let i = c.self.inside in let h = c.self.invariant in
    let u = under dp i c.args.self.now c.self.view_is c.requires.under_way in
    let wide = subst (λ (s : SpaceView). s.width < length (last_layer s.layers)) (sym c.self.view_is) c.requires.wide in
    let less = wide-less dp i h u wide in
    u.prepared.width.positive

pub merge_rest-requires-clause-wide : goal.merge_rest-requires-clause-wide
merge_rest-requires-clause-wide g c κs within =
    let dp = g.M.DpModel.meaning (g.M.DpModel.numbers c.args.model.now) in
    let i = c.self.inside in let h = c.self.invariant in
    let u = under dp i c.args.self.now c.self.view_is c.requires.under_way in
    let wide = subst (λ (s : SpaceView). s.width < length (last_layer s.layers)) (sym c.self.view_is) c.requires.wide in
    let less = wide-less dp i h u wide in
    let count = count-seen i h in omega arith

pub merge_rest-requires-clause-region_words : goal.merge_rest-requires-clause-region_words
merge_rest-requires-clause-region_words g c κs within =
    let dp = g.M.DpModel.meaning (g.M.DpModel.numbers c.args.model.now) in
    c.self.invariant.rows.words_are ∙ words-seen dp c.self.inside c.args.self.now c.self.view_is c.requires.under_way

pub merge_rest-requires-clause-words : goal.merge_rest-requires-clause-words
merge_rest-requires-clause-words g c κs within =
    let dp = g.M.DpModel.meaning (g.M.DpModel.numbers c.args.model.now) in
    ap (λ (r : Room). r.words) c.self.invariant.redirects_fit ∙ words-seen dp c.self.inside c.args.self.now c.self.view_is c.requires.under_way

pub merge_rest-requires-clause-nodes : goal.merge_rest-requires-clause-nodes
merge_rest-requires-clause-nodes g c κs within =
    let dp = g.M.DpModel.meaning (g.M.DpModel.numbers c.args.model.now) in
    let i = c.self.inside in let h = c.self.invariant in
    let u = under dp i c.args.self.now c.self.view_is c.requires.under_way in
    let wide = subst (λ (s : SpaceView). s.width < length (last_layer s.layers)) (sym c.self.view_is) c.requires.wide in
    let less = wide-less dp i h u wide in
    nodes-seen dp i h u

pub merge_rest-requires-clause-lengths : goal.merge_rest-requires-clause-lengths
merge_rest-requires-clause-lengths g c κs within =
    let dp = g.M.DpModel.meaning (g.M.DpModel.numbers c.args.model.now) in
    let i = c.self.inside in let h = c.self.invariant in
    let u = under dp i c.args.self.now c.self.view_is c.requires.under_way in
    let wide = subst (λ (s : SpaceView). s.width < length (last_layer s.layers)) (sym c.self.view_is) c.requires.wide in
    let less = wide-less dp i h u wide in
    let place = above-within i h in
    let x = lent i.stack.layers.items c.place_above-at.result (place_above i.stack.vars i.stack.first i.stack.last) c.index_mut.result.now _ c.index_mut.ensures.value c.place_above-at.ensures place in
    subst (λ (l : LayerView). Each MayBeLengthened l.nodes) (sym x) (lengths-seen dp i h u)

pub merge_rest-requires-clause-room : goal.merge_rest-requires-clause-room
merge_rest-requires-clause-room g c κs within =
    let dp = g.M.DpModel.meaning (g.M.DpModel.numbers c.args.model.now) in
    let i = c.self.inside in let h = c.self.invariant in
    let u = under dp i c.args.self.now c.self.view_is c.requires.under_way in
    let wide = subst (λ (s : SpaceView). s.width < length (last_layer s.layers)) (sym c.self.view_is) c.requires.wide in
    let less = wide-less dp i h u wide in
    let few = u.few in
    let count = count-seen i h in
    let fit = ap (λ (r : Room). r.most) h.redirects_fit in
    omega arith

pub merge_rest-requires-clause-held : goal.merge_rest-requires-clause-held
merge_rest-requires-clause-held g c κs within = newest-held c.self.inside.words c.self.inside.width c.self.inside.held c.self.inside.stack c.self.invariant.rows

pub merge_rest-requires-clause-live : goal.merge_rest-requires-clause-live
merge_rest-requires-clause-live g c κs within = newest-live c.self.inside.words c.self.inside.width c.self.inside.held c.self.inside.stack c.self.invariant.rows

pub invariant_of-self : goal.invariant_of-self
invariant_of-self g c =
    let dp = g.M.DpModel.meaning (g.M.DpModel.numbers c.args.model.now) in
    let i = c.self.inside in let h = c.self.invariant in
    let u = under dp i c.args.self.now c.self.view_is c.requires.under_way in
    let wide = subst (λ (s : SpaceView). s.width < length (last_layer s.layers)) (sym c.self.view_is) c.requires.wide in
    let less = wide-less dp i h u wide in
    let e = c.merge_rest.ensures in
    let at = c.place_above-at.result in let old = c.index_mut.result.now in
    let x = c.merge_rest.new.above in let n = c.merge_rest.new.next in let region = c.merge_rest.new.region in let r = c.merge_rest.new.redirects in
    let f = c.reduced_first-self-inside.result in
    let place = above-within i h in
    let above = lent i.stack.layers.items at (place_above i.stack.vars i.stack.first i.stack.last) old _ c.index_mut.ensures.value c.place_above-at.ensures place in
    let is : HasChanged i at old _ x n r = record { place = c.place_above-at.ensures; lent = c.index_mut.ensures.value; above = above; rest = e.rest; rooms = e.next_rooms; redirects_stay = e.redirects } in
    let given : HasGivenBack i n region = record { held = e.held; exchanged = e.exchanged; fewer = fewer-by (merged_layer dp i.stack.last i.width) i.stack.newest.nodes n.nodes e.next (λ l same. (let count = count-seen i h in let some = u.prepared.width.positive in let short = merged-length dp i.stack.last i.width l some (omega arith) in omega arith)) } in
    let seen = changed-layers (merge_rest dp i.stack.last i.width) i h less at old _ x n region r f is e.above (λ paths a. e.next paths) in
    changed-space i h at old _ x n region r f is given (subst (HaveDepths i.stack.first) (sym seen) (merge-depths dp i.stack.last i.width i.stack.first _ h.depths))

pub returns-clause-layers : goal.returns-clause-layers
returns-clause-layers g c =
    let dp = g.M.DpModel.meaning (g.M.DpModel.numbers c.args.model.now) in
    let i = c.self.inside in let h = c.self.invariant in
    let u = under dp i c.args.self.now c.self.view_is c.requires.under_way in
    let wide = subst (λ (s : SpaceView). s.width < length (last_layer s.layers)) (sym c.self.view_is) c.requires.wide in
    let less = wide-less dp i h u wide in
    let e = c.merge_rest.ensures in
    let at = c.place_above-at.result in let old = c.index_mut.result.now in
    let x = c.merge_rest.new.above in let n = c.merge_rest.new.next in let region = c.merge_rest.new.region in let r = c.merge_rest.new.redirects in
    let f = c.reduced_first-self-inside.result in
    let place = above-within i h in
    let above = lent i.stack.layers.items at (place_above i.stack.vars i.stack.first i.stack.last) old _ c.index_mut.ensures.value c.place_above-at.ensures place in
    let is : HasChanged i at old _ x n r = record { place = c.place_above-at.ensures; lent = c.index_mut.ensures.value; above = above; rest = e.rest; rooms = e.next_rooms; redirects_stay = e.redirects } in
    let seen = changed-layers (merge_rest dp i.stack.last i.width) i h less at old _ x n region r f is e.above (λ paths a. e.next paths) in
    let whole = changed-seen i at old _ x n region r f is (on_last_two (merge_rest dp i.stack.last i.width) (the_view i).layers) seen in
    let here : the_view (changed i at x n region r f) ≡ record (the_view i) { layers = on_last_two (merge_rest dp (last_depth (the_view i)) i.width) (the_view i).layers; told = map told_by n.nodes; first_reduced = reduced_first i.first_reduced (last_depth (the_view i)) } =
    whole ∙ (ap (λ (o : Option ℕ). record (the_view i) { layers = on_last_two (merge_rest dp i.stack.last i.width) (the_view i).layers; told = map told_by n.nodes; first_reduced = o }) c.reduced_first-self-inside.ensures
    ∙ ap (λ (k : ℕ). record (the_view i) { layers = on_last_two (merge_rest dp k i.width) (the_view i).layers; told = map told_by n.nodes; first_reduced = reduced_first i.first_reduced k }) (sym (deep i h))) in
    here ∙ ap (λ (s : SpaceView). record s { layers = on_last_two (merge_rest dp (last_depth s) s.width) s.layers; told = map told_by n.nodes; first_reduced = reduced_first s.first_reduced (last_depth s) }) c.self.view_is

pub returns-clause-under_way : goal.returns-clause-under_way
returns-clause-under_way g c =
    let dp = g.M.DpModel.meaning (g.M.DpModel.numbers c.args.model.now) in
    let i = c.self.inside in let h = c.self.invariant in
    let u = under dp i c.args.self.now c.self.view_is c.requires.under_way in
    let wide = subst (λ (s : SpaceView). s.width < length (last_layer s.layers)) (sym c.self.view_is) c.requires.wide in
    let less = wide-less dp i h u wide in
    let e = c.merge_rest.ensures in
    let at = c.place_above-at.result in let old = c.index_mut.result.now in
    let x = c.merge_rest.new.above in let n = c.merge_rest.new.next in let region = c.merge_rest.new.region in let r = c.merge_rest.new.redirects in
    let f = c.reduced_first-self-inside.result in
    let place = above-within i h in
    let above = lent i.stack.layers.items at (place_above i.stack.vars i.stack.first i.stack.last) old _ c.index_mut.ensures.value c.place_above-at.ensures place in
    let is : HasChanged i at old _ x n r = record { place = c.place_above-at.ensures; lent = c.index_mut.ensures.value; above = above; rest = e.rest; rooms = e.next_rooms; redirects_stay = e.redirects } in
    let given : HasGivenBack i n region = record { held = e.held; exchanged = e.exchanged; fewer = fewer-by (merged_layer dp i.stack.last i.width) i.stack.newest.nodes n.nodes e.next (λ l same. (let count = count-seen i h in let some = u.prepared.width.positive in let short = merged-length dp i.stack.last i.width l some (omega arith) in omega arith)) } in
    let seen = changed-layers (merge_rest dp i.stack.last i.width) i h less at old _ x n region r f is e.above (λ paths a. e.next paths) in
    let whole = changed-seen i at old _ x n region r f is (on_last_two (merge_rest dp i.stack.last i.width) (the_view i).layers) seen in
    let here : the_view (changed i at x n region r f) ≡ record (the_view i) { layers = on_last_two (merge_rest dp (last_depth (the_view i)) i.width) (the_view i).layers; told = map told_by n.nodes; first_reduced = reduced_first i.first_reduced (last_depth (the_view i)) } =
    whole ∙ (ap (λ (o : Option ℕ). record (the_view i) { layers = on_last_two (merge_rest dp i.stack.last i.width) (the_view i).layers; told = map told_by n.nodes; first_reduced = o }) c.reduced_first-self-inside.ensures
    ∙ ap (λ (k : ℕ). record (the_view i) { layers = on_last_two (merge_rest dp k i.width) (the_view i).layers; told = map told_by n.nodes; first_reduced = reduced_first i.first_reduced k }) (sym (deep i h))) in
    let space = changed-space i h at old _ x n region r f is given (subst (HaveDepths i.stack.first) (sym seen) (merge-depths dp i.stack.last i.width i.stack.first _ h.depths)) in
    let deep-seen : (the_view (changed i at x n region r f)).layers ≡ on_last_two (merge_rest dp (last_depth (the_view i)) i.width) (the_view i).layers = ap (λ (s : SpaceView). s.layers) here in
    subst (IsUnderWay dp) (sym here)
    (merged-under-way dp (the_view i) (map told_by n.nodes) (reduced_first i.first_reduced (last_depth (the_view i))) u wide
    (changed-ranks dp (merge_rest dp (last_depth (the_view i)) i.width) i h u at x n region r f space deep-seen e.ranked))
