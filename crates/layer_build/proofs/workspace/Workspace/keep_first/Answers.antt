use Rattle.std.proofs.Common.{◌≡◌, ℕ, ◌<◌, Option, map, length, vec_len, refl, rules, sym, ap, ◌∙◌, subst, arith, take}
use Rattle.dp_model.specs.Lists.{Each}
use Rattle.dp_laws.specs.Rules.Compiling.{keep_first}
use Rattle.layer_nodes.specs.Nodes.{told_by, LayerView}
use Rattle.layer_nodes.specs.Steps.{IsRanked, MayBeLengthened}
use Rattle.std.proofs.lemmas.List.{length-take-le}
use Rattle.layer_build.specs.contracts.workspace.Workspace.{the_view}
use Rattle.layer_build.specs.Layers.{SpaceView, last_depth, last_layer, on_last_two, reduced_first}
use Rattle.layer_build.specs.Stacked.{place_above, HaveDepths}
use Rattle.layer_build.specs.UnderWay.{IsUnderWay}
use Rattle.layer_build.proofs.Held.{newest-held, newest-live}
use Rattle.layer_build.proofs.Kept.{kept-under-way}
use Rattle.layer_build.proofs.Depths.{keep-depths}
use Rattle.layer_build.proofs.Shown.{stays, ranked-of}
use Rattle.layer_build.proofs.Going.{deep, count-seen, nodes-seen, lengths-seen, under, lent, above-within, wide-less}
use Rattle.layer_build.proofs.Changing.{HasChanged, HasGivenBack, fewer-by, changed, changed-space, changed-seen, changed-ranks, changed-layers}
use Rattle.layer_build.proofs.workspace.Workspace.keep_first.Goals as goal

pub index_mut-requires : goal.index_mut-requires
index_mut-requires c =
    let i = c.self.inside in let h = c.self.invariant in
    let within = above-within i h in
    let e = c.place_above-at.ensures in
    let long : vec_len i.stack.layers ≡ length i.stack.layers.items = search rules in
    omega arith

pub keep_first-requires-clause-wide : goal.keep_first-requires-clause-wide
keep_first-requires-clause-wide c =
    let dp = c.requires.under_way.0 in
    let i = c.self.inside in let h = c.self.invariant in
    let u = under dp i c.args.self.now c.self.view_is c.requires.under_way.1 in
    let wide = subst (λ (s : SpaceView). s.width < length (last_layer s.layers)) (sym c.self.view_is) c.requires.wide in
    let less = wide-less dp i h u wide in
    let count = count-seen i h in omega arith

pub keep_first-requires-clause-lengths : goal.keep_first-requires-clause-lengths
keep_first-requires-clause-lengths c =
    let dp = c.requires.under_way.0 in
    let i = c.self.inside in let h = c.self.invariant in
    let u = under dp i c.args.self.now c.self.view_is c.requires.under_way.1 in
    let wide = subst (λ (s : SpaceView). s.width < length (last_layer s.layers)) (sym c.self.view_is) c.requires.wide in
    let less = wide-less dp i h u wide in
    let place = above-within i h in
    let x = lent i.stack.layers.items c.place_above-at.result (place_above i.stack.vars i.stack.first i.stack.last) c.index_mut.result.now _ c.index_mut.ensures.value c.place_above-at.ensures place in
    subst (λ (l : LayerView). Each MayBeLengthened l.nodes) (sym x) (lengths-seen dp i h u)

pub keep_first-requires-clause-held : goal.keep_first-requires-clause-held
keep_first-requires-clause-held c = newest-held c.self.inside.words c.self.inside.width c.self.inside.held c.self.inside.stack c.self.invariant.rows

pub keep_first-requires-clause-live : goal.keep_first-requires-clause-live
keep_first-requires-clause-live c = newest-live c.self.inside.words c.self.inside.width c.self.inside.held c.self.inside.stack c.self.invariant.rows

pub invariant_of-self : goal.invariant_of-self
invariant_of-self c =
    let dp = c.requires.under_way.0 in
    let i = c.self.inside in let h = c.self.invariant in
    let u = under dp i c.args.self.now c.self.view_is c.requires.under_way.1 in
    let wide = subst (λ (s : SpaceView). s.width < length (last_layer s.layers)) (sym c.self.view_is) c.requires.wide in
    let less = wide-less dp i h u wide in
    let e = c.keep_first.ensures in
    let at = c.place_above-at.result in let old = c.index_mut.result.now in
    let x = c.keep_first.new.above in let n = c.keep_first.new.next in let region = c.keep_first.new.region in let r = i.redirects in
    let f = c.reduced_first-self-inside.result in
    let place = above-within i h in
    let above = lent i.stack.layers.items at (place_above i.stack.vars i.stack.first i.stack.last) old _ c.index_mut.ensures.value c.place_above-at.ensures place in
    let is : HasChanged i at old _ x n r = record { place = c.place_above-at.ensures; lent = c.index_mut.ensures.value; above = above; rest = e.rest; rooms = e.next_rooms; redirects_stay = refl } in
    let given : HasGivenBack i n region = record { held = e.held; exchanged = e.exchanged; fewer = fewer-by (take i.width) i.stack.newest.nodes n.nodes e.next (λ l same. (let count = count-seen i h in let short = length-take-le i.width l (omega arith) in omega arith)) } in
    let seen = changed-layers (keep_first i.width) i h less at old _ x n region r f is e.above (λ paths a. e.next paths) in
    changed-space i h at old _ x n region r f is given (subst (HaveDepths i.stack.first) (sym seen) (keep-depths i.width i.stack.first _ h.depths))

pub returns-clause-layers : goal.returns-clause-layers
returns-clause-layers c =
    let dp = c.requires.under_way.0 in
    let i = c.self.inside in let h = c.self.invariant in
    let u = under dp i c.args.self.now c.self.view_is c.requires.under_way.1 in
    let wide = subst (λ (s : SpaceView). s.width < length (last_layer s.layers)) (sym c.self.view_is) c.requires.wide in
    let less = wide-less dp i h u wide in
    let e = c.keep_first.ensures in
    let at = c.place_above-at.result in let old = c.index_mut.result.now in
    let x = c.keep_first.new.above in let n = c.keep_first.new.next in let region = c.keep_first.new.region in let r = i.redirects in
    let f = c.reduced_first-self-inside.result in
    let place = above-within i h in
    let above = lent i.stack.layers.items at (place_above i.stack.vars i.stack.first i.stack.last) old _ c.index_mut.ensures.value c.place_above-at.ensures place in
    let is : HasChanged i at old _ x n r = record { place = c.place_above-at.ensures; lent = c.index_mut.ensures.value; above = above; rest = e.rest; rooms = e.next_rooms; redirects_stay = refl } in
    let seen = changed-layers (keep_first i.width) i h less at old _ x n region r f is e.above (λ paths a. e.next paths) in
    let whole = changed-seen i at old _ x n region r f is (on_last_two (keep_first i.width) (the_view i).layers) seen in
    let here : the_view (changed i at x n region r f) ≡ record (the_view i) { layers = on_last_two (keep_first i.width) (the_view i).layers; told = map told_by n.nodes; first_reduced = reduced_first i.first_reduced (last_depth (the_view i)) } =
    whole ∙ (ap (λ (o : Option ℕ). record (the_view i) { layers = on_last_two (keep_first i.width) (the_view i).layers; told = map told_by n.nodes; first_reduced = o }) c.reduced_first-self-inside.ensures
    ∙ ap (λ (k : ℕ). record (the_view i) { layers = on_last_two (keep_first i.width) (the_view i).layers; told = map told_by n.nodes; first_reduced = reduced_first i.first_reduced k }) (sym (deep i h))) in
    here ∙ ap (λ (s : SpaceView). record s { layers = on_last_two (keep_first s.width) s.layers; told = map told_by n.nodes; first_reduced = reduced_first s.first_reduced (last_depth s) }) c.self.view_is

pub returns-clause-under_way : goal.returns-clause-under_way
returns-clause-under_way c =
    let dp = c.requires.under_way.0 in
    let i = c.self.inside in let h = c.self.invariant in
    let u = under dp i c.args.self.now c.self.view_is c.requires.under_way.1 in
    let wide = subst (λ (s : SpaceView). s.width < length (last_layer s.layers)) (sym c.self.view_is) c.requires.wide in
    let less = wide-less dp i h u wide in
    let e = c.keep_first.ensures in
    let at = c.place_above-at.result in let old = c.index_mut.result.now in
    let x = c.keep_first.new.above in let n = c.keep_first.new.next in let region = c.keep_first.new.region in let r = i.redirects in
    let f = c.reduced_first-self-inside.result in
    let place = above-within i h in
    let above = lent i.stack.layers.items at (place_above i.stack.vars i.stack.first i.stack.last) old _ c.index_mut.ensures.value c.place_above-at.ensures place in
    let is : HasChanged i at old _ x n r = record { place = c.place_above-at.ensures; lent = c.index_mut.ensures.value; above = above; rest = e.rest; rooms = e.next_rooms; redirects_stay = refl } in
    let given : HasGivenBack i n region = record { held = e.held; exchanged = e.exchanged; fewer = fewer-by (take i.width) i.stack.newest.nodes n.nodes e.next (λ l same. (let count = count-seen i h in let short = length-take-le i.width l (omega arith) in omega arith)) } in
    let seen = changed-layers (keep_first i.width) i h less at old _ x n region r f is e.above (λ paths a. e.next paths) in
    let whole = changed-seen i at old _ x n region r f is (on_last_two (keep_first i.width) (the_view i).layers) seen in
    let here : the_view (changed i at x n region r f) ≡ record (the_view i) { layers = on_last_two (keep_first i.width) (the_view i).layers; told = map told_by n.nodes; first_reduced = reduced_first i.first_reduced (last_depth (the_view i)) } =
    whole ∙ (ap (λ (o : Option ℕ). record (the_view i) { layers = on_last_two (keep_first i.width) (the_view i).layers; told = map told_by n.nodes; first_reduced = o }) c.reduced_first-self-inside.ensures
    ∙ ap (λ (k : ℕ). record (the_view i) { layers = on_last_two (keep_first i.width) (the_view i).layers; told = map told_by n.nodes; first_reduced = reduced_first i.first_reduced k }) (sym (deep i h))) in
    let space = changed-space i h at old _ x n region r f is given (subst (HaveDepths i.stack.first) (sym seen) (keep-depths i.width i.stack.first _ h.depths)) in
    λ other way.
    let v = under other i c.args.self.now c.self.view_is way in
    let ranked = stays (IsRanked other i.stack.last) i.stack.newest.nodes n.nodes e.stay (ranked-of other i.stack.last i.stack.newest.nodes (nodes-seen other i h v)) in
    subst (IsUnderWay other) (sym here)
    (kept-under-way other (the_view i) (map told_by n.nodes) (reduced_first i.first_reduced (last_depth (the_view i))) v wide
    (changed-ranks other (keep_first i.width) i h v at x n region r f space seen ranked))
