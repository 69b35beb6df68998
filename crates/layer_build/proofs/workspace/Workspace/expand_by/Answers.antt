use Rattle.std.proofs.Common.{◌≡◌, ℕ, ◌*◌, ◌≤◌, map, length, vec_len, rules, sym, ap, ◌∙◌, subst, arith}
use Rattle.dp_model.specs.Laws.{IsLawful}
use Rattle.layer_nodes.specs.Nodes.{told_by, LayerView}
use Rattle.layer_nodes.specs.Stored.{Room}
use Rattle.layer_build.specs.contracts.workspace.Workspace.{the_view}
use Rattle.layer_build.specs.Layers.{SpaceView, last_depth, last_layer, expand_last}
use Rattle.layer_build.specs.Stacked.{path_in, place_of}
use Rattle.layer_build.specs.UnderWay.{IsUnderWay}
use Rattle.layer_build.specs.Within.{expanded_as, MayMerge}
use Rattle.layer_build.proofs.Expansions.{expands-as}
use Rattle.layer_build.proofs.Held.{newest-held}
use Rattle.layer_build.proofs.Going.{last_paths, deep, last-seen, parents-seen, under, low-of, words-seen, fits-seen, narrow-seen, spare-seen, lent, place-within, words-of, expanded-space, expanded-seen, expanded-kept}
use Rattle.layer_build.proofs.Merged.{unmerged-by}
use Rattle.layer_build.proofs.workspace.Workspace.expand_by.Given as given
use Rattle.layer_build.proofs.workspace.Workspace.expand_by.Goals as goal

laws_of : (g : given.Over) (m : g.row.M.Denot) → IsLawful (g.M.DpModel.meaning (g.M.DpModel.numbers m))
laws_of g m = (g.met.M.DpModel g.world.𝓛 g.world.𝓜 g.world.𝓡 ((λ s x. x), (λ x. x), (λ x. x), λ x. x)).lawful m

pub index_mut-requires : goal.index_mut-requires
index_mut-requires g c =
    let dp = g.M.DpModel.meaning (g.M.DpModel.numbers c.args.model.now) in
    let i = c.self.inside in let h = c.self.invariant in
    let within = place-within i h (low-of dp i h c.args.self.now c.self.view_is c.requires.under_way c.requires.below) in
    let e = c.place_of-at.ensures in
    let long : vec_len i.stack.layers ≡ length i.stack.layers.items = search rules in
    omega arith

pub expand_newest-merged-requires-clause-layer : goal.expand_newest-merged-requires-clause-layer
expand_newest-merged-requires-clause-layer g c κs within =
    let dp = g.M.DpModel.meaning (g.M.DpModel.numbers c.args.model.now) in
    let i = c.self.inside in let h = c.self.invariant in
    let u = under dp i c.args.self.now c.self.view_is c.requires.under_way in
    let low = low-of dp i h c.args.self.now c.self.view_is c.requires.under_way c.requires.below in
    let vars = u.prepared.vars in omega arith

pub expand_newest-merged-requires-clause-above_words : goal.expand_newest-merged-requires-clause-above_words
expand_newest-merged-requires-clause-above_words g c κs within =
    let dp = g.M.DpModel.meaning (g.M.DpModel.numbers c.args.model.now) in
    let i = c.self.inside in let h = c.self.invariant in
    let u = under dp i c.args.self.now c.self.view_is c.requires.under_way in
    let low = low-of dp i h c.args.self.now c.self.view_is c.requires.under_way c.requires.below in
    let place = place-within i h low in
    let x = lent i.stack.layers.items c.place_of-at.result (place_of i.stack.vars i.stack.first i.stack.last) c.index_mut.result.now _ c.index_mut.ensures.value c.place_of-at.ensures place in
    ap (λ (l : LayerView). l.words) x ∙ (words-of dp i h (place_of i.stack.vars i.stack.first i.stack.last) place ∙ words-seen dp i c.args.self.now c.self.view_is c.requires.under_way)

pub expand_newest-merged-requires-clause-next_words : goal.expand_newest-merged-requires-clause-next_words
expand_newest-merged-requires-clause-next_words g c κs within =
    let dp = g.M.DpModel.meaning (g.M.DpModel.numbers c.args.model.now) in
    let i = c.self.inside in let h = c.self.invariant in
    let u = under dp i c.args.self.now c.self.view_is c.requires.under_way in
    let low = low-of dp i h c.args.self.now c.self.view_is c.requires.under_way c.requires.below in
    h.stack.newest_words ∙ words-seen dp i c.args.self.now c.self.view_is c.requires.under_way

pub expand_newest-merged-requires-clause-nodes : goal.expand_newest-merged-requires-clause-nodes
expand_newest-merged-requires-clause-nodes g c κs within =
    let dp = g.M.DpModel.meaning (g.M.DpModel.numbers c.args.model.now) in
    let i = c.self.inside in let h = c.self.invariant in
    let u = under dp i c.args.self.now c.self.view_is c.requires.under_way in
    let low = low-of dp i h c.args.self.now c.self.view_is c.requires.under_way c.requires.below in
    parents-seen dp i h u low

pub expand_newest-merged-requires-clause-copy_room : goal.expand_newest-merged-requires-clause-copy_room
expand_newest-merged-requires-clause-copy_room g c κs within =
    let dp = g.M.DpModel.meaning (g.M.DpModel.numbers c.args.model.now) in
    let i = c.self.inside in let h = c.self.invariant in
    let u = under dp i c.args.self.now c.self.view_is c.requires.under_way in
    let low = low-of dp i h c.args.self.now c.self.view_is c.requires.under_way c.requires.below in
    let place = place-within i h low in
    let x = lent i.stack.layers.items c.place_of-at.result (place_of i.stack.vars i.stack.first i.stack.last) c.index_mut.result.now _ c.index_mut.ensures.value c.place_of-at.ensures place in
    let fits = fits-seen dp i h u low (narrow-seen i h c.args.self.now c.self.view_is c.requires.narrow) in
    subst (λ (l : LayerView). length i.stack.newest.nodes ≤ l.nodes_room) (sym x) fits.nodes

pub expand_newest-merged-requires-clause-arcs_room : goal.expand_newest-merged-requires-clause-arcs_room
expand_newest-merged-requires-clause-arcs_room g c κs within =
    let dp = g.M.DpModel.meaning (g.M.DpModel.numbers c.args.model.now) in
    let i = c.self.inside in let h = c.self.invariant in
    let u = under dp i c.args.self.now c.self.view_is c.requires.under_way in
    let low = low-of dp i h c.args.self.now c.self.view_is c.requires.under_way c.requires.below in
    let place = place-within i h low in
    let x = lent i.stack.layers.items c.place_of-at.result (place_of i.stack.vars i.stack.first i.stack.last) c.index_mut.result.now _ c.index_mut.ensures.value c.place_of-at.ensures place in
    let fits = fits-seen dp i h u low (narrow-seen i h c.args.self.now c.self.view_is c.requires.narrow) in
    subst (λ (l : LayerView). length i.stack.newest.nodes * dp.choices i.stack.last ≤ l.arcs_room) (sym x) fits.arcs

pub expand_newest-merged-requires-clause-nodes_room : goal.expand_newest-merged-requires-clause-nodes_room
expand_newest-merged-requires-clause-nodes_room g c κs within =
    let dp = g.M.DpModel.meaning (g.M.DpModel.numbers c.args.model.now) in
    let i = c.self.inside in let h = c.self.invariant in
    let u = under dp i c.args.self.now c.self.view_is c.requires.under_way in
    let low = low-of dp i h c.args.self.now c.self.view_is c.requires.under_way c.requires.below in
    let fits = fits-seen dp i h u low (narrow-seen i h c.args.self.now c.self.view_is c.requires.narrow) in
    fits.candidates

pub expand_newest-merged-requires-clause-room : goal.expand_newest-merged-requires-clause-room
expand_newest-merged-requires-clause-room g c κs within =
    let dp = g.M.DpModel.meaning (g.M.DpModel.numbers c.args.model.now) in
    let i = c.self.inside in let h = c.self.invariant in
    let u = under dp i c.args.self.now c.self.view_is c.requires.under_way in
    let low = low-of dp i h c.args.self.now c.self.view_is c.requires.under_way c.requires.below in
    let fits = fits-seen dp i h u low (narrow-seen i h c.args.self.now c.self.view_is c.requires.narrow) in
    subst (λ (n : ℕ). length i.stack.newest.nodes * dp.choices i.stack.last ≤ n) (sym (ap (λ (r : Room). r.most) h.expands)) fits.candidates

pub expand_newest-merged-requires-clause-spare : goal.expand_newest-merged-requires-clause-spare
expand_newest-merged-requires-clause-spare g c κs within =
    let dp = g.M.DpModel.meaning (g.M.DpModel.numbers c.args.model.now) in
    let i = c.self.inside in let h = c.self.invariant in
    let u = under dp i c.args.self.now c.self.view_is c.requires.under_way in
    let low = low-of dp i h c.args.self.now c.self.view_is c.requires.under_way c.requires.below in
    spare-seen dp i h u low (narrow-seen i h c.args.self.now c.self.view_is c.requires.narrow)

pub expand_newest-merged-requires-clause-row_words : goal.expand_newest-merged-requires-clause-row_words
expand_newest-merged-requires-clause-row_words g c κs within =
    let dp = g.M.DpModel.meaning (g.M.DpModel.numbers c.args.model.now) in
    ap (λ (r : Room). r.words) c.self.invariant.expands ∙ words-seen dp c.self.inside c.args.self.now c.self.view_is c.requires.under_way

pub expand_newest-merged-requires-clause-positive : goal.expand_newest-merged-requires-clause-positive
expand_newest-merged-requires-clause-positive g c κs within =
    let dp = g.M.DpModel.meaning (g.M.DpModel.numbers c.args.model.now) in
    (under dp c.self.inside c.args.self.now c.self.view_is c.requires.under_way).prepared.width.positive

pub expand_newest-merged-requires-clause-redirects_words : goal.expand_newest-merged-requires-clause-redirects_words
expand_newest-merged-requires-clause-redirects_words g c κs within =
    let dp = g.M.DpModel.meaning (g.M.DpModel.numbers c.args.model.now) in
    ap (λ (r : Room). r.words) c.self.invariant.redirects_fit ∙ words-seen dp c.self.inside c.args.self.now c.self.view_is c.requires.under_way

pub expand_newest-merged-requires-clause-redirects_room : goal.expand_newest-merged-requires-clause-redirects_room
expand_newest-merged-requires-clause-redirects_room g c κs within =
    let dp = g.M.DpModel.meaning (g.M.DpModel.numbers c.args.model.now) in
    let i = c.self.inside in let h = c.self.invariant in
    let u = under dp i c.args.self.now c.self.view_is c.requires.under_way in
    let low = low-of dp i h c.args.self.now c.self.view_is c.requires.under_way c.requires.below in
    let fits = fits-seen dp i h u low (narrow-seen i h c.args.self.now c.self.view_is c.requires.narrow) in
    subst (λ (n : ℕ). length i.stack.newest.nodes * dp.choices i.stack.last ≤ n) (sym (ap (λ (r : Room). r.most) h.redirects_fit)) fits.candidates

pub expand_newest-merged-requires-clause-held : goal.expand_newest-merged-requires-clause-held
expand_newest-merged-requires-clause-held g c κs within = newest-held c.self.inside.words c.self.inside.width c.self.inside.held c.self.inside.stack c.self.invariant.rows

pub overflow_add-self : goal.overflow_add-self
overflow_add-self g c = (let low = c.self.invariant.stack.last in let small = c.self.invariant.stack.small in omega arith)

pub invariant_of-self : goal.invariant_of-self
invariant_of-self g c =
    let dp = g.M.DpModel.meaning (g.M.DpModel.numbers c.args.model.now) in
    let i = c.self.inside in let h = c.self.invariant in
    let u = under dp i c.args.self.now c.self.view_is c.requires.under_way in
    let low = low-of dp i h c.args.self.now c.self.view_is c.requires.under_way c.requires.below in
    let e = c.expand_newest-merged.ensures in
    expanded-space dp (expanded_as c.args.making c.expand_newest-merged.result dp i.width) i (expands-as dp c.args.making c.expand_newest-merged.result (laws_of g c.args.model.now) i.width u.prepared.width.positive) h u low (narrow-seen i h c.args.self.now c.self.view_is c.requires.narrow) c.expand_newest-merged.new.above c.expand_newest-merged.new.newest c.expand_newest-merged.new.region c.place_of-at.result c.expand_newest-merged.new.expansion c.expand_newest-merged.new.redirects _ _ c.place_of-at.ensures c.index_mut.ensures.value e.rest e.above e.next e.above_rooms e.next_rooms e.expansion e.redirects (record { places = e.places; above_held = e.above_held; held = e.held; exchanged = e.exchanged; few = (let few = e.few in let fits = (fits-seen dp i h u low (narrow-seen i h c.args.self.now c.self.view_is c.requires.narrow)).candidates in omega arith) })

pub returns-clause-layers : goal.returns-clause-layers
returns-clause-layers g c =
    let dp = g.M.DpModel.meaning (g.M.DpModel.numbers c.args.model.now) in
    let i = c.self.inside in let h = c.self.invariant in
    let low = low-of dp i h c.args.self.now c.self.view_is c.requires.under_way c.requires.below in
    let e = c.expand_newest-merged.ensures in
    let n = c.expand_newest-merged.new.newest in
    let seen = expanded-seen (expanded_as c.args.making c.expand_newest-merged.result dp i.width) i h low c.expand_newest-merged.new.above n c.expand_newest-merged.new.region c.place_of-at.result c.expand_newest-merged.new.expansion c.expand_newest-merged.new.redirects c.place_of-at.ensures e.rest e.above e.next e.next_rooms in
    seen ∙ ap (λ (s : SpaceView). record s { layers = expand_last (expanded_as c.args.making c.expand_newest-merged.result dp s.width (last_depth s)) s.layers; told = map told_by n.nodes }) c.self.view_is

pub returns-clause-merged : goal.returns-clause-merged
returns-clause-merged g c merged =
    let dp = g.M.DpModel.meaning (g.M.DpModel.numbers c.args.model.now) in
    let i = c.self.inside in let h = c.self.invariant in
    let here = c.expand_newest-merged.ensures.merged merged (path_in (last_paths i)) in
    subst (λ (s : SpaceView). MayMerge c.args.making dp s.width (last_depth s) (last_layer s.layers)) c.self.view_is
    (subst (λ (k : ℕ). MayMerge c.args.making dp i.width k (last_layer (the_view i).layers)) (sym (deep i h))
    (subst (MayMerge c.args.making dp i.width i.stack.last) (sym (last-seen i h)) here))

pub returns-clause-under_way : goal.returns-clause-under_way
returns-clause-under_way g c =
    let dp = g.M.DpModel.meaning (g.M.DpModel.numbers c.args.model.now) in
    let i = c.self.inside in let h = c.self.invariant in
    let u = under dp i c.args.self.now c.self.view_is c.requires.under_way in
    let low = low-of dp i h c.args.self.now c.self.view_is c.requires.under_way c.requires.below in
    let e = c.expand_newest-merged.ensures in
    let n = c.expand_newest-merged.new.newest in
    let seen = expanded-seen (expanded_as c.args.making c.expand_newest-merged.result dp i.width) i h low c.expand_newest-merged.new.above n c.expand_newest-merged.new.region c.place_of-at.result c.expand_newest-merged.new.expansion c.expand_newest-merged.new.redirects c.place_of-at.ensures e.rest e.above e.next e.next_rooms in
    subst (IsUnderWay dp) (sym seen) (expanded-kept dp (expanded_as c.args.making c.expand_newest-merged.result dp i.width) i (expands-as dp c.args.making c.expand_newest-merged.result (laws_of g c.args.model.now) i.width u.prepared.width.positive) h u low n (narrow-seen i h c.args.self.now c.self.view_is c.requires.narrow) e.next e.ranked (unmerged-by c.args.making c.expand_newest-merged.result dp i.width i.stack.last i.stack.newest.nodes n.nodes u.prepared.width.positive e.next e.merged e.unmerged) e.few)
