use Rattle.std.proofs.Common.{rules, ◌≡◌, ◌≤◌, [], length, map, take, sym, ◌∙◌, ap, subst, arith}
use Rattle.std.proofs.lemmas.List.{with_items_is}
use Rattle.dp_model.specs.Lists.{Each}
use Rattle.dp_laws.specs.Rules.Redirects.{with_redirected}
use Rattle.dp_laws.specs.Rules.Pruning.{prune_redirects, pruned_nodes}
use Rattle.dp_laws.proofs.Lists.{each-take}
use Rattle.layer_candidates.specs.HeldRows.{AreLive, HasExchanged, held_row}
use Rattle.layer_nodes.specs.Holding.{AreHeld, places_of}
use Rattle.layer_nodes.specs.Leading.{IsNodeIn}
use Rattle.layer_nodes.specs.Routing.{routed_arcs}
use Rattle.layer_nodes.specs.Nodes.{LayerView, shown_layer, shown_below}
use Rattle.layer_nodes.specs.Steps.{IsNodeOf, AreAmong}
use Rattle.layer_nodes.specs.Stored.{node_view_by, rows_in, HasArcsIn}
use Rattle.layer_nodes.specs.Striking.{asking, threshold_of}
use Rattle.layer_nodes.proofs.Holding.{held-rows, rows-held, views-held, taken-among}
use Rattle.layer_nodes.proofs.Shown.{seen, seen-shows, below-seen, nodes-in, places-seen}
use Rattle.layer_nodes.proofs.Stored.{among-each, among-map, among-take, length-take-most}
use Rattle.layer_nodes.proofs.striking.take_out.Goals as goal

pub prune-stay-requires-clause-nodes : goal.prune-stay-requires-clause-nodes
prune-stay-requires-clause-nodes g c κs within =
    let dp = g.M.DpModel.meaning (g.M.DpModel.numbers c.args.model.now) in
    let k = c.args.k in
    let s = c.next.inside in
    let region = c.args.region.now in
    let views = sym (ap (λ (l : LayerView). l.nodes) c.next.view_is) in
    subst (Each (IsNodeIn dp k region)) (sym c.as_mut_slice.ensures.value)
    (nodes-in dp k region (held_row s.held.value) (routed_arcs s.routes.items s.arcs.items) s.nodes.items (subst (Each (IsNodeOf dp k)) views c.requires.nodes) (subst (AreHeld region) views c.requires.held))

pub prune-stay-requires-clause-live : goal.prune-stay-requires-clause-live
prune-stay-requires-clause-live g c κs within =
    let s = c.next.inside in
    let places = sym (ap (λ (l : LayerView). places_of l.nodes) c.next.view_is) ∙ places-seen (held_row s.held.value) (routed_arcs s.routes.items s.arcs.items) s.nodes.items in
    subst (λ l. AreLive c.args.region.now (rows_in l)) (sym c.as_mut_slice.ensures.value) (subst (AreLive c.args.region.now) places c.requires.live)

pub invariant_of-next : goal.invariant_of-next
invariant_of-next g c =
    let s = c.next.inside in
    let i = c.next.invariant in
    let h = c.prune-stay.ensures.pruned in
    let now = c.prune-stay.new.nodes in
    let stay = c.prune-stay.result in
    let size : length now ≡ s.nodes.len = search rules in
    let kept : c.truncate.new.self.items ≡ take stay now = c.truncate.ensures.items ∙ ap (take stay) (with_items_is s.nodes now size) in
    let same : length now ≡ length s.nodes.items = search rules in
    let few = i.fits in
    let less : length (take stay now) ≤ length now = length-take-most stay now in
    let among = subst (λ o. AreAmong o now) c.as_mut_slice.ensures.value h.among in
    record {
      small = i.small;
      fits = subst (λ n. length n ≤ s.room) (sym kept) (omega arith);
      nodes_hold = subst (λ n. s.room ≤ n) (sym c.truncate.ensures.capacity) i.nodes_hold;
      few_arcs = i.few_arcs;
      routes_hold = i.routes_hold;
      arcs_lie = subst (Each (HasArcsIn s.arcs.items)) (sym kept) (each-take (HasArcsIn s.arcs.items) stay now (among-each (HasArcsIn s.arcs.items) s.nodes.items now among i.arcs_lie));
    }

-- the nodes as they are seen by the rows that the region had
pub returns-clause-next : goal.returns-clause-next
returns-clause-next g c = λ paths.
    let dp = asking c.args.strikes (g.M.DpModel.meaning (g.M.DpModel.numbers c.args.model.now)) in
    let a = c.args in
    let s = c.next.inside in
    let h = c.prune-stay.ensures.pruned in
    let now = c.prune-stay.new.nodes in
    let stay = c.prune-stay.result in
    let size : length now ≡ s.nodes.len = search rules in
    let kept : c.truncate.new.self.items ≡ take stay now = c.truncate.ensures.items ∙ ap (take stay) (with_items_is s.nodes now size) in
    let own = held_row s.held.value in
    let row = held_row a.region.now in
    let have = held-rows a.region.now own (routed_arcs s.routes.items s.arcs.items) s.nodes.items (subst (λ (l : LayerView). AreHeld a.region.now l.nodes) (sym c.next.view_is) c.requires.held) in
    let left = taken-among a.region.now own s.nodes.items now stay have (subst (λ o. AreAmong o now) c.as_mut_slice.ensures.value h.among) in
    ap (λ n. shown_below paths (map (node_view_by own (routed_arcs s.routes.items s.arcs.items)) n)) kept
    ∙ (ap (shown_below paths) (sym (views-held a.region.now own (routed_arcs s.routes.items s.arcs.items) (take stay now) left))
    ∙ (below-seen paths row (routed_arcs s.routes.items s.arcs.items) (take stay now)
    ∙ (h.nodes (seen paths row (routed_arcs s.routes.items s.arcs.items)) (seen-shows paths row (routed_arcs s.routes.items s.arcs.items))
    ∙ ap (pruned_nodes dp a.k (threshold_of a.strikes) [] 0) (ap (map (seen paths row (routed_arcs s.routes.items s.arcs.items))) c.as_mut_slice.ensures.value
    ∙ (sym (below-seen paths row (routed_arcs s.routes.items s.arcs.items) s.nodes.items)
    ∙ (ap (shown_below paths) (views-held a.region.now own (routed_arcs s.routes.items s.arcs.items) s.nodes.items have) ∙ ap (λ (l : LayerView). shown_below paths l.nodes) c.next.view_is))))))

pub returns-clause-above : goal.returns-clause-above
returns-clause-above g c = λ paths below.
    let dp = asking c.args.strikes (g.M.DpModel.meaning (g.M.DpModel.numbers c.args.model.now)) in
    let a = c.args in
    let s = c.next.inside in
    let h = c.prune-stay.ensures.pruned in
    let own = held_row s.held.value in
    let row = held_row a.region.now in
    let have = held-rows a.region.now own (routed_arcs s.routes.items s.arcs.items) s.nodes.items (subst (λ (l : LayerView). AreHeld a.region.now l.nodes) (sym c.next.view_is) c.requires.held) in
    c.redirect_layer.ensures.nodes paths
    ∙ ap (λ x. with_redirected x (shown_layer paths a.above.now.nodes)) (c.as_slice.ensures.value ∙ (h.targets (seen below row (routed_arcs s.routes.items s.arcs.items)) (seen-shows below row (routed_arcs s.routes.items s.arcs.items))
    ∙ ap (prune_redirects dp a.k (threshold_of a.strikes) [] 0) (ap (map (seen below row (routed_arcs s.routes.items s.arcs.items))) c.as_mut_slice.ensures.value
    ∙ (sym (below-seen below row (routed_arcs s.routes.items s.arcs.items) s.nodes.items)
    ∙ (ap (shown_below below) (views-held a.region.now own (routed_arcs s.routes.items s.arcs.items) s.nodes.items have) ∙ ap (λ (l : LayerView). shown_below below l.nodes) c.next.view_is)))))

pub returns-clause-stay : goal.returns-clause-stay
returns-clause-stay g c =
    let s = c.next.inside in
    let h = c.prune-stay.ensures.pruned in
    let now = c.prune-stay.new.nodes in
    let stay = c.prune-stay.result in
    let size : length now ≡ s.nodes.len = search rules in
    let kept : c.truncate.new.self.items ≡ take stay now = c.truncate.ensures.items ∙ ap (take stay) (with_items_is s.nodes now size) in
    let among = subst (λ o. AreAmong o now) c.as_mut_slice.ensures.value h.among in
    let view = node_view_by (held_row s.held.value) (routed_arcs s.routes.items s.arcs.items) in
    subst (λ (l : LayerView). AreAmong l.nodes (map view c.truncate.new.self.items)) c.next.view_is
    (subst (λ n. AreAmong (map view s.nodes.items) (map view n)) (sym kept) (among-map view s.nodes.items (take stay now) (among-take stay s.nodes.items now among)))

pub returns-clause-held : goal.returns-clause-held
returns-clause-held g c =
    let a = c.args in
    let s = c.next.inside in
    let h = c.prune-stay.ensures.pruned in
    let now = c.prune-stay.new.nodes in
    let stay = c.prune-stay.result in
    let new = c.prune-stay.new.region in
    let size : length now ≡ s.nodes.len = search rules in
    let kept : c.truncate.new.self.items ≡ take stay now = c.truncate.ensures.items ∙ ap (take stay) (with_items_is s.nodes now size) in
    let own = held_row s.held.value in
    let row = held_row a.region.now in
    let have = held-rows a.region.now own (routed_arcs s.routes.items s.arcs.items) s.nodes.items (subst (λ (l : LayerView). AreHeld a.region.now l.nodes) (sym c.next.view_is) c.requires.held) in
    let left = taken-among a.region.now own s.nodes.items now stay have (subst (λ o. AreAmong o now) c.as_mut_slice.ensures.value h.among) in
    subst (λ n. AreHeld new (map (node_view_by own (routed_arcs s.routes.items s.arcs.items)) n)) (sym kept)
    (subst (AreHeld new) (views-held a.region.now own (routed_arcs s.routes.items s.arcs.items) (take stay now) left)
    (rows-held new row (routed_arcs s.routes.items s.arcs.items) (take stay now) c.prune-stay.ensures.given.held))

pub returns-clause-exchanged : goal.returns-clause-exchanged
returns-clause-exchanged g c =
    let a = c.args in
    let s = c.next.inside in
    let now = c.prune-stay.new.nodes in
    let stay = c.prune-stay.result in
    let new = c.prune-stay.new.region in
    let size : length now ≡ s.nodes.len = search rules in
    let kept : c.truncate.new.self.items ≡ take stay now = c.truncate.ensures.items ∙ ap (take stay) (with_items_is s.nodes now size) in
    let view = node_view_by (held_row s.held.value) (routed_arcs s.routes.items s.arcs.items) in
    let places = ap rows_in c.as_mut_slice.ensures.value ∙ (sym (places-seen (held_row s.held.value) (routed_arcs s.routes.items s.arcs.items) s.nodes.items) ∙ ap (λ (l : LayerView). places_of l.nodes) c.next.view_is) in
    let first = sym (places-seen (held_row s.held.value) (routed_arcs s.routes.items s.arcs.items) (take stay now)) ∙ ap (λ n. places_of (map view n)) (sym kept) in
    subst (λ l. HasExchanged a.region.now l new (places_of (map view c.truncate.new.self.items))) places
    (subst (HasExchanged a.region.now (rows_in c.as_mut_slice.result.now) new) first c.prune-stay.ensures.given.exchanged)
