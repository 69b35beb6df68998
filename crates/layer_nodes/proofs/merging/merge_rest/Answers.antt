use Rattle.std.proofs.Common.{◌++◌, ◌-◌, ◌≤◌, length, map, sym, ◌∙◌, ap, subst, arith}
use Rattle.std.proofs.lemmas.List.{length-map}
use Rattle.dp_model.specs.Lists.{Each}
use Rattle.dp_laws.specs.Rules.Redirects.{with_redirected}
use Rattle.dp_laws.specs.Rules.Reducing.{staying, merged_layer, merge_redirects}
use Rattle.layer_candidates.specs.HeldRows.{AreLive, HasExchanged, held_row}
use Rattle.row_region.specs.Region.{RegionView}
use Rattle.layer_nodes.specs.Holding.{AreHeld, places_of}
use Rattle.layer_nodes.specs.Routing.{routed_arcs}
use Rattle.layer_nodes.specs.Nodes.{LayerView, shown_layer, shown_below}
use Rattle.layer_nodes.specs.Steps.{IsNodeOf, IsRanked}
use Rattle.layer_nodes.specs.Stored.{node_view_by, rows_in}
use Rattle.layer_nodes.proofs.Holding.{held-rows, views-held}
use Rattle.layer_nodes.proofs.MergedLayers.{merged-next, merged-targets, merged-ranked, merged-lie, merged-few, merged-held}
use Rattle.layer_nodes.proofs.Shown.{nodes-in, places-seen}
use Rattle.layer_nodes.proofs.merging.merge_rest.Goals as goal

pub merge_nodes-requires-clause-nodes : goal.merge_nodes-requires-clause-nodes
merge_nodes-requires-clause-nodes g c κs within =
    let dp = g.M.DpModel.meaning (g.M.DpModel.numbers c.args.model.now) in
    let k = c.args.k in
    let s = c.next.inside in
    let region = c.args.region.now in
    let views = sym (ap (λ (l : LayerView). l.nodes) c.next.view_is) in
    nodes-in dp k region (held_row s.held.value) (routed_arcs s.routes.items s.arcs.items) s.nodes.items (subst (Each (IsNodeOf dp k)) views c.requires.nodes) (subst (AreHeld region) views c.requires.held)

pub merge_nodes-requires-clause-live : goal.merge_nodes-requires-clause-live
merge_nodes-requires-clause-live g c κs within =
    let s = c.next.inside in
    subst (AreLive c.args.region.now) (sym (ap (λ (l : LayerView). places_of l.nodes) c.next.view_is) ∙ places-seen (held_row s.held.value) (routed_arcs s.routes.items s.arcs.items) s.nodes.items) c.requires.live

pub invariant_of-next : goal.invariant_of-next
invariant_of-next g c =
    let dp = g.M.DpModel.meaning (g.M.DpModel.numbers c.args.model.now) in
    let a = c.args in
    let s = c.next.inside in
    let i = c.next.invariant in
    let nodes2 = c.merge_nodes.new.nodes.items in
    let h = c.merge_nodes.ensures.merged in
    let few = i.fits in
    let same = ap (λ (l : LayerView). length l.nodes) c.next.view_is in
    let mapped = length-map s.nodes.items (node_view_by (held_row s.held.value) (routed_arcs s.routes.items s.arcs.items)) in
    let wide = c.requires.wide in
    let less = merged-few dp a.k a.width a.region.now s.nodes.items c.merge_nodes.new.region nodes2 c.merge_nodes.new.redirects.items (routed_arcs s.routes.items s.arcs.items) h c.requires.positive (omega arith) in
    record {
      small = i.small;
      fits = omega arith;
      nodes_hold = subst (λ n. s.room ≤ n) (sym c.merge_nodes.ensures.nodes_capacity) i.nodes_hold;
      few_arcs = i.few_arcs;
      routes_hold = i.routes_hold;
      arcs_lie = merged-lie dp a.k a.width a.region.now s.nodes.items c.merge_nodes.new.region nodes2 c.merge_nodes.new.redirects.items (routed_arcs s.routes.items s.arcs.items) h s.arcs.items i.arcs_lie;
    }

pub returns-clause-next : goal.returns-clause-next
returns-clause-next g c = λ paths.
    let dp = g.M.DpModel.meaning (g.M.DpModel.numbers c.args.model.now) in
    let a = c.args in
    let s = c.next.inside in
    let old = a.region.now in
    let own = held_row s.held.value in
    let nodes2 = c.merge_nodes.new.nodes.items in
    let have = held-rows old own (routed_arcs s.routes.items s.arcs.items) s.nodes.items (subst (λ (l : LayerView). AreHeld old l.nodes) (sym c.next.view_is) c.requires.held) in
    ap (λ h. shown_below paths (map (node_view_by (held_row h) (routed_arcs s.routes.items s.arcs.items)) nodes2)) c.of.ensures
    ∙ (merged-next dp a.k a.width old s.nodes.items c.merge_nodes.new.region nodes2 c.merge_nodes.new.redirects.items (routed_arcs s.routes.items s.arcs.items) c.merge_nodes.ensures.merged paths
    ∙ ap (merged_layer dp a.k a.width) (ap (shown_below paths) (views-held old own (routed_arcs s.routes.items s.arcs.items) s.nodes.items have) ∙ ap (λ (l : LayerView). shown_below paths l.nodes) c.next.view_is))

pub returns-clause-above : goal.returns-clause-above
returns-clause-above g c = λ paths below.
    let dp = g.M.DpModel.meaning (g.M.DpModel.numbers c.args.model.now) in
    let a = c.args in
    let s = c.next.inside in
    let old = a.region.now in
    let own = held_row s.held.value in
    let have = held-rows old own (routed_arcs s.routes.items s.arcs.items) s.nodes.items (subst (λ (l : LayerView). AreHeld old l.nodes) (sym c.next.view_is) c.requires.held) in
    c.redirect_layer_after.ensures.nodes paths
    ∙ ap (λ x. with_redirected x (shown_layer paths a.above.now.nodes)) (ap (λ l. staying (a.width - 1) ++ l) c.as_slice.ensures.value
    ∙ (merged-targets dp a.k a.width old s.nodes.items c.merge_nodes.new.region c.merge_nodes.new.nodes.items c.merge_nodes.new.redirects.items (routed_arcs s.routes.items s.arcs.items) c.merge_nodes.ensures.merged below
    ∙ ap (merge_redirects dp a.k a.width) (ap (shown_below below) (views-held old own (routed_arcs s.routes.items s.arcs.items) s.nodes.items have) ∙ ap (λ (l : LayerView). shown_below below l.nodes) c.next.view_is)))

pub returns-clause-ranked : goal.returns-clause-ranked
returns-clause-ranked g c =
    let dp = g.M.DpModel.meaning (g.M.DpModel.numbers c.args.model.now) in
    let a = c.args in
    let s = c.next.inside in
    let old = a.region.now in
    let nodes2 = c.merge_nodes.new.nodes.items in
    let views = sym (ap (λ (l : LayerView). l.nodes) c.next.view_is) in
    let own = held_row s.held.value in
    let have = held-rows old own (routed_arcs s.routes.items s.arcs.items) s.nodes.items (subst (λ (l : LayerView). AreHeld old l.nodes) (sym c.next.view_is) c.requires.held) in
    let all = subst (Each (IsNodeOf dp a.k)) (sym (views-held old own (routed_arcs s.routes.items s.arcs.items) s.nodes.items have)) (subst (Each (IsNodeOf dp a.k)) views c.requires.nodes) in
    subst (λ h. Each (IsRanked dp a.k) (map (node_view_by (held_row h) (routed_arcs s.routes.items s.arcs.items)) nodes2)) (sym c.of.ensures)
    (merged-ranked dp a.k a.width old s.nodes.items c.merge_nodes.new.region nodes2 c.merge_nodes.new.redirects.items (routed_arcs s.routes.items s.arcs.items) c.merge_nodes.ensures.merged all)

pub returns-clause-held : goal.returns-clause-held
returns-clause-held g c =
    let dp = g.M.DpModel.meaning (g.M.DpModel.numbers c.args.model.now) in
    let a = c.args in
    let s = c.next.inside in
    let nodes2 = c.merge_nodes.new.nodes.items in
    subst (λ (h : RegionView). AreHeld c.merge_nodes.new.region (map (node_view_by (held_row h) (routed_arcs s.routes.items s.arcs.items)) nodes2)) (sym c.of.ensures)
    (merged-held dp a.k a.width a.region.now s.nodes.items c.merge_nodes.new.region nodes2 c.merge_nodes.new.redirects.items (routed_arcs s.routes.items s.arcs.items) c.merge_nodes.ensures.merged)

pub returns-clause-exchanged : goal.returns-clause-exchanged
returns-clause-exchanged g c =
    let a = c.args in
    let s = c.next.inside in
    let nodes2 = c.merge_nodes.new.nodes.items in
    let old = sym (ap (λ (l : LayerView). places_of l.nodes) c.next.view_is) ∙ places-seen (held_row s.held.value) (routed_arcs s.routes.items s.arcs.items) s.nodes.items in
    subst (λ l. HasExchanged a.region.now l c.merge_nodes.new.region (places_of (map (node_view_by (held_row c.of.result.value) (routed_arcs s.routes.items s.arcs.items)) nodes2))) (sym old)
    (subst (HasExchanged a.region.now (rows_in s.nodes.items) c.merge_nodes.new.region) (sym (places-seen (held_row c.of.result.value) (routed_arcs s.routes.items s.arcs.items) nodes2)) c.merge_nodes.ensures.merged.exchanged)
