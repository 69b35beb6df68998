use Rattle.std.proofs.Common.{rules, ◌≡◌, length, map, sym, ◌∙◌, ap, subst}
use Rattle.std.proofs.lemmas.List.{with_items_is}
use Rattle.dp_model.specs.Lists.{Each}
use Rattle.dp_laws.specs.Rules.Redirects.{with_redirected}
use Rattle.layer_candidates.specs.HeldRows.{held_row}
use Rattle.layer_nodes.specs.Nodes.{NodeView, LayerView, shown_layer, without_arcs}
use Rattle.layer_nodes.specs.Redirecting.{AreRerouted}
use Rattle.layer_nodes.specs.Routing.{routed_arcs}
use Rattle.layer_nodes.specs.Steps.{MayBeLengthened}
use Rattle.layer_nodes.specs.Stored.{node_view_by}
use Rattle.layer_nodes.proofs.Redirected.{rerouted-length}
use Rattle.layer_nodes.proofs.Shown.{views-redirected, shown-redirected, bare-redirected, places-seen}
use Rattle.layer_nodes.proofs.redirecting.redirect_layer.Goals as goal

pub returns-clause-nodes : goal.returns-clause-nodes
returns-clause-nodes c =
    let l = c.layer.inside in
    let ls = c.args.redirects.now in
    let new = c.redirect_routes.new.routes in
    let each : AreRerouted ls l.routes.items new = subst (λ a. AreRerouted ls a new) c.as_mut_slice.ensures.value c.redirect_routes.ensures in
    let size : length new ≡ l.routes.len = rerouted-length ls l.routes.items new each ∙ search rules in
    let nodes = ap (λ (v : LayerView). v.nodes) c.layer.view_is in
    let far = subst (Each MayBeLengthened) (sym nodes) c.requires.lengths in
    λ paths. ap (λ a. shown_layer paths (map (node_view_by (held_row l.held.value) (routed_arcs a l.arcs.items)) l.nodes.items)) (with_items_is l.routes new size)
    ∙ (ap (shown_layer paths) (views-redirected ls (held_row l.held.value) l.routes.items new l.arcs.items l.nodes.items each far)
    ∙ (shown-redirected paths 0 ls (map (node_view_by (held_row l.held.value) (routed_arcs l.routes.items l.arcs.items)) l.nodes.items)
    ∙ ap (λ n. with_redirected ls (shown_layer paths n)) nodes))

pub returns-clause-rest : goal.returns-clause-rest
returns-clause-rest c =
    let l = c.layer.inside in
    record {
      words = ap (λ (v : LayerView). v.words) c.layer.view_is;
      nodes = bare-redirected (held_row l.held.value) (routed_arcs l.routes.items l.arcs.items) _ l.nodes.items ∙ ap (λ (v : LayerView). map without_arcs v.nodes) c.layer.view_is;
      places = places-seen (held_row l.held.value) _ l.nodes.items ∙ (sym (places-seen (held_row l.held.value) (routed_arcs l.routes.items l.arcs.items) l.nodes.items) ∙ ap (λ (v : LayerView). map (λ (n : NodeView). n.place) v.nodes) c.layer.view_is);
      nodes_room = ap (λ (v : LayerView). v.nodes_room) c.layer.view_is;
      arcs_room = search rules;
    }
