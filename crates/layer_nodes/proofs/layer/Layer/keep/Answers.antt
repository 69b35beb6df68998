use Rattle.std.proofs.Common.{◌≡◌, ◌≤◌, [], length, map, sym, ap, ap₂, subst, ◌∙◌, arith}
use Rattle.std.proofs.lemmas.List.{length-map}
use Rattle.dp_model.specs.Lists.{Each}
use Rattle.layer_candidates.specs.HeldRows.{held_row}
use Rattle.layer_nodes.specs.declared.routing.StoredArc.{StoredArc}
use Rattle.layer_nodes.specs.Holding.{AreHeld, places_of}
use Rattle.layer_nodes.specs.Routing.{routed_arcs}
use Rattle.layer_nodes.specs.Nodes.{NodeView, LayerView, without_arcs}
use Rattle.layer_nodes.specs.Stored.{node_view_by, rows_in, bare_of, HasArcsIn}
use Rattle.layer_nodes.proofs.Holding.{held-rows, kept-views, kept-held, kept-bare, kept-places, kept-arcs}
use Rattle.layer_nodes.proofs.Shown.{places-seen}
use Rattle.layer_nodes.proofs.layer.Layer.keep.Goals as goal

-- the nodes are copies of the newest ones
pub invariant_of-self : goal.invariant_of-self
invariant_of-self c =
    let s = c.self.inside in
    let o = c.newest.inside in
    let new = c.list_all.new.nodes.items in
    let is : new ≡ map bare_of o.nodes.items = c.list_all.ensures.nodes ∙ ap (map bare_of) c.as_slice.ensures.value in
    let count = ap length is ∙ length-map o.nodes.items bare_of in
    let long = length-map o.nodes.items (node_view_by (held_row o.held.value) (routed_arcs o.routes.items o.arcs.items)) in
    let same = ap (λ (l : LayerView). length l.nodes) c.newest.view_is in
    let room = c.requires.room in
    let rooms = ap (λ (l : LayerView). l.nodes_room) c.self.view_is in
    record {
      small = c.self.invariant.small;
      fits = omega arith;
      nodes_hold = subst (λ n. s.room ≤ n) (sym c.list_all.ensures.capacity) c.self.invariant.nodes_hold;
      few_arcs = (let none = ap length c.clear.ensures.items in omega arith);
      routes_hold = (let hold = c.self.invariant.routes_hold in let arcs = c.clear.ensures.capacity in let routes = c.clear-2.ensures.capacity in omega arith);
      arcs_lie = subst (λ l. Each (HasArcsIn l) new) (sym c.clear.ensures.items) (subst (Each (HasArcsIn {X = StoredArc} [])) (sym is) (kept-arcs o.nodes.items));
    }

pub returns-clause-nodes : goal.returns-clause-nodes
returns-clause-nodes c =
    let o = c.newest.inside in
    let row = held_row o.held.value in
    let region = c.args.region.now in
    let new = c.list_all.new.nodes.items in
    let is : new ≡ map bare_of o.nodes.items = c.list_all.ensures.nodes ∙ ap (map bare_of) c.as_slice.ensures.value in
    let have = held-rows region row (routed_arcs o.routes.items o.arcs.items) o.nodes.items (subst (λ (l : LayerView). AreHeld region l.nodes) (sym c.newest.view_is) c.requires.held) in
    ap₂ (λ h a. map without_arcs (map (node_view_by (held_row h) (routed_arcs c.clear-2.new.self.items a)) new)) c.of.ensures c.clear.ensures.items
    ∙ (ap (λ n. map without_arcs (map (node_view_by (held_row region) []) n)) is
    ∙ (kept-views region row (routed_arcs o.routes.items o.arcs.items) o.nodes.items have ∙ ap (λ (l : LayerView). map without_arcs l.nodes) c.newest.view_is))

pub returns-clause-places : goal.returns-clause-places
returns-clause-places c =
    let o = c.newest.inside in
    let is : c.list_all.new.nodes.items ≡ map bare_of o.nodes.items = c.list_all.ensures.nodes ∙ ap (map bare_of) c.as_slice.ensures.value in
    places-seen _ _ c.list_all.new.nodes.items
    ∙ (ap rows_in is ∙ (kept-places o.nodes.items ∙ (sym (places-seen (held_row o.held.value) (routed_arcs o.routes.items o.arcs.items) o.nodes.items) ∙ ap (λ (l : LayerView). places_of l.nodes) c.newest.view_is)))

pub returns-clause-bare : goal.returns-clause-bare
returns-clause-bare c =
    let o = c.newest.inside in
    let new = c.list_all.new.nodes.items in
    let is : new ≡ map bare_of o.nodes.items = c.list_all.ensures.nodes ∙ ap (map bare_of) c.as_slice.ensures.value in
    subst (Each (λ (n : NodeView). n.arcs ≡ [])) (sym (ap₂ (λ h a. map (node_view_by (held_row h) (routed_arcs c.clear-2.new.self.items a)) new) c.of.ensures c.clear.ensures.items ∙ ap (map (node_view_by (held_row c.args.region.now) [])) is))
    (kept-bare (held_row c.args.region.now) o.nodes.items)

pub returns-clause-held : goal.returns-clause-held
returns-clause-held c =
    let o = c.newest.inside in
    let row = held_row o.held.value in
    let region = c.args.region.now in
    let new = c.list_all.new.nodes.items in
    let is : new ≡ map bare_of o.nodes.items = c.list_all.ensures.nodes ∙ ap (map bare_of) c.as_slice.ensures.value in
    let have = held-rows region row (routed_arcs o.routes.items o.arcs.items) o.nodes.items (subst (λ (l : LayerView). AreHeld region l.nodes) (sym c.newest.view_is) c.requires.held) in
    subst (AreHeld region) (sym (ap₂ (λ h a. map (node_view_by (held_row h) (routed_arcs c.clear-2.new.self.items a)) new) c.of.ensures c.clear.ensures.items ∙ ap (map (node_view_by (held_row region) [])) is))
    (kept-held region row (routed_arcs o.routes.items o.arcs.items) o.nodes.items have)
