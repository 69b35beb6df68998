use Rattle.std.proofs.Common.{rules, ◌≡◌, ◌+◌, ◌*◌, ◌≤◌, [], length, map, vec_capacity, sym, ap, subst, ◌∙◌}
use Rattle.std.proofs.lemmas.List.{with_items_is}
use Rattle.dp_model.specs.Laws.{IsLawful}
use Rattle.dp_model.specs.Lists.{Each}
use Rattle.layer_candidates.specs.Members.{IsMemberOf}
use Rattle.layer_candidates.specs.HeldRows.{held_row, HasExchanged}
use Rattle.layer_nodes.specs.Expanding.{members_from}
use Rattle.layer_nodes.specs.Holding.{AreHeld, places_of}
use Rattle.layer_nodes.specs.Nodes.{LayerView, shown_layer, shown_below, without_arcs}
use Rattle.layer_nodes.specs.Routing.{routed_arcs}
use Rattle.layer_nodes.specs.Sifting.{expanded_by}
use Rattle.layer_nodes.specs.Steps.{IsParent}
use Rattle.layer_nodes.specs.Stored.{node_view_by}
use Rattle.layer_nodes.proofs.Expanded.{members-of}
use Rattle.layer_nodes.proofs.ExpandedLayers.{above-is, next-is, rest-is, places-are, next-lies, unmerged-seen, ranked-held}
use Rattle.layer_nodes.proofs.Shown.{places-seen}
use Rattle.layer_nodes.proofs.expanding.expand.Given as given
use Rattle.layer_nodes.proofs.expanding.expand.Goals as goal

laws_of : (g : given.Over) (m : g.row.M.Denot) → IsLawful (g.M.DpModel.meaning (g.M.DpModel.numbers m))
laws_of g m = (g.met.M.DpModel g.world.𝓛 g.world.𝓜 g.world.𝓡 ((λ s x. x), (λ x. x), (λ x. x), λ x. x)).lawful m

pub expand_nodes-requires-clause-members : goal.expand_nodes-requires-clause-members
expand_nodes-requires-clause-members g c κs within =
    let dp = g.M.DpModel.meaning (g.M.DpModel.numbers c.args.model.now) in
    let a = c.args in
    let A = c.above.inside in
    let view = ap (λ (l : LayerView). l.nodes) c.above.view_is in
    let row = held_row A.held.value in
    subst (λ nodes. Each (IsMemberOf dp a.k a.region.now) (members_from 0 nodes)) (sym c.as_mut_slice.ensures.value)
    (members-of dp a.k a.region.now 0 row (routed_arcs A.routes.items A.arcs.items) A.nodes.items (subst (AreHeld a.region.now) (sym view) c.requires.held) (subst (Each (IsParent dp a.k)) (sym view) c.requires.nodes))

pub returns-clause-above : goal.returns-clause-above
returns-clause-above g c = λ paths.
    let dp = g.M.DpModel.meaning (g.M.DpModel.numbers c.args.model.now) in
    let a = c.args in
    let A = c.above.inside in
    let N = c.next.inside in
    let e = c.expand_nodes in
    let view = ap (λ (l : LayerView). l.nodes) c.above.view_is in
    let arcs = routed_arcs e.new.routes.items e.new.arcs.items in
    let size : length e.new.above ≡ A.nodes.len = search rules in
    let nodes = with_items_is A.nodes e.new.above size in
    ap (λ l. shown_layer paths (map (node_view_by (held_row A.held.value) arcs) l)) nodes
    ∙ above-is (expanded_by a.strikes dp a.k) dp a.k a.region.now (held_row A.held.value) (routed_arcs A.routes.items A.arcs.items) A.nodes.items a.above.now.nodes view c.requires.held c.as_mut_slice.result.now c.as_mut_slice.ensures.value e.new.above arcs (held_row e.new.region) e.new.below.items e.ensures.expanded paths

pub returns-clause-next : goal.returns-clause-next
returns-clause-next g c = λ paths.
    let dp = g.M.DpModel.meaning (g.M.DpModel.numbers c.args.model.now) in
    let a = c.args in
    let A = c.above.inside in
    let N = c.next.inside in
    let e = c.expand_nodes in
    let view = ap (λ (l : LayerView). l.nodes) c.above.view_is in
    let arcs = routed_arcs e.new.routes.items e.new.arcs.items in
    let any = routed_arcs N.routes.items N.arcs.items in
    let is : c.of.result.value ≡ e.new.region = c.of.ensures in
    ap (λ r. shown_below paths (map (node_view_by (held_row r) any) e.new.below.items)) is
    ∙ next-is (expanded_by a.strikes dp a.k) dp a.k a.region.now (held_row A.held.value) (routed_arcs A.routes.items A.arcs.items) A.nodes.items a.above.now.nodes view c.requires.held c.as_mut_slice.result.now c.as_mut_slice.ensures.value e.new.above arcs (held_row e.new.region) e.new.below.items e.ensures.expanded paths any

pub returns-clause-unmerged : goal.returns-clause-unmerged
returns-clause-unmerged g c =
    let N = c.next.inside in
    let e = c.expand_nodes in
    unmerged-seen (held_row c.of.result.value) (routed_arcs N.routes.items N.arcs.items) e.new.below.items e.ensures.unmerged

pub returns-clause-rest : goal.returns-clause-rest
returns-clause-rest g c =
    let dp = g.M.DpModel.meaning (g.M.DpModel.numbers c.args.model.now) in
    let a = c.args in
    let A = c.above.inside in
    let N = c.next.inside in
    let e = c.expand_nodes in
    let view = ap (λ (l : LayerView). l.nodes) c.above.view_is in
    let arcs = routed_arcs e.new.routes.items e.new.arcs.items in
    let size : length e.new.above ≡ A.nodes.len = search rules in
    let nodes = with_items_is A.nodes e.new.above size in
    let seen = ap (map (node_view_by (held_row A.held.value) arcs)) nodes in
    record {
      words = ap (λ (l : LayerView). l.words) c.above.view_is;
      nodes = ap (map without_arcs) seen
          ∙ rest-is (expanded_by a.strikes dp a.k) dp a.k a.region.now (held_row A.held.value) (routed_arcs A.routes.items A.arcs.items) A.nodes.items a.above.now.nodes view c.requires.held c.as_mut_slice.result.now c.as_mut_slice.ensures.value e.new.above arcs (held_row e.new.region) e.new.below.items e.ensures.expanded;
      places = ap places_of seen
          ∙ places-are (expanded_by a.strikes dp a.k) dp a.k a.region.now (held_row A.held.value) (routed_arcs A.routes.items A.arcs.items) A.nodes.items a.above.now.nodes view c.requires.held c.as_mut_slice.result.now c.as_mut_slice.ensures.value e.new.above arcs (held_row e.new.region) e.new.below.items e.ensures.expanded;
      nodes_room = ap (λ (l : LayerView). l.nodes_room) c.above.view_is;
      arcs_room = search rules;
    }

pub returns-clause-held : goal.returns-clause-held
returns-clause-held g c =
    let dp = g.M.DpModel.meaning (g.M.DpModel.numbers c.args.model.now) in
    let a = c.args in
    let A = c.above.inside in
    let N = c.next.inside in
    let e = c.expand_nodes in
    let view = ap (λ (l : LayerView). l.nodes) c.above.view_is in
    let arcs = routed_arcs e.new.routes.items e.new.arcs.items in
    let any = routed_arcs N.routes.items N.arcs.items in
    let is : c.of.result.value ≡ e.new.region = c.of.ensures in
    subst (λ r. AreHeld e.new.region (map (node_view_by (held_row r) any) e.new.below.items)) (sym is)
    (ranked-held dp (laws_of g a.model.now) (a.k + 1) e.new.region any e.new.below.items (e.ensures.exchanged.words ∙ c.requires.region_words) e.ensures.exchanged.live.live (e.ensures.expanded.ranked any))

pub returns-clause-exchanged : goal.returns-clause-exchanged
returns-clause-exchanged g c =
    let N = c.next.inside in
    let e = c.expand_nodes in
    subst (HasExchanged c.args.region.now [] e.new.region) (sym (places-seen (held_row c.of.result.value) (routed_arcs N.routes.items N.arcs.items) e.new.below.items)) e.ensures.exchanged

pub invariant_of-next : goal.invariant_of-next
invariant_of-next g c =
    let dp = g.M.DpModel.meaning (g.M.DpModel.numbers c.args.model.now) in
    let a = c.args in
    let A = c.above.inside in
    let N = c.next.inside in
    let e = c.expand_nodes in
    let view = ap (λ (l : LayerView). l.nodes) c.above.view_is in
    let arcs = routed_arcs e.new.routes.items e.new.arcs.items in
    let room : N.room ≡ a.next.now.nodes_room = ap (λ (l : LayerView). l.nodes_room) c.next.view_is in
    next-lies (expanded_by a.strikes dp a.k) dp a.k a.region.now (held_row A.held.value) (routed_arcs A.routes.items A.arcs.items) A.nodes.items a.above.now.nodes view c.requires.held c.as_mut_slice.result.now c.as_mut_slice.ensures.value e.new.above arcs (held_row e.new.region) e.new.below.items e.ensures.expanded
    N.room N.nodes.items (vec_capacity N.nodes) (vec_capacity e.new.below) N.arcs.items N.routes.items (vec_capacity N.arcs) (vec_capacity N.routes) c.next.invariant
    (subst (λ n. length a.above.now.nodes * dp.choices a.k ≤ n) (sym room) c.requires.nodes_room) e.ensures.below_capacity
