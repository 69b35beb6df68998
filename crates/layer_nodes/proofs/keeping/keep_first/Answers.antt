use Rattle.std.proofs.Common.{[], map, take, drop, sym, ◌∙◌, ap, subst}
use Rattle.std.proofs.lemmas.List.{take-map}
use Rattle.layer_candidates.specs.HeldRows.{AreLive, HasExchanged, held_row}
use Rattle.layer_nodes.specs.Holding.{AreHeld, places_of}
use Rattle.layer_nodes.specs.Routing.{routed_arcs}
use Rattle.layer_nodes.specs.Nodes.{LayerView, shown_below}
use Rattle.layer_nodes.specs.Steps.{AreAmong}
use Rattle.layer_nodes.specs.Stored.{node_view_by, rows_in}
use Rattle.layer_nodes.proofs.Exchanges.{following-live, first-exchanged, first-rows}
use Rattle.layer_nodes.proofs.Holding.{held-rows, rows-held}
use Rattle.layer_nodes.proofs.Shown.{seen, below-seen, places-seen}
use Rattle.layer_nodes.proofs.Stored.{among-map, among-take, among-self}
use Rattle.layer_nodes.proofs.keeping.keep_first.Goals as goal

pub give_rows-requires : goal.give_rows-requires
give_rows-requires c =
    let s = c.next.inside in
    let region = c.args.region.now in
    let places = sym (ap (λ (l : LayerView). places_of l.nodes) c.next.view_is) ∙ places-seen (held_row s.held.value) (routed_arcs s.routes.items s.arcs.items) s.nodes.items in
    subst (λ l. AreLive region (rows_in l)) (sym (c.nodes_from.ensures ∙ ap (drop c.args.width) c.as_slice.ensures.value))
    (following-live region region s.nodes.items c.args.width (subst (AreLive region) places c.requires.live))

pub returns-clause-next : goal.returns-clause-next
returns-clause-next c = λ paths.
    let s = c.next.inside in
    let row = held_row s.held.value in
    let show = seen paths row (routed_arcs s.routes.items s.arcs.items) in
    let view = node_view_by row (routed_arcs s.routes.items s.arcs.items) in
    ap (λ n. shown_below paths (map view n)) c.truncate.ensures.items
    ∙ (below-seen paths row (routed_arcs s.routes.items s.arcs.items) (take c.args.width s.nodes.items)
    ∙ (sym (take-map show c.args.width s.nodes.items)
    ∙ ap (take c.args.width) (sym (below-seen paths row (routed_arcs s.routes.items s.arcs.items) s.nodes.items) ∙ ap (λ (l : LayerView). shown_below paths l.nodes) c.next.view_is)))

pub returns-clause-stay : goal.returns-clause-stay
returns-clause-stay c =
    let s = c.next.inside in
    let view = node_view_by (held_row s.held.value) (routed_arcs s.routes.items s.arcs.items) in
    subst (λ (l : LayerView). AreAmong l.nodes (map view c.truncate.new.self.items)) c.next.view_is
    (subst (λ n. AreAmong (map view s.nodes.items) (map view n)) (sym c.truncate.ensures.items)
    (among-map view s.nodes.items (take c.args.width s.nodes.items) (among-take c.args.width s.nodes.items s.nodes.items (among-self s.nodes.items))))

pub returns-clause-held : goal.returns-clause-held
returns-clause-held c =
    let s = c.next.inside in
    let row = held_row s.held.value in
    let old = c.args.region.now in
    let new = c.give_rows.new.region in
    let places = sym (ap (λ (l : LayerView). places_of l.nodes) c.next.view_is) ∙ places-seen row (routed_arcs s.routes.items s.arcs.items) s.nodes.items in
    let given = subst (λ l. HasExchanged old (rows_in l) new []) (c.nodes_from.ensures ∙ ap (drop c.args.width) c.as_slice.ensures.value) c.give_rows.ensures in
    let have = held-rows old row (routed_arcs s.routes.items s.arcs.items) s.nodes.items (subst (λ (l : LayerView). AreHeld old l.nodes) (sym c.next.view_is) c.requires.held) in
    subst (λ n. AreHeld new (map (node_view_by row (routed_arcs s.routes.items s.arcs.items)) n)) (sym c.truncate.ensures.items)
    (rows-held new row (routed_arcs s.routes.items s.arcs.items) (take c.args.width s.nodes.items) (first-rows old new s.nodes.items c.args.width (subst (AreLive old) places c.requires.live) row given have))

pub returns-clause-exchanged : goal.returns-clause-exchanged
returns-clause-exchanged c =
    let s = c.next.inside in
    let row = held_row s.held.value in
    let old = c.args.region.now in
    let new = c.give_rows.new.region in
    let places = sym (ap (λ (l : LayerView). places_of l.nodes) c.next.view_is) ∙ places-seen row (routed_arcs s.routes.items s.arcs.items) s.nodes.items in
    let given = subst (λ l. HasExchanged old (rows_in l) new []) (c.nodes_from.ensures ∙ ap (drop c.args.width) c.as_slice.ensures.value) c.give_rows.ensures in
    let first = ap places_of (ap (map (node_view_by row (routed_arcs s.routes.items s.arcs.items))) c.truncate.ensures.items) ∙ places-seen row (routed_arcs s.routes.items s.arcs.items) (take c.args.width s.nodes.items) in
    subst (λ l. HasExchanged old l new (places_of (map (node_view_by row (routed_arcs s.routes.items s.arcs.items)) c.truncate.new.self.items))) (sym places)
    (subst (HasExchanged old (rows_in s.nodes.items) new) (sym first) (first-exchanged old new s.nodes.items c.args.width (subst (AreLive old) places c.requires.live) given))
