use Rattle.std.proofs.Common.{[], sym, ap, subst, ◌∙◌}
use Rattle.layer_candidates.specs.HeldRows.{AreLive, HasExchanged, held_row}
use Rattle.layer_nodes.specs.Holding.{places_of}
use Rattle.layer_nodes.specs.Routing.{routed_arcs}
use Rattle.layer_nodes.specs.Nodes.{LayerView}
use Rattle.layer_nodes.specs.Stored.{rows_in}
use Rattle.layer_nodes.proofs.Shown.{places-seen}
use Rattle.layer_nodes.proofs.layer.Layer.drop_rows.Goals as goal

pub give_rows-requires : goal.give_rows-requires
give_rows-requires c =
    let s = c.self.inside in
    let places = sym (ap (λ (l : LayerView). places_of l.nodes) c.self.view_is) ∙ (places-seen (held_row s.held.value) (routed_arcs s.routes.items s.arcs.items) s.nodes.items ∙ ap rows_in (sym c.as_slice.ensures.value)) in
    subst (AreLive c.args.region.now) places c.requires.live

pub returns : goal.returns
returns c =
    let s = c.self.inside in
    let places = sym (ap (λ (l : LayerView). places_of l.nodes) c.self.view_is) ∙ (places-seen (held_row s.held.value) (routed_arcs s.routes.items s.arcs.items) s.nodes.items ∙ ap rows_in (sym c.as_slice.ensures.value)) in
    record { exchanged = subst (λ l. HasExchanged c.args.region.now l c.give_rows.new.region []) (sym places) c.give_rows.ensures }
