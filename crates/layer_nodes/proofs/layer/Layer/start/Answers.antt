use Rattle.std.proofs.Common.{[], ◌∷◌, ◌++◌, map, true, None, w64, sym, ap, ap₂, ◌∙◌}
use Rattle.std.proofs.lemmas.Int.{to_z-of_z}
use Rattle.layer_candidates.specs.HeldRows.{held_row}
use Rattle.layer_nodes.specs.Routing.{routed_arcs}
use Rattle.layer_nodes.specs.Stored.{node_view_by}
use Rattle.layer_nodes.proofs.Holding.{started-views}
use Rattle.layer_nodes.proofs.layer.Layer.start.Goals as goal

pub returns-clause-node : goal.returns-clause-node
returns-clause-node c =
    let a = c.args in
    let region = c.put_row-place.new.region in
    let place = c.put_row-place.result in
    let put = c.put_row-place.ensures in
    record {
      place = place;
      nodes_are = ap₂ (λ h r. map (node_view_by (held_row h) (routed_arcs c.clear-2.new.self.items r)) c.push_reserved.new.self.items) c.of.ensures c.clear.ensures.items
          ∙ (ap (map (node_view_by (held_row region) [])) (c.push_reserved.ensures.items ∙ (ap (λ l. l ++ c.lone_node.result ∷ []) c.clear-3.ensures.items ∙ ap (λ n. n ∷ []) c.lone_node.ensures))
          ∙ (started-views a.region.now region place a.row.now _ _ a.hash put (c.requires.cells ∙ sym c.requires.words)
          ∙ ap₂ (λ v r. record { row = a.row.now; place = place; value = v; rank = r; hash = a.hash; exact = true; parent = None; decision = 0; arcs = []; suffix = None } ∷ []) (to_z-of_z w64 a.value c.ranges.value) (to_z-of_z w64 a.rank c.ranges.rank)));
      put = put;
    }
