use Rattle.std.proofs.Common.{◌≡◌, ◌-◌, ◌++◌, false, None, ℕ, pos, unwrap_or, [], ◌∷◌, length, map, drop, w64, sym, ◌∙◌, ap, ap₂, subst, arith}
use Rattle.std.proofs.lemmas.Int.{to_z-of_z}
use Rattle.std.proofs.lemmas.List.{length-drop, length-map}
use Rattle.dp_model.specs.Lists.{Each}
use Rattle.dp_model.specs.Numbers.{greatest}
use Rattle.dp_laws.specs.Rules.Reducing.{row_of_all, merge_redirect}
use Rattle.layer_candidates.specs.HeldRows.{AreLive, HasExchanged, held_row}
use Rattle.layer_nodes.specs.declared.node.Node.{Node}
use Rattle.layer_nodes.specs.Leading.{IsNodeIn, bare}
use Rattle.layer_nodes.specs.Merging.{IsStateIn, lifted}
use Rattle.layer_nodes.specs.Stored.{rows_in}
use Rattle.layer_nodes.proofs.Exchanges.{following-live}
use Rattle.layer_nodes.proofs.Given.{rows-found}
use Rattle.layer_nodes.proofs.Merged.{states-in, row-of-nodes, has-merged}
use Rattle.layer_nodes.proofs.Stored.{each-drop}
use Rattle.layer_nodes.proofs.merging.merge_nodes.Goals as goal

pub merge_rows-requires-clause-states : goal.merge_rows-requires-clause-states
merge_rows-requires-clause-states g c κs within =
    let dp = g.M.DpModel.meaning (g.M.DpModel.numbers c.args.model.now) in
    let a = c.args in
    let first = a.width - 1 in
    let last : c.nodes_from-last.result.now ≡ drop first a.nodes.now.items = c.nodes_from-last.ensures ∙ ap (drop first) c.as_slice.ensures.value in
    subst (λ l. Each (IsStateIn dp a.k a.region.now) (rows_in l)) (sym last)
    (states-in dp a.k a.region.now (drop first a.nodes.now.items) (each-drop (IsNodeIn dp a.k a.region.now) first a.nodes.now.items c.requires.nodes))

pub merge_targets-best-requires-clause-redirects_room : goal.merge_targets-best-requires-clause-redirects_room
merge_targets-best-requires-clause-redirects_room g c =
    let a = c.args in
    let first = a.width - 1 in
    let last = ap length c.nodes_from-last.ensures ∙ (ap (λ l. length (drop first l)) c.as_slice.ensures.value ∙ length-drop first a.nodes.now.items) in
    let room = c.requires.redirects_room in
    let wide = c.requires.wide in
    let capacity = c.clear.ensures.capacity in
    let none = ap length c.clear.ensures.items in
    omega arith

pub give_rows-requires : goal.give_rows-requires
give_rows-requires g c =
    let a = c.args in
    let first = a.width - 1 in
    let last : c.nodes_from-last.result.now ≡ drop first a.nodes.now.items = c.nodes_from-last.ensures ∙ ap (drop first) c.as_slice.ensures.value in
    subst (λ l. AreLive a.region.now (rows_in l)) (sym last) (following-live a.region.now a.region.now a.nodes.now.items first c.requires.live)

pub put_row-place-requires-clause-spare : goal.put_row-place-requires-clause-spare
put_row-place-requires-clause-spare g c =
    let a = c.args in
    let first = a.width - 1 in
    let last : length c.nodes_from-last.result.now ≡ length a.nodes.now.items - first = ap length c.nodes_from-last.ensures ∙ (ap (λ l. length (drop first l)) c.as_slice.ensures.value ∙ length-drop first a.nodes.now.items) in
    let places = length-map c.nodes_from-last.result.now (λ (node : Node). node.row) in
    let wide = c.requires.wide in
    let spare = c.give_rows.ensures.spare in
    omega arith

pub returns-clause-merged : goal.returns-clause-merged
returns-clause-merged g c =
    let dp = g.M.DpModel.meaning (g.M.DpModel.numbers c.args.model.now) in
    let a = c.args in
    let first = a.width - 1 in
    let old = a.region.now in
    let nodes = a.nodes.now.items in
    let now = c.give_rows.new.region in
    let new = c.put_row-place.new.region in
    let into = c.merge_rows.new.into in
    let last : c.nodes_from-last.result.now ≡ drop first nodes = c.nodes_from-last.ensures ∙ ap (drop first) c.as_slice.ensures.value in
    has-merged dp a.k a.width old now new nodes into c.put_row-place.result c.requires.live (subst (λ l. HasExchanged old (rows_in l) now []) last c.give_rows.ensures) c.put_row-place.ensures
    (c.merge_rows.ensures.cells ∙ sym (c.give_rows.ensures.words ∙ c.requires.words))
    (rows-found dp a.k old nodes c.requires.nodes)
    (c.merge_rows.ensures.merged ∙ (row-of-nodes dp a.k (held_row old) c.nodes_from-last.result.now ∙ ap (λ l. row_of_all dp a.k (map (bare (held_row old)) l)) last))
    c.merge_rows.ensures.state
    c.merge_targets-best.result c.merge_targets-best.new.redirects.items c.lone_node.result c.push_reserved.new.self.items
    (c.merge_targets-best.ensures.value ∙ ap (λ l. greatest (lifted dp a.k into (map (bare (held_row old)) l))) last)
    (c.merge_targets-best.ensures.redirects ∙ ap₂ (λ s l. s ++ map (merge_redirect dp a.k first into) (map (bare (held_row old)) l)) c.clear.ensures.items last)
    c.merge_targets-best.ensures.short
    (c.lone_node.ensures ∙ (ap₂ (λ v r. record { value = v; rank = r; hash = c.hash-hash.result; suffix = None; parent = None; row = c.put_row-place.result; decision = 0; first_arc = 0; arcs = 0; exact = false }) (to_z-of_z w64 c.unwrap_or-value.result (record { sfits = c.unwrap_or-value.type_inv }) ∙ c.unwrap_or-value.ensures) (to_z-of_z w64 c.rank-rank.result (record { sfits = c.rank-rank.type_inv }) ∙ c.rank-rank.ensures)
    ∙ ap (λ (h : ℕ). record { value = unwrap_or c.merge_targets-best.result (pos 0); rank = dp.rank a.k into; hash = h; suffix = None; parent = None; row = c.put_row-place.result; decision = 0; first_arc = 0; arcs = 0; exact = false }) c.hash-hash.ensures))
    (c.push_reserved.ensures.items ∙ ap (λ l. l ++ c.lone_node.result ∷ []) c.truncate.ensures.items)
