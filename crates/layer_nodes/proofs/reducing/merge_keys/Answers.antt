use Rattle.std.proofs.Common.{rules, ◌≡◌, ◌≢◌, ◌++◌, false, None, ℕ, pos, unwrap_or, [], ◌∷◌, List, length, drop, w64, sym, ◌∙◌, ap, ap₂, subst}
use Rattle.std.proofs.lemmas.Int.{to_z-of_z}
use Rattle.std.proofs.lemmas.List.{with_items_is}
use Rattle.dp_model.specs.Lists.{Each}
use Rattle.dp_model.specs.Numbers.{greatest}
use Rattle.dp_laws.specs.Pairs.{EachTwo}
use Rattle.layer_candidates.specs.declared.key.Key.{Key}
use Rattle.layer_candidates.specs.HeldRows.{AreLive, HasExchanged, held_row}
use Rattle.layer_candidates.specs.KeyOrder.{key_rows}
use Rattle.layer_nodes.specs.declared.routing.Route.{Route}
use Rattle.layer_nodes.specs.Merging.{IsStateIn, lifted}
use Rattle.layer_nodes.specs.Reducing.{bare_keys, IsKeyNode, row_of_keys, LeadToMerged, HasMergedKeys}
use Rattle.layer_nodes.specs.Routing.{route_at}
use Rattle.layer_nodes.proofs.MergedKeys.{key-states, row-of-keys, two-drop, following-live, has-merged-keys}
use Rattle.layer_nodes.proofs.Stored.{each-drop}
use Rattle.layer_nodes.proofs.reducing.merge_keys.Goals as goal

pub merge_rows-requires-clause-states : goal.merge_rows-requires-clause-states
merge_rows-requires-clause-states g c κs within =
    let dp = g.M.DpModel.meaning (g.M.DpModel.numbers c.args.model.now) in
    let a = c.args in
    subst (λ l. Each (IsStateIn dp a.k a.region.now) (key_rows l)) (sym c.keys_from-last.ensures)
    (key-states dp a.k a.region.now (drop a.first a.keys.now) (each-drop (IsKeyNode dp a.k a.region.now) a.first a.keys.now c.requires.keys))

pub lead_to_merged-best-requires-clause-apart : goal.lead_to_merged-best-requires-clause-apart
lead_to_merged-best-requires-clause-apart g c κs within =
    let a = c.args in
    subst (EachTwo (λ (a b : Key). a.place ≢ b.place)) (sym c.keys_from-last.ensures) (two-drop (λ (a b : Key). a.place ≢ b.place) a.first a.keys.now c.requires.apart)

pub give_rows-requires : goal.give_rows-requires
give_rows-requires g c =
    let dp = g.M.DpModel.meaning (g.M.DpModel.numbers c.args.model.now) in
    let a = c.args in
    let old = a.region.now in
    subst (λ l. AreLive old (key_rows l)) (sym c.keys_from-last.ensures)
    (following-live dp a.k a.first old old old a.ways.now a.marks.now a.keys.now [] [] [] 0 c.requires.some c.requires.live c.requires.apart)

pub returns-clause-merged : goal.returns-clause-merged
returns-clause-merged g c =
    let dp = g.M.DpModel.meaning (g.M.DpModel.numbers c.args.model.now) in
    let a = c.args in
    let old = a.region.now in
    let keys = a.keys.now in
    let now = c.give_rows.new.region in
    let new = c.put_row-place.new.region in
    let into = c.merge_rows.new.into in
    let b = c.lead_to_merged-best in
    let last : c.keys_from-last.result.now ≡ drop a.first keys = c.keys_from-last.ensures in
    let value = c.as_mut_slice.ensures.value in
    let size : length b.new.routes ≡ c.number_ways.new.routes.len = search rules in
    let routes = with_items_is c.number_ways.new.routes b.new.routes size in
    subst (λ (rs : List Route). HasMergedKeys dp a.k a.first old a.ways.now a.marks.now keys new rs c.push_reserved.new.self.items) (sym routes)
    (has-merged-keys dp a.k a.first old now new a.ways.now a.marks.now keys c.number_ways.new.routes.items b.new.routes into c.put_row-place.result c.requires.some c.requires.live c.requires.apart
    (subst (λ l. HasExchanged old (key_rows l) now []) last c.give_rows.ensures) c.put_row-place.ensures
    (c.merge_rows.ensures.cells ∙ sym (c.give_rows.ensures.words ∙ c.requires.words))
    c.number_ways.ensures.numbered c.number_ways.ensures.others c.number_ways.ensures.plain
    (λ p away. b.ensures.others p (subst (Each (λ (key : Key). key.place ≢ p)) (sym last) away) ∙ ap (λ rs. route_at rs p) value)
    c.requires.keys
    (c.merge_rows.ensures.merged ∙ (row-of-keys dp a.k (held_row old) c.keys_from-last.result.now ∙ ap (row_of_keys dp a.k (held_row old)) last))
    c.merge_rows.ensures.state
    b.result c.lone_node.result c.push_reserved.new.self.items
    (b.ensures.value ∙ ap (λ l. greatest (lifted dp a.k into (bare_keys (held_row old) l))) last)
    (subst (λ l. LeadToMerged dp a.k (held_row old) into a.first l b.new.routes) last b.ensures.lead)
    (c.lone_node.ensures ∙ (ap₂ (λ v r. record { value = v; rank = r; hash = c.hash-hash.result; suffix = None; parent = None; row = c.put_row-place.result; decision = 0; first_arc = 0; arcs = 0; exact = false }) (to_z-of_z w64 c.unwrap_or-value.result (record { sfits = c.unwrap_or-value.type_inv }) ∙ c.unwrap_or-value.ensures) (to_z-of_z w64 c.rank-rank.result (record { sfits = c.rank-rank.type_inv }) ∙ c.rank-rank.ensures)
    ∙ ap (λ (h : ℕ). record { value = unwrap_or b.result (pos 0); rank = dp.rank a.k into; hash = h; suffix = None; parent = None; row = c.put_row-place.result; decision = 0; first_arc = 0; arcs = 0; exact = false }) c.hash-hash.ensures))
    (c.push_reserved.ensures.items ∙ ap (λ l. l ++ c.lone_node.result ∷ []) c.list_nodes.ensures.nodes))
