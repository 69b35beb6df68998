use Rattle.std.proofs.Common.{◌≡◌, ◌≢◌, ℕ, ◌<◌, None, length, map, sym, ap, subst, ◌∙◌, arith}
use Rattle.dp_model.specs.Lists.{Each}
use Rattle.layer_candidates.specs.declared.key.Key.{Key}
use Rattle.layer_candidates.specs.HeldRows.{held_row}
use Rattle.layer_nodes.specs.Expanding.{key_in, number_at, IsNumbered, HaveParents, node_of}
use Rattle.layer_nodes.proofs.Listed.{listed-live, listed-zeros, listed-within, listed-moved}
use Rattle.layer_nodes.proofs.SiftedLayers.{ordered-by}
use Rattle.layer_nodes.proofs.numbering.Arrangement.order.Goals as goal

pub sort-requires : goal.sort-requires
sort-requires g c =
    let dp = g.M.DpModel.meaning (g.M.DpModel.numbers c.args.model.now) in
    let a = c.args in
    record {
      held = listed-live dp a.k a.region.now a.self.now.found.table.ways.items a.self.now.keys.items c.requires.listed;
      zeros = listed-zeros dp a.k a.region.now a.self.now.found.table.ways.items a.self.now.keys.items c.requires.listed c.first_live.result c.first_live.ensures.zeros;
    }

pub number_ways-requires-clause-within : goal.number_ways-requires-clause-within
number_ways-requires-clause-within g c =
    let dp = g.M.DpModel.meaning (g.M.DpModel.numbers c.args.model.now) in
    let a = c.args in
    let ways = a.self.now.found.table.ways.items in
    let keys = c.sort.new.keys.items in
    let h = listed-moved dp a.k a.region.now ways a.self.now.keys.items c.requires.listed keys c.sort.ensures.all in
    let size = ap length c.as_slice-ways.ensures.value in
    subst (Each (λ (key : Key). key.place < length c.as_slice-ways.result.now)) (sym c.as_slice-keys.ensures.value)
    (listed-within dp a.k a.region.now ways keys h (length c.as_slice-ways.result.now) (omega arith))

pub number_ways-requires-clause-small : goal.number_ways-requires-clause-small
number_ways-requires-clause-small g c =
    let dp = g.M.DpModel.meaning (g.M.DpModel.numbers c.args.model.now) in
    let a = c.args in
    let ways = a.self.now.found.table.ways.items in
    let keys = c.sort.new.keys.items in
    let h = listed-moved dp a.k a.region.now ways a.self.now.keys.items c.requires.listed keys c.sort.ensures.all in
    let few = h.few in
    let size = ap length c.as_slice-keys.ensures.value in
    let small = c.requires.small in
    omega arith

pub list_nodes-requires-clause-ways : goal.list_nodes-requires-clause-ways
list_nodes-requires-clause-ways g c =
    let dp = g.M.DpModel.meaning (g.M.DpModel.numbers c.args.model.now) in
    let a = c.args in
    let ways = a.self.now.found.table.ways.items in
    let keys = c.sort.new.keys.items in
    let h = listed-moved dp a.k a.region.now ways a.self.now.keys.items c.requires.listed keys c.sort.ensures.all in
    let size = ap length c.as_slice-ways.ensures.value in
    subst (Each (λ (key : Key). key.place < length c.as_slice-ways.result.now)) (sym c.as_slice-keys.ensures.value)
    (listed-within dp a.k a.region.now ways keys h (length c.as_slice-ways.result.now) (omega arith))

pub list_nodes-requires-clause-parents : goal.list_nodes-requires-clause-parents
list_nodes-requires-clause-parents g c = subst HaveParents (sym c.as_slice-ways.ensures.value) c.requires.parents

pub list_nodes-requires-clause-marks : goal.list_nodes-requires-clause-marks
list_nodes-requires-clause-marks g c =
    let dp = g.M.DpModel.meaning (g.M.DpModel.numbers c.args.model.now) in
    let a = c.args in
    let ways = a.self.now.found.table.ways.items in
    let keys = c.sort.new.keys.items in
    let h = listed-moved dp a.k a.region.now ways a.self.now.keys.items c.requires.listed keys c.sort.ensures.all in
    let size = ap length c.as_slice-marks.ensures.value in
    let room = c.requires.marks_room in
    subst (Each (λ (key : Key). key.place < length c.as_slice-marks.result.now)) (sym c.as_slice-keys.ensures.value)
    (listed-within dp a.k a.region.now ways keys h (length c.as_slice-marks.result.now) (omega arith))

pub list_nodes-requires-clause-room : goal.list_nodes-requires-clause-room
list_nodes-requires-clause-room g c =
    let dp = g.M.DpModel.meaning (g.M.DpModel.numbers c.args.model.now) in
    let a = c.args in
    let ways = a.self.now.found.table.ways.items in
    let keys = c.sort.new.keys.items in
    let h = listed-moved dp a.k a.region.now ways a.self.now.keys.items c.requires.listed keys c.sort.ensures.all in
    let few = h.few in
    let size = ap length c.as_slice-keys.ensures.value in
    let room = c.requires.nodes_room in
    omega arith

pub returns-clause-ordered : goal.returns-clause-ordered
returns-clause-ordered g c =
    let a = c.args in
    let ways = c.as_slice-ways.result.now in
    let marks = c.as_slice-marks.result.now in
    let keys = c.sort.new.keys.items in
    ordered-by (held_row a.region.now) a.self.now.keys.items ways a.self.now.found.table.ways.items marks a.self.now.found.marks.items c.number_ways.new.routes.items c.list_nodes.new.nodes.items
    (record {
      keys = keys;
      all = c.sort.ensures.all;
      sorted = c.sort.ensures.sorted;
      numbered = subst (λ ks. (j : ℕ) → j < length ks → IsNumbered (length ks) ks c.number_ways.new.routes.items (key_in ks j).place) c.as_slice-keys.ensures.value c.number_ways.ensures.numbered;
      unnumbered = subst (λ ks. (p : ℕ) → Each (λ (key : Key). key.place ≢ p) ks → number_at c.number_ways.new.routes.items p ≡ None) c.as_slice-keys.ensures.value c.number_ways.ensures.others;
      plain = c.number_ways.ensures.plain;
      nodes_are = c.list_nodes.ensures.nodes ∙ ap (map (node_of ways marks)) c.as_slice-keys.ensures.value;
    }) c.as_slice-ways.ensures.value c.as_slice-marks.ensures.value
