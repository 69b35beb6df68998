use Rattle.std.proofs.Common.{ℕ, ◌<◌, length, map, sym, ap, subst, ◌∙◌, arith}
use Rattle.dp_model.specs.Lists.{Each}
use Rattle.layer_candidates.specs.declared.key.Key.{Key}
use Rattle.layer_candidates.specs.HeldRows.{held_row}
use Rattle.layer_candidates.proofs.Sorted.{length-keys, keys-within}
use Rattle.layer_nodes.specs.Expanding.{key_in, IsNumbered, HaveParents, node_of}
use Rattle.layer_nodes.proofs.Expanded.{arranged-by}
use Rattle.layer_nodes.proofs.numbering.Arrangement.arrange.Goals as goal

pub number_ways-requires-clause-within : goal.number_ways-requires-clause-within
number_ways-requires-clause-within c =
    let count = c.as_slice-ways.result.now in
    subst (Each (λ (key : Key). key.place < length count)) (sym c.as_slice-keys.ensures.value)
    (keys-within c.as_slice-ways.result.now c.put_in_order.new.keys.items (length count) (omega arith) c.put_in_order.ensures.all)

pub number_ways-requires-clause-small : goal.number_ways-requires-clause-small
number_ways-requires-clause-small c =
    let count = ap length c.as_slice-ways.ensures.value in
    let size = ap length c.as_slice-keys.ensures.value ∙ length-keys c.as_slice-ways.result.now c.put_in_order.new.keys.items c.put_in_order.ensures.all in
    let small = c.requires.small in
    omega arith

pub list_nodes-requires-clause-ways : goal.list_nodes-requires-clause-ways
list_nodes-requires-clause-ways c =
    subst (Each (λ (key : Key). key.place < length c.as_slice-ways.result.now)) (sym c.as_slice-keys.ensures.value)
    (keys-within c.as_slice-ways.result.now c.put_in_order.new.keys.items (length c.as_slice-ways.result.now) (omega arith) c.put_in_order.ensures.all)

pub list_nodes-requires-clause-parents : goal.list_nodes-requires-clause-parents
list_nodes-requires-clause-parents c = subst HaveParents (sym c.as_slice-ways.ensures.value) c.requires.parents

pub list_nodes-requires-clause-marks : goal.list_nodes-requires-clause-marks
list_nodes-requires-clause-marks c =
    let count = ap length c.as_slice-ways.ensures.value in
    let size = ap length c.as_slice-marks.ensures.value in
    let room = c.requires.marks_room in
    subst (Each (λ (key : Key). key.place < length c.as_slice-marks.result.now)) (sym c.as_slice-keys.ensures.value)
    (keys-within c.as_slice-ways.result.now c.put_in_order.new.keys.items (length c.as_slice-marks.result.now) (omega arith) c.put_in_order.ensures.all)

pub list_nodes-requires-clause-room : goal.list_nodes-requires-clause-room
list_nodes-requires-clause-room c =
    let count = ap length c.as_slice-ways.ensures.value in
    let size = ap length c.as_slice-keys.ensures.value ∙ length-keys c.as_slice-ways.result.now c.put_in_order.new.keys.items c.put_in_order.ensures.all in
    let room = c.requires.nodes_room in
    omega arith

pub returns-clause-arranged : goal.returns-clause-arranged
returns-clause-arranged c =
    let a = c.args in
    let ways = c.as_slice-ways.result.now in
    let marks = c.as_slice-marks.result.now in
    let keys = c.put_in_order.new.keys.items in
    arranged-by (held_row a.region.now) ways a.self.now.found.table.ways.items marks a.self.now.found.marks.items c.number_ways.new.routes.items c.list_nodes.new.nodes.items
    (record {
      keys = keys;
      all = c.put_in_order.ensures.all;
      sorted = c.put_in_order.ensures.sorted;
      numbered = subst (λ ks. (j : ℕ) → j < length ks → IsNumbered (length ks) ks c.number_ways.new.routes.items (key_in ks j).place) c.as_slice-keys.ensures.value c.number_ways.ensures.numbered;
      plain = c.number_ways.ensures.plain;
      nodes_are = c.list_nodes.ensures.nodes ∙ ap (map (node_of ways marks)) c.as_slice-keys.ensures.value;
    }) c.as_slice-ways.ensures.value c.as_slice-marks.ensures.value
