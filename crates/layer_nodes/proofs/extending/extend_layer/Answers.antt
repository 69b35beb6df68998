use Rattle.std.proofs.Common.{rules, ◌≡◌, ◌+◌, ◌-◌, ◌*◌, ◌^◌, ◌≤◌, [], ◌∷◌, ◌++◌, length, take, mul-le-mul_right, IsTrue, refl, sym, ap, subst, ◌∙◌, arith, length-append}
use Rattle.std.proofs.lemmas.List.{length-map, take_all}
use Rattle.dp_model.specs.Decisions.{below}
use Rattle.layer_candidates.specs.declared.member.Member.{Member}
use Rattle.layer_candidates.specs.declared.way.Way.{Way}
use Rattle.layer_candidates.specs.Ways.{rows_of, way_row, IsNear, AllHaveZeros, AreJoined}
use Rattle.layer_candidates.specs.Extending.{AreExtended, HasExtended}
use Rattle.layer_candidates.specs.HeldRows.{held_row, HasExchanged}
use Rattle.layer_candidates.proofs.Extended.{members-start, members-all}
use Rattle.layer_candidates.proofs.WayTables.{room-kept, keeps-then}
use Rattle.layer_candidates.proofs.HeldRows.{exchange-put, exchange-give, exchange-then, given-same, ways-same}
use Rattle.layer_candidates.proofs.Joined.{apart-same, good-same, reached-same}
use Rattle.layer_candidates.proofs.Layered.{parents-within}
use Rattle.layer_nodes.specs.declared.node.Node.{Node}
use Rattle.layer_nodes.specs.Expanding.{member_of, members_from, node_in, trials_at, trials_by, trials_of, spanned, AreTried}
use Rattle.layer_nodes.specs.Routing.{to_way, to_ways}
use Rattle.layer_nodes.proofs.Spans.{length-members, members-within, next-member, row-stays, extended-next, tried-next, spanned-next}
use Rattle.row_region.specs.Region.{IsLive}
use Rattle.layer_nodes.proofs.Stored.{get_or-any, read-is}
use Rattle.layer_nodes.proofs.Tried.{length-arcs, tried-stay}
use Rattle.layer_nodes.proofs.extending.extend_layer.Goals as goal

pub clear-requires-clause-slots : goal.clear-requires-clause-slots
clear-requires-clause-slots g c = c.requires.room.slots

pub nodes-init : goal.nodes-init
nodes-init g c =
    let dp = g.M.DpModel.meaning (g.M.DpModel.numbers c.args.model.now) in
    let a = c.args in
    let t = c.clear.new.self in
    let empty = c.clear.ensures.empty in
    let live = c.first_live-live.result in
    let new = c.take_row-spot.new.region in
    let put = c.take_row-spot.ensures in
    let arcs = c.clear-2.new.self.items in
    let none : arcs ≡ [] = c.clear-2.ensures.items in
    let size = ap length none in
    record {
      extended = subst (λ l. AreExtended dp a.k 0 a.region.now live (members_from 0 a.nodes.now) (way_row new l) l t.hashes.items t.heads.items t.next.items) (sym empty.ways)
          (subst (λ l. AreExtended dp a.k 0 a.region.now live (members_from 0 a.nodes.now) (way_row new []) [] t.hashes.items l t.next.items) (sym empty.heads)
          (members-start dp a.k a.region.now live (members_from 0 a.nodes.now) (way_row new []) t.hashes.items t.next.items (length t.heads.items) empty.power));
      exchanged = subst (λ l. HasExchanged a.region.now [] new (c.take_row-spot.result.place ∷ rows_of l)) (sym empty.ways)
          (exchange-put a.region.now new c.take_row-spot.result.place put.0 put.2 put.1 [] (record { live = tt; apart = tt }));
      tried = subst (λ l. AreTried dp a.k (way_row new l) (length l) [] a.found.now.marks.items (to_ways arcs)) (sym empty.ways)
          (subst (λ l. AreTried dp a.k (way_row new []) 0 [] a.found.now.marks.items (to_ways l)) (sym none) (record { arcs_are = tt; marks_are = λ i less. absurd (omega arith) }));
      spans = refl;
      live = c.clear.ensures.live;
      room = c.clear.ensures.room;
      marks = refl;
      arcs_few = omega arith;
      arcs_capacity = c.clear-2.ensures.capacity;
    }

pub copy_row-requires-clause-live : goal.copy_row-requires-clause-live
copy_row-requires-clause-live g c =
    let dp = g.M.DpModel.meaning (g.M.DpModel.numbers c.args.model.now) in
    let a = c.args in let l = c.nodes in
    let m = next-member dp a.k a.region.now a.nodes.now l.nodes l.i c.nodes-test.true l.invariant.spans c.requires.members in
    let stays = row-stays dp a.k a.region.now a.nodes.now l.nodes l.i c.nodes-test.true l.invariant.spans c.requires.members l.region (l.spot.place ∷ rows_of l.found.table.ways.items) l.invariant.exchanged in
    let read : c.index-nodes-i.result ≡ node_in l.nodes l.i = read-is l.nodes l.i c.index-nodes-i.result (node_in [] 0) (let more = c.nodes-test.true in let same = l.auto.nodes in omega arith) c.index-nodes-i.is in
    subst (λ (n : Node). IsLive l.region n.row) (sym read) stays.0

pub copy_row-requires-clause-cells : goal.copy_row-requires-clause-cells
copy_row-requires-clause-cells g c = c.nodes.auto.from ∙ (c.requires.cells ∙ (sym c.requires.words ∙ sym c.nodes.invariant.exchanged.words))

pub try_node-requires-clause-state : goal.try_node-requires-clause-state
try_node-requires-clause-state g c κs within =
    let dp = g.M.DpModel.meaning (g.M.DpModel.numbers c.args.model.now) in
    let a = c.args in let l = c.nodes in
    let m = next-member dp a.k a.region.now a.nodes.now l.nodes l.i c.nodes-test.true l.invariant.spans c.requires.members in
    let stays = row-stays dp a.k a.region.now a.nodes.now l.nodes l.i c.nodes-test.true l.invariant.spans c.requires.members l.region (l.spot.place ∷ rows_of l.found.table.ways.items) l.invariant.exchanged in
    let read : c.index-nodes-i.result ≡ node_in l.nodes l.i = read-is l.nodes l.i c.index-nodes-i.result (node_in [] 0) (let more = c.nodes-test.true in let same = l.auto.nodes in omega arith) c.index-nodes-i.is in
    let copied : c.copy_row.new.cells ≡ held_row a.region.now (node_in l.nodes l.i).row = c.copy_row.ensures ∙ (ap (λ (n : Node). held_row l.region n.row) read ∙ stays.1) in
    subst (λ r. IsTrue (dp.is_state c.args.k r)) (sym copied) m.held.state.test

pub try_node-requires-clause-value : goal.try_node-requires-clause-value
try_node-requires-clause-value g c κs within =
    let dp = g.M.DpModel.meaning (g.M.DpModel.numbers c.args.model.now) in
    let a = c.args in let l = c.nodes in
    let m = next-member dp a.k a.region.now a.nodes.now l.nodes l.i c.nodes-test.true l.invariant.spans c.requires.members in
    let read : c.index-nodes-i.result ≡ node_in l.nodes l.i = read-is l.nodes l.i c.index-nodes-i.result (node_in [] 0) (let more = c.nodes-test.true in let same = l.auto.nodes in omega arith) c.index-nodes-i.is in
    subst IsNear (sym (ap (λ (m : Member). m.value) (c.member_of-parent.ensures ∙ ap (λ n. member_of n l.i) read))) m.value

pub try_node-requires-clause-rank : goal.try_node-requires-clause-rank
try_node-requires-clause-rank g c κs within =
    let dp = g.M.DpModel.meaning (g.M.DpModel.numbers c.args.model.now) in
    let a = c.args in let l = c.nodes in
    let m = next-member dp a.k a.region.now a.nodes.now l.nodes l.i c.nodes-test.true l.invariant.spans c.requires.members in
    let stays = row-stays dp a.k a.region.now a.nodes.now l.nodes l.i c.nodes-test.true l.invariant.spans c.requires.members l.region (l.spot.place ∷ rows_of l.found.table.ways.items) l.invariant.exchanged in
    let read : c.index-nodes-i.result ≡ node_in l.nodes l.i = read-is l.nodes l.i c.index-nodes-i.result (node_in [] 0) (let more = c.nodes-test.true in let same = l.auto.nodes in omega arith) c.index-nodes-i.is in
    let copied : c.copy_row.new.cells ≡ held_row a.region.now (node_in l.nodes l.i).row = c.copy_row.ensures ∙ (ap (λ (n : Node). held_row l.region n.row) read ∙ stays.1) in
    ap (λ (m : Member). m.rank) (c.member_of-parent.ensures ∙ ap (λ n. member_of n l.i) read) ∙ (m.held.rank ∙ ap (dp.rank c.args.k) (sym copied))

pub try_node-requires-clause-hash : goal.try_node-requires-clause-hash
try_node-requires-clause-hash g c κs within =
    let dp = g.M.DpModel.meaning (g.M.DpModel.numbers c.args.model.now) in
    let a = c.args in let l = c.nodes in
    let m = next-member dp a.k a.region.now a.nodes.now l.nodes l.i c.nodes-test.true l.invariant.spans c.requires.members in
    let stays = row-stays dp a.k a.region.now a.nodes.now l.nodes l.i c.nodes-test.true l.invariant.spans c.requires.members l.region (l.spot.place ∷ rows_of l.found.table.ways.items) l.invariant.exchanged in
    let read : c.index-nodes-i.result ≡ node_in l.nodes l.i = read-is l.nodes l.i c.index-nodes-i.result (node_in [] 0) (let more = c.nodes-test.true in let same = l.auto.nodes in omega arith) c.index-nodes-i.is in
    let copied : c.copy_row.new.cells ≡ held_row a.region.now (node_in l.nodes l.i).row = c.copy_row.ensures ∙ (ap (λ (n : Node). held_row l.region n.row) read ∙ stays.1) in
    ap (λ (m : Member). m.hash) (c.member_of-parent.ensures ∙ ap (λ n. member_of n l.i) read) ∙ (m.held.hash ∙ ap (dp.hash c.args.k) (sym copied))

pub try_node-requires-clause-words : goal.try_node-requires-clause-words
try_node-requires-clause-words g c κs within = c.nodes.invariant.exchanged.words ∙ c.requires.words

pub try_node-requires-clause-spare : goal.try_node-requires-clause-spare
try_node-requires-clause-spare g c κs within =
    let dp = g.M.DpModel.meaning (g.M.DpModel.numbers c.args.model.now) in
    let few = c.nodes.invariant.extended.few in
    let less : (c.nodes.i + 1) * dp.choices c.args.k ≤ length c.args.nodes.now * dp.choices c.args.k = mul-le-mul_right (dp.choices c.args.k) (let t = c.nodes-test.true in omega arith) in
    let taken = c.nodes.invariant.exchanged.spare in
    let count = length-map c.nodes.found.table.ways.items (λ (w : Way). w.row) in
    let spare = c.requires.spare in
    omega arith

pub try_node-requires-clause-held : goal.try_node-requires-clause-held
try_node-requires-clause-held g c κs within = c.nodes.invariant.exchanged.live

pub try_node-requires-clause-joined : goal.try_node-requires-clause-joined
try_node-requires-clause-joined g c κs within =
    let dp = g.M.DpModel.meaning (g.M.DpModel.numbers c.args.model.now) in
    let l = c.nodes in let t = l.found.table in
    subst (λ v. AreJoined dp (c.args.k + 1) (way_row l.region t.ways.items) v t.ways.items t.hashes.items t.heads.items t.next.items) (sym l.invariant.live) l.invariant.extended.joined

pub try_node-requires-clause-live : goal.try_node-requires-clause-live
try_node-requires-clause-live g c κs within =
    let dp = g.M.DpModel.meaning (g.M.DpModel.numbers c.args.model.now) in
    subst (λ v. v ≤ dp.words) (sym c.nodes.invariant.live) c.first_live-live.ensures.cells

pub try_node-requires-clause-zeros : goal.try_node-requires-clause-zeros
try_node-requires-clause-zeros g c κs within =
    let dp = g.M.DpModel.meaning (g.M.DpModel.numbers c.args.model.now) in
    subst (AllHaveZeros dp (c.args.k + 1)) (sym c.nodes.invariant.live) c.first_live-live.ensures.zeros

pub try_node-requires-clause-room : goal.try_node-requires-clause-room
try_node-requires-clause-room g c κs within =
    let dp = g.M.DpModel.meaning (g.M.DpModel.numbers c.args.model.now) in
    let few = c.nodes.invariant.extended.few in
    let less : (c.nodes.i + 1) * dp.choices c.args.k ≤ length c.args.nodes.now * dp.choices c.args.k = mul-le-mul_right (dp.choices c.args.k) (let t = c.nodes-test.true in omega arith) in
    room-kept (length c.nodes.found.table.ways.items + dp.choices c.args.k) (length c.args.nodes.now * dp.choices c.args.k) c.args.found.now.table c.nodes.found.table c.nodes.invariant.room (omega arith) c.requires.room

pub try_node-requires-clause-marks_room : goal.try_node-requires-clause-marks_room
try_node-requires-clause-marks_room g c κs within =
    let dp = g.M.DpModel.meaning (g.M.DpModel.numbers c.args.model.now) in
    let few = c.nodes.invariant.extended.few in
    let less : (c.nodes.i + 1) * dp.choices c.args.k ≤ length c.args.nodes.now * dp.choices c.args.k = mul-le-mul_right (dp.choices c.args.k) (let t = c.nodes-test.true in omega arith) in
    let room = c.requires.marks_room in
    let same = c.nodes.invariant.marks in
    omega arith

pub try_node-requires-clause-arcs_room : goal.try_node-requires-clause-arcs_room
try_node-requires-clause-arcs_room g c κs within =
    let dp = g.M.DpModel.meaning (g.M.DpModel.numbers c.args.model.now) in
    let few = c.nodes.invariant.arcs_few in
    let less : (c.nodes.i + 1) * dp.choices c.args.k ≤ length c.args.nodes.now * dp.choices c.args.k = mul-le-mul_right (dp.choices c.args.k) (let t = c.nodes-test.true in omega arith) in
    let room = c.requires.arcs_room in
    let same = c.nodes.invariant.arcs_capacity in
    omega arith

pub span-requires-clause-order : goal.span-requires-clause-order
span-requires-clause-order g c =
    let dp = g.M.DpModel.meaning (g.M.DpModel.numbers c.args.model.now) in
    let a = c.args in let l = c.nodes in let e = c.try_node in
    let node = node_in l.nodes l.i in
    let row = way_row l.region l.found.table.ways.items in
    let row2 = way_row e.new.region e.new.found.table.ways.items in
    let ts = trials_of dp a.k (held_row a.region.now) (take l.i a.nodes.now) in
    let us = trials_by dp a.k c.copy_row.new.cells node.exact (below (dp.choices a.k)) in
    let read : c.index-nodes-i.result ≡ node_in l.nodes l.i = read-is l.nodes l.i c.index-nodes-i.result (node_in [] 0) (let more = c.nodes-test.true in let same = l.auto.nodes in omega arith) c.index-nodes-i.is in
    let tried = subst (λ (n : Node). AreTried dp a.k row2 (length e.new.found.table.ways.items) (ts ++ trials_by dp a.k c.copy_row.new.cells n.exact (below (dp.choices a.k))) e.new.found.marks.items (to_ways e.new.arcs.items)) read (e.ensures.tried ts l.invariant.tried) in
    let before = length-arcs dp a.k row (length l.found.table.ways.items) ts (to_ways l.arcs.items) l.invariant.tried.arcs_are in
    let after = length-arcs dp a.k row2 (length e.new.found.table.ways.items) (ts ++ us) (to_ways e.new.arcs.items) tried.arcs_are in
    let sum = length-append ts us in
    let old = length-map l.arcs.items to_way in
    let new = length-map e.new.arcs.items to_way in
    let first : c.len-first.result ≡ length l.arcs.items = search rules in
    let end : c.len.result ≡ length e.new.arcs.items = search rules in
    omega arith

pub span-requires-clause-small : goal.span-requires-clause-small
span-requires-clause-small g c =
    let dp = g.M.DpModel.meaning (g.M.DpModel.numbers c.args.model.now) in
    let a = c.args in let l = c.nodes in let e = c.try_node in
    let end : c.len.result ≡ length e.new.arcs.items = search rules in
    let few = e.ensures.arcs_few in
    let old = l.invariant.arcs_few in
    let less : (l.i + 1) * dp.choices a.k ≤ length a.nodes.now * dp.choices a.k = mul-le-mul_right (dp.choices a.k) (let t = c.nodes-test.true in omega arith) in
    let small = c.requires.room.ways.small in
    omega arith

pub nodes-preserved : goal.nodes-preserved
nodes-preserved g c =
    let dp = g.M.DpModel.meaning (g.M.DpModel.numbers c.args.model.now) in
    let a = c.args in let l = c.nodes in let e = c.try_node in
    let m = next-member dp a.k a.region.now a.nodes.now l.nodes l.i c.nodes-test.true l.invariant.spans c.requires.members in
    let stays = row-stays dp a.k a.region.now a.nodes.now l.nodes l.i c.nodes-test.true l.invariant.spans c.requires.members l.region (l.spot.place ∷ rows_of l.found.table.ways.items) l.invariant.exchanged in
    let read : c.index-nodes-i.result ≡ node_in l.nodes l.i = read-is l.nodes l.i c.index-nodes-i.result (node_in [] 0) (let more = c.nodes-test.true in let same = l.auto.nodes in omega arith) c.index-nodes-i.is in
    let copied : c.copy_row.new.cells ≡ held_row a.region.now (node_in l.nodes l.i).row = c.copy_row.ensures ∙ (ap (λ (n : Node). held_row l.region n.row) read ∙ stays.1) in
    let node = node_in l.nodes l.i in
    let row = way_row l.region l.found.table.ways.items in
    let row2 = way_row e.new.region e.new.found.table.ways.items in
    let ts = trials_of dp a.k (held_row a.region.now) (take l.i a.nodes.now) in
    let us = trials_by dp a.k c.copy_row.new.cells node.exact (below (dp.choices a.k)) in
    let tried = subst (λ (n : Node). AreTried dp a.k row2 (length e.new.found.table.ways.items) (ts ++ trials_by dp a.k c.copy_row.new.cells n.exact (below (dp.choices a.k))) e.new.found.marks.items (to_ways e.new.arcs.items)) read (e.ensures.tried ts l.invariant.tried) in
    let before = length-arcs dp a.k row (length l.found.table.ways.items) ts (to_ways l.arcs.items) l.invariant.tried.arcs_are in
    let after = length-arcs dp a.k row2 (length e.new.found.table.ways.items) (ts ++ us) (to_ways e.new.arcs.items) tried.arcs_are in
    let sum = length-append ts us in
    let old = length-map l.arcs.items to_way in
    let new = length-map e.new.arcs.items to_way in
    let first : c.len-first.result ≡ length l.arcs.items = search rules in
    let end : c.len.result ≡ length e.new.arcs.items = search rules in
    let mine : length us ≡ length (trials_at dp a.k (held_row a.region.now) node) = ap (λ r. length (trials_by dp a.k r node.exact (below (dp.choices a.k)))) copied in
    let less = c.nodes-test.true in
    let same = l.auto.nodes in
    let is = c.span.ensures (length us) (omega arith) ∙ ap (spanned c.len-first.result (length us)) (get_or-any l.nodes l.i c.index-nodes-i-in-nodes.result (node_in [] 0) (omega arith)) in
    let more = e.ensures.arcs_few in
    let few = l.invariant.arcs_few in
    let made = subst (λ (p : Member). HasExtended dp a.k p.step c.copy_row.new.cells p.value (below (dp.choices a.k)) c.first_live-live.result row l.found.table.ways.items row2 e.new.found.table.ways.items e.new.found.table.hashes.items e.new.found.table.heads.items e.new.found.table.next.items) (c.member_of-parent.ensures ∙ ap (λ n. member_of n l.i) read)
    (subst (λ v. HasExtended dp a.k c.member_of-parent.result.step c.copy_row.new.cells c.member_of-parent.result.value (below (dp.choices a.k)) v row l.found.table.ways.items row2 e.new.found.table.ways.items e.new.found.table.hashes.items e.new.found.table.heads.items e.new.found.table.next.items) l.invariant.live e.ensures.extended) in
    record {
      extended = extended-next dp a.k a.region.now a.nodes.now l.nodes l.i c.nodes-test.true l.invariant.spans c.first_live-live.result c.copy_row.new.cells row row2 l.found.table.ways.items e.new.found.table.ways.items l.found.table.hashes.items l.found.table.heads.items l.found.table.next.items e.new.found.table.hashes.items e.new.found.table.heads.items e.new.found.table.next.items
          l.invariant.extended copied made;
      exchanged = exchange-then a.region.now l.region e.new.region [] (l.spot.place ∷ rows_of l.found.table.ways.items) (e.new.spot.place ∷ rows_of e.new.found.table.ways.items) l.invariant.exchanged e.ensures.exchanged;
      tried = tried-next dp a.k (held_row a.region.now) a.nodes.now l.nodes l.i c.nodes-test.true l.invariant.spans c.copy_row.new.cells row2 (length e.new.found.table.ways.items) e.new.found.marks.items (to_ways e.new.arcs.items) copied tried;
      spans = spanned-next dp a.k (held_row a.region.now) a.nodes.now l.nodes l.i c.nodes-test.true l.invariant.spans _ c.len-first.result (length us) c.span.new.node (first ∙ (sym old ∙ before)) mine is refl;
      live = e.ensures.live ∙ l.invariant.live;
      room = keeps-then a.found.now.table l.found.table e.new.found.table l.invariant.room e.ensures.room;
      marks = e.ensures.marks ∙ l.invariant.marks;
      arcs_few = omega arith;
      arcs_capacity = e.ensures.arcs_capacity ∙ l.invariant.arcs_capacity;
    }

pub give-requires : goal.give-requires
give-requires g c = c.nodes.invariant.exchanged.live.live.0

pub returns-clause-exchanged : goal.returns-clause-exchanged
returns-clause-exchanged g c =
    let a = c.args in let l = c.nodes in
    exchange-then a.region.now l.region c.give.new.self [] (l.spot.place ∷ rows_of l.found.table.ways.items) (rows_of l.found.table.ways.items) l.invariant.exchanged
    (exchange-give l.region c.give.new.self l.spot.place c.give.ensures (rows_of l.found.table.ways.items) l.invariant.exchanged.live)

pub returns-clause-distinct : goal.returns-clause-distinct
returns-clause-distinct g c =
    let dp = g.M.DpModel.meaning (g.M.DpModel.numbers c.args.model.now) in
    let a = c.args in let l = c.nodes in
    let live = l.invariant.exchanged.live in
    let row = way_row l.region l.found.table.ways.items in
    let row2 = way_row c.give.new.self l.found.table.ways.items in
    let stay = ways-same l.region c.give.new.self l.found.table.ways.items (given-same l.region c.give.new.self l.spot.place c.give.ensures (rows_of l.found.table.ways.items) live.apart.0 live.live.1) live.live.1 in
    let joined = l.invariant.extended.joined in
    record { apart = apart-same row row2 l.found.table.ways.items stay joined.apart; good = good-same row row2 l.found.table.ways.items stay dp (a.k + 1) joined.good }

pub returns-clause-list : goal.returns-clause-list
returns-clause-list g c paths =
    let dp = g.M.DpModel.meaning (g.M.DpModel.numbers c.args.model.now) in
    let a = c.args in let l = c.nodes in
    let live = l.invariant.exchanged.live in
    let row = way_row l.region l.found.table.ways.items in
    let row2 = way_row c.give.new.self l.found.table.ways.items in
    let stay = ways-same l.region c.give.new.self l.found.table.ways.items (given-same l.region c.give.new.self l.spot.place c.give.ensures (rows_of l.found.table.ways.items) live.apart.0 live.live.1) live.live.1 in
    let test = c.nodes-test.false in
    let end = l.auto.i-end in
    let size = length-members 0 a.nodes.now in
    reached-same row row2 l.found.table.ways.items stay paths
    ∙ members-all dp a.k l.i a.region.now c.first_live-live.result (members_from 0 a.nodes.now) row l.found.table.ways.items l.found.table.hashes.items l.found.table.heads.items l.found.table.next.items l.invariant.extended (omega arith) paths

pub returns-clause-parents : goal.returns-clause-parents
returns-clause-parents g c i less =
    let dp = g.M.DpModel.meaning (g.M.DpModel.numbers c.args.model.now) in
    let a = c.args in let l = c.nodes in
    let test = c.nodes-test.false in
    let end = l.auto.i-end in
    let size = length-members 0 a.nodes.now in
    let few = c.requires.few_nodes in
    let steps = members-within (2 ^ 32 - 2) 0 a.nodes.now (omega arith) in
    let within = parents-within dp a.k (2 ^ 32 - 2) a.region.now (members_from 0 a.nodes.now) (way_row l.region l.found.table.ways.items) l.found.table.ways.items steps
    (members-all dp a.k l.i a.region.now c.first_live-live.result (members_from 0 a.nodes.now) (way_row l.region l.found.table.ways.items) l.found.table.ways.items l.found.table.hashes.items l.found.table.heads.items l.found.table.next.items l.invariant.extended (omega arith)) i less in
    omega arith

pub returns-clause-tried : goal.returns-clause-tried
returns-clause-tried g c =
    let dp = g.M.DpModel.meaning (g.M.DpModel.numbers c.args.model.now) in
    let a = c.args in let l = c.nodes in
    let live = l.invariant.exchanged.live in
    let row = way_row l.region l.found.table.ways.items in
    let row2 = way_row c.give.new.self l.found.table.ways.items in
    let stay = ways-same l.region c.give.new.self l.found.table.ways.items (given-same l.region c.give.new.self l.spot.place c.give.ensures (rows_of l.found.table.ways.items) live.apart.0 live.live.1) live.live.1 in
    let test = c.nodes-test.false in
    let all : take l.i a.nodes.now ≡ a.nodes.now = take_all l.i a.nodes.now (omega arith) in
    subst (λ nodes. AreTried dp a.k row2 (length l.found.table.ways.items) (trials_of dp a.k (held_row a.region.now) nodes) l.found.marks.items (to_ways l.arcs.items)) all
    (tried-stay dp a.k row row2 (length l.found.table.ways.items) (trials_of dp a.k (held_row a.region.now) (take l.i a.nodes.now)) l.found.marks.items (to_ways l.arcs.items) stay l.invariant.tried)

pub returns-clause-room : goal.returns-clause-room
returns-clause-room g c = c.nodes.invariant.room

pub returns-clause-marks : goal.returns-clause-marks
returns-clause-marks g c = c.nodes.invariant.marks
