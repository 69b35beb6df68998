use Rattle.std.proofs.Common.{◌+◌, ◌∷◌, ◌++◌, [], ◌*◌, ◌≤◌, length, drop, IsTrue, get_or, mul-le-mul_right, refl, sym, ap, subst, ◌∙◌, arith}
use Rattle.std.proofs.lemmas.List.{drop_more}
use Rattle.std.proofs.lemmas.List.Sorted.{IsPermutation-sym, IsPermutation-to_front}
use Rattle.layer_candidates.specs.HeldRows.{AreLive, HasExchanged}
use Rattle.layer_candidates.specs.Members.{member_rows, IsMemberOf}
use Rattle.dp_model.specs.Decisions.{below}
use Rattle.layer_candidates.specs.Ways.{rows_of, way_row, AllHaveZeros, AreJoined}
use Rattle.layer_candidates.specs.Extending.{AreExtended}
use Rattle.layer_candidates.proofs.HeldRows.{each-here, live-right, same-then, exchange-then, exchange-moved, exchange-beside, exchange-put, put-same}
use Rattle.layer_candidates.proofs.Joined.{apart-same, good-same, joined-same, reached-same}
use Rattle.layer_candidates.proofs.Extended.{no_member, moved-at, extended-same-rows, spot-given, members-start, members-more, members-all}
use Rattle.layer_candidates.proofs.WayTables.{room-kept, keeps-then, took-in-as}
use Rattle.layer_candidates.proofs.extending.extend_layer.Goals as goal

pub clear-requires-clause-slots : goal.clear-requires-clause-slots
clear-requires-clause-slots g c = c.requires.room.slots

pub members-init : goal.members-init
members-init g c =
    let dp = g.M.DpModel.meaning (g.M.DpModel.numbers c.args.model.now) in
    let a = c.args in
    let t = c.clear.new.self in
    let empty = c.clear.ensures.empty in
    let live = c.first_live-live.result in
    let places = member_rows a.members.now in
    let spot = c.take_row-spot.result.place in
    let new = c.take_row-spot.new.region in
    let put = c.take_row-spot.ensures in
    let front = exchange-put a.region.now new spot put.0 put.2 put.1 places c.requires.live in
    let following = exchange-moved a.region.now new places (spot ∷ places) (places ++ spot ∷ []) (IsPermutation-sym (places ++ spot ∷ []) (spot ∷ places) (IsPermutation-to_front places spot)) front in
    record {
      extended = subst (λ l. AreExtended dp a.k 0 a.region.now live a.members.now (way_row new l) l t.hashes.items t.heads.items t.next.items) (sym empty.ways)
          (subst (λ l. AreExtended dp a.k 0 a.region.now live a.members.now (way_row new []) [] t.hashes.items l t.next.items) (sym empty.heads)
          (members-start dp a.k a.region.now live a.members.now (way_row new []) t.hashes.items t.next.items (length t.heads.items) empty.power));
      exchanged = subst (λ l. HasExchanged a.region.now places new (places ++ spot ∷ rows_of l)) (sym empty.ways) following;
      same = put-same a.region.now new spot put.0 put.2 put.1 places c.requires.live.live;
      live = c.clear.ensures.live;
      room = c.clear.ensures.room;
    }

pub move_out-requires-clause-live : goal.move_out-requires-clause-live
move_out-requires-clause-live g c =
    let a = c.args in let l = c.members in
    let next = ap member_rows (drop_more a.members.now l.i no_member c.members-test.true) in
    (subst (λ ps. AreLive l.region (ps ++ l.spot.place ∷ rows_of l.table.ways.items)) next l.invariant.exchanged.live).live.0

pub extend_member-requires-clause-state : goal.extend_member-requires-clause-state
extend_member-requires-clause-state g c κs within =
    let dp = g.M.DpModel.meaning (g.M.DpModel.numbers c.args.model.now) in
    let a = c.args in let l = c.members in
    let here = each-here (IsMemberOf dp a.k a.region.now) a.members.now l.i no_member c.requires.members c.members-test.true in
    let m = moved-at dp a.k a.region.now l.region c.move_out.new.region a.members.now l.i l.spot.place l.table.ways.items c.move_out.new.cells c.requires.members c.members-test.true l.invariant.exchanged l.invariant.same c.move_out.ensures.cells c.move_out.ensures.given in
    subst (λ r. IsTrue (dp.is_state a.k r)) (sym m.row) here.held.state.test

pub extend_member-requires-clause-rank : goal.extend_member-requires-clause-rank
extend_member-requires-clause-rank g c κs within =
    let dp = g.M.DpModel.meaning (g.M.DpModel.numbers c.args.model.now) in
    let a = c.args in let l = c.members in
    let here = each-here (IsMemberOf dp a.k a.region.now) a.members.now l.i no_member c.requires.members c.members-test.true in
    let m = moved-at dp a.k a.region.now l.region c.move_out.new.region a.members.now l.i l.spot.place l.table.ways.items c.move_out.new.cells c.requires.members c.members-test.true l.invariant.exchanged l.invariant.same c.move_out.ensures.cells c.move_out.ensures.given in
    here.held.rank ∙ ap (dp.rank a.k) (sym m.row)

pub extend_member-requires-clause-hash : goal.extend_member-requires-clause-hash
extend_member-requires-clause-hash g c κs within =
    let dp = g.M.DpModel.meaning (g.M.DpModel.numbers c.args.model.now) in
    let a = c.args in let l = c.members in
    let here = each-here (IsMemberOf dp a.k a.region.now) a.members.now l.i no_member c.requires.members c.members-test.true in
    let m = moved-at dp a.k a.region.now l.region c.move_out.new.region a.members.now l.i l.spot.place l.table.ways.items c.move_out.new.cells c.requires.members c.members-test.true l.invariant.exchanged l.invariant.same c.move_out.ensures.cells c.move_out.ensures.given in
    here.held.hash ∙ ap (dp.hash a.k) (sym m.row)

pub extend_member-requires-clause-held : goal.extend_member-requires-clause-held
extend_member-requires-clause-held g c κs within =
    let dp = g.M.DpModel.meaning (g.M.DpModel.numbers c.args.model.now) in
    let a = c.args in let l = c.members in
    let m = moved-at dp a.k a.region.now l.region c.move_out.new.region a.members.now l.i l.spot.place l.table.ways.items c.move_out.new.cells c.requires.members c.members-test.true l.invariant.exchanged l.invariant.same c.move_out.ensures.cells c.move_out.ensures.given in
    live-right c.move_out.new.region (member_rows (drop (l.i + 1) a.members.now)) (l.spot.place ∷ rows_of l.table.ways.items) m.exchanged.live

pub extend_member-requires-clause-joined : goal.extend_member-requires-clause-joined
extend_member-requires-clause-joined g c κs within =
    let dp = g.M.DpModel.meaning (g.M.DpModel.numbers c.args.model.now) in
    let a = c.args in let l = c.members in
    let m = moved-at dp a.k a.region.now l.region c.move_out.new.region a.members.now l.i l.spot.place l.table.ways.items c.move_out.new.cells c.requires.members c.members-test.true l.invariant.exchanged l.invariant.same c.move_out.ensures.cells c.move_out.ensures.given in
    subst (λ v. AreJoined dp (a.k + 1) (way_row c.move_out.new.region l.table.ways.items) v l.table.ways.items l.table.hashes.items l.table.heads.items l.table.next.items) (sym l.invariant.live)
    (joined-same (way_row l.region l.table.ways.items) (way_row c.move_out.new.region l.table.ways.items) l.table.ways.items m.rows dp (a.k + 1) c.first_live-live.result l.table.hashes.items l.table.heads.items l.table.next.items l.invariant.extended.joined)

pub extend_member-requires-clause-live : goal.extend_member-requires-clause-live
extend_member-requires-clause-live g c κs within =
    let dp = g.M.DpModel.meaning (g.M.DpModel.numbers c.args.model.now) in
    subst (λ v. v ≤ dp.words) (sym c.members.invariant.live) c.first_live-live.ensures.cells

pub extend_member-requires-clause-zeros : goal.extend_member-requires-clause-zeros
extend_member-requires-clause-zeros g c κs within =
    let dp = g.M.DpModel.meaning (g.M.DpModel.numbers c.args.model.now) in
    subst (AllHaveZeros dp (c.args.k + 1)) (sym c.members.invariant.live) c.first_live-live.ensures.zeros

pub extend_member-requires-clause-room : goal.extend_member-requires-clause-room
extend_member-requires-clause-room g c κs within =
    let dp = g.M.DpModel.meaning (g.M.DpModel.numbers c.args.model.now) in
    let a = c.args in let l = c.members in
    let few = l.invariant.extended.few in
    let less : (l.i + 1) * dp.choices a.k ≤ length a.members.now * dp.choices a.k = mul-le-mul_right (dp.choices a.k) (let t = c.members-test.true in omega arith) in
    room-kept (length l.table.ways.items + dp.choices a.k) (length a.members.now * dp.choices a.k) a.table.now l.table l.invariant.room (omega arith) c.requires.room

pub members-preserved : goal.members-preserved
members-preserved g c =
    let dp = g.M.DpModel.meaning (g.M.DpModel.numbers c.args.model.now) in
    let a = c.args in let l = c.members in
    let e = c.extend_member in
    let m = moved-at dp a.k a.region.now l.region c.move_out.new.region a.members.now l.i l.spot.place l.table.ways.items c.move_out.new.cells c.requires.members c.members-test.true l.invariant.exchanged l.invariant.same c.move_out.ensures.cells c.move_out.ensures.given in
    let m0 = get_or a.members.now l.i no_member in
    let places = member_rows a.members.now in
    let rest = member_rows (drop (l.i + 1) a.members.now) in
    let before = l.spot.place ∷ rows_of l.table.ways.items in
    let after = e.new.spot.place ∷ rows_of e.new.table.ways.items in
    let row = way_row l.region l.table.ways.items in
    let mid = way_row c.move_out.new.region l.table.ways.items in
    let new = way_row e.new.region e.new.table.ways.items in
    let beside = exchange-beside c.move_out.new.region e.new.region before after e.ensures.exchanged rest m.exchanged.live in
    record {
      extended = members-more dp a.k l.i a.region.now c.first_live-live.result a.members.now no_member c.move_out.new.cells mid new l.table.ways.items e.new.table.ways.items l.table.hashes.items l.table.heads.items l.table.next.items e.new.table.hashes.items e.new.table.heads.items e.new.table.next.items
          (extended-same-rows dp a.k l.i a.region.now c.first_live-live.result a.members.now row mid l.table.ways.items l.table.hashes.items l.table.heads.items l.table.next.items m.rows l.invariant.extended) c.members-test.true m.row
          (took-in-as dp a.k m0.step m0.step c.move_out.new.cells c.move_out.new.cells m0.value m0.value (below (dp.choices a.k)) c.move_out.new.region l.table e.new.region e.new.table c.first_live-live.result refl refl refl l.invariant.live e.ensures.extended);
      exchanged = exchange-then a.region.now c.move_out.new.region e.new.region places (rest ++ before) (rest ++ after) m.exchanged beside.0;
      same = same-then a.region.now c.move_out.new.region e.new.region rest m.same beside.1;
      live = e.ensures.live ∙ l.invariant.live;
      room = keeps-then a.table.now l.table e.new.table l.invariant.room e.ensures.room;
    }

pub returns-clause-distinct : goal.returns-clause-distinct
returns-clause-distinct g c =
    let dp = g.M.DpModel.meaning (g.M.DpModel.numbers c.args.model.now) in
    let a = c.args in let l = c.members in
    let spot = spot-given a.region.now l.region c.give.new.self a.members.now l.i l.spot.place l.table.ways.items (let test = c.members-test.false in let end = l.auto.i-end in omega arith) l.invariant.exchanged c.give.ensures in
    record {
      apart = apart-same (way_row l.region l.table.ways.items) (way_row c.give.new.self l.table.ways.items) l.table.ways.items spot.1 l.invariant.extended.joined.apart;
      good = good-same (way_row l.region l.table.ways.items) (way_row c.give.new.self l.table.ways.items) l.table.ways.items spot.1 dp (a.k + 1) l.invariant.extended.joined.good;
    }

pub returns-clause-list : goal.returns-clause-list
returns-clause-list g c =
    let dp = g.M.DpModel.meaning (g.M.DpModel.numbers c.args.model.now) in
    let a = c.args in let l = c.members in
    let spot = spot-given a.region.now l.region c.give.new.self a.members.now l.i l.spot.place l.table.ways.items (let test = c.members-test.false in let end = l.auto.i-end in omega arith) l.invariant.exchanged c.give.ensures in
    λ paths.
    reached-same (way_row l.region l.table.ways.items) (way_row c.give.new.self l.table.ways.items) l.table.ways.items spot.1 paths
    ∙ members-all dp a.k l.i a.region.now c.first_live-live.result a.members.now (way_row l.region l.table.ways.items) l.table.ways.items l.table.hashes.items l.table.heads.items l.table.next.items l.invariant.extended (let test = c.members-test.false in let end = l.auto.i-end in omega arith) paths

pub returns-clause-exchanged : goal.returns-clause-exchanged
returns-clause-exchanged g c =
    let a = c.args in let l = c.members in
    (spot-given a.region.now l.region c.give.new.self a.members.now l.i l.spot.place l.table.ways.items (let test = c.members-test.false in let end = l.auto.i-end in omega arith) l.invariant.exchanged c.give.ensures).0

pub returns-clause-room : goal.returns-clause-room
returns-clause-room g c = c.members.invariant.room
