use Rattle.turn.proofs.Seats.{closed, closed_as, closed_seen, closed_out}
use Rattle.turn.proofs.Steps.{IsLast}
use Rattle.turn.proofs.turn.Turn.close.Given.{Over}
use Rattle.turn.proofs.turn.Turn.close.Goals as goal

pub unreachable-requires : goal.unreachable-requires
unreachable-requires g c =
    let w = c.join_seats-place.ensures in
    let p = c.join_seats-place.result in
    let k = closed g.V.Turned.tag g.V.Turned.seen g.V.Turned.out g.V.Turned.moves c.args.self.table.shared.key p.id p.me.0 _ _ c.take-slot.result w.all_parts c.args.self.some_seat w.idle c.close_with-closed.ensures.values.2 c.take-slot.ensures.value in
    c.in_default.not-Some k.value k.slot_is

last : (g : Over) (c : goal.In-Some g) → IsLast g.V.Turned.tag g.V.Turned.seen g.V.Turned.out g.V.Turned.moves c.args.self.table.shared.key c.join_seats-place.result.me.0 c.in-Some.value
last g c =
    let w = c.join_seats-place.ensures in
    let p = c.join_seats-place.result in
    let key = c.args.self.table.shared.key in
    let k = closed g.V.Turned.tag g.V.Turned.seen g.V.Turned.out g.V.Turned.moves key p.id p.me.0 _ _ c.take-slot.result w.all_parts c.args.self.some_seat w.idle c.close_with-closed.ensures.values.2 c.take-slot.ensures.value in
    closed_as g.V.Turned.tag g.V.Turned.seen g.V.Turned.out g.V.Turned.moves key p.me.0 c.take-slot.result c.in-Some.value k c.in-Some.is

pub returns-clause-tag : goal.returns-clause-tag
returns-clause-tag g c = (last g c).tag_is

pub returns-clause-seen : goal.returns-clause-seen
returns-clause-seen g c = closed_seen g.V.Turned.tag g.V.Turned.seen g.V.Turned.out g.V.Turned.moves c.args.self c.join_seats-place.result _ c.in-Some.value c.join_seats-place.ensures (last g c).no_less

pub returns-clause-out : goal.returns-clause-out
returns-clause-out g c = closed_out g.V.Turned.tag g.V.Turned.seen g.V.Turned.out g.V.Turned.moves c.args.self c.join_seats-place.result _ c.in-Some.value c.args.self.table.shared.key c.join_seats-place.ensures (last g c)

pub returns-clause-rest : goal.returns-clause-rest
returns-clause-rest g c = (last g c).rest

pub returns-clause-history : goal.returns-clause-history
returns-clause-history g c = (last g c).past
