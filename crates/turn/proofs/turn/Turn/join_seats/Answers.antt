use Rattle.std.proofs.Common.{rules, arith}
use Rattle.turn.proofs.Steps.{joins}
use Rattle.turn.proofs.Seats.{joining_first, joining_own, joining_step, joining_whole}
use Rattle.turn.proofs.turn.Turn.join_seats.Goals as goal

pub loop-seat-init : goal.loop-seat-init
loop-seat-init g c = joining_first c.args.self.now c.in-Some.seat _ _ c.in-Some.ensures.items c.requires.own (omega (arith, c.requires.all, c.args.seats.ok.0))

pub join_seat-requires : goal.join_seat-requires
join_seat-requires g c =
    let j = c.loop-seat.invariant in
    let s = c.in-Some-pop.seat in
    let mine = joining_own c.args.self.now c.loop-seat.one _ _ _ s j c.in-Some-pop.ensures.items in (
      j.table_is,
      mine.table_is,
      mine.empty,
      omega (arith, c.args.self.now.sized.0),
      joins g.V.Turned.tag g.V.Turned.seen g.V.Turned.out g.V.Turned.moves c.args.self.now.table.shared.key c.loop-seat.one.id c.loop-seat.one.me.0 s.place.id s.place.me.0 j.idle mine.idle j.some_parts (let o = mine.one_part in omega arith),
    )

pub loop-seat-preserved : goal.loop-seat-preserved
loop-seat-preserved g c =
    let e = c.join_seat.ensures in
    joining_step c.args.self.now c.loop-seat.one c.join_seat.new.seat _ _ _ c.in-Some-pop.seat c.loop-seat.invariant c.in-Some-pop.ensures.items e.0 e.2

pub returns : goal.returns
returns g c = joining_whole c.args.self.now c.loop-seat.one _ _ c.loop-seat.invariant (search rules)
