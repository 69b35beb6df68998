use Rattle.std.proofs.Common.{arith, ◌≡◌, ◌+◌, map, subst, sym, ap, ◌∙◌}
use Rattle.std.specs.List.{All, range_with_len}
use Rattle.std.proofs.lemmas.List.Elements.{All-push}
use Rattle.turn.specs.Seats.{number_of, IsFresh}
use Rattle.turn.proofs.Steps.{splits}
use Rattle.turn.proofs.Seats.{numbers_more, makes_next, finishes, ends}
use Rattle.turn.proofs.turn.Turn.make_seats.Goals as goal

pub split_seat-next-requires : goal.split_seat-next-requires
split_seat-next-requires g c =
    let m = c.loop-number.invariant.3 in
    let p = c.loop-number.place in
    let parts_is = ap (λ x. x.0.parts) m.me_is in (
      m.table_is,
      omega (arith, c.args.self.now.sized.0),
      splits g.V.Turned.tag g.V.Turned.seen g.V.Turned.out g.V.Turned.moves c.args.self.now.table.shared.key p.id p.me.0 (ap (λ x. x.0.last) m.me_is) (ap (λ x. x.0.holds) m.me_is)
          (let t = c.loop-number-test.true in omega arith),
    )

pub push_reserved-requires : goal.push_reserved-requires
push_reserved-requires g c = omega (arith, c.loop-number.invariant.0, c.loop-number.invariant.1, c.loop-number.invariant.2)

pub loop-number-preserved : goal.loop-number-preserved
loop-number-preserved g c =
    let t = c.args.self.now in
    let i = c.loop-number.invariant in
    let n = c.loop-number.number in
    let e = c.split_seat-next.ensures in
    let at = c.seat_at.ensures in
    let pushed = c.push_reserved.ensures in (
      c.loop-number-test.true,
      omega (arith, pushed.len, i.1),
      omega (arith, pushed.capacity, i.2),
      makes_next t c.loop-number.place c.split_seat-next.result n c.args.seats i.3 e.3 e.4,
      ap (map number_of) pushed.items ∙ numbers_more t c.loop-number.made.items c.seat_at.result n i.4 at.1,
      subst (λ xs. All (IsFresh t) xs) (sym pushed.items)
          (All-push (IsFresh t) c.loop-number.made.items c.seat_at.result i.5 (finishes t c.seat_at.result c.loop-number.place c.split_seat-next.new.seat n c.args.seats i.3 at.0 e.0 e.2)),
    )

pub push_reserved-requires-2 : goal.push_reserved-requires-2
push_reserved-requires-2 g c = omega (arith, c.loop-number.invariant.0, c.loop-number.invariant.1, c.loop-number.invariant.2)

pub returns-clause-numbers : goal.returns-clause-numbers
returns-clause-numbers g c =
    let i = c.loop-number.invariant in
    let n = c.loop-number.number in
    let last : n + 1 ≡ c.args.seats = let no = c.loop-number-test.false in let lt = i.0 in omega arith in
    ap (map number_of) c.push_reserved-2.ensures.items ∙ (numbers_more c.args.self.now c.loop-number.made.items c.seat_at-2.result n i.4 c.seat_at-2.ensures.1 ∙ ap (range_with_len 0) last)

pub returns-clause-seats : goal.returns-clause-seats
returns-clause-seats g c =
    let t = c.args.self.now in
    let i = c.loop-number.invariant in
    let n = c.loop-number.number in
    let at = c.seat_at-2.ensures in
    let last : n + 1 ≡ c.args.seats = let no = c.loop-number-test.false in let lt = i.0 in omega arith in
    subst (λ xs. All (IsFresh t) xs) (sym c.push_reserved-2.ensures.items)
    (All-push (IsFresh t) c.loop-number.made.items c.seat_at-2.result i.5 (ends t c.seat_at-2.result c.loop-number.place n c.args.seats i.3 at.0 last))
