use Rattle.std.proofs.Common.{◌==◌, ◌∷◌, Some, subst, sym, ap, ◌∙◌, arith}
use prog.Atomic.{either}
use Rattle.atomic_table.specs.Table.{Allows, rest}
use Rattle.turn.specs.Rule.{IsTurn, Takes}
use Rattle.turn.proofs.Steps.{tries}
use Rattle.turn.proofs.turn.Turn.take.Goals as goal

pub compare_exchange-requires : goal.compare_exchange-requires
compare_exchange-requires g c =
    let tag = g.V.Turned.tag in
    let seen = g.V.Turned.seen in
    let out = g.V.Turned.out in
    let moves = g.V.Turned.moves in
    let turn = c.args.self.now in
    let place = c.loop.seat.place in
    let same = c.loop.invariant.1 in (
      c.loop.invariant.0 ∙ c.requires.table_is,
      omega (arith, turn.sized.0),
      subst (λ n. Allows (IsTurn tag seen out moves turn.table.shared.key) n place.id place.me 0 (λ n. either (n == 0) 1 n) (Takes tag seen out place.me)) (sym turn.sized.1)
          (tries tag seen out moves turn.table.shared.key place.id place.me (ap (λ m. m.1) same ∙ c.requires.empty) (ap (λ m. m.0.parts) same ∙ c.requires.one_part)),
    )

pub exchange-requires : goal.exchange-requires
exchange-requires g c =
    let t = c.compare_exchange.ensures.2.0 c.if-compare_exchange-eq-FREE.true in
    let at = ap (λ m. m.1) t.1 in
    (c.compare_exchange.ensures.0 ∙ (c.loop.invariant.0 ∙ c.requires.table_is), (Some t.0, at ∙ ap (λ l. (0, Some t.0) ∷ rest l) (sym at)))

pub loop-preserved : goal.loop-preserved
loop-preserved g c =
    let e = c.compare_exchange.ensures in
    (e.0 ∙ c.loop.invariant.0, e.2.1 c.if-compare_exchange-eq-FREE.false ∙ c.loop.invariant.1, c.loop.invariant.2)
