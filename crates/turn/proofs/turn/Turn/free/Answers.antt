use Rattle.std.proofs.Common.{◌≡◌, ◌≢◌, ◌∷◌, [], None, Some, subst, sym, ap, ◌∙◌, ⊎_elim, inr, arith}
use Rattle.atomic_table.specs.Table.{Allows, rest}
use Rattle.turn.specs.Rule.{IsTurn, Leaves}
use Rattle.turn.proofs.Steps.{leaves, may_stay, MayLeave}
use Rattle.turn.proofs.turn.Turn.free.Goals as goal

pub exchange-old-requires : goal.exchange-old-requires
exchange-old-requires g c =
    let at = c.requires.holds.out_is_here in
    (c.requires.holds.table_is, (None, at ∙ ap (λ l. (0, None) ∷ rest l) (sym at)))

pub store-requires : goal.store-requires
store-requires g c =
    let tag = g.V.Turned.tag in
    let seen = g.V.Turned.seen in
    let out = g.V.Turned.out in
    let moves = g.V.Turned.moves in
    let turn = c.args.self.now in
    let h = c.requires.holds in
    let v = c.args.seat.now.place.me.0 in
    let place = c.exchange-old.new.seat in
    let e = c.exchange-old.ensures in
    let me_is : place.me ≡ (v, (0, Some c.args.value) ∷ []) = e.3 ∙ ap (λ l. (v, (0, Some c.args.value) ∷ rest l)) h.out_is_here in
    let may : MayLeave tag seen out moves c.args.found.value c.args.value v.number = ⊎_elim
    (λ same. subst (λ x. MayLeave tag seen out moves c.args.found.value x v.number) (sym same) (may_stay tag seen out moves c.args.found.value v.number))
    (λ move. let k = g.V.Turned.keeps _ _ _ move in record { tag_is = k.0; no_less = k.1; others = subst (λ n. (other : _) → other ≢ n → out c.args.value other ≡ out c.args.found.value other) (sym c.args.seat.now.number_is) k.2; moved = inr (subst (λ n. moves c.args.found.value c.args.value n) (sym c.args.seat.now.number_is) move) })
    c.requires.moves in (
      e.0 ∙ h.table_is,
      omega (arith, turn.sized.0),
      subst (λ n. Allows (IsTurn tag seen out moves turn.table.shared.key) n place.id place.me 0 (λ _. 0) (λ _. Leaves tag seen out place.me)) (sym turn.sized.1)
          (subst (λ m. Allows (IsTurn tag seen out moves turn.table.shared.key) 1 place.id m 0 (λ _. 0) (λ _. Leaves tag seen out m)) (sym me_is)
          (leaves tag seen out moves turn.table.shared.key place.id v c.args.found.value c.args.value h.holds_is h.one_part h.found_is may)),
    )
