use Rattle.std.proofs.Common.{rules, ◌≡◌, ℕ, ◌+◌, ◌∷◌, map, drop, get_or, sym, ap, subst, ◌∙◌, arith}
use Rattle.std.proofs.lemmas.List.{drop_more, get_or-map, length-map}
use Rattle.dp_model.specs.Lists.{Each}
use Rattle.layer_candidates.specs.HeldRows.{AreLive, HasExchanged}
use Rattle.layer_candidates.proofs.HeldRows.{exchange-give, exchange-then}
use Rattle.layer_candidates.proofs.holding.give_rows.Goals as goal
use Rattle.row_region.specs.Region.{IsLive}

pub give-requires : goal.give-requires
give-requires g c =
    let l = c.things in
    let things = c.args.things.now in
    let places = map g.T.HasRow.place things in
    let size = length-map things g.T.HasRow.place in
    let less = c.things-test.true in
    let x = c.index-things-i.result in
    let here : get_or places l.i 0 ≡ c.row.result = get_or-map g.T.HasRow.place things l.i x 0 less ∙ (ap g.T.HasRow.place (search rules) ∙ sym c.row.ensures) in
    subst (IsLive l.region) here (subst (Each (IsLive l.region)) (drop_more places l.i 0 (omega arith)) l.invariant.live.live).0

pub things-preserved : goal.things-preserved
things-preserved g c =
    let l = c.things in
    let a = c.args in
    let things = a.things.now in
    let places = map g.T.HasRow.place things in
    let size = length-map things g.T.HasRow.place in
    let less = c.things-test.true in
    let x = c.index-things-i.result in
    let here : get_or places l.i 0 ≡ c.row.result = get_or-map g.T.HasRow.place things l.i x 0 less ∙ (ap g.T.HasRow.place (search rules) ∙ sym c.row.ensures) in
    let p = c.row.result in
    let rest = drop (l.i + 1) places in
    let next : drop l.i places ≡ p ∷ rest = drop_more places l.i 0 (omega arith) ∙ ap (λ (q : ℕ). q ∷ rest) here in
    let given = exchange-give l.region c.give.new.self p c.give.ensures rest (subst (AreLive l.region) next l.invariant.live) in
    exchange-then a.region.now l.region c.give.new.self places (p ∷ rest) rest (subst (HasExchanged a.region.now places l.region) next l.invariant) given
