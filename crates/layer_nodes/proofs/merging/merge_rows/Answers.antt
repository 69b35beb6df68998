use Rattle.std.proofs.Common.{rules, ◌≡◌, map, get_or, sym, ap, subst, ◌∙◌, arith}
use Rattle.std.proofs.lemmas.List.{get_or-map, length-map}
use Rattle.dp_model.specs.Gaps.{IsStateOf}
use Rattle.dp_model.specs.Laws.{IsLawful}
use Rattle.layer_candidates.specs.HeldRows.{held_row}
use Rattle.layer_candidates.proofs.HeldRows.{each-here}
use Rattle.row_region.specs.Region.{IsLive}
use Rattle.layer_nodes.specs.Merging.{IsStateIn}
use Rattle.layer_nodes.proofs.Merged.{merging-more}
use Rattle.layer_nodes.proofs.merging.merge_rows.Given as given
use Rattle.layer_nodes.proofs.merging.merge_rows.Goals as goal

laws_of : (g : given.Over) (m : g.row.M.Denot) → IsLawful (g.M.DpModel.meaning (g.M.DpModel.numbers m))
laws_of g m = (g.met.M.DpModel g.world.𝓛 g.world.𝓜 g.world.𝓡 ((λ s x. x), (λ x. x), (λ x. x), λ x. x)).lawful m

pub row_of-requires : goal.row_of-requires
row_of-requires g c =
    let dp = g.M.DpModel.meaning (g.M.DpModel.numbers c.args.model.now) in
    let a = c.args in
    let things = a.things.now in
    let places = map g.T.HasRow.place things in
    let size = length-map things g.T.HasRow.place in
    let some = c.requires.some in
    let here : get_or places 0 0 ≡ c.row.result = get_or-map g.T.HasRow.place things 0 c.index-things-0.result 0 some ∙ (ap g.T.HasRow.place (search rules) ∙ sym c.row.ensures) in
    let state = each-here (IsStateIn dp a.k a.region.now) places 0 0 c.requires.states (omega arith) in
    subst (IsLive a.region.now) here (held_row a.region.now (get_or places 0 0), state.found.found)

pub row_of-requires-in-things : goal.row_of-requires-in-things
row_of-requires-in-things g c =
    let dp = g.M.DpModel.meaning (g.M.DpModel.numbers c.args.model.now) in
    let a = c.args in
    let i = c.things.i in
    let things = a.things.now in
    let places = map g.T.HasRow.place things in
    let size = length-map things g.T.HasRow.place in
    let less = c.things-test.true in
    let here : get_or places i 0 ≡ c.row-in-things.result = get_or-map g.T.HasRow.place things i c.index-things-i.result 0 less ∙ (ap g.T.HasRow.place (search rules) ∙ sym c.row-in-things.ensures) in
    let state = each-here (IsStateIn dp a.k a.region.now) places i 0 c.requires.states (omega arith) in
    subst (IsLive a.region.now) here (held_row a.region.now (get_or places i 0), state.found.found)

pub merge_into-requires-clause-state : goal.merge_into-requires-clause-state
merge_into-requires-clause-state g c =
    let dp = g.M.DpModel.meaning (g.M.DpModel.numbers c.args.model.now) in
    let a = c.args in
    let i = c.things.i in
    let things = a.things.now in
    let places = map g.T.HasRow.place things in
    let size = length-map things g.T.HasRow.place in
    let less = c.things-test.true in
    let here : get_or places i 0 ≡ c.row-in-things.result = get_or-map g.T.HasRow.place things i c.index-things-i.result 0 less ∙ (ap g.T.HasRow.place (search rules) ∙ sym c.row-in-things.ensures) in
    let state = each-here (IsStateIn dp a.k a.region.now) places i 0 c.requires.states (omega arith) in
    subst (IsStateOf dp a.k) (ap (held_row a.region.now) here ∙ sym c.row_of-in-things.ensures.row) state.state

pub things-preserved : goal.things-preserved
things-preserved g c =
    let dp = g.M.DpModel.meaning (g.M.DpModel.numbers c.args.model.now) in
    let a = c.args in
    let i = c.things.i in
    let things = a.things.now in
    let places = map g.T.HasRow.place things in
    let size = length-map things g.T.HasRow.place in
    let less = c.things-test.true in
    let here : get_or places i 0 ≡ c.row-in-things.result = get_or-map g.T.HasRow.place things i c.index-things-i.result 0 less ∙ (ap g.T.HasRow.place (search rules) ∙ sym c.row-in-things.ensures) in
    let state = each-here (IsStateIn dp a.k a.region.now) places i 0 c.requires.states (omega arith) in
    merging-more dp a.k (held_row a.region.now) (laws_of g a.model.now) places c.things.into c.merge_into.new.acc i c.things.invariant (omega arith) state.state
    (c.merge_into.ensures ∙ ap (dp.merged a.k c.things.into) (c.row_of-in-things.ensures.row ∙ ap (held_row a.region.now) (sym here)))
