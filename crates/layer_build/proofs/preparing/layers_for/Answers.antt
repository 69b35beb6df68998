use Rattle.std.proofs.Common.{◌≡◌, ◌≤◌, ◌*◌, ◌^◌, ◌++◌, ◌∷◌, [], length, vec_len, rules, sym, ap, ap₂, subst, ◌∙◌, arith, List, ℕ}
use Rattle.layer_nodes.specs.Nodes.{LayerView}
use Rattle.layer_build.specs.Stacked.{empty_layer}
use Rattle.layer_build.proofs.Memory.{count-below, below-next}
use Rattle.layer_build.proofs.Rooms.{choice-few}
use Rattle.layer_build.proofs.preparing.layers_for.Goals as goal

pub prepare-requires-clause-few_arcs : goal.prepare-requires-clause-few_arcs
prepare-requires-clause-few_arcs g c =
    let dp = g.M.DpModel.meaning (g.M.DpModel.numbers c.args.model.now) in
    let low = c.layers-test.true in
    let vars = c.vars-vars.ensures in
    let few = choice-few dp c.args.width c.requires c.layers.k (omega arith) in
    let here : c.args.width * c.choices-choices.result ≤ 2 ^ 25 = subst (λ (n : ℕ). c.args.width * n ≤ 2 ^ 25) (sym c.choices-choices.ensures) few in
    omega arith

pub push_reserved-requires : goal.push_reserved-requires
push_reserved-requires g c =
    let dp = g.M.DpModel.meaning (g.M.DpModel.numbers c.args.model.now) in
    let long : length c.layers.layers.items ≡ c.layers.k = ap (λ (l : List LayerView). length l) c.layers.invariant.items ∙ count-below (λ k. empty_layer dp.words c.args.width (c.args.width * dp.choices k)) c.layers.k in
    let size : vec_len c.layers.layers ≡ length c.layers.layers.items = search rules in
    let room = c.layers.invariant.room in
    let low = c.layers-test.true in
    omega arith

pub layers-preserved : goal.layers-preserved
layers-preserved g c =
    let dp = g.M.DpModel.meaning (g.M.DpModel.numbers c.args.model.now) in
    let made : c.in_ok-layer.layer ≡ empty_layer dp.words c.args.width (c.args.width * dp.choices c.layers.k) =
    c.in_ok-layer.ensures ∙ ap₂ (λ (words n : ℕ). empty_layer words c.args.width (c.args.width * n)) c.words-words.ensures c.choices-choices.ensures in
    record {
      items = c.push_reserved.ensures.items ∙ (ap₂ (λ (l : List LayerView) (x : LayerView). l ++ x ∷ []) c.layers.invariant.items made ∙ sym (below-next (λ k. empty_layer dp.words c.args.width (c.args.width * dp.choices k)) c.layers.k));
      room = search rules;
    }
