use Rattle.std.proofs.Common.{◌≡◌, ℕ, ◌+◌, ◌*◌, ◌∷◌, ◌++◌, [], List, length, replicate, None, vec_len, rules, ap, ap₂, ◌∙◌, arith, append_assoc}
use Rattle.layer_nodes.specs.Nodes.{LayerView}
use Rattle.layer_build.specs.Stacked.{empty_layer}
use Rattle.layer_build.proofs.Memory.{count-below}
use Rattle.layer_build.proofs.Ready.{width-one}
use Rattle.layer_build.proofs.preparing.prepare_stack.Goals as goal

pub room_for-requires : goal.room_for-requires
room_for-requires g c =
    let dp = g.M.DpModel.meaning (g.M.DpModel.numbers c.args.model.now) in
    (search rules, (search rules, width-one dp c.args.width c.requires.width))

pub push_reserved-requires : goal.push_reserved-requires
push_reserved-requires g c =
    let dp = g.M.DpModel.meaning (g.M.DpModel.numbers c.args.model.now) in
    let long = ap (λ (l : List LayerView). length l) c.in_ok-layers.ensures.layers ∙ count-below (λ k. empty_layer dp.words c.args.width (c.args.width * dp.choices k)) dp.vars in
    let size : vec_len c.in_ok-layers.layers ≡ length c.in_ok-layers.layers.items = search rules in
    let room = c.in_ok-layers.ensures.room in
    omega arith

pub push_reserved-requires-2 : goal.push_reserved-requires-2
push_reserved-requires-2 g c =
    let dp = g.M.DpModel.meaning (g.M.DpModel.numbers c.args.model.now) in
    let long = ap (λ (l : List LayerView). length l) c.in_ok-layers.ensures.layers ∙ count-below (λ k. empty_layer dp.words c.args.width (c.args.width * dp.choices k)) dp.vars in
    let size : vec_len c.in_ok-layers.layers ≡ length c.in_ok-layers.layers.items = search rules in
    let room = c.in_ok-layers.ensures.room in
    let more = c.push_reserved.ensures.len in
    let capacity = c.push_reserved.ensures.capacity in
    omega arith

pub returns : goal.returns
returns g c =
    let dp = g.M.DpModel.meaning (g.M.DpModel.numbers c.args.model.now) in
    let words = c.words-words.ensures in
    let below = λ (m : ℕ). c.args.room + 1 + (c.args.room + m + 1) in
    record {
      nodes = c.most_choices-most.result;
      arcs = c.room_for.result;
      vars = c.vars-vars.ensures;
      first = search rules;
      last = search rules;
      layers = c.push_reserved-2.ensures.items ∙ (ap₂ (λ (l : List LayerView) (x : LayerView). l ++ x ∷ []) (c.push_reserved.ensures.items ∙ ap₂ (λ (l : List LayerView) (x : LayerView). l ++ x ∷ []) c.in_ok-layers.ensures.layers
          (c.in_ok-second.ensures ∙ ap (λ (n : ℕ). empty_layer n c.most_choices-most.result c.room_for.result) words)) (c.in_ok-top.ensures ∙ ap (λ (n : ℕ). empty_layer n 0 0) words) ∙ simp append_assoc);
      choices = c.most_choices-most.ensures.choices;
      pairs = c.room_for.ensures.second;
      region = c.in_ok-region.ensures ∙ (ap₂ (λ (n v : ℕ). record { words = n; rows = replicate (v * c.args.width + c.most_choices-most.result + below c.args.widest) None; spare = v * c.args.width + c.most_choices-most.result + below c.args.widest }) words c.vars-vars.ensures
          ∙ ap (λ (m : ℕ). record { words = dp.words; rows = replicate (dp.vars * c.args.width + c.most_choices-most.result + below m) None; spare = dp.vars * c.args.width + c.most_choices-most.result + below m }) c.requires.widest);
      newest = c.in_ok-newest.ensures ∙ ap (λ (n : ℕ). empty_layer n c.args.room 0) words;
    }
