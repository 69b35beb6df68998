use Rattle.std.proofs.Common.{◌≡◌, length, vec_len, rules, ap, ◌∙◌, arith, List, ℕ}
use Rattle.layer_build.proofs.Memory.{count-below}
use Rattle.layer_build.proofs.preparing.choices_of.Goals as goal

pub push_reserved-requires : goal.push_reserved-requires
push_reserved-requires g c =
    let dp = g.M.DpModel.meaning (g.M.DpModel.numbers c.args.model.now) in
    let items = c.layers.invariant.items in
    let long : length c.layers.all.items ≡ c.layers.k = ap (λ (l : List ℕ). length l) items ∙ count-below dp.choices c.layers.k in
    let size : vec_len c.layers.all ≡ length c.layers.all.items = search rules in
    let room = c.layers.invariant.room in
    let low = c.layers-test.true in
    omega arith
