use Rattle.std.proofs.Common.{◌≡◌, ℕ, nat_lt, true, false, cond, List, length, Option, sym, ◌∙◌, ap, arith}
use Rattle.std.proofs.lemmas.Bool.Decides.{nat_tests}
use Rattle.dp_laws.specs.Diagrams.Nodes.{DdNode}
use Rattle.layer_build.specs.contracts.workspace.Workspace.{the_view}
use Rattle.layer_build.specs.Layers.{SpaceView, last_depth, last_layer, on_last_two, reduced_first}
use Rattle.layer_build.specs.Within.{within_width}
use Rattle.layer_build.proofs.Going.{count-seen}
use Rattle.layer_build.proofs.Merged.{wide-within, narrow-within}
use Rattle.layer_build.proofs.workspace.Workspace.merge_wide.Goals as goal

pub returns-then-self-len-clause-layers : goal.returns-then-self-len-clause-layers
returns-then-self-len-clause-layers g c =
    let dp = g.M.DpModel.meaning (g.M.DpModel.numbers c.args.model.now) in
    let s = c.args.self.now in
    let i = c.self.inside in
    let count = count-seen i c.self.invariant in
    let here : nat_lt i.width (length (last_layer (the_view i).layers)) ≡ true = (let e = c.len.ensures.count in let t = c.if-self-len.true in grind (arith, nat_tests)) in
    let wide : nat_lt s.width (length (last_layer s.layers)) ≡ true = ap (λ (v : SpaceView). nat_lt v.width (length (last_layer v.layers))) (sym c.self.view_is) ∙ here in
    let told = c.merge_rest.new.self.told in
    let depth = reduced_first s.first_reduced (last_depth s) in
    c.merge_rest.ensures.layers
    ∙ (ap (λ (ls : List (List DdNode)). record s { layers = ls; told = told; first_reduced = depth }) (wide-within dp s.width (last_depth s) s.layers wide)
    ∙ ap (λ (o : Option ℕ). record s { layers = on_last_two (within_width dp s.width (last_depth s)) s.layers; told = told; first_reduced = o }) (sym (ap (λ b. cond b depth s.first_reduced) wide)))

pub returns-else-self-len-clause-layers : goal.returns-else-self-len-clause-layers
returns-else-self-len-clause-layers g c =
    let dp = g.M.DpModel.meaning (g.M.DpModel.numbers c.args.model.now) in
    let s = c.args.self.now in
    let i = c.self.inside in
    let count = count-seen i c.self.invariant in
    let here : nat_lt i.width (length (last_layer (the_view i).layers)) ≡ false = (let e = c.len.ensures.count in let t = c.if-self-len.false in grind (arith, nat_tests)) in
    let narrow : nat_lt s.width (length (last_layer s.layers)) ≡ false = ap (λ (v : SpaceView). nat_lt v.width (length (last_layer v.layers))) (sym c.self.view_is) ∙ here in
    ap (λ (ls : List (List DdNode)). record s { layers = ls }) (narrow-within dp s.width (last_depth s) s.layers narrow)
    ∙ ap (λ (o : Option ℕ). record s { layers = on_last_two (within_width dp s.width (last_depth s)) s.layers; first_reduced = o }) (sym (ap (λ b. cond b (reduced_first s.first_reduced (last_depth s)) s.first_reduced) narrow))
