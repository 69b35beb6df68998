use Rattle.std.proofs.Common.{◌≡◌, ℕ, ◌-◌, [], ◌∷◌, List, length, vec_capacity, rules, refl, sym, ap, ◌∙◌, subst, arith}
use Rattle.dp_model.specs.Laws.{IsLawful}
use Rattle.layer_nodes.specs.Nodes.{NodeView, LayerView, shown_layer}
use Rattle.layer_build.specs.Layers.{AreEnough}
use Rattle.layer_build.specs.Stacked.{HaveDepths, path_in, shown_down, nodes_in}
use Rattle.layer_build.proofs.Held.{room-as}
use Rattle.layer_build.proofs.Rooms.{has-layers}
use Rattle.layer_build.proofs.Memory.{other-layers}
use Rattle.layer_build.proofs.Ready.{ready-rows, ready-stack}
use Rattle.layer_build.proofs.Stacks.{newest-at}
use Rattle.layer_build.proofs.workspace.Workspace.make.Given as given
use Rattle.layer_build.proofs.workspace.Workspace.make.Goals as goal

laws_of : (g : given.Over) (m : g.row.M.Denot) → IsLawful (g.M.DpModel.meaning (g.M.DpModel.numbers m))
laws_of g m = (g.met.M.DpModel g.world.𝓛 g.world.𝓜 g.world.𝓡 ((λ s x. x), (λ x. x), (λ x. x), λ x. x)).lawful m

pub invariant_of-result : goal.invariant_of-result
invariant_of-result g c =
    let dp = g.M.DpModel.meaning (g.M.DpModel.numbers c.args.model.now) in
    let laws = laws_of g c.args.model.now in
    let s = c.in_ok-prepare_stack.field-0 in
    let r = c.in_ok-prepare_stack.ensures in
    let room = ap (λ (l : LayerView). l.nodes_room) r.newest in
    let vars : s.vars ≡ c.vars-vars.result = r.vars ∙ sym c.vars-vars.ensures in
    let path : length c.in_ok-vec.field-0.items ≡ c.vars-vars.result = search rules in
    let prefix : c.in_ok-with_capacity.field-0.items ≡ [] = search rules in
    let capacity : vec_capacity c.in_ok-with_capacity.field-0 ≡ c.vars-vars.result = search rules in
    let none : s.last - s.first ≡ 0 = (let a = r.first in let b = r.last in omega arith) in
    let empty : nodes_in s s.first ≡ [] = newest-at s.vars s.first s.last s.layers.items s.newest s.first (r.first ∙ sym r.last) ∙ ap (λ (l : LayerView). l.nodes) r.newest in
    record {
      stack = ready-stack dp laws c.args.width c.room_for-room.result c.words-words.result c.in_ok-choices_of.field-0.items s r c.words-words.ensures c.in_ok-choices_of.ensures;
      rows = ready-rows dp c.args.width c.room_for-room.result c.words-words.result s r c.words-words.ensures;
      first = r.first ∙ sym (ap (λ (l : List ℕ). length l) prefix);
      prefix_fits = omega arith;
      expands = room-as room c.in_ok-prepare.ensures;
      redirects_fit = room-as room c.in_ok-prepare-2.ensures;
      path = path ∙ sym vars;
      depths = subst (λ (m : ℕ). HaveDepths s.first (shown_down (nodes_in s) (c.in_ok-with_capacity.field-0.items ∷ []) s.first m)) (sym none)
          (subst (λ (l : List NodeView). HaveDepths s.first (shown_layer (path_in (c.in_ok-with_capacity.field-0.items ∷ [])) l ∷ [])) (sym empty) (tt, tt));
      has_layers = λ other words' vars' choices'. other-layers dp other c.words-words.result s.vars c.args.width c.in_ok-choices_of.field-0.items c.in_ok-beam.beam
          (has-layers dp laws c.args.width c.words-words.result c.room_for-room.result c.max-widest.result _ c.vars-vars.result c.in_ok-beam.beam c.requires c.room_for-room.ensures c.in_ok-beam.ensures c.words-words.ensures c.vars-vars.ensures (search rules) refl)
          c.words-words.ensures r.vars c.in_ok-choices_of.ensures words' vars' choices';
    }

pub returns-clause-prepared : goal.returns-clause-prepared
returns-clause-prepared g c =
    let dp = g.M.DpModel.meaning (g.M.DpModel.numbers c.args.model.now) in
    let r = c.in_ok-prepare_stack.ensures in
    let room = ap (λ (l : LayerView). l.nodes_room) r.newest in
    let path : length c.in_ok-vec.field-0.items ≡ c.vars-vars.result = search rules in
    record {
      vars = r.vars;
      words = c.words-words.ensures;
      choices = c.in_ok-choices_of.ensures;
      width = c.requires;
      enough = subst (AreEnough dp c.args.width dp.vars) (sym room) c.room_for-room.ensures;
      path = path ∙ c.vars-vars.ensures;
    }
