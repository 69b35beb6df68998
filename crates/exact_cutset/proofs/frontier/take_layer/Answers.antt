use Rattle.std.proofs.Common.{◌≡◌, length, refl, sym, ◌∙◌, ap, subst, arith}
use Rattle.relaxed_dd.specs.Shown.{layers_of, layer_in}
use Rattle.exact_cutset.specs.Seen.{ChildrenView}
use Rattle.exact_cutset.specs.Walking.{HasLooked, IsTakenNode}
use Rattle.exact_cutset.proofs.Looked.{layer-starts, layer-ends}
use Rattle.exact_cutset.proofs.Walked.{further}
use Rattle.exact_cutset.proofs.frontier.take_layer.Goals as goal

pub nodes-init : goal.nodes-init
nodes-init g c =
    let dp = g.M.DpModel.meaning (g.M.DpModel.numbers c.args.model.now) in
    let d = layers_of c.args.diagram.now in
    let out = c.args.out.now in
    let start = layer-starts dp d out.wide out.room c.args.depth out.places c.args.above.now c.requires.walk c.requires.first c.requires.last c.requires.walked in
    record {
      marks = ap (λ l. length l) c.clear.ensures.items;
      rest = refl;
      subs = c.requires.subs;
      walked = subst (HasLooked dp d out.wide c.args.depth out.places out.places) (sym c.clear.ensures.items) start;
      room = omega arith;
    }

pub nodes-preserved : goal.nodes-preserved
nodes-preserved g c =
    let dp = g.M.DpModel.meaning (g.M.DpModel.numbers c.args.model.now) in
    let d = layers_of c.args.diagram.now in
    let out = c.args.out.now in
    let l = c.nodes in
    let i = l.invariant in
    let wide : l.out.wide ≡ out.wide = ap (λ (v : ChildrenView). v.wide) i.rest in
    let room : l.out.room ≡ out.room = ap (λ (v : ChildrenView). v.room) i.rest in
    let taken : IsTakenNode dp d c.args.depth (length l.here.items) c.args.above.now l.out c.take_node-free.new.out c.take_node-free.result =
    subst (λ n. IsTakenNode dp d c.args.depth n c.args.above.now l.out c.take_node-free.new.out c.take_node-free.result) (sym i.marks) c.take_node-free.ensures in
    let f = further dp d out.wide out.room c.args.depth out.places c.args.above.now l.here.items l.out c.take_node-free.new.out c.take_node-free.result c.requires.walk c.requires.first c.requires.last
    c.requires.walked.marked c.requires.walked.all c.requires.walked.short i.subs i.walked taken in
    let pushed = c.push_reserved.ensures.items in
    record {
      marks = (let e = c.push_reserved.ensures.len in let m = i.marks in omega arith);
      rest = f.rest ∙ ap (λ (v : ChildrenView). record v { places = c.take_node-free.new.out.places; subs = c.take_node-free.new.out.subs }) i.rest;
      subs = f.subs;
      walked = subst (HasLooked dp d out.wide c.args.depth out.places c.take_node-free.new.out.places) (sym pushed) f.walked;
      room = (let e = c.push_reserved.ensures.capacity in let r = i.room in omega arith);
    }

pub returns-clause-layer : goal.returns-clause-layer
returns-clause-layer g c =
    let dp = g.M.DpModel.meaning (g.M.DpModel.numbers c.args.model.now) in
    let d = layers_of c.args.diagram.now in
    let out = c.args.out.now in
    let l = c.nodes in
    let i = l.invariant in
    let all : length l.here.items ≡ length (layer_in d c.args.depth) = (let m = i.marks in let e = c.nodes-nodes.ensures in let t = c.nodes-test.false in omega arith) in
    record {
      rest = i.rest;
      subs = i.subs;
      walked = layer-ends dp d out.wide out.room c.args.depth out.places l.out.places l.here.items c.requires.walk c.requires.first c.requires.last all i.walked;
    }
