use Rattle.std.proofs.Common.{◌≡◌, ◌+◌, ◌-◌, length, arith}
use Rattle.dp_model.specs.Laws.{IsLawful}
use Rattle.relaxed_dd.proofs.Halves.{half-starts, sets-next, sets-further, sets-all}
use Rattle.relaxed_dd.proofs.suffixes.set_all.Given as given
use Rattle.relaxed_dd.proofs.suffixes.set_all.Goals as goal

laws_of : (g : given.Over) (m : g.row.M.Denot) → IsLawful (g.M.DpModel.meaning (g.M.DpModel.numbers m))
laws_of g m = (g.met.M.DpModel g.world.𝓛 g.world.𝓜 g.world.𝓡 ((λ s x. x), (λ x. x), (λ x. x), λ x. x)).lawful m

pub layers-init : goal.layers-init
layers-init g c =
    let a = c.args in
    let last = c.vars-last.ensures in
    let first = c.first_depth.ensures in
    let whole = c.requires.whole in
    let some = c.requires.some in
    let below : c.vars-last.result - c.first_depth.result + 1 ≡ length a.space.now.layers = omega arith in
    record {
      small = (laws_of g a.model.now).sizes.vars;
      numbers = c.requires.numbers;
      whole = whole;
      vars = c.requires.vars;
      last_is = last;
      below_is = below;
      half_is = half-starts (g.M.DpModel.meaning (g.M.DpModel.numbers a.model.now)) (c.vars-last.result - c.first_depth.result + 1 - 0) a.space.now (omega arith);
    }

pub set_suffixes-requires-clause-last : goal.set_suffixes-requires-clause-last
set_suffixes-requires-clause-last g c =
    (sets-next (g.M.DpModel.meaning (g.M.DpModel.numbers c.args.model.now)) c.args.space.now c.layers.space c.vars-last.result (c.vars-last.result - c.first_depth.result) c.layers.above c.layers.invariant c.layers-test.true).last

pub set_suffixes-requires-clause-whole : goal.set_suffixes-requires-clause-whole
set_suffixes-requires-clause-whole g c =
    (sets-next (g.M.DpModel.meaning (g.M.DpModel.numbers c.args.model.now)) c.args.space.now c.layers.space c.vars-last.result (c.vars-last.result - c.first_depth.result) c.layers.above c.layers.invariant c.layers-test.true).whole

pub set_suffixes-requires-clause-arcs : goal.set_suffixes-requires-clause-arcs
set_suffixes-requires-clause-arcs g c =
    (sets-next (g.M.DpModel.meaning (g.M.DpModel.numbers c.args.model.now)) c.args.space.now c.layers.space c.vars-last.result (c.vars-last.result - c.first_depth.result) c.layers.above c.layers.invariant c.layers-test.true).arcs

pub set_suffixes-requires-clause-leads : goal.set_suffixes-requires-clause-leads
set_suffixes-requires-clause-leads g c =
    (sets-next (g.M.DpModel.meaning (g.M.DpModel.numbers c.args.model.now)) c.args.space.now c.layers.space c.vars-last.result (c.vars-last.result - c.first_depth.result) c.layers.above c.layers.invariant c.layers-test.true).leads

pub layers-preserved : goal.layers-preserved
layers-preserved g c =
    sets-further (g.M.DpModel.meaning (g.M.DpModel.numbers c.args.model.now)) c.args.space.now c.layers.space c.set_suffixes.new.self c.vars-last.result (c.vars-last.result - c.first_depth.result) c.layers.above c.layers.invariant c.layers-test.true
    c.set_suffixes.ensures.layers

pub returns : goal.returns
returns g c =
    sets-all (g.M.DpModel.meaning (g.M.DpModel.numbers c.args.model.now)) c.args.space.now c.layers.space c.vars-last.result (c.vars-last.result - c.first_depth.result) c.layers.above c.layers.invariant
    (let t = c.layers-test.false in omega arith)
