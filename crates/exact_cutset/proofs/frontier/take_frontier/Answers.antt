use Rattle.std.proofs.Common.{◌≡◌, arith}
use Rattle.relaxed_dd.specs.Shown.{layers_of, last_of}
use Rattle.exact_cutset.proofs.Looked.{walk-ends, has-frontier}
use Rattle.exact_cutset.proofs.frontier.take_frontier.Goals as goal

pub returns-clause-frontier : goal.returns-clause-frontier
returns-clause-frontier g c =
    let dp = g.M.DpModel.meaning (g.M.DpModel.numbers c.args.model.now) in
    let d = layers_of c.args.diagram.now in
    let out = c.args.out.now in
    let l = c.layers in
    let i = l.invariant in
    let end : l.depth ≡ last_of d = (let t = c.layers-test.false in let a = c.first_depth-first.ensures in let b = c.last_depth-last.ensures in let f = c.requires.walk.first in omega arith) in
    has-frontier dp d out l.out i.rest i.subs (walk-ends dp d out.wide out.room l.depth l.out.places l.above.items c.requires.walk end i.walked)
