use Rattle.std.proofs.Common.{◌≡◌, Some, sym, ◌∙◌, subst}
use Rattle.layer_build.specs.Layers.{diagram_of}
use Rattle.exact_cutset.specs.Ready.{CutIsReady}
use Rattle.exact_cutset.proofs.Copied.{rows-at}
use Rattle.exact_cutset.proofs.taking.take_last_exact.Goals as goal

pub take_layer-requires-clause-rows : goal.take_layer-requires-clause-rows
take_layer-requires-clause-rows g c κs within =
    let dp = g.M.DpModel.meaning (g.M.DpModel.numbers c.args.model.now) in
    let s = c.args.space.now in
    let is : s.first_reduced ≡ Some c.in-Some.reduced = sym c.first_reduced.ensures ∙ c.in-Some.is in
    rows-at s c.in-Some.reduced c.args.rows c.requires.rows is (subst (CutIsReady dp (diagram_of s) c.args.out.now.room) is c.requires.cut).cut.first
