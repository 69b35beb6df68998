use Rattle.std.proofs.Common.{FitsSigned, w64, subst, arith}
use Rattle.std.proofs.lemmas.Int.{ints, to_z-of_z}
use Rattle.cover_text.specs.Grammar.{Fails}
use Rattle.cover_text.specs.Instances.{end_place}
use Rattle.cover_text.specs.Tested.{tested_sections}
use Rattle.cover_text.specs.Texts.{opened_in}
use Rattle.cover_text.proofs.InTurn.{after_tested, moved-fails}
use Rattle.cover_text.proofs.cover_text.OpenCover.check.Goals as goal

pub returns-in-Err : goal.returns-in-Err
returns-in-Err g c =
    let dp = g.M.DpModel.meaning (g.M.DpModel.numbers c.args.model.now) in
    let o = opened_in c.args.self.now in
    let least = c.requires.distance.least in
    let most = c.requires.distance.most in
    let fits : FitsSigned w64 o.within = omega (arith, ints) in
    let within = subst (λ w. Fails c.in-Err.fault (tested_sections dp o.best w c.as_slice.result.now o.following)) (to_z-of_z w64 o.within fits) c.in-Err.ensures in
    let fails = subst (λ x. Fails c.in-Err.fault (tested_sections dp o.best o.within x o.following)) c.as_slice.ensures.value within in
    rw (c.placed.ensures, after_tested dp o)
    (moved-fails (end_place o.before) c.in-Err.fault (tested_sections dp o.best o.within o.assignment o.following) fails)
