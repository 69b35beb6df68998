use Rattle.std.proofs.Common.{◌∙◌}
use Rattle.cover_join.proofs.Checks.{part_checked}
use Rattle.cover_join.proofs.checking.check_part.Goals as goal

pub returns : goal.returns
returns g c =
    part_checked g.M.DpModel.meaning g.M.DpModel.numbers _ _ _ _ _ _ _ _ _ _ _ (c.in_ok-part.ensures.model ∙ c.in_ok-try_clone.ensures) c.in_ok-part.ensures.index c.in_ok-part.ensures.of
    c.as_slice.ensures.value c.check.ensures.verdict
