use Rattle.cover_text.specs.Texts.{text_in}
use Rattle.std.specs.Arc.{arc_value}
use Rattle.cover_join.specs.Joining.{answer_of}
use Rattle.cover_join.proofs.Checks.{part_told}
use Rattle.cover_join.proofs.checking.part_fault.Goals as goal

pub returns : goal.returns
returns g c = part_told (g.M.DpModel.meaning (g.M.DpModel.numbers (arc_value c.args.model.now))) c.args.of c.args.index (answer_of (text_in c.args.text.now)) c.in_ok-verdict.verdict c.refusal.result c.in_ok-verdict.ensures c.refusal.ensures
