use Rattle.cover_text.specs.Texts.{opened_in}
use Rattle.answers.proofs.Checked.{opened-checked, fault-checked}
use Rattle.answers.proofs.checking.check.Goals as goal

pub returns-in-Ok : goal.returns-in-Ok
returns-in-Ok c = opened-checked c.args.text.now (opened_in c.in-Ok.text) c.check_open.result c.in-Ok.ensures.read c.check_open.ensures

pub returns-in-Err : goal.returns-in-Err
returns-in-Err c = fault-checked c.args.text.now c.in-Err.fault c.refused.result c.in-Err.ensures.read c.refused.ensures
