use Rattle.answers.proofs.JoinFaults.{fault-joined}
use Rattle.answers.proofs.joining.join_texts.Goals as goal

pub returns-in-Err : goal.returns-in-Err
returns-in-Err c = fault-joined c.args.bytes.now c.in-Err.fault c.refused.result c.in-Err.ensures.read c.refused.ensures
