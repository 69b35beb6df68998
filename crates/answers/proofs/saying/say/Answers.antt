use Rattle.std.proofs.Common.{inr, refl}
use Rattle.solver_report.specs.declared.answer.Answer.TheVariants as answers
use Rattle.answers.proofs.saying.say.Goals as goal

pub returns-in-Err : goal.returns-in-Err
returns-in-Err g c = record { answer = answers.OutOfMemory; same = inr refl; said = c.write-in-Err.ensures }
