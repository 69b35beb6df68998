use Rattle.std.proofs.Common.{◌≡◌, length}
use Rattle.cover_text.specs.Texts.{text_in}
use Rattle.cover_join.specs.Joined.{best_answer}
use Rattle.cover_join.specs.Joining.{answer_of, answers_in}
use Rattle.cover_join.proofs.finding.best_of.Given as goal

abbrev pub invariant-loop-rest : goal.invariant-loop-rest
invariant-loop-rest l = best_answer (answer_of (text_in l.best)) (answers_in l.rest) ≡ best_answer (answer_of (text_in l.first)) (answers_in l.more)

abbrev pub decreases-loop-rest : goal.decreases-loop-rest
decreases-loop-rest l = length l.rest
