use Rattle.std.proofs.Common.{◌∙◌, None, Ok, Some, ap, rules, sym}
use Rattle.solver_words.specs.Words.{join_reports}
use Rattle.solver_words.proofs.Meanings.{join_is}
use Rattle.solver_words.proofs.reading.join_job.Goals as goal

pub returns-in_default : goal.returns-in_default
returns-in_default c = λ arguments reads. join_is c.args.matches.now arguments reads None (search rules)

pub returns : goal.returns
returns c = λ arguments reads.
    join_is c.args.matches.now arguments reads (Some c.in-Some.path.now) c.in-Some.ensures
    ∙ ap (λ path. Ok (join_reports path)) (sym c.in_ok-path.ensures.ok)
