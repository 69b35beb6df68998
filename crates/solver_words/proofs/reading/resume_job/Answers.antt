use Rattle.std.proofs.Common.{◌∙◌, Ok, ap, rules, sym}
use Rattle.solver_words.specs.Words.{resume}
use Rattle.solver_words.proofs.Meanings.{resume_all, resume_no_path, resume_no_settings}
use Rattle.solver_words.proofs.reading.resume_job.Goals as goal

pub returns-in_default : goal.returns-in_default
returns-in_default c = λ arguments reads. resume_no_path c.args.matches.now arguments reads (search rules)

pub returns-in_err-settings : goal.returns-in_err-settings
returns-in_err-settings c = λ arguments reads.
    resume_no_settings c.args.matches.now arguments reads c.in-Some.path.now c.in-Some.ensures c.is_given.result c.is_given.ensures
    c.from_residual.result c.in_err-settings.field-0.0 c.from_residual.ensures.1 c.in_err-settings.ensures

pub returns : goal.returns
returns c = λ arguments reads.
    resume_all c.args.matches.now arguments reads c.in-Some.path.now c.in-Some.ensures c.is_given.result c.is_given.ensures c.in_ok-settings.settings c.in_ok-settings.ensures
    c.is_given-incumbent.result c.is_given-incumbent.ensures
    ∙ ap (λ path. Ok (resume path c.in_ok-settings.settings c.is_given-incumbent.result)) (sym c.in_ok-path.ensures.ok)
