use Rattle.solver_words.proofs.Meanings.{digest_all, digest_no_model}
use Rattle.solver_words.proofs.reading.digest_job.Goals as goal

pub returns-in_err-model : goal.returns-in_err-model
returns-in_err-model c = λ arguments reads. digest_no_model c.args.matches.now arguments reads c.from_residual.result c.in_err-model.field-0.0 c.from_residual.ensures.1 c.in_err-model.ensures

pub returns : goal.returns
returns c = λ arguments reads. digest_all c.args.matches.now arguments reads c.in_ok-model.model c.in_ok-model.ensures
