use Rattle.solver_words.proofs.Meanings.{generate_all, generate_no_model, generate_no_n, generate_no_seed, generate_no_sizes}
use Rattle.solver_words.proofs.reading.generate_job.Goals as goal

pub returns-in_err-model : goal.returns-in_err-model
returns-in_err-model c = λ arguments reads. generate_no_model c.args.matches.now arguments reads c.from_residual.result c.in_err-model.field-0.0 c.from_residual.ensures.1 c.in_err-model.ensures

pub returns-in_err-sizes : goal.returns-in_err-sizes
returns-in_err-sizes c = λ arguments reads.
    generate_no_sizes c.args.matches.now arguments reads c.in_ok-model.model c.in_ok-model.ensures
    c.from_residual-in_err-sizes.result c.in_err-sizes.field-0.0 c.from_residual-in_err-sizes.ensures.1 c.in_err-sizes.ensures

pub returns-in_err-n : goal.returns-in_err-n
returns-in_err-n c = λ arguments reads.
    generate_no_n c.args.matches.now arguments reads c.in_ok-model.model c.in_ok-model.ensures c.in_ok-sizes.sizes c.in_ok-sizes.ensures
    c.from_residual-in_err-n.result c.in_err-n.field-0.0 c.from_residual-in_err-n.ensures.1 c.in_err-n.ensures.answer

pub returns-in_err-seed : goal.returns-in_err-seed
returns-in_err-seed c = λ arguments reads.
    generate_no_seed c.args.matches.now arguments reads c.in_ok-model.model c.in_ok-model.ensures c.in_ok-sizes.sizes c.in_ok-sizes.ensures
    c.in_ok-n.n c.in_ok-n.ensures.answer c.from_residual-in_err-seed.result c.in_err-seed.field-0.0 c.from_residual-in_err-seed.ensures.1 c.in_err-seed.ensures.answer

pub returns : goal.returns
returns c = λ arguments reads.
    generate_all c.args.matches.now arguments reads c.in_ok-model.model c.in_ok-model.ensures c.in_ok-sizes.sizes c.in_ok-sizes.ensures
    c.in_ok-n.n c.in_ok-n.ensures.answer c.in_ok-seed.seed c.is_given.result c.in_ok-seed.ensures.answer c.is_given.ensures
