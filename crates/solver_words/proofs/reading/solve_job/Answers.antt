use Rattle.std.proofs.Common.{◌∙◌, ap, option_map, string_bytes, subst, sym}
use Rattle.solver_words.specs.Words.{IsAnswer, extended, job_view, searched}
use Rattle.solver_words.proofs.Meanings.{solve_all, solve_no_cover, solve_no_distance, solve_no_model, solve_no_part, solve_no_settings}
use Rattle.solver_words.proofs.reading.solve_job.Goals as goal

pub returns-in_err-model : goal.returns-in_err-model
returns-in_err-model c = λ arguments reads. solve_no_model c.args.matches.now arguments reads c.from_residual.result c.in_err-model.field-0.0 c.from_residual.ensures.1 c.in_err-model.ensures

pub returns-in_err-settings : goal.returns-in_err-settings
returns-in_err-settings c = λ arguments reads.
    solve_no_settings c.args.matches.now arguments reads c.in_ok-model.model c.in_ok-model.ensures c.is_given.result c.is_given.ensures
    c.from_residual-in_err-settings.result c.in_err-settings.field-0.0 c.from_residual-in_err-settings.ensures.1 c.in_err-settings.ensures

pub returns-in_err-words : goal.returns-in_err-words
returns-in_err-words c = λ arguments reads.
    solve_no_cover c.args.matches.now arguments reads c.in_ok-model.model c.in_ok-model.ensures c.is_given.result c.is_given.ensures c.in_ok-settings.settings c.in_ok-settings.ensures
    c.from_residual-in_err-words.result c.in_err-words.field-0.0 c.from_residual-in_err-words.ensures.1 c.in_err-words.ensures.answer

pub returns-in_err-within : goal.returns-in_err-within
returns-in_err-within c = λ arguments reads.
    solve_no_distance c.args.matches.now arguments reads c.in_ok-model.model c.in_ok-model.ensures c.is_given.result c.is_given.ensures c.in_ok-settings.settings c.in_ok-settings.ensures
    c.in_ok-words.words c.in_ok-words.ensures.answer c.from_residual-in_err-within.result c.in_err-within.field-0.0 c.from_residual-in_err-within.ensures.1 c.in_err-within.ensures.answer

pub returns-in_err-part : goal.returns-in_err-part
returns-in_err-part c = λ arguments reads.
    solve_no_part c.args.matches.now arguments reads c.in_ok-model.model c.in_ok-model.ensures c.is_given.result c.is_given.ensures c.in_ok-settings.settings c.in_ok-settings.ensures
    c.in_ok-words.words c.in_ok-words.ensures.answer c.in_ok-within.within c.in_ok-within.ensures.answer
    c.from_residual-in_err-part.result c.in_err-part.field-0.0 c.from_residual-in_err-part.ensures.1 c.in_err-part.ensures

pub returns : goal.returns
returns c = λ arguments reads.
    let journal = option_map string_bytes c.in_ok-journal.journal in
    let all = solve_all c.args.matches.now arguments reads c.in_ok-model.model c.in_ok-model.ensures c.is_given.result c.is_given.ensures c.in_ok-settings.settings c.in_ok-settings.ensures
    c.in_ok-words.words c.in_ok-words.ensures.answer c.in_ok-within.within c.in_ok-within.ensures.answer c.in_ok-part.part journal c.is_given-2.result c.in_ok-part.ensures (c.in_ok-journal.ensures ∙ c.get_str.ensures) c.is_given-2.ensures in
    let same = ap (λ words. searched c.in_ok-model.model (extended c.in_ok-settings.settings c.in_ok-within.within words) journal c.in_ok-part.part) (sym c.cover_words-cover.ensures)
    ∙ ap (λ settings. searched c.in_ok-model.model settings journal c.in_ok-part.part) (sym c.extended.ensures) in
    subst (λ answer. IsAnswer job_view answer c.searched.result) (sym (all ∙ same)) c.searched.ensures
