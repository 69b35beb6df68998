use Rattle.std.proofs.Common.{◌≡◌, ◌∙◌, None, Ok, Some, ap, rules, sym}
use Rattle.solver_words.specs.Words.{split, split_by}
use Rattle.solver_words.proofs.Meanings.{split_all, split_no_part, split_no_path}
use Rattle.solver_words.proofs.reading.split_job.Goals as goal

pub returns-in_default : goal.returns-in_default
returns-in_default c = λ arguments reads. split_no_path c.args.matches.now arguments reads (search rules)

pub returns-in_err-part : goal.returns-in_err-part
returns-in_err-part c = λ arguments reads.
    split_no_part c.args.matches.now arguments reads c.in-Some.path.now c.in-Some.ensures
    c.from_residual.result c.in_err-part.field-0.0 c.from_residual.ensures.1 c.in_err-part.ensures

pub returns-in_default-2 : goal.returns-in_default-2
returns-in_default-2 c = λ arguments reads.
    let none : c.in_ok-part.field-0 ≡ None = search rules in
    split_all c.args.matches.now arguments reads c.in-Some.path.now c.in-Some.ensures c.in_ok-part.field-0 c.in_ok-part.ensures ∙ ap (split_by c.in-Some.path.now) none

pub returns : goal.returns
returns c = λ arguments reads.
    let some : c.in_ok-part.field-0 ≡ Some c.in-Some-2.part = search rules in
    split_all c.args.matches.now arguments reads c.in-Some.path.now c.in-Some.ensures c.in_ok-part.field-0 c.in_ok-part.ensures ∙ ap (split_by c.in-Some.path.now) some
    ∙ ap (λ path. Ok (split path c.in-Some-2.part)) (sym c.in_ok-path.ensures.ok)
