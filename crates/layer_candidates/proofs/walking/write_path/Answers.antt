use Rattle.std.proofs.Common.{◌++◌, drop, ap, ◌∙◌}
use Rattle.std.proofs.lemmas.List.{length-take-le}
use Rattle.layer_candidates.proofs.Walked.{walked-end, at-positive, at-within, walked-more}
use Rattle.layer_candidates.proofs.walking.write_path.Goals as goal

pub overflow_sub-at : goal.overflow_sub-at
overflow_sub-at c = at-positive c.args.prefix.now c.args.steps.now c.args.last c.args.out.now c.steps.out c.steps.step c.steps.at c.requires.backward c.steps.invariant c.steps-test.true

pub bounds-out-at : goal.bounds-out-at
bounds-out-at c = at-within c.args.prefix.now c.args.steps.now c.args.last c.args.out.now c.steps.out c.steps.step c.steps.at c.requires.backward c.steps.invariant c.steps-test.true

pub steps-preserved : goal.steps-preserved
steps-preserved c = walked-more c.args.prefix.now c.args.steps.now c.args.last c.args.out.now c.steps.out c.steps.step c.steps.at c.requires.backward c.steps.invariant c.steps-test.true

pub copy_from_slice-requires : goal.copy_from_slice-requires
copy_from_slice-requires c =
    let end = walked-end c.args.prefix.now c.args.steps.now c.args.last c.args.out.now c.steps.out c.steps.step c.steps.at c.requires.backward c.steps.invariant c.steps-test.false in
    length-take-le c.steps.at c.steps.out c.steps.invariant.room ∙ end.0

pub returns : goal.returns
returns c =
    let end = walked-end c.args.prefix.now c.args.steps.now c.args.last c.args.out.now c.steps.out c.steps.step c.steps.at c.requires.backward c.steps.invariant c.steps-test.false in
    ap (λ l. l ++ drop c.steps.at c.steps.out) c.copy_from_slice.ensures.after ∙ end.1
