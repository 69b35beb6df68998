use Rattle.std.proofs.Common.{ap, arith}
use Rattle.std.proofs.lemmas.List.{get_or_read}
use Rattle.one_machine.specs.Instance.{Job, no_job}
use Rattle.one_machine.proofs.instance.OneMachine.completion.Goals as goal

pub overflow_add-result : goal.overflow_add-result
overflow_add-result c =
    let takes = ap (λ (x : Job). x.processing) (get_or_read c.args.self.now.jobs.items c.args.job _ c.requires.inside c.index.ensures no_job) in
    let brief = c.args.self.now.brief c.args.job in
    record { fits = omega (arith, takes, brief, c.requires.early) }

pub returns-clause-early : goal.returns-clause-early
returns-clause-early c =
    let takes = ap (λ (x : Job). x.processing) (get_or_read c.args.self.now.jobs.items c.args.job _ c.requires.inside c.index.ensures no_job) in
    let brief = c.args.self.now.brief c.args.job in
    omega (arith, takes, brief, c.requires.early)
