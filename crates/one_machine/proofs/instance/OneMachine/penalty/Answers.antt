use Rattle.std.proofs.Common.{ap, arith}
use Rattle.std.proofs.lemmas.List.{get_or_read}
use Rattle.std.proofs.lemmas.Nat.{mul-le}
use Rattle.one_machine.specs.Instance.{Job, no_job}
use Rattle.one_machine.proofs.instance.OneMachine.penalty.Goals as goal

pub overflow_mul-result : goal.overflow_mul-result
overflow_mul-result c =
    let weight = ap (λ (x : Job). x.weight) (get_or_read c.args.self.now.jobs.items c.args.job _ c.requires.inside c.index-2.ensures no_job) in
    let light = c.args.self.now.light c.args.job in
    let most = mul-le c.index-2.result.now.weight c.saturating_sub-late.result 100000 10100000 (omega (arith, weight, light)) (omega (arith, c.saturating_sub-late.ensures, c.completion.ensures.early)) in
    record { fits = omega (arith, most) }

pub returns-clause-small : goal.returns-clause-small
returns-clause-small c =
    let weight = ap (λ (x : Job). x.weight) (get_or_read c.args.self.now.jobs.items c.args.job _ c.requires.inside c.index-2.ensures no_job) in
    let light = c.args.self.now.light c.args.job in
    mul-le c.index-2.result.now.weight c.saturating_sub-late.result 100000 10100000 (omega (arith, weight, light)) (omega (arith, c.saturating_sub-late.ensures, c.completion.ensures.early))
