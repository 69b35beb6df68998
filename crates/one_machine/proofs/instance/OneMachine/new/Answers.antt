use Rattle.one_machine.specs.Laws.Limits.{is_small-is, instance_of-numbers_of}
use Rattle.one_machine.proofs.instance.OneMachine.new.Goals as goal

pub invariant_of-result : goal.invariant_of-result
invariant_of-result c =
    let small = is_small-is c.args.jobs.items c.requires in
    record { small = c.requires; spelled = instance_of-numbers_of c.args.jobs.items; few = small.few; brief = λ d. (small.each d).processing; light = λ d. (small.each d).weight }
