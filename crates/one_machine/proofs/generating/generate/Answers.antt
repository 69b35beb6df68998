use Rattle.std.proofs.Common.{rules, arith, nat_le, length}
use Rattle.std.proofs.lemmas.Bool.{and_from, le-leb}
use Rattle.one_machine.specs.Instance.{is_small}
use Rattle.one_machine.proofs.Drawn.{none_drawn, one_more}
use Rattle.one_machine.proofs.generating.generate.Goals as goal

pub loop-init : goal.loop-init
loop-init c = none_drawn c.args.n c.args.seed c.from_seed-draws.result c.in_ok-jobs.jobs.items c.from_seed-draws.ensures c.in_ok-jobs.ensures.items

pub loop-preserved : goal.loop-preserved
loop-preserved c =
    let job = c.draw_job-job.ensures in
    one_more c.args.n c.args.seed c.loop.counter c.loop.draws c.draw_job-job.new.draws c.loop.jobs.items c.push.new.self.items c.draw_job-job.result c.loop.invariant job.job job.following job.small (search rules)

pub new-requires : goal.new-requires
unfolding is_small
new-requires c =
    let count = c.loop.invariant.count in
    and_from (nat_le (length c.loop.jobs.items) 100) _ (le-leb _ _ (omega (arith, count, c.loop.auto.counter-end, c.requires.size))) c.loop.invariant.small
