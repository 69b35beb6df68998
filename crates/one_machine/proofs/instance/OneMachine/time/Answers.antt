use Rattle.std.proofs.Common.{rules, ◌≡◌, length}
use Rattle.one_machine.specs.Laws.Limits.{is_small-is}
use Rattle.one_machine.specs.Laws.Program.{time-early}
use Rattle.one_machine.proofs.instance.OneMachine.time.Goals as goal

pub returns-clause-early : goal.returns-clause-early
returns-clause-early c =
    let m = c.args.self.now in
    let early = time-early m.jobs.items c.args._k c.args.s.now (is_small-is m.jobs.items m.small) c.requires.state in
    let many : c.len.result ≡ length c.args.self.now.jobs.items = search rules in
    rw (c.parts_of.ensures.time, many) early
