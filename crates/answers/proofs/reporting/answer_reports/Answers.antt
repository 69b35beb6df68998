use Rattle.std.proofs.Common.{arith, subst, sym}
use Rattle.answers.specs.Covers.{cover_limit}
use Rattle.answers.specs.Ended.{WasRead, readings}
use Rattle.answers.proofs.ReportsJoined.{left-read}
use Rattle.answers.proofs.reporting.answer_reports.Goals as goal

pub returns-in-Ok-clause-left : goal.returns-in-Ok-clause-left
returns-in-Ok-clause-left g c =
    let r = readings g.S.Source.left g.S.Source.faults c.args.input.now c.read_all.new.source in
    let e = c.in-Ok.ensures in
    let read : WasRead cover_limit r c.in-Ok.text.items = record { all = e.bytes; ended = e.end; sound = e.faults; short = omega (arith, e.short, c.in-Ok.text.ok) } in
    left-read g.D.Disk c.args.path.now c.as_slice.result.now r c.args.disk.now c.join_text.new.disk (subst (WasRead cover_limit r) (sym c.as_slice.ensures.value) read) c.join_text.ensures.left
