use Rattle.std.proofs.Common.{arith, subst, sym}
use Rattle.answers.specs.Ended.{WasRead, readings, text_limit}
use Rattle.commands.proofs.Left.{left_search}
use Rattle.commands.proofs.answering.keep_input.Goals as goal

pub returns-in-Ok-6-clause-left : goal.returns-in-Ok-6-clause-left
returns-in-Ok-6-clause-left g c =
    let r = readings g.S.Source.left g.S.Source.faults c.args.input.now c.read_all.new.source in
    let e = c.in-Ok.ensures in
    let read : WasRead text_limit r c.in-Ok.text.items = record { all = e.bytes; ended = e.end; sound = e.faults; short = omega (arith, e.short, c.in-Ok.text.ok) } in
    left_search g.D.Disk c.args.name c.args.search.within c.args.path.now c.as_slice-text.result.now r c.args.disk c.by_name-read_kept-in-Ok-5.result.1 (subst (WasRead text_limit r) (sym c.as_slice-text.ensures.value) read) c.by_name-read_kept-in-Ok-5.ensures.left
