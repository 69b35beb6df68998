use Rattle.std.proofs.Common.{arith, sym, ◌∙◌}
use Rattle.tokens.proofs.Chains.{times_more, times_done, times_steps}
use Rattle.tsp_windows.specs.Texts.{window_at}
use Rattle.tsp_windows.proofs.reading.read_windows.Goals as goal

pub windows-preserved : goal.windows-preserved
windows-preserved c =
    sym (times_more window_at c.args.count c.windows.counter c.windows.windows.items c.read_window.new.windows.items c.windows.tokens c.read_window.new.tokens c.windows-test.true c.in_ok-read_window.ensures)
    ∙ c.windows.invariant

pub returns : goal.returns
returns c = sym c.windows.invariant ∙ times_done window_at c.args.count c.windows.counter c.windows.windows.items c.windows.tokens c.windows-test.false

pub returns-in_err-read_window : goal.returns-in_err-read_window
returns-in_err-read_window c = grind (arith, times_steps, c.windows.invariant, c.windows-test.true)
