use Rattle.std.proofs.Common.{◌≡◌, ◌-◌}
use Rattle.tokens.specs.Grammar.{times}
use Rattle.tsp_windows.specs.Texts.{window_at}
use Rattle.tsp_windows.proofs.reading.read_windows.Given as goal

abbrev pub invariant-windows : goal.invariant-windows
invariant-windows l =
    times window_at (l.count - l.counter) l.windows.items l.tokens ≡ times window_at l.count l.initial.windows.items l.initial.tokens
