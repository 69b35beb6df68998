use Rattle.std.proofs.Common.{◌≡◌, ◌++◌, drop}
use Rattle.tsp_windows.specs.Texts.{printed_windows}
use Rattle.tsp_windows.proofs.printing.push_windows.Given as goal

abbrev pub invariant-windows : goal.invariant-windows
invariant-windows l =
    l.out.items ++ printed_windows (drop l.window-index l.windows) ≡ l.initial.out.items ++ printed_windows l.windows
