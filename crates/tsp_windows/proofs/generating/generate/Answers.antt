use Rattle.std.proofs.Common.{◌∙◌, ap}
use Rattle.tsp_windows.specs.Generating.{windows_along}
use Rattle.tsp_windows.proofs.Windows.{drawn_small}
use Rattle.tsp_windows.proofs.generating.generate.Goals as goal

pub problem_of-requires : goal.problem_of-requires
problem_of-requires c =
    drawn_small c.args.n c.in_ok-distances.distances.items c.in_ok-windows.windows.items c.requires.some c.requires.few c.in_ok-distances.ensures.distances
    (c.in_ok-windows.ensures ∙ ap (windows_along c.args.n) c.as_slice.ensures.value)
