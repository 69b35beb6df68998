-- From when on it is too late to leave for a node.
use Rattle.std.specs.Prelude.{ℕ, ◌+◌, ◌-◌, Bool, nat_eq, List, get_or}
use Rattle.node_sets.specs.Sums.{all_below}
use Rattle.tsp_windows.specs.Instance.{Instance, closing, near}

-- whether a list tells for each node the first moment from which its closing is missed even on the least way to it
unfoldable pub are_too_late : Instance → List ℕ → Bool
are_too_late i moments = all_below i.nodes (λ v. nat_eq (get_or moments v 0) ((closing i v + 1) - near i v))
