-- The moments from which on it is too late to leave for the nodes.
use Rattle.std.proofs.Common.{◌≡◌, ℕ, ◌+◌, ◌-◌, ◌<◌, true, nat_eq, List, get_or, eq-eqb}
use Rattle.std.proofs.lemmas.Bool.{eqb-true}
use Rattle.node_sets.proofs.Below.{all_below-gives, all_below-from}
use Rattle.tsp_windows.specs.Instance.{Instance, closing, near}
use Rattle.tsp_windows.specs.Late.{are_too_late}

pub too_late-from : (i : Instance) (moments : List ℕ) → ((v : ℕ) → v < i.nodes → get_or moments v 0 ≡ (closing i v + 1) - near i v) → are_too_late i moments ≡ true
unfolding are_too_late
too_late-from i moments each =
    all_below-from i.nodes (λ v. nat_eq (get_or moments v 0) ((closing i v + 1) - near i v)) (λ v l. eq-eqb (get_or moments v 0) ((closing i v + 1) - near i v) (each v l))

pub too_late-gives : (i : Instance) (moments : List ℕ) → are_too_late i moments ≡ true → (v : ℕ) → v < i.nodes → get_or moments v 0 ≡ (closing i v + 1) - near i v
unfolding are_too_late
too_late-gives i moments all v l =
    eqb-true (get_or moments v 0) ((closing i v + 1) - near i v) (all_below-gives i.nodes (λ v. nat_eq (get_or moments v 0) ((closing i v + 1) - near i v)) all v l)
