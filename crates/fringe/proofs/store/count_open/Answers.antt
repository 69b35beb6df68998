use Rattle.std.proofs.Common.{◌≡◌, ◌∙◌, arith, ap, map, is_none, count_by, List, Option, ℤ}
use Rattle.fringe.specs.Slots.{key_of}
use Rattle.fringe.proofs.Lengths.{opened_count}
use Rattle.fringe.proofs.store.count_open.Goals as goal

pub returns-clause-count : goal.returns-clause-count
returns-clause-count c =
    let slots = c.args.slots.now in
    let all = opened_count slots in
    let none : c.spare.result ≡ count_by is_none (map key_of slots) = c.spare.ensures.spare ∙ c.spare.ensures.counts ∙ ap (λ (rows : List (Option (List ℤ))). count_by is_none rows) c.requires.keyed in
    omega arith
