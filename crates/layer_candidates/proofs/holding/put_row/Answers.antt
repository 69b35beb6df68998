use Rattle.std.proofs.Common.{ℤ, List, sym, subst, ◌∙◌}
use Rattle.layer_candidates.proofs.holding.put_row.Goals as goal
use Rattle.row_region.proofs.Callers.{put_over}
use Rattle.row_region.specs.Region.{HasPut, with_row}

pub returns : goal.returns
returns c =
    let row = c.args.row.now in
    let place = c.take_free-id.result.place in
    let mid = c.take_free-id.new.self in
    let taken = c.take_free-id.ensures in
    subst (λ (w : List ℤ). HasPut c.args.region.now place row (with_row mid place w)) (sym c.copy_from_slice.ensures.after)
    (put_over c.args.region.now mid place taken.0 row taken.2 (c.requires.cells ∙ sym taken.2.words))
