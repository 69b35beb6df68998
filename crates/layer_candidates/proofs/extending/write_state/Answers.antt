use Rattle.std.proofs.Common.{ap, ◌∙◌}
use Rattle.row_region.specs.Region.{with_row}
use Rattle.layer_candidates.proofs.HeldRows.{written-same}
use Rattle.layer_candidates.proofs.extending.write_state.Goals as goal

pub returns-clause-refused : goal.returns-clause-refused
returns-clause-refused g c = λ none.
    let region = c.args.region.now in
    let place = c.args.spot.place in
    ap (with_row region place) (c.extend.ensures.refused none) ∙ written-same region place c.row_mut.result.now c.row_mut.ensures.row
