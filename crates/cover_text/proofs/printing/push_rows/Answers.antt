use Rattle.std.specs.Prelude.{option_map}
use Rattle.bound_cover.specs.Exploring.{layer_of}
use Rattle.cover_text.proofs.Places.{kept_from, rows_from}
use Rattle.cover_text.proofs.printing.push_rows.Goals as goal

pub loop-row-preserved : goal.loop-row-preserved
loop-row-preserved c =
    let rows = layer_of c.args.cover.now c.args.layer in
    let arcs = option_map (λ a. a.now) c.arcs.result in (
      rows_from rows c.loop-row.row c.bound.result c.words.result.now arcs c.loop-row.out.items c.push_row.new.out.items _
          c.bound.ensures c.words.ensures c.arcs.ensures c.in_ok-push_row.ensures.pushed c.loop-row.invariant.0,
      kept_from rows c.loop-row.row c.bound.result c.words.result.now arcs c.bound.ensures c.words.ensures c.arcs.ensures c.in_ok-push_row.ensures.fits c.loop-row.invariant.1,
    )
