use Rattle.std.proofs.Common.{ℤ, List, sym, subst, ◌∙◌}
use Rattle.row_region.proofs.Callers.{put_over}
use Rattle.row_region.specs.Region.{HasPut, with_row}
use Rattle.cover_pages.proofs.Rows.{put-one}
use Rattle.cover_pages.proofs.writing.put_row.Goals as goal

pub returns-clause-put : goal.returns-clause-put
returns-clause-put c =
    let old = c.args.region.now in
    let row = c.args.row.now in
    let id = c.take_free-id.result in
    let mid = c.take_free-id.new.self in
    let taken = c.take_free-id.ensures in
    put-one old _ c.args.ids.now.items _ id row
    (subst (λ (w : List ℤ). HasPut old id.place row (with_row mid id.place w)) (sym c.copy_from_slice.ensures.after)
    (put_over old mid id.place taken.0 row taken.2 (c.requires.cells ∙ sym taken.2.words)))
    c.requires.cells c.push_reserved.ensures.items
