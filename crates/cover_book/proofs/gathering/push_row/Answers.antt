use Rattle.std.proofs.Common.{sym, subst}
use Rattle.std.proofs.lemmas.Result.{on_ok_weaker}
use Rattle.bound_cover.specs.Clamping.{AreWritable}
use Rattle.cover_book.proofs.Writable.{writable-row}
use Rattle.cover_book.proofs.gathering.push_row.Goals as goal

pub returns : goal.returns
returns c =
    on_ok_weaker c.add_row.result (λ e w. subst AreWritable (sym e) (writable-row c.open_layer.new.cover _ c.far_bound.ensures (c.in_ok-open_layer.ensures.writable w))) c.add_row.ensures.ok
